use Rattle.cal_events.proofs.on_clocks_lemmas.EventsOnClocks.{meeting_on_clocks, alone_on_clocks}
use Rattle.cal_events.proofs.on_clocks.instances_are_on_clocks.Goals as goal

pub returns-clause-meeting : goal.returns-clause-meeting
returns-clause-meeting c words room object method meeting i named has_start bars says =
    meeting_on_clocks c.one_zoned_time.ensures.one c.one_duration.ensures.reading c.one_rule.ensures.reading words room object method meeting i named has_start bars says

pub returns-clause-alone : goal.returns-clause-alone
returns-clause-alone c words room object method lines event i named has_start says =
    alone_on_clocks c.one_zoned_time.ensures.one c.one_duration.ensures.reading c.one_rule.ensures.reading words room object method lines event i named has_start says
