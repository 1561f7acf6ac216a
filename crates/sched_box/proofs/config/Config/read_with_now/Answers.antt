use Rattle.sched_box.proofs.SettingLemmas.{if_refused, is_preamble, no_moment}
use Rattle.sched_box.proofs.config.Config.read_with_now.Goals as goal

pub returns-in_ok-of-in-Some-clause-reads : goal.returns-in_ok-of-in-Some-clause-reads
returns-in_ok-of-in-Some-clause-reads c =
    is_preamble _ _ c.in_ok-settings.ensures.reads c.in-Some.moment c.in-Some.is _ c.in_ok-of-in-Some.ensures.rooms c.in_ok-of-in-Some.ensures.organisers

pub returns-in-None-clause-none : goal.returns-in-None-clause-none
returns-in-None-clause-none c = if_refused _ c.refused.result (no_moment _ _ c.in_ok-settings.ensures.reads c.in-None.is)
