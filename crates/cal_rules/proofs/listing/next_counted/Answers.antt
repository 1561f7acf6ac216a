use Rattle.profile.specs.series.Days.{day_index}
use Rattle.cal_rules.specs.Views.{rule_said}
use Rattle.cal_rules.proofs.Cursors.{past_next}
use Rattle.cal_rules.proofs.listing.next_counted.Goals as goal

pub next_chosen-requires-clause-is_cursor : goal.next_chosen-requires-clause-is_cursor
next_chosen-requires-clause-is_cursor c =
    c.not_before-begin.ensures.is_cursor _ c.requires.is_cursor

pub returns : goal.returns
returns c =
    let h = rw (c.min-limit.ensures, c.not_before-begin.ensures.index, c.index.ensures.value) at c.next_chosen.ensures in
    past_next (rule_said c.args.written.now c.args.start.index (day_index c.args.last)) c.args.from.day.index c.next_chosen.result c.requires.is_cursor.range.0 h
