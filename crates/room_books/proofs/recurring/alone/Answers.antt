-- An instance of a series is known by its start.
use Rattle.std.proofs.Common.{subst, sym}
use Rattle.std.specs.Prelude.{MatchOption}
use Rattle.cal_events.specs.Series.{series_said}
use Rattle.cal_events.specs.Calendar.{instance_of}
use Rattle.cal_period.specs.Clear.{AreTwo, IsSeriesClear}
use Rattle.room_books.specs.Recurring.{IsSharedByItself}
use Rattle.room_books.proofs.shared_lemmas.Recurrings.{none_alone, two_alone}
use Rattle.room_books.proofs.recurring.alone.Goals as goal

pub returns-in_err-first : goal.returns-in_err-first
returns-in_err-first c =
    let s = c.args.series.now in
    subst (IsSharedByItself s) (sym c.from_residual.ensures)
    (none_alone s (subst (λ o. MatchOption o (IsSeriesClear (series_said s)) (λ p. AreTwo (series_said s) (instance_of p.0) (instance_of p.1))) (c.in_err-first.was) c.clash_alone.ensures))

pub returns : goal.returns
returns c =
    let s = c.args.series.now in
    let two = subst (λ o. MatchOption o (IsSeriesClear (series_said s)) (λ p. AreTwo (series_said s) (instance_of p.0) (instance_of p.1))) (c.in_ok-first.was) c.clash_alone.ensures in
    let x = c.as_single.ensures in let y = c.as_single-2.ensures in
    two_alone s (c.known_by_start.ensures s) (instance_of c.in_ok-first.first) (instance_of c.in_ok-first.second) c.as_single.result c.as_single-2.result two
    x.slot x.start x.end y.slot y.start y.end
