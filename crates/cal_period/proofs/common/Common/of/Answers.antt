use Rattle.std.proofs.Common.{[], ◌≡◌, sym, subst, arith, to_z, of_z, w64}
use Rattle.std.proofs.lemmas.Int.{ints}
use Rattle.profile.specs.events.Spans.{IsLeastPast, IsWidthOf}
use Rattle.cal_events.specs.Series.{series_said}
use Rattle.cal_period.proofs.EveryPair.{none_exit}
use Rattle.cal_period.proofs.Spanning.{none_of_last, one_in_common}
use Rattle.cal_period.proofs.common.Common.of.Goals as goal

pub returns-in_err-period_days : goal.returns-in_err-period_days
returns-in_err-period_days c = none_exit _ _ _ c.from_residual.ensures (none_of_last [] (series_said c.args.series.now) c.in_err-period_days.ensures)

pub returns : goal.returns
returns c =
    let a = series_said c.args.series.now in
    let cast : to_z w64 (of_z w64 c.regular_from.result) ≡ c.regular_from.result = omega (arith, ints, c.regular_from.type_inv) in
    let wide : to_z w64 (of_z w64 c.width.result) ≡ c.width.result = omega (arith, ints, c.width.type_inv) in
    one_in_common a _ c.in_ok-period_days.ensures (subst (IsLeastPast a) (sym cast) c.regular_from.ensures) (subst (IsWidthOf a) (sym wide) c.width.ensures.of)
