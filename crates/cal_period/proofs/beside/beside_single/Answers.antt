use Rattle.std.proofs.Common.{List, ℤ, sym, subst, rules, to_z, of_z, w64, FitsSigned}
use Rattle.std.proofs.lemmas.Int.{to_z-of_z}
use Rattle.profile.specs.events.Events.{Event}
use Rattle.cal_period.specs.Besides.{HasNoSharer}
use Rattle.cal_period.proofs.EveryPair.{none_exit}
use Rattle.cal_period.proofs.Sharers.{none_beside}
use Rattle.cal_period.proofs.beside.beside_single.Goals as goal

pub returns-in_err-series : goal.returns-in_err-series
returns-in_err-series c =
    let own = c.in_ok-own.own in
    let fits_start : FitsSigned w64 own.start = search rules in
    let fits_end : FitsSigned w64 own.end = search rules in
    let all = c.args.calendar.now.series in
    let none = subst (λ (l : List Event). HasNoSharer l (to_z w64 (of_z w64 own.start)) (to_z w64 (of_z w64 own.end))) c.series.ensures.are c.in_err-series.ensures in
    let started = subst (λ (t : ℤ). HasNoSharer all t (to_z w64 (of_z w64 own.end))) (to_z-of_z w64 own.start fits_start) none in
    none_exit _ _ _ c.from_residual-in_err-series.ensures
    (none_beside c.args.calendar.now c.args.single own (sym c.in_ok-own.ensures) (subst (λ (t : ℤ). HasNoSharer all own.start t) (to_z-of_z w64 own.end fits_end) started))
