use Rattle.std.proofs.Common.{◌≡◌, to_z, of_z, w64, FitsSigned, rules, to_z-of_z}
use Rattle.std.specs.Int.{int_max}
use Rattle.cal_events.specs.Series.{series_said}
use Rattle.cal_period.proofs.Entries.{later_start}
use Rattle.cal_period.proofs.EveryPair.{none_exit}
use Rattle.cal_period.proofs.clash.clash_of_starts.Goals as goal

pub returns-in_err-first : goal.returns-in_err-first
returns-in_err-first c = none_exit _ _ _ c.from_residual.ensures (λ x y h k l m s. c.in_err-first.ensures x h)

pub returns-in_err-second : goal.returns-in_err-second
returns-in_err-second c = none_exit _ _ _ c.from_residual-in_err-second.ensures (λ x y h k l m s. c.in_err-second.ensures y k)

pub clash_onward-requires : goal.clash_onward-requires
clash_onward-requires c =
    let a = series_said c.args.a.now in
    let b = series_said c.args.b.now in
    let s = c.in_ok-first.first in
    let t = c.in_ok-second.second in
    let m = c.max.result in
    let fits_s : FitsSigned w64 s = search rules in
    let cast_s : to_z w64 (of_z w64 s) ≡ s = to_z-of_z fits_s in
    let fits_t : FitsSigned w64 t = search rules in
    let cast_t : to_z w64 (of_z w64 t) ≡ t = to_z-of_z fits_t in
    let fits_m : FitsSigned w64 m = search rules in
    let cast_m : to_z w64 (of_z w64 m) ≡ m = to_z-of_z fits_m in
    let is : m ≡ int_max s t = rw (cast_s, cast_t) at c.max.ensures.value in
    rw cast_m (later_start a b s t m (c.known_by_start.ensures c.args.a.now) (c.known_by_start.ensures c.args.b.now) c.in_ok-first.ensures c.in_ok-second.ensures is)

pub returns : goal.returns
returns c =
    let bound = c.args.bound in
    let fits : FitsSigned w64 bound = search rules in
    let cast : to_z w64 (of_z w64 bound) ≡ bound = to_z-of_z fits in
    rw cast at c.clash_onward.ensures
