use Rattle.std.proofs.Common.{◌≡◌, to_z, of_z, w64, FitsSigned, rules, to_z-of_z}
use Rattle.std.specs.Int.{int_min}
use Rattle.profile.specs.checker.Instances.{horizon}
use Rattle.cal_events.proofs.shared_lemmas.Overlaps.{cut_there}
use Rattle.cal_events.proofs.sweep.Span.before_horizon.Goals as goal

pub returns : goal.returns
returns c =
    let end = c.args.self.end in
    let m = c.min.result in
    let fits : FitsSigned w64 m = search rules in
    let cast : to_z w64 (of_z w64 m) ≡ m = to_z-of_z fits in
    let fits_end : FitsSigned w64 end = search rules in
    let cast_end : to_z w64 (of_z w64 end) ≡ end = to_z-of_z fits_end in
    let start = c.args.self.start in
    let fits_start : FitsSigned w64 start = search rules in
    let cast_start : to_z w64 (of_z w64 start) ≡ start = to_z-of_z fits_start in
    let is : m ≡ int_min end horizon = rw cast_end at c.min.ensures.value in
    rw (cast, cast_start) (cut_there c.args.self m is)
