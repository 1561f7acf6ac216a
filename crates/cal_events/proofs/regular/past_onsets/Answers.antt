use Rattle.std.proofs.Common.{◌≡◌, to_z, of_z, w64, FitsSigned, rules, to_z-of_z}
use Rattle.std.specs.Int.{int_max}
use Rattle.cal_zones.specs.Kinds.{zone_of}
use Rattle.cal_events.proofs.regular_lemmas.Past.{no_onsets, onsets_past}
use Rattle.cal_events.proofs.regular.past_onsets.Goals as goal

pub returns-then-is_none : goal.returns-then-is_none
returns-then-is_none c =
    let same_from : to_z w64 (of_z w64 c.args.from) ≡ c.args.from = to_z-of_z c.ranges.from in
    rw same_from (no_onsets (zone_of c.args.zone.now) c.first_onsets-first.result.0 c.first_onsets-first.result.1 c.args.from c.first_onsets-first.ensures c.if-is_none.ensures)

pub returns : goal.returns
returns c =
    let r = c.max.result in
    let fits : FitsSigned w64 r = search rules in
    let cast : to_z w64 (of_z w64 r) ≡ r = to_z-of_z fits in
    let same_from : to_z w64 (of_z w64 c.args.from) ≡ c.args.from = to_z-of_z c.ranges.from in
    let regular = c.regular_from.result in
    let fits_regular : FitsSigned w64 regular = search rules in
    let same_regular : to_z w64 (of_z w64 regular) ≡ regular = to_z-of_z fits_regular in
    let is : r ≡ int_max c.args.from regular = rw (same_from, same_regular) at c.max.ensures.value in
    rw cast (onsets_past (zone_of c.args.zone.now) c.first_onsets-first.result.0 c.first_onsets-first.result.1 c.args.from regular r c.first_onsets-first.ensures c.if-is_none.ensures c.regular_from.ensures.exact is)
