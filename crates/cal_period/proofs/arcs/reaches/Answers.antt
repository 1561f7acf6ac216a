use Rattle.std.proofs.Common.{◌≡◌, to_z, of_z, w64, to_z-of_z, FitsSigned, rules}
use Rattle.cal_period.proofs.AroundLemmas.{reaches_none, not_false}
use Rattle.cal_period.proofs.arcs.reaches.Goals as goal

pub returns : goal.returns
returns c none =
    let width : to_z w64 (of_z w64 c.args.width) ≡ c.args.width = to_z-of_z c.ranges.width in
    let start : to_z w64 (of_z w64 c.args.start) ≡ c.args.start = to_z-of_z c.ranges.start in
    let end : to_z w64 (of_z w64 c.args.end) ≡ c.args.end = to_z-of_z c.ranges.end in
    let fits : FitsSigned w64 c.saturating_sub-length.result = search rules in
    let length : to_z w64 (of_z w64 c.saturating_sub-length.result) ≡ c.saturating_sub-length.result = to_z-of_z fits in
    let is = rw (start, end) at c.saturating_sub-length.ensures in
    let told = rw (width, length, is) at c.meets_none.ensures in
    let same = rw start at c.residue_of.ensures.same in
    reaches_none c.args.m c.residue_of.result c.args.residues.now c.args.width c.args.start c.args.end c.requires.modulus c.requires.residues c.residue_of.ensures.below same
    (told.0 (not_false c.meets_none.result none))
