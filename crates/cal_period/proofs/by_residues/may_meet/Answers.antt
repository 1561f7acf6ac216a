use Rattle.std.proofs.Common.{◌≡◌, sym, to_z, of_z, w64, to_z-of_z, FitsSigned, rules}
use Rattle.cal_events.specs.Series.{series_said}
use Rattle.cal_period.proofs.ByResidues.{span_clear}
use Rattle.std.proofs.lemmas.Bool.{true≢false}
use Rattle.cal_period.proofs.by_residues.may_meet.Goals as goal

pub returns : goal.returns
returns c = λ t.
    let a = c.args.series.now in
    let m = c.cycle_seconds-m.result in
    let ff : FitsSigned w64 c.args.span.start = search rules in
    let ef : FitsSigned w64 c.args.span.end = search rules in
    let start : to_z w64 (of_z w64 c.args.span.start) ≡ c.args.span.start = to_z-of_z ff in
    let end : to_z w64 (of_z w64 c.args.span.end) ≡ c.args.span.end = to_z-of_z ef in
    let wf : FitsSigned w64 c.width.result = search rules in
    let vf : FitsSigned w64 c.saturating_sub-length.result = search rules in
    let w : to_z w64 (of_z w64 c.width.result) ≡ c.width.result = to_z-of_z wf in
    let v : to_z w64 (of_z w64 c.saturating_sub-length.result) ≡ c.saturating_sub-length.result = to_z-of_z vf in
    let is = rw (start, end) at c.saturating_sub-length.ensures in
    let none = rw (w, v, is) at (c.meet.ensures t) in
    let same = rw start at c.residue_of.ensures.same in
    span_clear (series_said a) (c.series_are_said.ensures a) (c.instances_last.ensures.series a) c.width.result c.args.span.start c.args.span.end c.width.ensures.of m c.residue_of.result
    c.cycle_seconds-m.ensures.range.0 c.cycle_seconds-m.ensures.range.1 c.residue_of.ensures.below same
    (λ r p meet. none r ((c.of-phases.ensures m r).0 p) ((λ own. absurd (true≢false (sym own))), meet))
