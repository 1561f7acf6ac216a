use Rattle.std.proofs.Common.{true, ℕ, ◌<◌, ℤ, pos}
use Rattle.std.proofs.Math.Logic.{∥∥₁_elim}
use mathlib.Core.HLevel.{⊥_prop}
use Rattle.profile.specs.checker.Instances.{Instance, AreClear}
use Rattle.profile.specs.events.Starts.{IsInstance}
use Rattle.profile.specs.events.Residues.{IsResidue, ResiduesHold}
use Rattle.profile.specs.events.Spans.{IsWidthOf, IsSaidSeries}
use Rattle.profile.specs.series.Repeating.{IsCongruent}
use Rattle.cal_events.specs.Series.{series_said, AreKnownByStart}
use Rattle.clash_check.specs.Draws.{LastsAbout}
use Rattle.clash_check.proofs.OpenLemmas.{of_all}
use Rattle.clash_check.proofs.SpanLemmas.{settled_of, residues_clear}
use Rattle.clash_check.proofs.drawing.DrawingDrawn.is_drawable.Goals as goal

pub returns : goal.returns
returns c =
    let all = c.args.self.now.calendar.now in
    let xs = c.series-series.result.now in
    let are = c.series-series.ensures.are in
    let lasts = c.instances_last.ensures in
    record {
      keys = c.singles-singles.ensures.keys;
      own = c.series-series.ensures.keys;
      known = of_all AreKnownByStart xs all.series are c.known_by_start.ensures;
      lengths = of_all (λ series. (width : ℤ) → IsWidthOf series width → LastsAbout series width) xs all.series are (λ s width is. record {
        most = λ b of. (lasts.series s width b is of).1;
        least = λ b of. lasts.series_third s width b is of;
      });
      settled = settled_of c.spans_settle.ensures all.series (of_all (λ series. ∥ IsSaidSeries series ∥₁) xs all.series are c.series_are_said.ensures);
      apart = of_all (λ series. (m : ℕ) → ResiduesHold true series series m → AreClear (IsInstance series) (IsInstance series)) xs all.series are
          (λ s m holds. residues_clear c.residues_settle.ensures.one (series_said s) m (c.series_are_said.ensures s) holds);
      starts = of_all (λ series. (m : ℕ) → 0 < m → (b : Instance) → IsInstance series b → ((residue : ℕ) → IsResidue series m residue → IsCongruent m b.start (pos residue) → ⊥) → ⊥) xs all.series are
          (λ s m some b is none. ∥∥₁_elim (c.series_are_said.ensures s) ⊥_prop (λ said. let at = c.residues_settle.ensures.start (series_said s) m b said some is in none at.0 at.1 at.2));
    }
