use Rattle.std.proofs.Common.{◌≡◌, ◌∙◌, sym, ◌≤ℤ◌, pos, arith, rules, to_z, of_z, w64, to_z-of_z}
use Rattle.std.proofs.lemmas.Bool.{false≢true}
use Rattle.std.proofs.Math.Facts.{to_z_pos}
use Rattle.cal_period.proofs.AroundLemmas.{all_apart, steps_over, last_over}
use Rattle.cal_period.proofs.arcs.is_apart.Goals as goal

pub returns-then-are_steps_over : goal.returns-then-are_steps_over
returns-then-are_steps_over c =
    let width : to_z w64 (of_z w64 c.args.width) ≡ c.args.width = to_z-of_z c.ranges.width in
    let small : to_z w64 c.args.m ≡ pos c.args.m = to_z_pos w64 (omega (arith, c.requires.modulus)) in
    let narrow : c.args.width ≤ℤ pos c.args.m = search (rules, rw (width, small) at c.if-m-width.false) in
    let steps = rw width at c.are_steps_over.ensures in
    let last = rw width at c.is_last_over.ensures in (
      (λ e. all_apart c.args.m c.args.all.now c.args.width c.requires.all (steps.0 c.if-are_steps_over.true) (last.0 e) narrow),
      (λ apart. last.1 (last_over c.args.m c.args.all.now c.args.width c.requires.all apart)),
    )

pub returns-else-are_steps_over : goal.returns-else-are_steps_over
returns-else-are_steps_over c =
    let width : to_z w64 (of_z w64 c.args.width) ≡ c.args.width = to_z-of_z c.ranges.width in
    let steps = rw width at c.are_steps_over.ensures in
    ((λ e. absurd (false≢true (sym c.if-are_steps_over.false ∙ e))), (λ apart. steps.1 (steps_over c.args.m c.args.all.now c.args.width c.requires.all apart)))
