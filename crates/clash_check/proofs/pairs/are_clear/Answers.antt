use Rattle.std.proofs.Common.{◌≡◌, ℤ, sym, subst, length, rules, to_z, of_z, to_z-of_z, w64, FitsSigned}
use Rattle.std.specs.Prelude.{MatchBool}
use Rattle.clash_check.specs.Counted.{AreBelow}
use Rattle.clash_check.specs.Sweeps.{HaveShared, AreApart, HasShared, IsApart}
use Rattle.clash_check.proofs.EntryLemmas.{alone_clear, alone_drawn, pair_clear, pair_drawn}
use Rattle.clash_check.proofs.pairs.are_clear.Goals as goal

pub returns-then-i-j-clause-clear : goal.returns-then-i-j-clause-clear
returns-then-i-j-clause-clear g c = λ a b here there.
    let fits : FitsSigned w64 c.args.bound = search rules in
    let same : to_z w64 (of_z w64 c.args.bound) ≡ c.args.bound = to_z-of_z fits in
    alone_clear (g.D.Drawn.calendar c.args.drawn.now) c.args.i c.args.j a b c.args.bound c.if-i-j.true here there c.sweep_alone.result
    (subst (λ (t : ℤ). MatchBool c.sweep_alone.result (HasShared a t) (IsApart a t)) same (c.sweep_alone.ensures.shared a here))

pub returns-then-i-j-clause-count : goal.returns-then-i-j-clause-count
returns-then-i-j-clause-count g c = λ a b here there xs ys of_a of_b.
    let fits : FitsSigned w64 c.args.bound = search rules in
    let same : to_z w64 (of_z w64 c.args.bound) ≡ c.args.bound = to_z-of_z fits in
    alone_drawn c.args.i c.args.j _ _ (length xs) (length ys) c.if-i-j.true c.sweep_alone.result (c.sweep_alone.ensures.count a here xs (subst (λ (t : ℤ). AreBelow a t xs) (sym same) of_a))

pub returns-else-i-j-clause-clear : goal.returns-else-i-j-clause-clear
returns-else-i-j-clause-clear g c = λ a b here there.
    let fits : FitsSigned w64 c.args.bound = search rules in
    let same : to_z w64 (of_z w64 c.args.bound) ≡ c.args.bound = to_z-of_z fits in
    pair_clear (g.D.Drawn.calendar c.args.drawn.now) c.is_drawable.ensures.own c.args.i c.args.j a b c.args.bound c.requires c.if-i-j.false here there c.sweep_pair.result
    (subst (λ (t : ℤ). MatchBool c.sweep_pair.result (HaveShared a b t) (AreApart a b t)) same (c.sweep_pair.ensures.shared a b here there))

pub returns-else-i-j-clause-count : goal.returns-else-i-j-clause-count
returns-else-i-j-clause-count g c = λ a b here there xs ys of_a of_b.
    let fits : FitsSigned w64 c.args.bound = search rules in
    let same : to_z w64 (of_z w64 c.args.bound) ≡ c.args.bound = to_z-of_z fits in
    pair_drawn c.args.i c.args.j _ _ (length xs) (length ys) c.if-i-j.false c.sweep_pair.result
    (c.sweep_pair.ensures.count a b here there xs ys (subst (λ (t : ℤ). AreBelow a t xs) (sym same) of_a) (subst (λ (t : ℤ). AreBelow b t ys) (sym same) of_b))
