use Rattle.std.proofs.Common.{ℤ, sym, subst, refl, arith, rules, length, to_z-of_z, w64, FitsSigned}
use Rattle.clash_check.specs.Walks.{IsBelow, BeginsAtFirst}
use Rattle.clash_check.proofs.SweepLemmas.{pair_first, pair_turned, pair_found, pair_some, pair_fewer, pair_past, pair_apart, pair_all, have_turned, some_turned}
use Rattle.clash_check.proofs.sweep.sweep_pair.Goals as goal

pub loop-next-init : goal.loop-next-init
loop-next-init g c = λ bound at.
    pair_first (g.D.Drawn.calendar c.args.drawn.now) c.is_drawable.ensures c.args.i c.args.j bound (g.D.Drawn.calendar c.begin-second.new.drawn) (g.D.Drawn.calendar c.begin-first.new.drawn)
    (g.D.Drawn.coming c.begin-second.new.drawn) (g.D.Drawn.coming c.begin-first.new.drawn) _ _ _ c.begin-first.result c.begin-second.result c.requires.two c.begin-first.ensures.calendar c.begin-second.ensures.calendar
    c.begin-first.ensures.series c.begin-second.ensures.series
    (λ a there known. subst (λ (b : ℤ). BeginsAtFirst (IsBelow a b) (g.D.Drawn.coming c.begin-first.new.drawn c.begin-first.result.series) b c.begin-first.result) (sym at) (c.begin-first.ensures.begins a there known))
    (λ a there known. subst (λ (b : ℤ). BeginsAtFirst (IsBelow a b) (g.D.Drawn.coming c.begin-second.new.drawn c.begin-second.result.series) b c.begin-second.result) (sym at) (c.begin-second.ensures.begins a there known))
    c.begin-second.ensures.others c.begin-first.ensures.count c.begin-second.ensures.count

pub returns-then-is_met_by-clause-shared : goal.returns-then-is_met_by-clause-shared
returns-then-is_met_by-clause-shared g c =
    let fits : FitsSigned w64 c.args.bound = search rules in
    pair_found (g.D.Drawn.calendar c.args.drawn.now) c.is_drawable.ensures c.args.i c.args.j c.args.bound c.requires.first _ _ _ _ c.loop-next.first c.loop-next.second (c.loop-next.invariant c.args.bound (sym (to_z-of_z fits))) c.in-First.next c.in-First.ensures.0 c.if-is_met_by.ensures

pub returns-then-is_met_by-clause-count : goal.returns-then-is_met_by-clause-count
returns-then-is_met_by-clause-count g c =
    let fits : FitsSigned w64 c.args.bound = search rules in
    pair_some (g.D.Drawn.calendar c.args.drawn.now) c.is_drawable.ensures c.args.i c.args.j c.args.bound c.requires.first _ _ _ _ c.loop-next.first c.loop-next.second (c.loop-next.invariant c.args.bound (sym (to_z-of_z fits))) c.in-First.next c.in-First.ensures.0 c.if-is_met_by.ensures

pub loop-next-smaller-in-First : goal.loop-next-smaller-in-First
loop-next-smaller-in-First g c =
    let l = pair_fewer (g.D.Drawn.calendar c.args.drawn.now) c.is_drawable.ensures c.args.i c.args.j _ c.requires.first _ _ _ _ c.loop-next.first c.loop-next.second (c.loop-next.invariant _ refl) c.in-First.next c.in-First.ensures.0 _ c.past-first.result c.past-first.ensures.past in
    omega (arith, l)

pub loop-next-preserved-in-First : goal.loop-next-preserved-in-First
loop-next-preserved-in-First g c = λ bound at.
    pair_past (g.D.Drawn.calendar c.args.drawn.now) c.is_drawable.ensures c.args.i c.args.j bound c.requires.first _ _ _ _ c.loop-next.first c.loop-next.second (c.loop-next.invariant bound at) c.in-First.next c.in-First.ensures.0
    c.requires.two c.in-First.ensures.1 _ (g.D.Drawn.coming c.past-first.new.drawn) _ c.past-first.result c.past-first.ensures.calendar c.past-first.ensures.series c.if-is_met_by.ensures c.past-first.ensures.past
    c.past-first.ensures.others c.past-first.ensures.count

pub returns-then-is_met_by-2-clause-shared : goal.returns-then-is_met_by-2-clause-shared
returns-then-is_met_by-2-clause-shared g c = λ a b here there.
    let fits : FitsSigned w64 c.args.bound = search rules in
    have_turned a b c.args.bound (pair_found (g.D.Drawn.calendar c.args.drawn.now) c.is_drawable.ensures c.args.j c.args.i c.args.bound c.requires.second _ _ _ _ c.loop-next.second c.loop-next.first (pair_turned (g.D.Drawn.calendar c.args.drawn.now) c.args.i c.args.j c.args.bound _ _ _ _ c.loop-next.first c.loop-next.second (c.loop-next.invariant c.args.bound (sym (to_z-of_z fits)))) c.in-Second.next c.in-Second.ensures.0 c.if-is_met_by-2.ensures b a there here)

pub returns-then-is_met_by-2-clause-count : goal.returns-then-is_met_by-2-clause-count
returns-then-is_met_by-2-clause-count g c = λ a b here there xs ys of_a of_b.
    let fits : FitsSigned w64 c.args.bound = search rules in
    some_turned _ _ (length ys) (length xs) (pair_some (g.D.Drawn.calendar c.args.drawn.now) c.is_drawable.ensures c.args.j c.args.i c.args.bound c.requires.second _ _ _ _ c.loop-next.second c.loop-next.first (pair_turned (g.D.Drawn.calendar c.args.drawn.now) c.args.i c.args.j c.args.bound _ _ _ _ c.loop-next.first c.loop-next.second (c.loop-next.invariant c.args.bound (sym (to_z-of_z fits)))) c.in-Second.next c.in-Second.ensures.0 c.if-is_met_by-2.ensures b a there here ys xs of_b of_a)

pub loop-next-smaller : goal.loop-next-smaller
loop-next-smaller g c =
    let l = pair_fewer (g.D.Drawn.calendar c.args.drawn.now) c.is_drawable.ensures c.args.j c.args.i _ c.requires.second _ _ _ _ c.loop-next.second c.loop-next.first (pair_turned (g.D.Drawn.calendar c.args.drawn.now) c.args.i c.args.j _ _ _ _ _ c.loop-next.first c.loop-next.second (c.loop-next.invariant _ refl)) c.in-Second.next c.in-Second.ensures.0 _ c.past-second.result c.past-second.ensures.past in
    omega (arith, l)

pub loop-next-preserved : goal.loop-next-preserved
loop-next-preserved g c = λ bound at.
    pair_turned (g.D.Drawn.calendar c.args.drawn.now) c.args.j c.args.i bound _ _ _ _ c.past-second.result c.loop-next.first
    (pair_past (g.D.Drawn.calendar c.args.drawn.now) c.is_drawable.ensures c.args.j c.args.i bound c.requires.second _ _ _ _ c.loop-next.second c.loop-next.first (pair_turned (g.D.Drawn.calendar c.args.drawn.now) c.args.i c.args.j bound _ _ _ _ c.loop-next.first c.loop-next.second (c.loop-next.invariant bound at)) c.in-Second.next c.in-Second.ensures.0
    (λ e. c.requires.two (sym e)) c.in-Second.ensures.1 _ (g.D.Drawn.coming c.past-second.new.drawn) _ c.past-second.result c.past-second.ensures.calendar c.past-second.ensures.series c.if-is_met_by-2.ensures c.past-second.ensures.past
    c.past-second.ensures.others c.past-second.ensures.count)

pub returns-in-Over-clause-shared : goal.returns-in-Over-clause-shared
returns-in-Over-clause-shared g c =
    let fits : FitsSigned w64 c.args.bound = search rules in
    pair_apart (g.D.Drawn.calendar c.args.drawn.now) c.is_drawable.ensures c.args.i c.args.j c.args.bound c.requires.first _ _ _ _ c.loop-next.first c.loop-next.second (c.loop-next.invariant c.args.bound (sym (to_z-of_z fits))) c.in-Over.ensures.0 c.in-Over.ensures.1

pub returns-in-Over-clause-count : goal.returns-in-Over-clause-count
returns-in-Over-clause-count g c =
    let fits : FitsSigned w64 c.args.bound = search rules in
    pair_all (g.D.Drawn.calendar c.args.drawn.now) c.is_drawable.ensures c.args.i c.args.j c.args.bound c.requires.first _ _ _ _ c.loop-next.first c.loop-next.second (c.loop-next.invariant c.args.bound (sym (to_z-of_z fits))) c.in-Over.ensures.0 c.in-Over.ensures.1
