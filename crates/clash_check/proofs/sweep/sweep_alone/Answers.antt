use Rattle.std.proofs.Common.{ℤ, sym, subst, refl, rules, to_z-of_z, w64, FitsSigned}
use Rattle.clash_check.specs.Walks.{IsBelow, BeginsAtFirst}
use Rattle.clash_check.proofs.SweepLemmas.{alone_first, alone_found, alone_some, alone_fewer, alone_past, alone_apart, alone_all}
use Rattle.clash_check.proofs.sweep.sweep_alone.Goals as goal

pub loop-walk-init : goal.loop-walk-init
loop-walk-init g c = λ bound at.
    alone_first (g.D.Drawn.calendar c.args.drawn.now) c.is_drawable.ensures c.args.i bound (g.D.Drawn.calendar c.begin-walk.new.drawn) _ _ _ c.begin-walk.result c.begin-walk.ensures.calendar c.begin-walk.ensures.series
    (λ a there known. subst (λ (b : ℤ). BeginsAtFirst (IsBelow a b) (g.D.Drawn.coming c.begin-walk.new.drawn c.begin-walk.result.series) b c.begin-walk.result) (sym at) (c.begin-walk.ensures.begins a there known))
    c.begin-walk.ensures.count

pub returns-then-is_met_by-clause-shared : goal.returns-then-is_met_by-clause-shared
returns-then-is_met_by-clause-shared g c =
    let fits : FitsSigned w64 c.args.bound = search rules in
    alone_found (g.D.Drawn.calendar c.args.drawn.now) c.is_drawable.ensures c.args.i c.requires c.args.bound _ _ _ _ c.loop-walk.walk (c.loop-walk.invariant c.args.bound (sym (to_z-of_z fits))) c.in-Some.next c.in-Some.is c.if-is_met_by.ensures

pub returns-then-is_met_by-clause-count : goal.returns-then-is_met_by-clause-count
returns-then-is_met_by-clause-count g c =
    let fits : FitsSigned w64 c.args.bound = search rules in
    alone_some (g.D.Drawn.calendar c.args.drawn.now) c.is_drawable.ensures c.args.i c.requires c.args.bound _ _ _ _ c.loop-walk.walk (c.loop-walk.invariant c.args.bound (sym (to_z-of_z fits))) c.in-Some.next c.in-Some.is c.if-is_met_by.ensures

pub loop-walk-smaller : goal.loop-walk-smaller
loop-walk-smaller g c =
    alone_fewer (g.D.Drawn.calendar c.args.drawn.now) c.is_drawable.ensures c.args.i c.requires _ _ _ _ _ c.loop-walk.walk (c.loop-walk.invariant _ refl) c.in-Some.next c.in-Some.is _ c.past-walk.result c.past-walk.ensures.past

pub loop-walk-preserved : goal.loop-walk-preserved
loop-walk-preserved g c = λ bound at.
    alone_past (g.D.Drawn.calendar c.args.drawn.now) c.is_drawable.ensures c.args.i c.requires bound _ _ _ _ c.loop-walk.walk (c.loop-walk.invariant bound at) c.in-Some.next c.in-Some.is _ _ _ c.past-walk.result
    c.past-walk.ensures.calendar c.past-walk.ensures.series c.if-is_met_by.ensures c.past-walk.ensures.past c.past-walk.ensures.count

pub returns-clause-shared : goal.returns-clause-shared
returns-clause-shared g c =
    let fits : FitsSigned w64 c.args.bound = search rules in
    alone_apart (g.D.Drawn.calendar c.args.drawn.now) c.is_drawable.ensures c.args.i c.requires c.args.bound _ _ _ _ c.loop-walk.walk (c.loop-walk.invariant c.args.bound (sym (to_z-of_z fits))) c.in_default.is

pub returns-clause-count : goal.returns-clause-count
returns-clause-count g c =
    let fits : FitsSigned w64 c.args.bound = search rules in
    alone_all (g.D.Drawn.calendar c.args.drawn.now) c.is_drawable.ensures c.args.i c.requires c.args.bound _ _ _ _ c.loop-walk.walk (c.loop-walk.invariant c.args.bound (sym (to_z-of_z fits))) c.in_default.is
