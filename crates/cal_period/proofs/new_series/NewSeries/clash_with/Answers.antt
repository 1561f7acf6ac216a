use Rattle.std.proofs.Common.{◌≡◌, subst, to_z, of_z, w64, FitsSigned, rules, to_z-of_z}
use denote.Ref.{Bor}
use Rattle.cal_events.specs.Series.{series_said}
use Rattle.cal_events.specs.declared.series.Series.{Series}
use Rattle.cal_period.specs.Onward.{IsSharedBelow}
use Rattle.cal_period.proofs.Settling.{pair_settled}
use Rattle.cal_period.proofs.new_series.NewSeries.clash_with.Goals as goal

pub returns-then-branch-clause-found : goal.returns-then-branch-clause-found
returns-then-branch-clause-found c =
    let bound = c.settled_by-bound.result in
    let fits : FitsSigned w64 bound = search rules in
    let cast : to_z w64 (of_z w64 bound) ≡ bound = to_z-of_z fits in
    c.settled_by-bound.ensures.settles.pair (rw cast at (c.in_ok-is_clear_below.ensures.clear c.if-branch.true))

pub returns-clause-found : goal.returns-clause-found
returns-clause-found c =
    let a = series_said c.args.self.now.series.now in
    let b = series_said c.args.other.now in
    let bound = c.settled_by-bound.result in
    let fits : FitsSigned w64 bound = search rules in
    let cast : to_z w64 (of_z w64 bound) ≡ bound = to_z-of_z fits in
    pair_settled a b bound c.clash_below.result c.settled_by-bound.ensures.settles.pair
    (subst (λ (s : Bor Series). IsSharedBelow (series_said s.now) b bound c.clash_below.result) c.is_clear_below.ensures.same (rw cast at c.clash_below.ensures))
