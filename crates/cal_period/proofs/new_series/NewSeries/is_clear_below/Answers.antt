use Rattle.std.proofs.Common.{◌≡◌, true, subst, arith, pos, ◌≤ℤ◌, to_z, of_z, w64, FitsSigned, rules, to_z-of_z}
use Rattle.std.proofs.Math.Logic.{∥∥₁_elim}
use Rattle.std.proofs.lemmas.Int.{ints}
use Rattle.std.specs.Prelude.{None}
use Rattle.cal_zones.specs.Kinds.{zone_of}
use Rattle.cal_events.specs.Series.{series_said}
use Rattle.cal_period.specs.NearSpans.{ArePassedBy}
use Rattle.cal_period.proofs.NearOnsets.{pair_found, within_both}
use Rattle.cal_period.proofs.NearLists.{more_near, holds_joined, near_clear, long_ago, ago}
use Rattle.cal_period.proofs.new_series.NewSeries.is_clear_below.Goals as goal

pub invariant_of-self : goal.invariant_of-self
invariant_of-self c =
    let new = c.args.self.now in
    record {
      goes = new.goes;
      begins = new.begins;
      holds = λ u listed past most. more_near (series_said new.series.now) new.near.items c.push_to.new.near.items c.push_to.ensures.stay u.instant (new.holds u listed past most);
    }

pub invariant_of-self-2 : goal.invariant_of-self-2
invariant_of-self-2 c =
    let new = c.args.self.now in
    let last = c.in_ok-self.field-0 in
    let fits : FitsSigned w64 last = search rules in
    let cast : to_z w64 (of_z w64 last) ≡ last = to_z-of_z fits in
    let fits_old : FitsSigned w64 new.last = search rules in
    let cast_old : to_z w64 (of_z w64 new.last) ≡ new.last = to_z-of_z fits_old in
    record {
      goes = new.goes;
      begins = new.begins;
      holds = rw cast
          (holds_joined (series_said new.series.now) (zone_of new.zone) new.after new.last last new.near.items c.push_to.new.near.items new.holds c.push_to.ensures.stay (rw cast_old at c.in_ok-self.ensures.holds));
    }

pub returns-clause-clear : goal.returns-clause-clear
returns-clause-clear c = λ e x y h k lx ly s.
    let new = c.args.self.now in
    let own = new.series.now in
    let other = c.args.other.now in
    let a = series_said own in
    let b = series_said other in
    let z = zone_of new.zone in
    let reach = c.reach_of-reach.result in
    let fits_reach : FitsSigned w64 reach = search rules in
    let cast_reach : to_z w64 (of_z w64 reach) ≡ reach = to_z-of_z fits_reach in
    let test = rw cast_reach at c.if-reach-gt-REACH.false in
    let short : reach ≤ℤ pos 129_601 = omega (arith, ints, test) in
    let limit = c.min-bound.result in
    let fits_limit : FitsSigned w64 limit = search rules in
    let cast_limit : to_z w64 (of_z w64 limit) ≡ limit = to_z-of_z fits_limit in
    let cast_bound : to_z w64 (of_z w64 c.args.bound) ≡ c.args.bound = to_z-of_z c.ranges.bound in
    let last = c.in_ok-self.field-0 in
    let fits_old : FitsSigned w64 new.last = search rules in
    let cast_old : to_z w64 (of_z w64 new.last) ≡ new.last = to_z-of_z fits_old in
    let never : c.never_meets.result ≡ true = search rules in
    let holds = holds_joined a z new.after new.last last new.near.items c.push_to.new.near.items new.holds c.push_to.ensures.stay (rw cast_old at c.in_ok-self.ensures.holds) in
    let none = rw cast_limit at c.in_ok-self.ensures.none in
    let passed = subst (ArePassedBy b reach limit) c.deref.ensures.value (rw (cast_reach, cast_limit) at (c.are_passed_by.ensures e)) in
    ∥∥₁_elim new.goes (λ p q. absurd p)
    (λ goes.
    pair_found z a b long_ago c.args.bound limit None
    (record { said = c.zones_repeat.ensures.said; bounds = c.zones_repeat.ensures.bounds z (c.zones_repeat.ensures.kept new.zone); one = c.one_meaning.ensures.offset })
    (record { said = c.series_are_said.ensures own; known = c.known_by_start.ensures own; lasts = c.instances_last.ensures.series own; clock = goes })
    (record { said = c.series_are_said.ensures other; known = c.known_by_start.ensures other; lasts = c.instances_last.ensures.series other; clock = c.never_meets.ensures.zone never })
    (c.never_meets.ensures.apart never) (within_both c.args.bound limit (rw cast_bound at c.min-bound.ensures.value)) (ago a (c.known_by_start.ensures own)) (ago b (c.known_by_start.ensures other))
    (near_clear z a b new.after last limit reach long_ago c.push_to.new.near.items c.reach_of-reach.ensures.reach short new.begins holds none passed) x y h k lx ly s)
