use Rattle.std.proofs.Common.{◌+◌, ◌*◌, Bool, length, subst, arith}
use Rattle.std.specs.Prelude.{MatchBool}
use Rattle.profile.specs.checker.Certificates.{IsSeriesAt}
use Rattle.profile.specs.checker.Instances.{AreClear}
use Rattle.profile.specs.events.Confirmed.{Confirmed}
use Rattle.profile.specs.events.Events.{Event}
use Rattle.profile.specs.events.Starts.{IsInstance}
use Rattle.clash_check.specs.Singles.{HasSharers, HasNoSharers, IsFewMore}
use Rattle.clash_check.proofs.SingleLemmas.{any_found, any_some, any_next, any_none, any_all}
use Rattle.clash_check.proofs.singles.any_meets.Goals as goal

pub returns-then-branch-clause-meets : goal.returns-then-branch-clause-meets
returns-then-branch-clause-meets g c =
    let spans = c.args.spans.now in
    let test = c.loop-before-test.true in
    let end = c.series-before-end.ensures in
    any_found (g.D.Drawn.calendar c.args.drawn.now) spans c.loop-before.before (g.D.Drawn.calendar c.loop-before.drawn) _ _ (g.D.Drawn.count c.series_meets.new.drawn) (omega (arith, test, end)) c.loop-before.invariant
    (subst (λ (x : Confirmed). (a : Event) → IsSeriesAt x (c.loop-before.before + 1) a → AreClear (IsInstance a) (IsInstance a) → IsFewMore (g.D.Drawn.count c.loop-before.drawn) (g.D.Drawn.count c.series_meets.new.drawn) (length spans * 3))
    c.loop-before.invariant.same c.in_ok-series_meets.ensures.count)
    (subst (λ (b : Bool). (a : Event) → IsSeriesAt (g.D.Drawn.calendar c.args.drawn.now) (c.loop-before.before + 1) a → MatchBool b (HasSharers a spans) (HasNoSharers a spans)) c.if-branch.true
    (subst (λ (x : Confirmed). (a : Event) → IsSeriesAt x (c.loop-before.before + 1) a → MatchBool c.in_ok-series_meets.field-0 (HasSharers a spans) (HasNoSharers a spans)) c.loop-before.invariant.same c.in_ok-series_meets.ensures.meets))

pub returns-then-branch-clause-count : goal.returns-then-branch-clause-count
returns-then-branch-clause-count g c =
    let spans = c.args.spans.now in
    let test = c.loop-before-test.true in
    let end = c.series-before-end.ensures in
    any_some (g.D.Drawn.calendar c.args.drawn.now) spans c.loop-before.before (g.D.Drawn.calendar c.loop-before.drawn) _ _ (g.D.Drawn.count c.series_meets.new.drawn) (omega (arith, test, end)) c.loop-before.invariant
    (subst (λ (x : Confirmed). (a : Event) → IsSeriesAt x (c.loop-before.before + 1) a → AreClear (IsInstance a) (IsInstance a) → IsFewMore (g.D.Drawn.count c.loop-before.drawn) (g.D.Drawn.count c.series_meets.new.drawn) (length spans * 3))
    c.loop-before.invariant.same c.in_ok-series_meets.ensures.count)

pub loop-before-preserved : goal.loop-before-preserved
loop-before-preserved g c =
    let spans = c.args.spans.now in
    let test = c.loop-before-test.true in
    let end = c.series-before-end.ensures in
    any_next (g.D.Drawn.calendar c.args.drawn.now) spans c.loop-before.before (g.D.Drawn.calendar c.loop-before.drawn) _ _ (g.D.Drawn.count c.series_meets.new.drawn) (omega (arith, test, end)) c.loop-before.invariant
    (subst (λ (x : Confirmed). (a : Event) → IsSeriesAt x (c.loop-before.before + 1) a → AreClear (IsInstance a) (IsInstance a) → IsFewMore (g.D.Drawn.count c.loop-before.drawn) (g.D.Drawn.count c.series_meets.new.drawn) (length spans * 3))
    c.loop-before.invariant.same c.in_ok-series_meets.ensures.count)
    (g.D.Drawn.calendar c.series_meets.new.drawn) c.series_meets.ensures.calendar
    (subst (λ (b : Bool). (a : Event) → IsSeriesAt (g.D.Drawn.calendar c.args.drawn.now) (c.loop-before.before + 1) a → MatchBool b (HasSharers a spans) (HasNoSharers a spans)) c.if-branch.false
    (subst (λ (x : Confirmed). (a : Event) → IsSeriesAt x (c.loop-before.before + 1) a → MatchBool c.in_ok-series_meets.field-0 (HasSharers a spans) (HasNoSharers a spans)) c.loop-before.invariant.same c.in_ok-series_meets.ensures.meets))

pub returns-clause-meets : goal.returns-clause-meets
returns-clause-meets g c =
    let test = c.loop-before-test.false in
    let end = c.series-before-end.ensures in
    any_none (g.D.Drawn.calendar c.args.drawn.now) c.args.spans.now c.loop-before.before (g.D.Drawn.calendar c.loop-before.drawn) _ _ (omega (arith, test, end)) c.loop-before.invariant

pub returns-clause-count : goal.returns-clause-count
returns-clause-count g c =
    let most = c.loop-before.auto.before-end in
    let end = c.series-before-end.ensures in
    any_all (g.D.Drawn.calendar c.args.drawn.now) c.args.spans.now c.loop-before.before (g.D.Drawn.calendar c.loop-before.drawn) _ _ (omega (arith, most, end)) c.loop-before.invariant
