use Rattle.std.proofs.Common.{◌*◌, length, subst, List}
use Rattle.std.specs.Prelude.{Contains, Option, IfSome, IfNone, IfOk, MatchBool}
use Rattle.std.proofs.lemmas.Result.{IfOk-weaker}
use Rattle.profile.specs.checker.Instances.{AreClear, HasClash}
use Rattle.profile.specs.events.Confirmed.{Confirmed, IsOneOf}
use Rattle.cal_events.specs.Sweep.{AreSpansApart, IsOverlap}
use Rattle.cal_events.specs.declared.sweep.Overlap.{Overlap}
use Rattle.cal_events.specs.declared.sweep.Span.{Span}
use Rattle.clash_check.specs.Singles.{HaveSharers, HaveNoSharers, IsEachClear, IsFewMore, AreSinglesDrawn}
use Rattle.clash_check.proofs.SingleLemmas.{singles_overlap, singles_apart, beside_judged, singles_drawn}
use Rattle.clash_check.proofs.singles.have_clash.Goals as goal

pub returns-in-Some-clause-clash : goal.returns-in-Some-clause-clash
returns-in-Some-clause-clash g c =
    singles_overlap (g.D.Drawn.calendar c.args.drawn.now) c.is_drawable.ensures.keys c.in_ok-spans.spans.items c.in_ok-spans.ensures.spans c.in-Some.field-0
    (subst (λ (l : List Span). IsOverlap l c.in-Some.field-0) c.deref.ensures.value (subst (λ (o : Option Overlap). IfSome o (IsOverlap c.deref.result.now)) c.in-Some.is c.in_ok-first_overlap.ensures.found))

pub returns-clause-clash : goal.returns-clause-clash
returns-clause-clash g c =
    let all = g.D.Drawn.calendar c.args.drawn.now in
    let spans = c.in_ok-spans.spans.items in
    IfOk-weaker c.any_meets.result (λ r. MatchBool r (HaveSharers all spans) (HaveNoSharers all spans))
    (λ r. MatchBool r (HasClash (Contains all.singles) (IsOneOf all)) (AreClear (Contains all.singles) (IsOneOf all)))
    (beside_judged all c.is_drawable.ensures.own spans c.in_ok-spans.ensures.spans
    (singles_apart all spans c.in_ok-spans.ensures.spans
    (subst AreSpansApart c.deref.ensures.value (subst (λ (o : Option Overlap). IfNone o (AreSpansApart c.deref.result.now)) c.in-None.is c.in_ok-first_overlap.ensures.none))))
    (subst (λ (l : List Span). IfOk c.any_meets.result (λ r. MatchBool r (HaveSharers all l) (HaveNoSharers all l))) c.deref-in-None.ensures.value
    (subst (λ (x : Confirmed). IfOk c.any_meets.result (λ r. MatchBool r (HaveSharers x c.deref-in-None.result.now) (HaveNoSharers x c.deref-in-None.result.now))) c.draw_singles.ensures.calendar c.any_meets.ensures.meets))

pub returns-clause-count : goal.returns-clause-count
returns-clause-count g c = λ clear.
    let all = g.D.Drawn.calendar c.args.drawn.now in
    let mid = g.D.Drawn.count c.draw_singles.new.drawn in
    let new = g.D.Drawn.count c.any_meets.new.drawn in
    let spans = c.in_ok-spans.spans.items in
    IfOk-weaker c.any_meets.result (λ _. IsFewMore mid new (length all.series * (length spans * 3))) (λ _. AreSinglesDrawn all (g.D.Drawn.count c.args.drawn.now) new)
    (λ r few. singles_drawn all spans c.in_ok-spans.ensures.spans _ mid new c.in_ok-spans.ensures.count few)
    (subst (λ (l : List Span). IfOk c.any_meets.result (λ _. IsFewMore mid new (length all.series * (length l * 3)))) c.deref-in-None.ensures.value
    (subst (λ (x : Confirmed). IsEachClear x → IfOk c.any_meets.result (λ _. IsFewMore mid new (length x.series * (length c.deref-in-None.result.now * 3))))
    c.draw_singles.ensures.calendar c.any_meets.ensures.count clear))
