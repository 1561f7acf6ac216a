use Rattle.std.proofs.Common.{◌≡◌, ◌∙◌, ◌<◌, ap, sym, subst, refl, rules, ℤ, List, length, arith, to_z, of_z, to_z-of_z, w64, FitsSigned}
use Rattle.std.specs.Prelude.{Contains, MatchBool}
use Rattle.std.specs.List.{sum_by}
use Rattle.std.proofs.lemmas.Bool.{true≢false}
use Rattle.profile.specs.checker.Instances.{Instance}
use Rattle.profile.specs.checker.Certificates.{AreSeriesAt}
use Rattle.profile.specs.events.Spans.{HaveClash, IsBoundOf, IsSpan}
use Rattle.clash_cert.specs.Texts.{group_said}
use Rattle.clash_check.specs.Counted.{AreAllBelow}
use Rattle.clash_check.specs.Sweeps.{IsCountDrawn, HaveNoClash}
use Rattle.clash_check.proofs.GroupLemmas.{OfThem, group_drawn, group_judged, no_group, no_group_drawn}
use Rattle.clash_check.proofs.PeriodLemmas.{bound_of}
use Rattle.clash_check.proofs.groups.group_holds.Goals as goal

pub is_span-requires : goal.is_span-requires
is_span-requires g c = λ i has. c.requires.within i (subst (λ l. Contains l i) c.deref.ensures.value has)

pub greatest_width-requires : goal.greatest_width-requires
greatest_width-requires g c = λ i has. c.requires.within i (subst (λ l. Contains l i) c.deref-2.ensures.value has)

pub sweep_group-requires-clause-places : goal.sweep_group-requires-clause-places
sweep_group-requires-clause-places g c = λ i has. c.requires.within i (subst (λ l. Contains l i) c.deref-3.ensures.value has)

pub returns-then-not-is_span : goal.returns-then-not-is_span
returns-then-not-is_span g c =
    let all = g.D.Drawn.calendar c.args.drawn.now in
    let group = group_said c.args.group.now in
    let fits : FitsSigned w64 c.instant-from.result = search rules in
    let same : to_z w64 (of_z w64 c.instant-from.result) ≡ group.from = to_z-of_z fits ∙ c.instant-from.ensures.value in
    let none : OfThem all group (λ those. IsSpan those group.from group.days → ⊥) = λ those are span.
    true≢false (sym ((c.is_span.ensures.is those (subst (λ l. AreSeriesAt all l those) (sym c.deref.ensures.value) are)).1 (subst (λ (t : ℤ). IsSpan those t group.days) (sym same) span)) ∙ c.if-not-is_span.true) in
    record {
      calendar = refl;
      holds = no_group all group none c.requires;
      count = λ n is. no_group_drawn all group none _ _ n is refl;
    }

pub returns : goal.returns
returns g c =
    let all = g.D.Drawn.calendar c.args.drawn.now in
    let group = group_said c.args.group.now in
    let bound = c.span_end-bound.result in
    let found = c.in_ok-have_clash.have_clash in
    let fits : FitsSigned w64 c.instant-from.result = search rules in
    let same : to_z w64 (of_z w64 c.instant-from.result) ≡ group.from = to_z-of_z fits ∙ c.instant-from.ensures.value in
    let one : FitsSigned w64 c.greatest_width.result = search rules in
    let width : to_z w64 (of_z w64 c.greatest_width.result) ≡ c.greatest_width.result = to_z-of_z one in
    let end : FitsSigned w64 bound = search rules in
    let at : to_z w64 (of_z w64 bound) ≡ bound = to_z-of_z end in
    let long = ap length c.deref-2.ensures.value in
    let two = c.requires.some in
    let some : 0 < length c.deref-2.result.now = omega (arith, long, two) in
    let span : OfThem all group (λ those. IsSpan those group.from group.days) = λ those are.
    subst (λ (t : ℤ). IsSpan those t group.days) same ((c.is_span.ensures.is those (subst (λ l. AreSeriesAt all l those) (sym c.deref.ensures.value) are)).0 c.if-not-is_span.false) in
    let is : OfThem all group (λ those. IsBoundOf those group.from group.days bound) = λ those are.
    bound_of those group.from c.greatest_width.result bound _ _ group.days same width
    (c.greatest_width.ensures.is those some (subst (λ l. AreSeriesAt all l those) (sym c.deref-2.ensures.value) are)) c.span_end-bound.ensures in
    record {
      calendar = c.sweep_group.ensures.calendar;
      holds = group_judged all group bound span is found c.requires (λ those are.
          subst (λ (t : ℤ). MatchBool found (HaveClash those those t) (HaveNoClash those those t)) at
          (c.in_ok-have_clash.ensures.clash those (subst (λ l. AreSeriesAt all l those) (sym c.deref-3.ensures.value) are)));
      count = group_drawn all group bound span is found _ _ (λ those are.
          subst (λ (t : ℤ). (lists : List (List Instance)) → AreAllBelow those t lists → IsCountDrawn found (g.D.Drawn.count c.args.drawn.now) (g.D.Drawn.count c.sweep_group.new.drawn) (sum_by length lists)) at
          (c.in_ok-have_clash.ensures.count those (subst (λ l. AreSeriesAt all l those) (sym c.deref-3.ensures.value) are)));
    }
