use Rattle.std.proofs.Common.{◌≡◌, ◌∙◌, ℤ, sym, subst, inl, rules, refl, [], ◌∷◌, arith, to_z, of_z, to_z-of_z, w64, FitsSigned}
use Rattle.std.specs.Prelude.{MatchBool}
use Rattle.std.proofs.lemmas.Bool.{true≢false}
use Rattle.profile.specs.checker.Instances.{AreClear, HasClash}
use Rattle.profile.specs.checker.Certificates.{IsSeriesAt}
use Rattle.profile.specs.events.Events.{Event}
use Rattle.profile.specs.events.Spans.{IsSpan, StartsBelow}
use Rattle.clash_check.proofs.EntryLemmas.{AreBothDrawn, IsSpanAt, IsBoundAt, span_judged, span_drawn, no_span_drawn}
use Rattle.clash_check.proofs.PeriodLemmas.{bound_of}
use Rattle.clash_check.proofs.pairs.span_holds.Goals as goal

pub returns-then-not-is_span : goal.returns-then-not-is_span
returns-then-not-is_span g c =
    let all = g.D.Drawn.calendar c.args.drawn.now in
    let fits : FitsSigned w64 c.args.from = search rules in
    let same : to_z w64 (of_z w64 c.args.from) ≡ c.args.from = to_z-of_z fits in
    let none = λ (a b : Event) (here : IsSeriesAt all c.args.i a) (there : IsSeriesAt all c.args.j b) (s : IsSpan (a ∷ b ∷ []) c.args.from c.args.days).
    true≢false (sym ((c.is_span.ensures.is (a ∷ b ∷ []) (here, (there, tt))).1 (subst (λ (t : ℤ). IsSpan (a ∷ b ∷ []) t c.args.days) (sym same) s)) ∙ c.if-not-is_span.true) in
    record {
      calendar = refl;
      holds = λ a b here there. inl (none a b here there);
      count = λ n is. no_span_drawn all c.args.i c.args.j c.args.from c.args.days _ _ n none is refl;
    }

pub returns : goal.returns
returns g c =
    let all = g.D.Drawn.calendar c.args.drawn.now in
    let bound = c.span_end.result in
    let fits : FitsSigned w64 c.args.from = search rules in
    let same : to_z w64 (of_z w64 c.args.from) ≡ c.args.from = to_z-of_z fits in
    let one : FitsSigned w64 c.greatest_width-width.result = search rules in
    let width : to_z w64 (of_z w64 c.greatest_width-width.result) ≡ c.greatest_width-width.result = to_z-of_z one in
    let end : FitsSigned w64 bound = search rules in
    let at : to_z w64 (of_z w64 bound) ≡ bound = to_z-of_z end in
    let span : IsSpanAt all c.args.i c.args.j c.args.from c.args.days = λ a b here there.
    subst (λ (t : ℤ). IsSpan (a ∷ b ∷ []) t c.args.days) same ((c.is_span.ensures.is (a ∷ b ∷ []) (here, (there, tt))).0 c.if-not-is_span.false) in
    let is : IsBoundAt all c.args.i c.args.j c.args.from c.args.days bound = λ a b here there.
    bound_of (a ∷ b ∷ []) c.args.from c.greatest_width-width.result bound _ _ c.args.days same width (c.greatest_width-width.ensures.is (a ∷ b ∷ []) (omega arith) (here, (there, tt))) c.span_end.ensures in
    record {
      calendar = c.are_clear.ensures.calendar;
      holds = λ a b here there. span_judged a b c.args.from c.args.days bound (span a b here there) (is a b here there) c.are_clear.result
          (subst (λ (t : ℤ). MatchBool c.are_clear.result (AreClear (StartsBelow a t) (StartsBelow b t)) (HasClash (StartsBelow a t) (StartsBelow b t))) at (c.are_clear.ensures.clear a b here there));
      count = span_drawn all c.args.i c.args.j c.args.from c.args.days bound span is c.are_clear.result _ _
          (subst (λ (t : ℤ). AreBothDrawn all c.args.i c.args.j t c.are_clear.result (g.D.Drawn.count c.args.drawn.now) (g.D.Drawn.count c.are_clear.new.drawn)) at c.are_clear.ensures.count);
    }
