use Rattle.std.proofs.Common.{◌≡◌, ◌∙◌, ℤ, [], ◌∷◌, subst, sym, rules, w64, to_z, of_z, FitsSigned}
use Rattle.std.specs.Prelude.{Option, IfSome}
use Rattle.std.proofs.lemmas.Int.{to_z-of_z}
use Rattle.profile.specs.text.Values.{IsClockSeconds}
use Rattle.profile.specs.checker.Certificates.{Span, IsEntryMade}
use Rattle.cal_events.specs.Series.{series_said}
use Rattle.clash_cert.proofs.ChosenLemmas.{clock_of_span}
use Rattle.clash_cert.proofs.choosing.entry_by_span.Goals as goal

pub unwrap-from-requires : goal.unwrap-from-requires
unwrap-from-requires c =
    let span = c.in-Some.span in
    let is = c.in-Some.ensures in
    let fits : FitsSigned w64 span.from = search rules in
    c.of_instant.ensures.found.1
    (subst IsClockSeconds (sym (to_z-of_z w64 span.from fits)) (clock_of_span (series_said c.args.a.now ∷ series_said c.args.b.now ∷ []) span.from span.days span.bound is.0 is.1 is.2))

pub returns-clause-made : goal.returns-clause-made
returns-clause-made c own none =
    let span = c.in-Some.span in
    let is = c.in-Some.ensures in
    let fits : FitsSigned w64 span.from = search rules in
    let same = subst (λ (o : Option ℤ). IfSome o (λ t. t ≡ to_z w64 (of_z w64 span.from))) c.unwrap-from.ensures c.of_instant.ensures.value ∙ to_z-of_z w64 span.from fits in
    subst (λ (t : ℤ). IsEntryMade own (series_said c.args.a.now) (series_said c.args.b.now) (Span t span.days)) (sym same) (none, record { least = is.0; bound = span.bound; is = is.1; before = is.2 })
