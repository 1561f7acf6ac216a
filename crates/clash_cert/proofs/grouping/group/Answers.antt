use Rattle.std.proofs.Common.{◌∙◌, List, ℕ, length, subst, sym, ap, rules}
use Rattle.std.specs.List.{AllZip}
use Rattle.std.proofs.lemmas.List.{length-map}
use Rattle.profile.specs.checker.Certificates.{Claims, IsPlacedAt, IsGrouped}
use Rattle.profile.specs.events.Events.{Event}
use Rattle.cal_events.specs.Series.{series_said}
use Rattle.clash_cert.proofs.ChosenLemmas.{clock_of_span}
use Rattle.clash_cert.proofs.GroupingLemmas.{too_few, no_span, members_placed, grouped}
use Rattle.clash_cert.proofs.grouping.group.Goals as goal

pub returns-then-len-lt2 : goal.returns-then-len-lt2
returns-then-len-lt2 c made =
    let xs = c.series-series.result.now in
    let count = sym c.series.ensures ∙ c.if-series.false ∙ sym (length-map xs series_said) ∙ ap length c.series-series.ensures.are in
    too_few c.args.certificate.now c.says_claims.ensures c.in_ok-members.members.items c.in_ok-members.ensures c.args.calendar.now count (search rules)

pub with_group-requires-clause-clock : goal.with_group-requires-clause-clock
with_group-requires-clause-clock c =
    let cal = c.args.calendar.now in
    let xs = c.series-series.result.now in
    let are = c.series-series.ensures.are in
    let members = c.in_ok-members.members.items in
    let count = sym c.series.ensures ∙ c.if-series.false ∙ sym (length-map xs series_said) ∙ ap length are in
    let (all, at) = members_placed c.args.certificate.now c.says_claims.ensures members c.in_ok-members.ensures cal count in
    let span = c.in-Some.span in
    let there = subst (λ (l : List Event). AllZip (IsPlacedAt l) c.deref.result.now all) (sym are) (subst (λ (l : List ℕ). AllZip (IsPlacedAt cal.series) l all) (sym c.deref.ensures.value) at) in
    let is = c.in-Some.ensures all there in
    clock_of_span all span.from span.days span.bound is.0 is.1 is.2

pub returns-in_ok-with_group-in-Some : goal.returns-in_ok-with_group-in-Some
returns-in_ok-with_group-in-Some c made =
    let cal = c.args.calendar.now in
    let said = c.args.certificate.now in
    let xs = c.series-series.result.now in
    let are = c.series-series.ensures.are in
    let members = c.in_ok-members.members.items in
    let count = sym c.series.ensures ∙ c.if-series.false ∙ sym (length-map xs series_said) ∙ ap length are in
    let (all, at) = members_placed said c.says_claims.ensures members c.in_ok-members.ensures cal count in
    let span = c.in-Some.span in
    let there = subst (λ (l : List Event). AllZip (IsPlacedAt l) c.deref.result.now all) (sym are) (subst (λ (l : List ℕ). AllZip (IsPlacedAt cal.series) l all) (sym c.deref.ensures.value) at) in
    let is = c.in-Some.ensures all there in
    subst (λ (claims : Claims). IsGrouped cal said claims) (sym c.in_ok-with_group-in-Some.ensures)
    (grouped said c.says_claims.ensures members c.in_ok-members.ensures cal count span.from span.days (clock_of_span all span.from span.days span.bound is.0 is.1 is.2) (search rules) (search rules) made.version all at (record { least = is.0; bound = span.bound; is = is.1; before = is.2 }))

pub returns-in-None : goal.returns-in-None
returns-in-None c made =
    let cal = c.args.calendar.now in
    let xs = c.series-series.result.now in
    let are = c.series-series.ensures.are in
    let members = c.in_ok-members.members.items in
    let count = sym c.series.ensures ∙ c.if-series.false ∙ sym (length-map xs series_said) ∙ ap length are in
    no_span c.args.certificate.now c.says_claims.ensures members c.in_ok-members.ensures cal count
    (λ all at. c.in-None.ensures all (subst (λ (l : List Event). AllZip (IsPlacedAt l) c.deref.result.now all) (sym are) (subst (λ (l : List ℕ). AllZip (IsPlacedAt cal.series) l all) (sym c.deref.ensures.value) at)))
