use Rattle.std.proofs.Common.{◌≡◌, ◌∙◌, ℕ, ℤ, List, [], ◌∷◌, ◌++◌, ◌<◌, ◌^◌, map, subst, ap, rules, w64, to_z, of_z, FitsSigned}
use Rattle.std.specs.Prelude.{Option, IfSome}
use Rattle.std.proofs.lemmas.Int.{to_z-of_z}
use Rattle.profile.specs.checker.Certificates.{Group, IsClaims}
use Rattle.clash_cert.specs.declared.groups.Group.{Group as Kept}
use Rattle.clash_cert.specs.Texts.{group_said, pair_said}
use Rattle.clash_cert.specs.Grouped.{apart_of}
use Rattle.clash_cert.proofs.GroupingLemmas.{claims_grouped, same_claims}
use Rattle.clash_cert.proofs.grouping.with_group.Goals as goal

pub of-requires : goal.of-requires
of-requires c =
    let said = c.args.certificate.now in
    let span = c.args.span in
    let members = c.args.members.items in
    let r = c.requires in
    let fits : FitsSigned w64 span.from = search rules in
    let few : span.days < 2 ^ 64 = search rules in
    let from = subst (λ (o : Option ℤ). IfSome o (λ t. t ≡ to_z w64 (of_z w64 span.from))) c.unwrap-from.ensures c.of_instant.ensures.value ∙ to_z-of_z w64 span.from fits in
    let group : Group = record { from = span.from; days = span.days; members = members } in
    let kept : Kept = record { from = c.unwrap-from.result; days = span.days; members = c.args.members } in
    let shown : ℤ → Group = λ t. record { from = t; days = span.days; members = members } in
    let groups : map group_said c.push.new.self.items ≡ group ∷ [] =
    ap (map group_said) (c.in_ok-push.ensures.items ∙ ap (λ (l : List Kept). l ++ kept ∷ []) c.new-groups.ensures.items) ∙ ap (λ (t : ℤ). shown t ∷ []) from in
    let pairs = c.in_ok-pairs.ensures ∙ ap (λ (l : List ℕ). apart_of l (map pair_said c.pairs.result.now)) c.deref.ensures.value ∙ ap (apart_of members) c.pairs.ensures in
    subst IsClaims (same_claims said group c.singles-singles.result c.series.result (map group_said c.push.new.self.items) (map pair_said c.in_ok-pairs.pairs.items) c.singles-singles.ensures c.series.ensures groups pairs)
    (claims_grouped said c.says_claims.ensures members r.have span.from span.days r.clock few r.some r.version)
