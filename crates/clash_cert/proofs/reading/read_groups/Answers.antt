use Rattle.std.proofs.Common.{◌≡◌, ◌∙◌, ◌<◌, ◌++◌, ◌∷◌, [], List, map, length, subst, sym, ap}
use Rattle.std.specs.Prelude.{◌↔◌, AllPairs, IsTrue, MatchOption}
use Rattle.std.proofs.lemmas.List.{map-append, length-map}
use Rattle.profile.specs.checker.Certificates.{Group, AreInOrder}
use Rattle.clash_cert.specs.Texts.{group_said}
use Rattle.clash_cert.specs.Reading.{IsGroupAt, LacksGroup}
use Rattle.clash_cert.specs.Walked.{AreApart, HasGroupLines, IsNextGroup, IsOfGroups}
use Rattle.clash_cert.proofs.NextGroups.{groups_more, breaks_behind, next_apart, not_next}
use Rattle.clash_cert.proofs.reading.read_groups.Goals as goal

pub returns-then-not-may_follow : goal.returns-then-not-may_follow
returns-then-not-may_follow c =
    let n = c.args.series in
    let groups = map group_said c.loop-alloc.groups.items in
    let group = group_said c.in-Some.group in
    let rest = c.loop-alloc.rest.now in
    let inv = c.loop-alloc.invariant in
    let at = subst (λ found. MatchOption found (LacksGroup n rest) (λ p. IsGroupAt n (group_said p.0) rest p.1.now)) c.in-Some.is c.in_ok-group.ensures in
    let may =
    subst (λ items. IsOfGroups (map group_said items) c.loop-alloc.members → AllPairs AreInOrder (map group_said items) → IsTrue c.may_follow.result ↔ IsNextGroup (map group_said items) group) c.deref.ensures.value
    c.may_follow.ensures in
    breaks_behind n groups group c.args.bytes.now rest c.in-Some.left.now inv.0 c.loop-alloc-test.ensures at (not_next groups group c.may_follow.result (may inv.1 inv.0.ordered) c.if-not-may_follow.true)

pub loop-alloc-preserved : goal.loop-alloc-preserved
loop-alloc-preserved c =
    let n = c.args.series in
    let old = c.loop-alloc.groups.items in
    let groups = map group_said old in
    let group = group_said c.in-Some.group in
    let bytes = c.args.bytes.now in
    let rest = c.loop-alloc.rest.now in
    let left = c.in-Some.left.now in
    let inv = c.loop-alloc.invariant in
    let at = subst (λ found. MatchOption found (LacksGroup n rest) (λ p. IsGroupAt n (group_said p.0) rest p.1.now)) c.in-Some.is c.in_ok-group.ensures in
    let may =
    subst (λ items. IsOfGroups (map group_said items) c.loop-alloc.members → AllPairs AreInOrder (map group_said items) → IsTrue c.may_follow.result ↔ IsNextGroup (map group_said items) group) c.deref.ensures.value
    c.may_follow.ensures in
    let next : IsNextGroup groups group = (may inv.1 inv.0.ordered).0 c.if-not-may_follow.false in
    let same = sym c.deref-in-loop-alloc.ensures.value in
    let said : map group_said c.push.new.self.items ≡ groups ++ group ∷ [] = ap (map group_said) c.in_ok-push.ensures.items ∙ map-append group_said old (c.in-Some.group ∷ []) in (
      subst (λ (gs : List Group). HasGroupLines n gs bytes left) (sym said) (groups_more n groups group bytes rest left inv.0 at next),
      subst (λ (gs : List Group). IsOfGroups gs c.add.new.self) (sym said)
          (c.in_ok-add.ensures groups group inv.1 (c.len.ensures ∙ c.loop-alloc.groups.ok.0 ∙ sym (length-map old group_said)) same (subst (AllPairs ◌<◌) same at.good.ascending)
          (subst (AreApart groups) same (next_apart groups group next))),
    )
