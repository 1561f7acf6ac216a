use Rattle.std.proofs.Common.{◌≡◌, true, IfSome, subst}
use Rattle.std.specs.List.{enumerate_from}
use Rattle.std.specs.Prelude.{Contains, List, ℕ}
use Rattle.std.proofs.lemmas.Option.{IfSome_then}
use Rattle.std.proofs.lemmas.Result.{IfOk-weaker}
use Rattle.ical_tree.specs.Tree.{ArePlaced, IsObjectOf, component_children, tree_of}
use Rattle.profile.specs.text.Lines.{logical_lines}
use Rattle.fault_places.specs.InTheWay.{IsInTheWay, NamesRefused}
use Rattle.fault_places.specs.Obstacles.{IsCause}
use Rattle.fault_places.proofs.RefusedLemmas.{same_tree, zone_fault}
use Rattle.fault_places.proofs.refused_zone.in_the_way.Goals as goal

pub cause_in-requires : goal.cause_in-requires
cause_in-requires c =
    let object = c.in-Some-2.object in
    let n = c.args.number in
    let refused = subst (λ o. IfSome o (λ zone. NamesRefused object n zone.now)) c.in-Some-3.is c.in_ok-zone.ensures in
    let same = subst (λ o. IfSome o (λ z. Contains (component_children object) z.now × (tree_of z.now ≡ tree_of c.in-Some-3.zone.now))) c.in-Some-child_like.is c.child_like.ensures in
    zone_fault object n c.in-Some-child_like.zone.now (same_tree object n c.in-Some-3.zone.now c.in-Some-child_like.zone.now same.1 refused)

pub returns-in-Some-4 : goal.returns-in-Some-4
returns-in-Some-4 c =
    let octets = c.args.octets.now in
    let n = c.args.number in
    let lines = subst (λ o. IfSome o (λ text. text ≡ logical_lines octets)) c.in-Some.is c.in_ok-text.ensures.found in
    let object = c.in-Some-2.object in
    let spelled = subst (λ o. IfSome o (λ x. IsObjectOf true x c.in-Some.text × ArePlaced (enumerate_from 1 c.in-Some.text) x)) c.in-Some-2.is c.in_ok-object.ensures.found in
    let zone = c.in-Some-child_like.zone.now in
    let same = subst (λ o. IfSome o (λ z. Contains (component_children object) z.now × (tree_of z.now ≡ tree_of c.in-Some-3.zone.now))) c.in-Some-child_like.is c.child_like.ensures in
    let refused = subst (λ o. IfSome o (λ z. NamesRefused object n z.now)) c.in-Some-3.is c.in_ok-zone.ensures in
    let found = c.in-Some-4.found in
    let cause = subst (λ o. IfSome o (IsCause zone n)) c.in-Some-4.is c.in_ok-found.ensures in
    IfOk-weaker c.placed.result _ _
    (λ way h. IfSome_then way {Q = IsInTheWay octets n} h
    (λ it placed. record {
      object = object;
      spelled = subst (IsObjectOf true object) lines spelled.0;
      numbered = subst (λ (ls : List (List ℕ)). ArePlaced (enumerate_from 1 ls) object) lines spelled.1;
      zone = zone;
      inside = same.0;
      refused = same_tree object n c.in-Some-3.zone.now zone same.1 refused;
      found = found;
      cause = cause;
      placed = placed;
    }))
    c.placed.ensures
