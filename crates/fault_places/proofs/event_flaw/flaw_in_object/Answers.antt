use Rattle.std.proofs.Common.{◌≡◌, List, ℕ, true, IfSome, subst, arith}
use Rattle.std.specs.Prelude.{IfNone}
use Rattle.std.proofs.lemmas.Bool.Decides.{nat_tests}
use Rattle.ical_tree.specs.Reading.{TreeHas}
use Rattle.std.specs.List.{enumerate_from}
use Rattle.ical_tree.specs.Tree.{ArePlaced, IsObjectOf}
use Rattle.fault_places.specs.EventFlaws.{IsFlawPlaced}
use Rattle.profile.specs.text.Lines.{logical_lines, text_has}
use Rattle.fault_places.proofs.FlawLemmas.{no_flaw, no_lines, no_other, no_tree}
use Rattle.fault_places.proofs.event_flaw.flaw_in_object.Goals as goal

pub returns-then-number-2 : goal.returns-then-number-2
returns-then-number-2 c =
    let one : c.args.number ≡ 61 → ⊥ = λ is. grind (arith, nat_tests) in
    let other : c.args.number ≡ 63 → ⊥ = λ is. grind (arith, nat_tests) in
    no_other c.args.octets.now c.args.number one other

pub returns-in_default : goal.returns-in_default
returns-in_default c =
    let octets = c.args.octets.now in
    let has = subst (λ o. IfNone o ((n : ℕ) × (text_has true n octets ≡ true))) c.in_default.is c.in_ok-text.ensures.none in
    no_lines c.read_lines_are_content.ensures.fine octets c.args.number has.0 has.1

pub returns-in_default-2 : goal.returns-in_default-2
returns-in_default-2 c =
    let octets = c.args.octets.now in
    let lines = subst (λ o. IfSome o (λ text. text ≡ logical_lines octets)) c.in-Some.is c.in_ok-text.ensures.found in
    let has = subst (λ o. IfNone o ((n : ℕ) × TreeHas true n c.in-Some.text)) c.in_default-2.is c.in_ok-object.ensures.none in
    no_tree c.one_tree.ensures.one c.one_tree.ensures.or_a_fault c.read_lines_are_content.ensures.fine octets c.in-Some.text c.args.number has.0 lines has.1

pub returns-in_default-first_flaw : goal.returns-in_default-first_flaw
returns-in_default-first_flaw c =
    let octets = c.args.octets.now in
    let lines = subst (λ o. IfSome o (λ text. text ≡ logical_lines octets)) c.in-Some.is c.in_ok-text.ensures.found in
    let object = c.in-Some-2.object in
    let spelled = subst (λ o. IfSome o (λ x. IsObjectOf true x c.in-Some.text × ArePlaced (enumerate_from 1 c.in-Some.text) x)) c.in-Some-2.is c.in_ok-object.ensures.found in
    no_flaw c.one_tree.ensures.one octets c.in-Some.text object c.args.number lines spelled.0 c.in_default-first_flaw.ensures.none

pub returns-in-Some-3 : goal.returns-in-Some-3
returns-in-Some-3 c =
    let octets = c.args.octets.now in
    let lines = subst (λ o. IfSome o (λ text. text ≡ logical_lines octets)) c.in-Some.is c.in_ok-text.ensures.found in
    let object = c.in-Some-2.object in
    let spelled = subst (λ o. IfSome o (λ x. IsObjectOf true x c.in-Some.text × ArePlaced (enumerate_from 1 c.in-Some.text) x)) c.in-Some-2.is c.in_ok-object.ensures.found in
    record {
      object = object;
      spelled = subst (IsObjectOf true object) lines spelled.0;
      numbered = subst (λ (ls : List (List ℕ)). ArePlaced (enumerate_from 1 ls) object) lines spelled.1;
      found = c.in-Some-first_flaw.found;
      has = c.in-Some-first_flaw.ensures.found;
      placed = subst (λ o. IfSome o (IsFlawPlaced octets c.in-Some-first_flaw.found)) c.in-Some-3.is c.in_ok-flaw.ensures;
    }

pub returns : goal.returns
returns c =
    let octets = c.args.octets.now in
    let lines = subst (λ o. IfSome o (λ text. text ≡ logical_lines octets)) c.in-Some.is c.in_ok-text.ensures.found in
    let object = c.in-Some-2.object in
    let spelled = subst (λ o. IfSome o (λ x. IsObjectOf true x c.in-Some.text × ArePlaced (enumerate_from 1 c.in-Some.text) x)) c.in-Some-2.is c.in_ok-object.ensures.found in
    record {
      object = object;
      spelled = subst (IsObjectOf true object) lines spelled.0;
      found = c.in-Some-first_flaw.found;
      has = c.in-Some-first_flaw.ensures.found;
    }
