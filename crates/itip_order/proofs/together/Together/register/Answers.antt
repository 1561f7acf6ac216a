use Rattle.std.proofs.Common.{List, Option, Some, None, sym, ap, ◌∙◌, subst}
use Rattle.std.specs.Option.{IfSome, IfNone}
use denote.Ref.{Bor}
use Rattle.profile.specs.rooms.Revisions as revisions
use Rattle.itip_order.specs.declared.part.Part.{Part}
use Rattle.itip_order.specs.Parts.{part_of, parts_of, slot_of}
use Rattle.itip_order.specs.Registers.{at_slot, together, IsRegister, HasNoRegister}
use Rattle.std.specs.Ordering.{is_gt}
use Rattle.itip_order.proofs.Joined.{first_alone, second_alone, none_of_both, first_greater, second_greater}
use Rattle.itip_order.proofs.together.Together.register.Goals as goal

module _ (R S : List revisions.Part) (place : revisions.Part) where
  abbrev Found : Option (Bor Part) → List revisions.Part → Type 0
  Found r M = IfSome r (λ found. IsRegister M place (part_of found.now))

  abbrev Missing : Option (Bor Part) → List revisions.Part → Type 0
  Missing r M = IfNone r (HasNoRegister M place)

  -- what the look-up in the first says where the second has none
  found_first : (r : Option (Bor Part)) → Found r R → ((x : revisions.Part) → IsRegister R place x → IsRegister (together R S) place x) → Found r (together R S)
  found_first (Some x) f g = g (part_of x.now) f
  found_first None f g = tt

  missing_first : (r : Option (Bor Part)) → Missing r R → (HasNoRegister R place → HasNoRegister (together R S) place) → Missing r (together R S)
  missing_first (Some x) f g = tt
  missing_first None f g = g f

pub returns-in_default-clause-found : goal.returns-in_default-clause-found
returns-in_default-clause-found c =
    let R = parts_of c.self.inside.first.now in let S = parts_of c.self.inside.second.now in
    let place = at_slot (part_of c.args.part.now) (slot_of c.args.slot) in
    subst (λ (M : List revisions.Part). IfSome c.register_in-in_default.result (λ found. IsRegister M place (part_of found.now))) c.self.view_is
    (found_first R S place c.register_in-in_default.result c.register_in-in_default.ensures.found (λ x r. first_alone R S c.self.invariant.0 c.self.invariant.1 place x r c.in_default.ensures.none))

pub returns-in_default-clause-none : goal.returns-in_default-clause-none
returns-in_default-clause-none c =
    let R = parts_of c.self.inside.first.now in let S = parts_of c.self.inside.second.now in
    let place = at_slot (part_of c.args.part.now) (slot_of c.args.slot) in
    subst (λ (M : List revisions.Part). IfNone c.register_in-in_default.result (HasNoRegister M place)) c.self.view_is
    (missing_first R S place c.register_in-in_default.result c.register_in-in_default.ensures.none (λ n. none_of_both R S c.self.invariant.0 c.self.invariant.1 place n c.in_default.ensures.none))

pub returns-in_default-register_in-clause-found : goal.returns-in_default-register_in-clause-found
returns-in_default-register_in-clause-found c =
    let R = parts_of c.self.inside.first.now in let S = parts_of c.self.inside.second.now in
    let place = at_slot (part_of c.args.part.now) (slot_of c.args.slot) in
    subst (λ (M : List revisions.Part). IsRegister M place (part_of c.in-Some.second.now)) c.self.view_is
    (second_alone R S c.self.invariant.0 c.self.invariant.1 place (part_of c.in-Some.second.now) c.in-Some.ensures.found c.in_default-register_in.ensures.none)

pub returns-then-is_gt-clause-found : goal.returns-then-is_gt-clause-found
returns-then-is_gt-clause-found c =
    let R = parts_of c.self.inside.first.now in let S = parts_of c.self.inside.second.now in
    let place = at_slot (part_of c.args.part.now) (slot_of c.args.slot) in
    let x = part_of c.in-Some-register_in.first.now in
    subst (λ (M : List revisions.Part). IsRegister M place x) c.self.view_is
    (first_greater R S c.self.invariant.0 c.self.invariant.1 place x (part_of c.in-Some.second.now) c.in-Some-register_in.ensures.found c.in-Some.ensures.found (ap is_gt (sym c.cmp_part.ensures) ∙ sym c.is_gt.ensures ∙ c.if-is_gt.true))

pub returns-clause-found : goal.returns-clause-found
returns-clause-found c =
    let R = parts_of c.self.inside.first.now in let S = parts_of c.self.inside.second.now in
    let place = at_slot (part_of c.args.part.now) (slot_of c.args.slot) in
    let x = part_of c.in-Some-register_in.first.now in
    subst (λ (M : List revisions.Part). IsRegister M place (part_of c.in-Some.second.now)) c.self.view_is
    (second_greater R S c.self.invariant.0 c.self.invariant.1 place x (part_of c.in-Some.second.now) c.in-Some-register_in.ensures.found c.in-Some.ensures.found (ap is_gt (sym c.cmp_part.ensures) ∙ sym c.is_gt.ensures ∙ c.if-is_gt.false))
