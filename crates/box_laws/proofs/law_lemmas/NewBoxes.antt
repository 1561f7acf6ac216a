-- Boxes that have taken nothing: those of a division keep what one box of all rooms and organisers keeps.
use Rattle.std.proofs.Common.{◌≡◌, ◌≢◌, ◌∙◌, ℕ, List, [], ◌∷◌, ◌++◌, map, refl, sym, ap, subst, arith}
use Rattle.std.specs.Prelude.{AllPairs, IsPermutation}
use Rattle.std.specs.List.{flat_map}
use Rattle.std.proofs.lemmas.List.{length-map, map-append, map-id}
use Rattle.std.proofs.lemmas.List.Sorted.{IsPermutation-map}
use Rattle.profile.specs.organisers.Organisers.{empty_organiser}
use Rattle.profile.specs.streams.Divisions.{NewBoxesAreOne}
use Rattle.profile.specs.streams.Streams.{Config, Hosted, HostedOrganiser, new_box, new_room}
use Rattle.box_laws.proofs.law_lemmas.Lists.{map_map}
use Rattle.box_laws.proofs.law_lemmas.OrganiserSteps.{organisers_of, rooms_of}

abbrev new_organiser : List ℕ → HostedOrganiser
new_organiser organiser = record { address = organiser; book = empty_organiser }

new_rooms : (parts : List Config) → rooms_of (map new_box parts) ≡ map new_room (flat_map (λ part. part.rooms) parts)
new_rooms [] = refl
new_rooms (part ∷ parts) =
    ap (λ l. map new_room part.rooms ++ l) (new_rooms parts) ∙ sym (map-append new_room part.rooms (flat_map (λ (p : Config). p.rooms) parts))

new_organisers : (parts : List Config) → organisers_of (map new_box parts) ≡ map new_organiser (flat_map (λ part. part.organisers) parts)
new_organisers [] = refl
new_organisers (part ∷ parts) =
    ap (λ l. map new_organiser part.organisers ++ l) (new_organisers parts)
    ∙ sym (map-append new_organiser part.organisers (flat_map (λ (p : Config). p.organisers) parts))

pub new_boxes : NewBoxesAreOne
new_boxes parts whole d = record {
  some = omega (arith, d.some, length-map parts new_box);
  rooms_are = subst (λ (l : List Hosted). IsPermutation l (map new_room whole.rooms)) (sym (new_rooms parts))
      (IsPermutation-map new_room (flat_map (λ (p : Config). p.rooms) parts) whole.rooms d.rooms_are);
  organisers_are = subst (λ (l : List HostedOrganiser). IsPermutation l (map new_organiser whole.organisers)) (sym (new_organisers parts))
      (IsPermutation-map new_organiser (flat_map (λ (p : Config). p.organisers) parts) whole.organisers d.organisers_are);
  organisers_differ = subst (AllPairs ◌≢◌) (sym (map_map (λ (h : HostedOrganiser). h.address) new_organiser whole.organisers ∙ map-id whole.organisers)) d.organisers_differ;
}
