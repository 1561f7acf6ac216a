-- What became of a message, by what was asked and how new its parts are.
-- Cited by Room::settled of room, Views::kind_of of taking.
use Rattle.std.proofs.Common.{◌≡◌, Bool, List, [], ◌∷◌, length, refl, sym, ap}
use Rattle.std.specs.Prelude.{nat_lt, IsTrue, if◌then◌else◌}
use Rattle.std.specs.List.{list_any}
use Rattle.std.proofs.lemmas.Bool.{true≢false}
use Rattle.itip_order.specs.Parts.{part_of}
use Rattle.room_books.specs.declared.claim.Claim.{Claim as Asking}
use Rattle.room_books.specs.Taking.{claims_said, parts_said}
use Rattle.profile.specs.rooms.Messages.{Outcome}
use Rattle.profile.specs.rooms.Revisions.{Part}
use Rattle.profile.specs.rooms.Rooms.{Claim, Cancelled, Repeated, Stale, kind_of, kind_of_outcome, is_fresh, is_same, parts_of, asked}

module _ (before after : List Part) (outcome : Outcome) where
  pub kind_by : (claims : List Claim) (a f s : Bool) → IsTrue (nat_lt 0 (length claims)) → nat_lt 0 (length (asked before after claims)) ≡ a → list_any (is_fresh before after) (parts_of claims) ≡ f
      → list_any (is_same before after) (parts_of claims) ≡ s → (if a then kind_of_outcome outcome else (if f then Cancelled else (if s then Repeated else Stale))) ≡ kind_of before after claims outcome
  kind_by [] a f s some x y z = absurd (true≢false (sym some))
  kind_by (c ∷ cs) a f s some x y z = λ i. if sym x i then kind_of_outcome outcome else (if sym y i then Cancelled else (if sym z i then Repeated else Stale))

-- the parts of what claims say
pub parts_are : (claims : List Asking) → parts_of (claims_said claims) ≡ parts_said claims
parts_are [] = refl
parts_are (c ∷ cs) = ap (λ l. part_of c.part ∷ l) (parts_are cs)
