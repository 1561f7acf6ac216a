-- The answers of a meeting by their slots, and lists in another order.
use Rattle.std.specs.Prelude.{◌≡◌, Bool, true, false, List, Contains, ◌+◌, ◌≤◌, ℕ, Option, None, Some, Vec, not, [], ◌∷◌, length, take, drop, map, filter}
use Rattle.std.specs.List.{list_any}
use Rattle.std.specs.Ordering.{is_eq, is_le, is_lt}
use Rattle.itip_order.specs.declared.part.Slot.{Slot}
use Rattle.itip_order.specs.Parts.{slot_of}
use Rattle.profile.specs.rooms.Revisions.{Part, Whole, slot_cmp}
use Rattle.std.specs.List.Sorted.{IsSortedByKey}
use Rattle.std.specs.Vec.{vec_len, vec_capacity}
use Rattle.room_books.specs.declared.meeting.PartAnswer.{PartAnswer}
use Rattle.profile.specs.rooms.Revisions as revisions
use denote.Ref.{Bor}

-- ---- the slots of a message's parts, and what they leave alone

-- the slot is one of these
abbrev pub is_touched : List Slot → revisions.Slot → Bool
is_touched slots slot = list_any (λ own. is_eq (slot_cmp (slot_of own) slot)) slots

-- each of these parts is of one of the slots
abbrev pub AllTouch : List Slot → List Part → Type 0
AllTouch slots parts = (part : Part) → Contains parts part → is_touched slots part.slot ≡ true

-- the slot is that of an instance, and neither it nor the whole is one of these
pub record IsUntouched (slots : List Slot) (slot : revisions.Slot) : Type 0 where
  pub instance : is_eq (slot_cmp slot Whole) ≡ false
  pub alone : is_touched slots slot ≡ false
  pub whole : is_touched slots Whole ≡ false

abbrev pub givens : List (Bor PartAnswer) → List PartAnswer
givens answers = map (λ given. given.now) answers

abbrev pub slot_in : PartAnswer → revisions.Slot
slot_in given = slot_of given.slot

-- each slot isn't below the one before
abbrev pub AreAnswersBySlot : List PartAnswer → Type 0
AreAnswersBySlot answers = IsSortedByKey slot_in revisions.slot_cmp answers

-- the answer is to the part of the slot
abbrev pub is_at : revisions.Slot → PartAnswer → Bool
is_at slot given = is_eq (revisions.slot_cmp (slot_of given.slot) slot)

-- the answer is to the part of a slot below, and of one that isn't above
abbrev pub is_below : revisions.Slot → PartAnswer → Bool
is_below slot given = is_lt (revisions.slot_cmp (slot_of given.slot) slot)

abbrev pub is_up_to : revisions.Slot → PartAnswer → Bool
is_up_to slot given = is_le (revisions.slot_cmp (slot_of given.slot) slot)

-- those before the place pass the test, the others don't
pub record IsSplitAt (test : PartAnswer → Bool) (answers : List PartAnswer) (place : ℕ) : Type 0 where
  pub within : place ≤ length answers
  pub before : (given : PartAnswer) → Contains (take place answers) given → test given ≡ true
  pub after : (given : PartAnswer) → Contains (drop place answers) given → test given ≡ false

-- those of the answers that are of none of these slots
abbrev pub left_without : List Slot → List PartAnswer → List PartAnswer
left_without slots answers = filter (λ given. not (is_touched slots (slot_of given.slot))) answers

-- those that are
abbrev pub taken_at : List Slot → List PartAnswer → List PartAnswer
taken_at slots answers = filter (λ given. is_touched slots (slot_of given.slot)) answers

-- the same elements, each as often, in any order
pub data Reordered {X : Type 0} : List X → List X → Type 0 where
  re_none : Reordered [] []
  re_more : (x : X) (xs ys : List X) → Reordered xs ys → Reordered (x ∷ xs) (x ∷ ys)
  re_turn : (x y : X) (xs : List X) → Reordered (x ∷ y ∷ xs) (y ∷ x ∷ xs)
  re_then : (xs ys zs : List X) → Reordered xs ys → Reordered ys zs → Reordered xs zs

-- the answers have room for this many more, or the place for them has it for all
abbrev pub HasRoom : {Z : Type 0} → Vec PartAnswer Z → ℕ → Option (Vec PartAnswer Z) → Type 0
HasRoom answers more None = vec_len answers + more ≤ vec_capacity answers
HasRoom answers more (Some larger) = (larger.items ≡ []) × (vec_len larger ≡ 0) × (vec_len answers + more ≤ vec_capacity larger)
