-- What a list of registers, one for each slot, represents.
use Rattle.std.specs.Prelude.{◌≡◌, ℕ, ◌<◌, ◌≤◌, Bool, true, ◌&&◌, List, [], ◌∷◌, length, take, drop, slice_index_or, IsTrue, if◌then◌else◌, ◌↔◌, Contains, filter}
use Rattle.std.specs.declared.cmp.Ordering.{Ordering}
use Rattle.std.specs.declared.cmp.Ordering.TheVariants.{Less, Equal, Greater}
use Rattle.std.specs.List.{list_all, list_any}
use Rattle.std.specs.Ordering.{is_lt, is_gt}
use Rattle.profile.specs.rooms.Revisions.{Slot, Part, place_cmp, part_cmp, same_place, is_greatest, in_view, leaves_in_view}

-- each part's place is below those of all later ones: by organiser, UID, slot
abbrev pub is_ascending : List Part → Bool
is_ascending [] = true
is_ascending (part ∷ parts) = list_all (λ later. is_lt (place_cmp part later)) parts && is_ascending parts

-- the part, at its place beside the first of some, and those after it with the part among them
abbrev pub put_by : Ordering → Part → Part → List Part → List Part → List Part
put_by Less part first parts after = part ∷ first ∷ parts
put_by Equal part first parts after = (if is_gt (part_cmp part first) then part else first) ∷ parts
put_by Greater part first parts after = first ∷ after

-- ascending parts with one more, of its place the greater
abbrev pub put_part : Part → List Part → List Part
put_part part [] = part ∷ []
put_part part (first ∷ parts) = put_by (place_cmp part first) part first parts (put_part part parts)

-- ascending parts with these, of each place the greatest
abbrev pub together : List Part → List Part → List Part
together parts [] = parts
together parts (more ∷ others) = together (put_part more parts) others

-- the registers hold the greatest part of each slot ever taken, one for each slot, by their places
pub record RepresentsHistory (registers history : List Part) : Type 0 where
  pub ascending : IsTrue (is_ascending registers)
  pub greatest : IsTrue (list_all (is_greatest history) registers)
  pub covered : IsTrue (list_all (λ part. list_any (λ register. same_place register part) registers) history)

-- these are the parts in the view of the history, in the order of their places
pub record IsView (parts history : List Part) : Type 0 where
  pub ascending : IsTrue (is_ascending parts)
  pub exact : (part : Part) → Contains parts part ↔ IsTrue (in_view history part)

-- the same parts were taken, in any order, each any number of times
abbrev pub SameParts : List Part → List Part → Type 0
SameParts xs ys = (part : Part) → Contains xs part ↔ Contains ys part

-- a part of the same slot was taken
abbrev pub is_known : List Part → Part → Bool
is_known history part = list_any (λ taken. same_place taken part) history

-- each Whole register of its meeting leaves the part in the view
abbrev pub is_allowed_by : List Part → Part → Bool
is_allowed_by registers part = list_all (λ whole. leaves_in_view whole part) registers

-- those of the parts that the registers leave in the view
abbrev pub allowed_by : List Part → List Part → List Part
allowed_by registers parts = filter (is_allowed_by registers) parts

-- the registers whose parts are in the view
abbrev pub shown : List Part → List Part
shown registers = allowed_by registers registers

-- the slot of the part's meeting, as a part of it
abbrev pub at_slot : Part → Slot → Part
at_slot part slot = record part { slot = slot }

-- the register at this place in the list is that of the part's place
pub record IsAt (registers : List Part) (part : Part) (at : ℕ) : Type 0 where
  pub in_range : at < length registers
  pub same : (default : Part) → place_cmp (slice_index_or registers at default) part ≡ Equal

-- it is the register of that place
abbrev pub IsRegister : List Part → Part → Part → Type 0
IsRegister registers place part = Contains registers part × (place_cmp part place ≡ Equal)

-- no register is of that place
abbrev pub HasNoRegister : List Part → Part → Type 0
HasNoRegister registers place = (part : Part) → Contains registers part → place_cmp part place ≡ Equal → ⊥

-- no register is of the part's place, and a new one would go here
pub record IsGap (registers : List Part) (part : Part) (at : ℕ) : Type 0 where
  pub in_range : at ≤ length registers
  pub below : IsTrue (list_all (λ register. is_lt (place_cmp register part)) (take at registers))
  pub above : IsTrue (list_all (λ register. is_gt (place_cmp register part)) (drop at registers))

-- the part is in the view of each history that the registers represent
abbrev pub IsInView : List Part → Part → Type 0
IsInView registers part = (history : List Part) → RepresentsHistory registers history → IsTrue (in_view history part)

-- no part of its place is in the view of one
abbrev pub HasNone : List Part → Part → Type 0
HasNone registers place =
    (history : List Part) → RepresentsHistory registers history → (part : Part) → IsTrue (in_view history part) → IsTrue (same_place part place) → ⊥
