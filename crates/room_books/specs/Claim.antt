-- Only a whole recurs.
use Rattle.std.specs.Prelude.{Bool, true, Option, None, Some}
use Rattle.std.specs.Ordering.{is_eq}
use Rattle.itip_order.specs.Parts.{slot_of}
use Rattle.itip_order.specs.declared.part.Slot.{Slot}
use Rattle.profile.specs.rooms.Revisions.{Whole, slot_cmp}

-- there is no series, or the slot is that of the whole
abbrev pub is_of_whole : {X : Type 0} → Option X → Slot → Bool
is_of_whole None slot = true
is_of_whole (Some series) slot = is_eq (slot_cmp (slot_of slot) Whole)
