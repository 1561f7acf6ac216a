-- The order in which the greatest part of each slot is looked for.
use Rattle.std.specs.Prelude.{Bool, false, ◌-◌, List, length, if◌then◌else◌, take}
use Rattle.std.specs.List.{slice_get}
use Rattle.std.specs.Option.{option_map_or}
use Rattle.std.specs.declared.cmp.Ordering.{Ordering}
use Rattle.std.specs.Ordering.{ordering_then, is_eq}
use Rattle.profile.specs.rooms.Revisions.{Part, Slot, part_cmp, slot_cmp}

-- by slot, and then by revision and body
abbrev pub slot_part_cmp : Part → Part → Ordering
slot_part_cmp a b = ordering_then (slot_cmp a.slot b.slot) (part_cmp a b)

-- the last of these is of this slot
abbrev pub ends_at : {Of : Type 0} → (Of → Part) → Slot → List Of → Bool
ends_at part slot kept = option_map_or (λ one. is_eq (slot_cmp (part one).slot slot)) (slice_get kept (length kept - 1)) false

-- these without that one
abbrev pub leaving : {Of : Type 0} → (Of → Part) → Slot → List Of → List Of
leaving part slot kept = if ends_at part slot kept then take (length kept - 1) kept else kept
