-- The places of the overrides of an event, among its instances.
use Rattle.std.specs.Prelude.{◌≡◌, ◌<◌, ◌&&◌, ◌||◌, ℕ, ℤ, Bool, true, int_lt, All, Contains, List, length, get_or, Option, Some, None, MatchOption}
use Rattle.std.specs.List.{list_any}
use Rattle.std.specs.Ordering.{int_eq}
use Rattle.cal_events.specs.Instances.{IsAtPlace, IsAfter}
use Rattle.cal_events.specs.declared.component.EventComponent.{EventComponent}
use Rattle.cal_events.specs.declared.instances.Bound.{Bound}
use Rattle.cal_events.specs.declared.instances.InstancePlace.{InstancePlace}
use Rattle.cal_events.specs.declared.places.Moved.{Moved}

abbrev pub place_of : Moved → InstancePlace
place_of m = record { start = m.start; slot = m.slot }

-- ---- what is asked of one

abbrev pub is_past_slot : Option ℤ → ℤ → Bool
is_past_slot None slot = true
is_past_slot (Some last) slot = int_lt last slot

-- it is still to come
abbrev pub is_to_come : Bound → Moved → Bool
is_to_come after m = int_lt after.start m.start || (int_eq after.start m.start && is_past_slot after.slot m.slot)

-- it comes before a place
abbrev pub is_left_of : InstancePlace → Moved → Bool
is_left_of place m = int_lt m.start place.start || (int_eq m.start place.start && int_lt m.slot place.slot)

-- it is there
abbrev pub is_there : InstancePlace → Moved → Bool
is_there place m = int_eq m.start place.start && int_eq m.slot place.slot

-- ---- those of an event's overrides

-- it is one of the overrides, where that is
abbrev pub IsMovedOf : List EventComponent → Moved → Type 0
IsMovedOf os m = (m.which < length os) × ((d : EventComponent) → IsAtPlace (get_or os m.which d) (place_of m))

-- each is, and each override has one
abbrev pub ArePlaces : List EventComponent → List Moved → Type 0
ArePlaces os ms =
    All (IsMovedOf os) ms × ((k : ℕ) (d : EventComponent) (place : InstancePlace) → k < length os → IsAtPlace (get_or os k d) place → list_any (is_there place) ms ≡ true)

-- ---- what is found

abbrev pub IsPlaceToCome : List Moved → Bound → InstancePlace → Type 0
IsPlaceToCome ms after place = (m : Moved) × Contains ms m × (place_of m ≡ place) × IsAfter after place.start place.slot

-- the override of this number is there, or none is
abbrev pub IsWhichAt : List Moved → InstancePlace → Option ℕ → Type 0
IsWhichAt ms place found =
    MatchOption found ((m : Moved) → Contains ms m → place_of m ≡ place → ⊥) (λ k. (m : Moved) × Contains ms m × (place_of m ≡ place) × (m.which ≡ k))
