-- The instants that a recurrence keeps in order.
use Rattle.std.specs.Prelude.{◌≡◌, ◌↔◌, true, Contains, List, Option, MatchOption, ℤ, ◌≤ℤ◌}
use Rattle.std.specs.List.{list_any}
use Rattle.std.specs.Ordering.{int_eq}
use Rattle.profile.specs.events.EventComponents.{EventComponent}
use Rattle.profile.specs.events.Starts.{IsReplaced}
use Rattle.cal_events.specs.MeetingComponents.{IsInEventDates}

-- the least of them that isn't before an instant, if there is one
abbrev pub IsFirstFrom : List ℤ → ℤ → Option ℤ → Type 0
IsFirstFrom instants from found =
    MatchOption found ((t : ℤ) → Contains instants t → from ≤ℤ t → ⊥)
    (λ t. Contains instants t × (from ≤ℤ t) × ((u : ℤ) → Contains instants u → from ≤ℤ u → t ≤ℤ u))

-- one of them is this one
abbrev pub HasInstant : List ℤ → ℤ → Type 0
HasInstant instants t = list_any (λ own. int_eq own t) instants ≡ true

-- an instant is a start where it is given: it is in the dates that an event may name, and none of these excepts it
abbrev pub IsAdmitted : List ℤ → ℤ → Type 0
IsAdmitted exceptions t = IsInEventDates t × (Contains exceptions t → ⊥)

-- each of them is one
abbrev pub AreStarts : List ℤ → List ℤ → Type 0
AreStarts starts exceptions = (t : ℤ) → HasInstant starts t → IsAdmitted exceptions t

-- they are those of the instants that are
abbrev pub AreStartsOf : List ℤ → List ℤ → List ℤ → Type 0
AreStartsOf instants exceptions starts = (t : ℤ) → Contains starts t ↔ (Contains instants t × IsAdmitted exceptions t)

-- overrides replace none but these instants
abbrev pub AreReplacedIn : List EventComponent → List ℤ → Type 0
AreReplacedIn overrides exceptions = (t : ℤ) → IsReplaced (Contains overrides) t → HasInstant exceptions t
