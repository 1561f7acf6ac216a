-- Which property of a VEVENT is missing, or there twice, and where it is in the octets (RFC 5545 3.6.1).
use Rattle.std.specs.Prelude.{◌≡◌, ℕ, Bool, true, Contains, List, ◌++◌, codes, decimal, Option, Some, None}
use Rattle.std.specs.List.{enumerate_from}
use Rattle.ical_tree.specs.Tree.{ArePlaced, IsObjectOf, component_children, component_lines, component_name}
use Rattle.ical_tree.specs.declared.component.Component.{Component}
use Rattle.profile.specs.text.Lines.{is_same_name, logical_lines, reads_as_lines}
use Rattle.profile.specs.text.Objects.{IsObject}
use Rattle.profile.specs.text.Trees.{Tree, tree_own, vevents}
use Rattle.profile.specs.events.EventComponents.{Method, Property, PresenceFault, is_once, missing_number, occurs_once, presence, property_name}
use Rattle.profile.specs.events.Messages.{NamesMethod}
use Rattle.profile.specs.events.Properties.{IsMissing, OccursMoreThanOnce, SomeLine}
use Rattle.fault_places.specs.Obstacles.{IsFirstLine, IsSecondLine, text_of}
use Rattle.fault_places.specs.Places.{IsSpotOf}
use Rattle.fault_places.specs.declared.event_flaw.EventFlaw.{EventFlaw}
use Rattle.fault_places.specs.declared.event_flaw.Flaw.{Flaw}
use Rattle.fault_places.specs.declared.event_flaw.FlawKind.{FlawKind}
use Rattle.fault_places.specs.declared.event_flaw.FlawKind.TheVariants.{Missing, Twice, Beside}
use Rattle.fault_places.specs.declared.event_flaw.ObjectFlaw.{ObjectFlaw}
use Rattle.fault_places.specs.declared.event_flaw.ObjectFlaw.TheVariants.{Placed, Unplaced, Absent}
use Rattle.fault_places.specs.declared.event_flaw.PlacedFlaw.{PlacedFlaw}

-- these lines of a VEVENT lack the property; or this is the second line of it; or this one stands beside a DTEND
abbrev pub IsFlawOf : List (List ℕ) → FlawKind → List ℕ → Option (List ℕ) → Type 0
IsFlawOf lines Missing property None = IsMissing property lines
IsFlawOf lines Twice property (Some line) = IsSecondLine property lines line
IsFlawOf lines Beside property (Some line) = (property ≡ codes "DURATION") × (end : List ℕ) × IsFirstLine (codes "DTEND") lines end × IsFirstLine (codes "DURATION") lines line
IsFlawOf lines _ property _ = ⊥

abbrev pub IsFlaw : List (List ℕ) → Flaw → Type 0
IsFlaw lines flaw = IsFlawOf lines flaw.kind flaw.property.now (text_of flaw.line)

-- a VEVENT among these components has it
pub record FlawIn (components : List Component) (found : EventFlaw) : Type 0 where
  pub among : Contains components found.event.now
  pub is_event : is_same_name (component_name found.event.now) (codes "VEVENT") ≡ true
  pub flaw : IsFlaw (component_lines found.event.now) found.flaw

-- this is what was found, and the octets have it there: the VEVENT begins on this line, and that line is wrong
pub record IsFlawPlaced (octets : List ℕ) (found : EventFlaw) (flaw : PlacedFlaw) : Type 0 where
  pub kind : flaw.kind ≡ found.flaw.kind
  pub property : flaw.property.items ≡ found.flaw.property.now
  pub event : flaw.event.items ≡ component_name found.event.now
  pub spot : IsSpotOf octets found.event.now (text_of found.flaw.line) (record { begins = flaw.begins; place = flaw.place })

-- the octets are an object, of which a VEVENT has this flaw there
pub record IsFlawIn (octets : List ℕ) (flaw : PlacedFlaw) : Type 0 where
  pub object : Component
  pub spelled : IsObjectOf true object (logical_lines octets)
  pub numbered : ArePlaced (enumerate_from 1 (logical_lines octets)) object
  pub found : EventFlaw
  pub has : FlawIn (component_children object) found
  pub placed : IsFlawPlaced octets found flaw

-- the octets are an object, of which a VEVENT has a flaw
pub record HasFlaw (octets : List ℕ) : Type 0 where
  pub object : Component
  pub spelled : IsObjectOf true object (logical_lines octets)
  pub found : EventFlaw
  pub has : FlawIn (component_children object) found

-- ---- no flaw

-- how often the properties of a VEVENT of an object of this METHOD occur has the fault of this number; or DURATION stands beside DTEND
pub data PropertiesFault (method : Method) (lines : List (List ℕ)) : ℕ → Type 0 where
  in_presence : {n : ℕ} → PresenceFault (Some method) lines n → PropertiesFault method lines n
  end_and_duration : SomeLine (codes "DTEND") (λ _. Unit {0}) lines → SomeLine (codes "DURATION") (λ _. Unit {0}) lines → PropertiesFault method lines 61

-- where the octets are one object, within the limits of a message, no VEVENT of it has a fault of this number in its properties
abbrev pub HasNoFlaw : List ℕ → ℕ → Type 0
HasNoFlaw octets n =
    (object : Tree) → reads_as_lines true octets ≡ true → IsObject true object (logical_lines octets)
    → (method : Method) → NamesMethod (tree_own object) method
    → (lines : List (List ℕ)) → Contains (vevents object) lines → PropertiesFault method lines n → ⊥

-- what is told of octets that are refused with this number
abbrev pub IsToldFlaw : List ℕ → ℕ → ObjectFlaw → Type 0
IsToldFlaw octets n (Placed flaw) = IsFlawIn octets flaw
IsToldFlaw octets n Unplaced = HasFlaw octets
IsToldFlaw octets n Absent = HasNoFlaw octets n

-- ---- the same of components as the code has them, and of one property

abbrev pub IsFree : Method → ℕ → List (List ℕ) → Type 0
IsFree method n lines = PropertiesFault method lines n → ⊥

abbrev pub AreFree : Method → ℕ → List Component → Type 0
AreFree method n components =
    (event : Component) → Contains components event → is_same_name (component_name event) (codes "VEVENT") ≡ true → IsFree method n (component_lines event)

-- it isn't there twice, and is there where it is needed
pub record OccursRightly (needed : Bool) (name : List ℕ) (lines : List (List ℕ)) : Type 0 where
  pub once : OccursMoreThanOnce name lines → ⊥
  pub there : needed ≡ true → IsMissing name lines → ⊥

-- the property has no fault 61
pub record IsRight (method : Method) (lines : List (List ℕ)) (property : Property) : Type 0 where
  pub once : occurs_once property ≡ true → OccursMoreThanOnce (property_name property) lines → ⊥
  pub there : is_once (presence property (Some method)) ≡ true → missing_number property ≡ 61 → IsMissing (property_name property) lines → ⊥

abbrev pub AreRight : Method → List (List ℕ) → List Property → Type 0
AreRight method lines properties = (property : Property) → Contains properties property → IsRight method lines property

-- ---- what is said of it

-- what is said of it, behind the VEVENT
abbrev pub flaw_words : FlawKind → List ℕ → List ℕ
flaw_words Missing property = codes "it has no " ++ (property ++ codes ".\n")
flaw_words Twice property = property ++ codes " occurs twice in it.\n"
flaw_words Beside property = property ++ codes " stands beside DTEND in it.\n"

abbrev pub flaw_text : PlacedFlaw → List ℕ
flaw_text flaw = flaw.event.items ++ (codes " at line " ++ (decimal flaw.begins ++ (codes ": " ++ flaw_words flaw.kind flaw.property.items)))
