-- What `expand` prints of the event that an object says, while it goes through its instances.
use Rattle.std.specs.Prelude.{◌≡◌, ◌⊎◌, ◌≤◌, ℕ, ◌≤ℤ◌, List, ◌++◌, All, AllPairs, Contains, Bool, true, false, length, Option, Some}
use Rattle.std.specs.List.{AllZip, concat}
use Rattle.std.specs.Io.KnownBytes.{Appends}
use Rattle.profile.specs.text.Values.{IsClockSeconds}
use Rattle.profile.specs.checker.Instances.{Instance as SaidInstance}
use Rattle.profile.specs.series.Zones.{Zone}
use Rattle.profile.specs.events.Events.{Event}
use Rattle.profile.specs.events.Starts.{IsInstance, ComesBefore}
use Rattle.profile.specs.events.Expanding.{IsInstanceLine, IsExpansion}
use Rattle.cal_events.specs.Calendar.{instance_of}
use Rattle.cal_events.specs.Left.{IsLeft, GivesFirst}
use Rattle.cal_events.specs.declared.instance.Instance.{Instance}
use Rattle.cal_events.specs.declared.instances.Instances.{Instances}

-- an instance has a line: both its starts are in years that a stamp writes, and it doesn't end before it starts
pub record HasLine (instance : SaidInstance) : Type 0 where
  pub slot : IsClockSeconds instance.key.slot
  pub start : IsClockSeconds instance.start
  pub ends : instance.start ≤ℤ instance.end

-- that is its line, if it has one
abbrev pub IsPrintedLine : SaidInstance → List ℕ → Type 0
IsPrintedLine instance line = HasLine instance → IsInstanceLine instance line

-- of these octets all but the text were written
abbrev pub IsHandedOver : Option (List ℕ) → Option (List ℕ) → List ℕ → List ℕ → Type 0
IsHandedOver old new text octets = (written : List ℕ) × Appends old new written × (written ++ text ≡ octets)

-- one of them has the start and the slot of an instance
abbrev pub HasPlaceIn : List SaidInstance → SaidInstance → Type 0
HasPlaceIn instances b = (a : SaidInstance) × Contains instances a × (a.start ≡ b.start) × (a.key.slot ≡ b.key.slot)

-- the first instances of a meeting, so many of them, or all where there are fewer, as far as they have different places and lines
pub record AreFirstPlaces (meeting : Event) (limit : ℕ) (instances : List SaidInstance) : Type 0 where
  pub each : All (IsInstance meeting) instances
  pub ordered : AllPairs ComesBefore instances
  pub short : length instances ≤ limit
  pub others : (b : SaidInstance) → IsInstance meeting b → HasLine b
      → HasPlaceIn instances b ⊎ ((length instances ≡ limit) × All (λ a. ComesBefore a b) instances)

-- their lines; all but the text were written
pub record PrintsFirst (meeting : Event) (limit : ℕ) (old new : Option (List ℕ)) (text : List ℕ) : Type 0 where
  pub instances : List SaidInstance
  pub first : AreFirstPlaces meeting limit instances
  pub lines : List (List ℕ)
  pub each : AllZip IsPrintedLine instances lines
  pub written : IsHandedOver old new text (concat lines)

-- so many were gone through, in order; the others are left
pub record AreGoneThrough (meeting : Event) (left : Instances) (count : ℕ) (done : List SaidInstance) : Type 0 where
  pub its : (b : SaidInstance) → IsLeft left b → IsInstance meeting b
  pub each : All (IsInstance meeting) done
  pub ordered : AllPairs ComesBefore done
  pub counted : length done ≡ count
  pub later : (b : SaidInstance) → IsLeft left b → All (λ a. ComesBefore a b) done
  pub others : (b : SaidInstance) → IsInstance meeting b → HasLine b → HasPlaceIn done b ⊎ IsLeft left b

-- and their lines written, but for the text
pub record PrintsUpTo (meeting : Event) (left : Instances) (count : ℕ) (old new : Option (List ℕ)) (text : List ℕ) : Type 0 where
  pub done : List SaidInstance
  pub gone : AreGoneThrough meeting left count done
  pub lines : List (List ℕ)
  pub each : AllZip IsPrintedLine done lines
  pub written : IsHandedOver old new text (concat lines)

-- the line of the next was written, but for the text behind it; or none is left
abbrev pub PrintsNext : Bool → Instances → Instances → Option (List ℕ) → Option (List ℕ) → List ℕ → List ℕ → Type 0
PrintsNext true left rest old new text after =
    (i : Instance) × GivesFirst left (Some i) rest × ((line : List ℕ) × IsPrintedLine (instance_of i) line × IsHandedOver old new after (text ++ line))
PrintsNext false left rest old new text after = ((b : SaidInstance) → IsLeft left b → ⊥) × IsHandedOver old new after text

-- the lines of the first instances were written, whole
abbrev pub ExpandsTo : Option Zone → List ℕ → ℕ → Option (List ℕ) → Option (List ℕ) → Type 0
ExpandsTo room octets limit old new = (text : List ℕ) × IsExpansion room octets limit text × Appends old new text
