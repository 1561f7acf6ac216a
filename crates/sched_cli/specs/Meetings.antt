-- What `meetings` writes of what an organiser has stored.
use Rattle.std.specs.Prelude.{◌≡◌, ◌⊎◌, ℕ, ℤ, Bool, List, take, Contains, Option, IfSome}
use Rattle.std.specs.Io.KnownBytes.{Appends, Keeps}
use Rattle.profile.specs.streams.Streams.{Config}
use Rattle.sched_box.specs.Meetings.{KeepsMeetings}
use Rattle.sched_box.specs.Preamble.{OpensStream, OpensNot, StopsInPreamble}
use Rattle.sched_box.specs.Serving.{Ends, HasRead}
use Rattle.sched_box.specs.declared.fault.ServeFault.TheVariants.{Read, Write, TooLong, Memory}
use Rattle.sched_box.specs.declared.fault.StreamFault.{StreamFault}
use Rattle.sched_box.specs.declared.fault.StreamFault.TheVariants.{Refused, Serve}
use Rattle.sched_cli.specs.Commands.{SaysLine, fault_status, fault_text}

-- a preamble and objects were read, and these are the texts of all that the organiser has stored after them
pub record IsShownAfter (input left : Option (List ℕ)) (organiser texts : List ℕ) : Type 0 where
  pub moment : ℤ
  pub hosts : Config
  pub rest : Option (List ℕ)
  pub opens : OpensStream input rest moment hosts
  pub keeps : KeepsMeetings moment hosts rest left organiser texts

-- why there are none of input that is refused or too long: no preamble is at its front, and no octet past its empty line was taken; or
-- the box that it names doesn't host the organiser, and nothing behind it was taken; or 1,073,741,824 octets were read behind it
abbrev pub ShowsNone : Option (List ℕ) → Option (List ℕ) → List ℕ → StreamFault → Type 0
ShowsNone input left organiser (Refused refusal) =
    (refusal.number ≡ 90) × ((IfSome input OpensNot × StopsInPreamble input left)
    ⊎ ((moment : ℤ) × (hosts : Config) × (rest : Option (List ℕ)) × OpensStream input rest moment hosts × (Contains hosts.organisers organiser → ⊥) × Keeps rest left))
ShowsNone input left organiser (Serve TooLong) =
    (moment : ℤ) × (hosts : Config) × (rest : Option (List ℕ)) × OpensStream input rest moment hosts × HasRead 1_073_741_824 rest left
ShowsNone input left organiser (Serve Read) = Unit {0}
ShowsNone input left organiser (Serve Write) = Unit {0}
ShowsNone input left organiser (Serve Memory) = Unit {0}

-- and that was said
pub record RefusesToShow (organiser : List ℕ) (input left old new : Option (List ℕ)) (lost : Bool) : Type 0 where
  pub fault : StreamFault
  pub status : fault_status fault ≡ 3
  pub none : ShowsNone input left organiser fault
  pub said : SaysLine (fault_text fault) old new lost

-- they were written, whole
pub record WritesMeetings (organiser : List ℕ) (ends : Ends) : Type 0 where
  pub texts : List ℕ
  pub shown : IsShownAfter ends.input ends.left organiser texts
  pub written : Appends ends.output ends.written texts

-- a beginning of them was
pub record CutsMeetings (organiser : List ℕ) (ends : Ends) : Type 0 where
  pub texts : List ℕ
  pub shown : IsShownAfter ends.input ends.left organiser texts
  pub count : ℕ
  pub written : Appends ends.output ends.written (take count texts)
