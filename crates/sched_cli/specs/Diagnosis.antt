-- What `explain` writes of an object.
use Rattle.std.specs.Prelude.{◌≡◌, ◌⊎◌, ℕ, true, List, [], ◌∷◌, ◌++◌, codes, decimal, Option, None}
use Rattle.std.specs.Io.{StartsWith}
use Rattle.std.specs.Io.KnownBytes.{Appends}
use Rattle.profile.specs.events.EventComponents.{Method, Request, Add, Cancel, Store, Reply, Refresh}
use Rattle.profile.specs.doors.Adapting.{IsAdapted}
use Rattle.profile.specs.events.Messages.{Message, SpellsMessage, MessageTextFault}
use Rattle.ical_tree.specs.Reading.{ObjectHas}
use Rattle.cal_events.specs.Component.{method_said}
use Rattle.itip_messages.specs.declared.message.Message as itip
use Rattle.itip_messages.specs.Blame.{MessageTextBlame}
use Rattle.fault_places.specs.Places.{HasNoLine, IsPlaceOf}
use Rattle.fault_places.specs.EventFlaws.{IsFlawIn, flaw_text}
use Rattle.sched_cli.specs.Explained.{meaning_of}
use Rattle.fault_places.specs.InTheWay.{IsInTheWay}
use Rattle.fault_places.specs.Obstacles.{words_of}
use Rattle.fault_places.specs.declared.event_flaw.PlacedFlaw.{PlacedFlaw}
use Rattle.fault_places.specs.declared.refused_zone.InTheWay.{InTheWay}

-- ---- an object that isn't refused

-- the line of a message, by its METHOD
abbrev pub method_line : Method → List ℕ
method_line Store = codes "not refused: a store\n"
method_line Request = codes "not refused: a REQUEST\n"
method_line Add = codes "not refused: an ADD\n"
method_line Cancel = codes "not refused: a CANCEL\n"
method_line Reply = codes "not refused: a REPLY\n"
method_line Refresh = codes "not refused: a REFRESH\n"

-- that of what was read
abbrev pub message_line : itip.Message → List ℕ
message_line message = method_line (method_said message.method)

-- the octets spell a message, and this is its line
abbrev pub IsTakenLine : List ℕ → List ℕ → Type 0
IsTakenLine octets line = (message : Message) × SpellsMessage octets message × (line ≡ method_line message.method)

-- that line was written
abbrev pub SaysTaken : List ℕ → Option (List ℕ) → Option (List ℕ) → Type 0
SaysTaken octets old new = (line : List ℕ) × IsTakenLine octets line × Appends old new line

-- ---- an object that is refused

-- the octets have the fault of this number: in their lines and components, or in what they say
abbrev pub HasFault : List ℕ → ℕ → Type 0
HasFault octets n = ObjectHas true n octets ⊎ MessageTextFault octets n

-- the property of a place, where it has one
abbrev pub property_text : List ℕ → List ℕ
property_text [] = []
property_text (c ∷ cs) = codes ": " ++ (c ∷ cs)

-- a place, behind the number
abbrev pub place_text : ℕ → List ℕ → List ℕ
place_text line property = codes " at line " ++ (decimal line ++ property_text property)

-- the place of the logical line of this number; nothing where there is none
abbrev pub IsPlaceText : List ℕ → ℕ → List ℕ → Type 0
IsPlaceText octets at text =
    ((text ≡ []) × HasNoLine octets at) ⊎ ((line : ℕ) × (property : List ℕ) × IsPlaceOf octets at line property × (text ≡ place_text line property))

-- what is in the way of a VTIMEZONE: the part that has it, the line on which that begins, and the words
abbrev pub way_text : InTheWay → List ℕ
way_text way = way.part.items ++ (codes " at line " ++ (decimal way.begins ++ (codes ": " ++ words_of way.obstacle)))

-- the octets spell a message
abbrev pub IsMessageText : List ℕ → Type 0
IsMessageText octets = (message : Message) × SpellsMessage octets message

-- the octets that are made are read, or are refused with a number
abbrev pub IsEnding : List ℕ → List ℕ → Type 0
IsEnding octets text =
    (IsMessageText octets × (text ≡ codes "read.\n")) ⊎ ((n : ℕ) × HasFault octets n × (text ≡ codes "refused " ++ (decimal n ++ codes ".\n")))

-- what the door makes of the octets: nothing, or an object, which is read or refused
abbrev pub IsHelp : List ℕ → List ℕ → Type 0
IsHelp octets text =
    (text ≡ codes " `roombox adapt` hands the object on as it is.\n")
    ⊎ ((going_on : List (List ℕ)) × (adapted : List ℕ) × (ending : List ℕ) × IsAdapted None octets going_on adapted × IsEnding adapted ending
    × (text ≡ codes " `roombox adapt` makes an object of it that is " ++ ending))

-- what is written behind the number: the place of the line of this number, and where a VEVENT lacks a property or has it twice a line that tells it; or, where
-- a VTIMEZONE has it, the place of what is in the way there, and a line that tells what it is and what the door makes of the octets
abbrev pub IsReason : List ℕ → ℕ → ℕ → List ℕ → Type 0
IsReason octets n at text =
    ((place : List ℕ) × IsPlaceText octets at place × (text ≡ place ++ codes "\n"))
    ⊎ (((way : InTheWay) × (help : List ℕ) × IsInTheWay octets n way × IsHelp octets help
    × (text ≡ place_text way.place.line way.place.property.items ++ (codes "\n" ++ (way_text way ++ help))))
    ⊎ ((place : List ℕ) × IsPlaceText octets at place × (flaw : PlacedFlaw) × IsFlawIn octets flaw × (text ≡ place ++ (codes "\n" ++ flaw_text flaw))))

-- a line is the number and what it means, and then what to do
abbrev pub IsMeaningOf : ℕ → List ℕ → Type 0
IsMeaningOf n line = StartsWith line (decimal n ++ (codes ": " ++ (meaning_of n ++ codes " What to do: ")))

-- what is written of a number and a line: where the fault is and what it is, and the meaning of the number
pub record IsRefusedText (octets : List ℕ) (n at : ℕ) (text : List ℕ) : Type 0 where
  pub reason : List ℕ
  pub why : IsReason octets n at reason
  pub meaning : List ℕ
  pub own : IsMeaningOf n meaning
  pub is : text ≡ codes "refused " ++ (decimal n ++ (reason ++ meaning))

-- that of a fault of the octets was written
pub record SaysRefused (octets : List ℕ) (old new : Option (List ℕ)) : Type 0 where
  pub number : ℕ
  pub fault : HasFault octets number
  pub at : ℕ
  pub blame : MessageTextBlame octets number at
  pub text : List ℕ
  pub says : IsRefusedText octets number at text
  pub written : Appends old new text
