-- What a reply says of the parts of a message, and what a refresh asks for.
use Rattle.std.specs.Prelude.{◌≡◌, ℕ, ℤ, List, ◌++◌, map, codes, Contains, Some}
use Rattle.std.specs.List.{flat_map, AllZip}
use denote.Ref.{Bor}
use Rattle.ical_values.specs.Octets.{address_octets}
use Rattle.profile.specs.rooms.Revisions.{Part}
use Rattle.profile.specs.rooms.Messages.{IsReplyEvent, IsRefreshEvent, object_lines}
use Rattle.profile.specs.rooms.Rooms.{shown}
use Rattle.profile.specs.text.Lines.{written}
use Rattle.itip_messages.specs.Reply.{AnswersPart, decision_outcome}
use Rattle.itip_messages.specs.declared.reply.ReplyEvent.{ReplyEvent}
use Rattle.itip_order.specs.Parts.{part_of, slot_of}
use Rattle.room_books.specs.declared.meeting.PartAnswer.{PartAnswer}
use Rattle.room_books.specs.declared.claim.Claim.{Claim}
use Rattle.room_books.specs.Meeting.{outcome_of}
use Rattle.room_books.specs.Taking.{claim_said, claims_said, OutcomeDated}
use Rattle.room_books.specs.Room.{SlotDated}

-- these are the claims that a reply shows
abbrev pub AreShown : List Part → List Claim → List (Bor Claim) → Type 0
AreShown history claims are = map (λ claim. claim_said claim.now) are ≡ shown history (claims_said claims)

-- the part has an answer, and all instants can be written
pub record CanTell (answers : List PartAnswer) (part : Part) : Type 0 where
  pub slot : SlotDated part.slot
  pub given : PartAnswer
  pub kept : Contains answers given
  pub same : slot_of given.slot ≡ part.slot
  pub dated : (other : PartAnswer) → Contains answers other → OutcomeDated (outcome_of other.outcome)

abbrev pub AllTell : List PartAnswer → List (Bor Claim) → Type 0
AllTell answers are = (claim : Bor Claim) → Contains are claim → CanTell answers (part_of claim.now.part)

-- the event gives for this room the answer to the part
pub record IsEventIn (room : List ℕ) (answers : List PartAnswer) (part : Part) (event : ReplyEvent) : Type 0 where
  pub given : PartAnswer
  pub kept : Contains answers given
  pub same : slot_of given.slot ≡ part.slot
  pub answers_it : AnswersPart event part
  pub room_is : address_octets event.room.now ≡ room
  pub moment : event.moment ≡ given.moment
  pub outcome : decision_outcome event.decision ≡ outcome_of given.outcome

-- the lines of a VEVENT that gives the answer to the part
pub record ShowsGiven (room : List ℕ) (answers : List PartAnswer) (part : Part) (lines : List (List ℕ)) : Type 0 where
  pub given : PartAnswer
  pub kept : Contains answers given
  pub same : slot_of given.slot ≡ part.slot
  pub shows : IsReplyEvent room part given.moment (outcome_of given.outcome) lines

-- the VEVENTs that give the answers to the parts of these claims
abbrev pub AreToldIn : List ℕ → List PartAnswer → List (Bor Claim) → List (List (List ℕ)) → Type 0
AreToldIn room answers are events = AllZip (λ claim lines. ShowsGiven room answers (part_of claim.now.part) lines) are events

-- new is old and those VEVENTs after it, written
abbrev pub WritesAnswers : List ℕ → List PartAnswer → List (Bor Claim) → List ℕ → List ℕ → Type 0
WritesAnswers room answers are old new =
    (events : List (List (List ℕ))) × AreToldIn room answers are events × (new ≡ old ++ written (flat_map (λ lines. lines) events))

-- the octets are the REPLY of those VEVENTs
pub record IsReplyOf (room : List ℕ) (answers : List PartAnswer) (are : List (Bor Claim)) (octets : List ℕ) : Type 0 where
  pub events : List (List (List ℕ))
  pub each : AreToldIn room answers are events
  pub is : octets ≡ written (object_lines (Some (codes "REPLY")) (flat_map (λ lines. lines) events))

-- the octets are the REFRESH for the meeting of the part
pub record IsRefreshOf (room : List ℕ) (part : Part) (moment : ℤ) (octets : List ℕ) : Type 0 where
  pub lines : List (List ℕ)
  pub shows : IsRefreshEvent room part.organiser part.uid moment lines
  pub is : octets ≡ written (object_lines (Some (codes "REFRESH")) lines)
