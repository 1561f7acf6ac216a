-- What the calls of an organiser take, answer and refuse.
use Rattle.std.specs.Prelude.{◌≡◌, ◌≢◌, ℕ, Bool, ◌||◌, ◌==◌, List, map, Some}
use Rattle.ical_values.specs.Octets.{address_octets}
use Rattle.profile.specs.faults.Faults.{is_organiser_fault}
use Rattle.profile.specs.events.EventComponents.{Method}
use Rattle.profile.specs.events.Messages.{Message}
use Rattle.profile.specs.organisers.Organisers.{OrganiserBook, Sent, Stored, StateFault, last_store}
use Rattle.organiser_books.specs.declared.outgoing.Outgoing.{Outgoing}

-- what an organiser sends
abbrev pub sent_of : Outgoing → Sent
sent_of outgoing = record { to = map address_octets outgoing.to.items; octets = outgoing.octets.items }

-- an organiser of this address, which keeps this book, takes the object by the call for this METHOD
pub record MayTake (method : Method) (address : List ℕ) (said : Message) (book : OrganiserBook) : Type 0 where
  pub kind : said.method ≡ method
  pub organiser : said.organiser ≡ address
  pub allowed : (n : ℕ) → StateFault said book n → ⊥

-- and refuses it by that call: it is of another kind, or to another organiser, or it has a fault beside what is kept
pub data CallFault (method : Method) (address : List ℕ) (said : Message) (book : OrganiserBook) : ℕ → Type 0 where
  other_kind : said.method ≢ method → CallFault method address said book 60
  other_organiser : said.method ≡ method → said.organiser ≢ address → CallFault method address said book 70
  in_state : {n : ℕ} → said.method ≡ method → said.organiser ≡ address → StateFault said book n → CallFault method address said book n

-- their numbers
abbrev pub is_call_fault : ℕ → Bool
is_call_fault n = n == 60 || is_organiser_fault n

-- a REFRESH is answered so: with what was made of the last store
abbrev pub AnswersRefresh : Message → OrganiserBook → List ℕ → Type 0
AnswersRefresh said book octets = (stored : Stored) × (last_store said.uid book ≡ Some stored) × (octets ≡ stored.object)
