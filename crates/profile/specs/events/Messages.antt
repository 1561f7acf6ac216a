-- Messages between an organiser and the attendees of its meetings (RFC 5546 1.4, 3.2), and what an organiser stores (RFC 6638 3.2.1): what an object
-- says by its METHOD. Which properties are required depends on that; that a store is an object without METHOD is RFC 4791 4.1.
use Rattle.std.specs.Prelude.{◌≡◌, ℕ, ◌<◌, ◌≤◌, Contains, Bool, true, false, not, List, [], ◌∷◌, length, filter, codes, Option, None, Some, is_some, option_map, unwrap_or}
use Rattle.std.specs.List.{list_all, find, AllZip}
use Rattle.std.specs.Str.{bytes_eq}
use Rattle.profile.specs.text.Lines.{line_value, is_same_name, logical_lines, reads_as_lines}
use Rattle.profile.specs.text.Objects.{IsObject}
use Rattle.profile.specs.text.Trees.{Tree, tree_own, vevents}
use Rattle.profile.specs.events.EventComponents.{Method, Store, Request, Add, Cancel, Reply, Refresh, ATTENDEE, presence, is_of_one, NamesWord, Attendee, EventComponent, SaysEventComponent, meeting_said}
use Rattle.profile.specs.events.Properties.{IsMissing, SomeLine, OccursMoreThanOnce}
use Rattle.profile.specs.events.Events.{is_master, is_override, taken_by, TimesDiffer, EventFault}

-- ---- methods

-- the word of METHOD; a store has none
abbrev pub method_word : Method → Option (List ℕ)
method_word Store = None
method_word Request = Some (codes "REQUEST")
method_word Add = Some (codes "ADD")
method_word Cancel = Some (codes "CANCEL")
method_word Reply = Some (codes "REPLY")
method_word Refresh = Some (codes "REFRESH")

-- the METHODs that a word names
abbrev pub named_methods : List Method
named_methods = Request ∷ Add ∷ Cancel ∷ Reply ∷ Refresh ∷ []

-- the word is the method's, caseless
abbrev pub is_word_of : List ℕ → Method → Bool
is_word_of word method = unwrap_or (option_map (is_same_name word) (method_word method)) false

-- the method that a word names, None where it names none that is taken here (RFC 5546 1.4); that PUBLISH, COUNTER and DECLINECOUNTER aren't is
-- this profile's choice
abbrev pub method_named : List ℕ → Option Method
method_named word = find (is_word_of word) named_methods

abbrev pub is_method : List ℕ → Bool
is_method word = is_some (method_named word)

-- METHOD among the lines of a VCALENDAR is this word, or is missing
abbrev pub NamesMethodBy : Option (List ℕ) → List (List ℕ) → Type 0
NamesMethodBy None own = IsMissing (codes "METHOD") own
NamesMethodBy (Some word) own = NamesWord own word

abbrev pub NamesMethod : List (List ℕ) → Method → Type 0
NamesMethod own method = NamesMethodBy (method_word method) own

-- an organiser speaks to rooms (RFC 5546 3.2.2, 3.2.4, 3.2.5)
abbrev pub is_to_rooms : Method → Bool
is_to_rooms Store = false
is_to_rooms Request = true
is_to_rooms Add = true
is_to_rooms Cancel = true
is_to_rooms Reply = false
is_to_rooms Refresh = false

-- an attendee speaks to the organiser (RFC 5546 3.2.3, 3.2.6)
abbrev pub is_of_attendee : Method → Bool
is_of_attendee Store = false
is_of_attendee Request = false
is_of_attendee Add = false
is_of_attendee Cancel = false
is_of_attendee Reply = true
is_of_attendee Refresh = true

-- ---- attendees

-- the lines are of one address, and there is one
abbrev pub are_of_one : List Attendee → Bool
are_of_one [] = false
are_of_one (first ∷ others) = list_all (λ other. bytes_eq other.address first.address) others

-- the VEVENT has one attendee; several lines of one address are one (RFC 5546 3.2.3, 3.2.6)
abbrev pub has_one_attendee : EventComponent → Bool
has_one_attendee event = are_of_one event.attendees

-- the lines of a VEVENT that count: of several of one address the first
abbrev pub counted : List Attendee → List Attendee
counted [] = []
counted (attendee ∷ rest) = attendee ∷ filter (λ other. not (bytes_eq attendee.address other.address)) (counted rest)

-- ---- what an object says

-- what is asked for, of which meeting, and the events of the VEVENTs in the order of the text, as METHOD takes them
pub record Message : Type 0 where
  pub method : Method
  pub organiser : List ℕ
  pub uid : List ℕ
  pub events : List EventComponent

-- these are VEVENTs of one meeting: at most one is for the whole of it, and no two name the same instance by the same time
pub record AreOfMeeting (organiser uid : List ℕ) (events : List EventComponent) : Type 0 where
  pub some : 0 < length events
  pub of_it : (event : EventComponent) → Contains events event → meeting_said event ≡ (organiser, uid)
  pub masters : length (filter is_master events) ≤ 1
  pub differ : TimesDiffer (filter is_override events)

-- the event for the whole meeting, if it is among these
abbrev pub master_in : List EventComponent → Option EventComponent
master_in events = find is_master events

-- a VCALENDAR says this message; where METHOD asks for one attendee, each VEVENT has one
pub record SaysMessage (object : Tree) (message : Message) : Type 0 where
  pub method : NamesMethod (tree_own object) message.method
  pub events : List EventComponent
  pub says : AllZip (SaysEventComponent object (Some message.method)) (vevents object) events
  pub taken : message.events ≡ taken_by (Some message.method) events
  pub are : AreOfMeeting message.organiser message.uid message.events
  pub one_each : is_of_one (presence ATTENDEE (Some message.method)) ≡ true → list_all has_one_attendee message.events ≡ true

-- the octets are one VCALENDAR, within the limits of a message, and say this message
pub record SpellsMessage (octets : List ℕ) (message : Message) : Type 0 where
  pub lines : reads_as_lines true octets ≡ true
  pub tree : Tree
  pub object : IsObject true tree (logical_lines octets)
  pub says : SaysMessage tree message

-- ---- what can be wrong with a message, by the number of its refusal

-- the VCALENDAR's lines have the fault of this number
pub data MethodFault (own : List (List ℕ)) : ℕ → Type 0 where
  two_methods : OccursMoreThanOnce (codes "METHOD") own → MethodFault own 60
  bad_method : SomeLine (codes "METHOD") (λ line. is_method (line_value line) ≡ false) own → MethodFault own 60

-- the lines of a VCALENDAR or of its VEVENTs have the fault of this number
pub data MessageFault (object : Tree) : ℕ → Type 0 where
  in_method : {n : ℕ} → MethodFault (tree_own object) n → MessageFault object n
  -- in one VEVENT, or between them
  in_meeting : {n : ℕ} → (method : Method) → NamesMethod (tree_own object) method → EventFault None object (Some method) n → MessageFault object n
  -- METHOD asks for one attendee, and a VEVENT doesn't have one
  not_one : (method : Method) → NamesMethod (tree_own object) method → is_of_one (presence ATTENDEE (Some method)) ≡ true → (events : List EventComponent)
      → AllZip (SaysEventComponent object (Some method)) (vevents object) events → list_all has_one_attendee events ≡ false → MessageFault object 64

-- the octets are one VCALENDAR, within the limits of a message, and it has the fault of this number
pub record MessageTextFault (octets : List ℕ) (n : ℕ) : Type 0 where
  pub tree : Tree
  pub object : IsObject true tree (logical_lines octets)
  pub fault : MessageFault tree n
