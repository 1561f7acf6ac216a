-- The organiser that an object names takes or refuses it, and the others are as before.
use Rattle.std.proofs.Common.{◌≡◌, ℕ, zero, suc, ◌<◌, ℤ, false, List, [], ◌∷◌, length, map, get_or, set, Contains, refl, sym, ap, subst, ◌∙◌, arith}
use Rattle.std.specs.List.{list_any}
use Rattle.std.specs.Str.{bytes_eq}
use Rattle.std.proofs.lemmas.Simd.{map-map}
use Rattle.ical_lines.specs.Fault.{RefusesBy}
use Rattle.ical_lines.specs.declared.fault.Fault.{Fault}
use Rattle.ical_lines.specs.declared.fault.Fault.TheVariants.{Refused, Memory}
use Rattle.ical_values.specs.Octets.{address_octets}
use Rattle.ical_values.specs.Refused.{IfRefused}
use Rattle.ical_values.specs.declared.address.Address.{Address}
use Rattle.itip_messages.specs.Message.{RepresentsMessage}
use Rattle.cal_events.specs.Component.{method_said}
use Rattle.itip_messages.specs.declared.message.Message.{Message}
use Rattle.organiser_books.specs.Calls.{AnswersRefresh, CallFault, MayTake, other_kind, other_organiser, in_state as call_in_state, sent_of}
use Rattle.organiser_books.specs.Representation.{Keeps, address_of}
use Rattle.organiser_books.specs.declared.organiser.Organiser.{Organiser}
use Rattle.organiser_books.specs.declared.outgoing.Outgoing.{Outgoing}
use Rattle.profile.specs.events.Messages as profile
use Rattle.profile.specs.events.EventComponents as events
use Rattle.profile.specs.events.EventComponents.{Method}
use Rattle.profile.specs.organisers.Organisers.{OrganiserBook, Sent, IsStore, StateFault, after_reply}
use Rattle.profile.specs.streams.Streams.{HostedOrganiser, ServesMessage, ServesMethod, not_hosted, in_state}
use Rattle.profile.specs.streams.Worlds as worlds
use Rattle.profile.specs.streams.Worlds.{ChangesOne}
use Rattle.sched_box.proofs.HostLemmas.{MadeSofar, none_hosted, one_behind}
use Rattle.sched_box.specs.Organising.{AreKeptBy, IsKeptBy, KeepBooks, KeepsBook, OrganiserRefuses, OrganiserTakes, OrganisersRefuse, OrganisersTake, nothing_kept, organiser_addresses}

-- ---- one organiser, by the call for what is asked

-- what is taken by that call
served : (method : Method) (moment : ℤ) (address : List ℕ) (said : profile.Message) (book after : OrganiserBook) (sent : List (List ℕ)) → said.method ≡ method
    → MayTake method address said book → ServesMethod method moment said book after sent → ServesMessage moment said book after sent
served method moment address said book after sent kind may serves = record {
  allowed = may.allowed;
  serves = subst (λ o. ServesMethod o moment said book after sent) (sym kind) serves;
}

-- what is refused by it
call_fault : (method : Method) (address : List ℕ) (said : profile.Message) (book : OrganiserBook) (n : ℕ) → said.method ≡ method → said.organiser ≡ address
    → CallFault method address said book n → StateFault said book n
call_fault method address said book n kind to (other_kind no') = absurd (no' kind)
call_fault method address said book n kind to (other_organiser same no') = absurd (no' to)
call_fault method address said book n kind to (call_in_state is own fault) = fault

pub refused_by : (method : Method) (object : Message) (organiser : Organiser) (f : Fault) → method_said object.method ≡ method
    → RefusesBy (λ n. (said : profile.Message) → RepresentsMessage object said → (book : OrganiserBook) → Keeps organiser book → CallFault method (address_of organiser) said book n) f
    → RefusesBy (OrganiserRefuses object organiser) f
refused_by method object organiser Memory kind h = tt
refused_by method object organiser (Refused r) kind h =
    λ said represented to book keeps. call_fault method (address_of organiser) said book r.number (sym represented.method ∙ kind) to (h said represented book keeps)

pub store_takes : (moment : ℤ) (object : Message) (old new : Organiser) (sent : List Outgoing) (objects : List (List ℕ)) → method_said object.method ≡ events.Store
    → ((said : profile.Message) → RepresentsMessage object said → (book : OrganiserBook) → Keeps old book
    → MayTake events.Store (address_of old) said book × ((after : OrganiserBook) × IsStore moment said book (map sent_of sent) after × Keeps new after))
    → objects ≡ map (λ one. one.octets.items) sent → OrganiserTakes moment object old new objects
store_takes moment object old new sent objects kind steps are said represented to book keeps =
    let (may, (after, store, has)) = steps said represented book keeps in
    let same : objects ≡ map (λ (one : Sent). one.octets) (map sent_of sent) = are ∙ sym (map-map (λ (one : Sent). one.octets) sent_of sent) in
    (after, has, served events.Store moment (address_of old) said book after objects (sym represented.method ∙ kind) may (map sent_of sent, store, same))

pub reply_takes : (moment : ℤ) (object : Message) (old new : Organiser) (objects : List (List ℕ)) → method_said object.method ≡ events.Reply
    → ((said : profile.Message) → RepresentsMessage object said → (book : OrganiserBook) → Keeps old book
    → MayTake events.Reply (address_of old) said book × Keeps new (after_reply said book))
    → objects ≡ [] → OrganiserTakes moment object old new objects
reply_takes moment object old new objects kind steps none said represented to book keeps =
    let (may, has) = steps said represented book keeps in
    (after_reply said book, has, served events.Reply moment (address_of old) said book (after_reply said book) objects (sym represented.method ∙ kind) may (refl, none))

pub refresh_takes : (moment : ℤ) (object : Message) (organiser : Organiser) (octets : List ℕ) (objects : List (List ℕ)) → method_said object.method ≡ events.Refresh
    → ((said : profile.Message) → RepresentsMessage object said → (book : OrganiserBook) → Keeps organiser book
    → MayTake events.Refresh (address_of organiser) said book × AnswersRefresh said book octets)
    → objects ≡ octets ∷ [] → OrganiserTakes moment object organiser organiser objects
refresh_takes moment object organiser octets objects kind steps are said represented to book keeps =
    let (may, (stored, last, is)) = steps said represented book keeps in
    (book, keeps, served events.Refresh moment (address_of organiser) said book book objects (sym represented.method ∙ kind) may (stored, last, refl, are ∙ ap (λ o. o ∷ []) is))

-- ---- the one in its place

-- the addresses stay
pub same_addresses : (olds : List Organiser) (place : ℕ) (d new : Organiser) → address_of new ≡ address_of (get_or olds place d) → organiser_addresses (set olds place new) ≡ organiser_addresses olds
same_addresses [] place d new same = refl
same_addresses (o ∷ os) zero d new same = ap (λ a. a ∷ organiser_addresses os) same
same_addresses (o ∷ os) (suc place) d new same = ap (λ z. address_of o ∷ z) (same_addresses os place d new same)

-- the address in its place is its own
named_at : (olds : List Organiser) (place : ℕ) (d : Organiser) (a : List ℕ) → place < length olds → get_or (organiser_addresses olds) place [] ≡ a → address_of (get_or olds place d) ≡ a
named_at [] place d a within is = absurd (omega arith)
named_at (o ∷ os) zero d a within is = is
named_at (o ∷ os) (suc place) d a within is = named_at os place d a (omega arith) is

take_in : (moment : ℤ) (said : profile.Message) (olds : List Organiser) (place : ℕ) (d new : Organiser) (sent : List (List ℕ)) → place < length olds
    → said.organiser ≡ address_of (get_or olds place d) → address_of new ≡ address_of (get_or olds place d)
    → ((book : OrganiserBook) → Keeps (get_or olds place d) book → (after : OrganiserBook) × Keeps new after × ServesMessage moment said book after sent)
    → (before : List HostedOrganiser) → AreKeptBy olds before
    → (after : List HostedOrganiser) × AreKeptBy (set olds place new) after × ChangesOne (worlds.OrganiserTakes said.organiser moment said sent) before after
take_in moment said [] place d new sent within to same takes before have = absurd (omega arith)
take_in moment said (o ∷ os) place d new sent within to same takes [] have = absurd have
take_in moment said (o ∷ os) zero d new sent within to same takes (b ∷ bs) have =
    let (book, keeps, taken) = takes b.book have.0.keeps in (
      record { address = b.address; book = book } ∷ bs,
      (record { at = have.0.at ∙ sym same; keeps = keeps }, have.1),
      record {
        ahead = [];
        behind = bs;
        old = b;
        new = record { address = b.address; book = book };
        changes = record { address = have.0.at ∙ sym to; same = refl; named = refl; serves = taken };
        of_these = refl;
        to_these = refl;
      },
    )
take_in moment said (o ∷ os) (suc place) d new sent within to same takes (b ∷ bs) have =
    let (after, hosted, one) = take_in moment said os place d new sent (omega arith) to same takes bs have.1 in
    (b ∷ after, (have.0, hosted), one_behind b one)

-- the object names the organiser in this place
abbrev pub IsNamed : Message → List Organiser → ℕ → Type 0
IsNamed object olds place = get_or (organiser_addresses olds) place [] ≡ address_octets object.organiser

named : (object : Message) (said : profile.Message) (olds : List Organiser) (place : ℕ) (d : Organiser) → place < length olds → IsNamed object olds place → RepresentsMessage object said
    → said.organiser ≡ address_of (get_or olds place d)
named object said olds place d within is represented = sym (named_at olds place d said.organiser within (is ∙ represented.organiser))

pub taken_at : (moment : ℤ) (object : Message) (olds : List Organiser) (place : ℕ) (d new : Organiser) (sent : List (List ℕ)) → place < length olds → IsNamed object olds place
    → address_of new ≡ address_of (get_or olds place d) → OrganiserTakes moment object (get_or olds place d) new sent → OrganisersTake moment object olds (set olds place new) sent
taken_at moment object olds place d new sent within is same takes said represented before have =
    let to = named object said olds place d within is represented in
    take_in moment said olds place d new sent within to same (takes said represented to) before have

fault_in : (said : profile.Message) (n : ℕ) (olds : List Organiser) (place : ℕ) (d : Organiser) → place < length olds → said.organiser ≡ address_of (get_or olds place d)
    → ((book : OrganiserBook) → Keeps (get_or olds place d) book → StateFault said book n) → (before : List HostedOrganiser) → AreKeptBy olds before
    → (host : HostedOrganiser) × Contains before host × (host.address ≡ said.organiser) × StateFault said host.book n
fault_in said n [] place d within to fault before have = absurd (omega arith)
fault_in said n (o ∷ os) place d within to fault [] have = absurd have
fault_in said n (o ∷ os) zero d within to fault (b ∷ bs) have = (b, (zero, omega arith, refl), have.0.at ∙ sym to, fault b.book have.0.keeps)
fault_in said n (o ∷ os) (suc place) d within to fault (b ∷ bs) have =
    let (host, (k, l, is), address, represented) = fault_in said n os place d (omega arith) to fault bs have.1 in
    (host, (suc k, omega arith, is), address, represented)

pub refused_at : (object : Message) (olds : List Organiser) (place : ℕ) (d : Organiser) (f : Fault) → place < length olds → IsNamed object olds place
    → RefusesBy (OrganiserRefuses object (get_or olds place d)) f → RefusesBy (OrganisersRefuse object olds) f
refused_at object olds place d Memory within is h = tt
refused_at object olds place d (Refused r) within is h = λ said represented before have.
    let to = named object said olds place d within is represented in
    let (host, among, address, fault) = fault_in said r.number olds place d within to (h said represented to) before have in
    in_state host among address fault

keep_in : (olds : List Organiser) (place : ℕ) (d new : Organiser) → address_of new ≡ address_of (get_or olds place d) → KeepsBook (get_or olds place d) new → KeepBooks olds (set olds place new)
keep_in [] place d new same keeps before have = have
keep_in (o ∷ os) place d new same keeps [] have = absurd have
keep_in (o ∷ os) zero d new same keeps (b ∷ bs) have = (record { at = have.0.at ∙ sym same; keeps = keeps b.book have.0.keeps }, have.1)
keep_in (o ∷ os) (suc place) d new same keeps (b ∷ bs) have = (have.0, keep_in os place d new same keeps bs have.1)

pub kept_at : (olds : List Organiser) (place : ℕ) (d new : Organiser) (f : Fault) → address_of new ≡ address_of (get_or olds place d)
    → IfRefused (KeepsBook (get_or olds place d) new) f → IfRefused (KeepBooks olds (set olds place new)) f
kept_at olds place d new Memory same h = tt
kept_at olds place d new (Refused r) same h = keep_in olds place d new same h

-- ---- one that isn't hosted

pub refused_unhosted : (object : Message) (olds : List Organiser) → list_any (bytes_eq (address_octets object.organiser)) (organiser_addresses olds) ≡ false → OrganisersRefuse object olds 70
refused_unhosted object olds none said represented before have =
    let to : address_octets object.organiser ≡ said.organiser = represented.organiser in
    not_hosted (none_hosted address_of (λ host. host.address) IsKeptBy (λ organiser host is. is.at) said.organiser olds before (subst (λ a. list_any (bytes_eq a) (organiser_addresses olds) ≡ false) to none) have)

-- ---- empty organisers

abbrev pub MadeOrganisers : List Address → ℕ → List Organiser → Type 0
MadeOrganisers = MadeSofar address_of IsKeptBy nothing_kept
