-- What a box answers to one object, from what its rooms or its organisers do.
use Rattle.std.proofs.Common.{◌≡◌, ◌∙◌, ℕ, ℤ, Bool, true, false, List, ◌∷◌, ◌++◌, ap, inl, inr, refl, sym, subst}
use Rattle.std.specs.List.{flat_map}
use Rattle.ical_lines.specs.Fault.{RefusesBy}
use Rattle.ical_lines.specs.declared.fault.Fault.{Fault}
use Rattle.ical_lines.specs.declared.fault.Fault.TheVariants.{Refused, Memory}
use Rattle.cal_events.specs.Component.{method_said}
use Rattle.itip_messages.specs.Message.{IsSpelled, RepresentsMessage}
use Rattle.itip_messages.specs.declared.message.Message.{Message}
use Rattle.profile.specs.events.Messages as profile
use Rattle.profile.specs.events.Messages.{is_to_rooms}
use Rattle.profile.specs.rooms.Messages.{is_cancel}
use Rattle.profile.specs.streams.Reports as reports
use Rattle.profile.specs.streams.Reports.{Becomes, Fate, Taken}
use Rattle.profile.specs.streams.Streams.{HostedOrganiser, IsTaken, ObjectFault, StepsFor, refused_line}
use Rattle.profile.specs.streams.Worlds as worlds
use Rattle.profile.specs.streams.Worlds.{ChangesOne}
use Rattle.sched_box.specs.Answering.{AreHosted, RoomsTake}
use Rattle.sched_box.specs.Books.{AnswersKeptAs, KeepAll, RefusesKept, TakesKept}
use Rattle.sched_box.specs.Journal.{InRoom, fate_in, kinds_of}
use Rattle.sched_box.specs.Objects.{kept_of}
use Rattle.sched_box.specs.Organising.{AreKeptBy, KeepBooks, OrganisersRefuse, OrganisersTake}
use Rattle.sched_box.specs.declared.books.Books.{Books}
use Rattle.sched_box.proofs.AnswerLemmas.{all_take}
use Rattle.sched_box.proofs.FateLemmas.{is_fate}
use Rattle.sched_box.proofs.ToldLemmas.{as_refused, as_taken}

-- ---- what is taken

-- to whom a message goes is said by what was read of it
goes_to : (message : Message) (said : profile.Message) (b : Bool) → RepresentsMessage message said → is_to_rooms (method_said message.method) ≡ b → is_to_rooms said.method ≡ b
goes_to message said b represented to = sym (ap is_to_rooms represented.method) ∙ to

pub rooms_taken : (moment : ℤ) (kept : List ℕ) (message : Message) (old new : Books) (octets : List ℕ) (kinds : List InRoom) (fate : Fate)
    → ((object : List ℕ) → kept ≡ kept_of object → IsSpelled object message) → is_to_rooms (method_said message.method) ≡ true → RoomsTake moment message old.rooms.rooms.items new.rooms.rooms.items octets kinds
    → fate ≡ fate_in (is_cancel (method_said message.method)) kinds → new.organisers ≡ old.organisers → TakesKept moment kept old new octets fate
rooms_taken moment kept message old new octets kinds fate spelled to takes fate_is same object is before have =
    let (said, spells, represented) = spelled object is in
    let (after, hosted, all, became, tells) = all_take moment message said represented old.rooms.rooms.items new.rooms.rooms.items octets kinds takes before.rooms have.rooms in
    let told = is_fate moment said kinds before.rooms after fate became tells (fate_is ∙ ap (λ m. fate_in (is_cancel m) kinds) represented.method) in
    let goes = sym (goes_to message said true represented to) in (
      record { rooms = after; organisers = before.organisers },
      record { rooms = hosted; organisers = subst (λ o. AreKeptBy o.organisers.items before.organisers) (sym same) have.organisers },
      (
        said,
        spells,
        subst (λ b. StepsFor b moment said before (record { rooms = after; organisers = before.organisers }) octets) goes (all, refl),
        subst (λ b. Becomes b moment said before (record { rooms = after; organisers = before.organisers }) fate) goes (kinds_of kinds, became, told),
      ),
    )

-- the one that changes has taken what was sent to it
one_taken : (moment : ℤ) (said : profile.Message) (before after : List HostedOrganiser) (sent : List (List ℕ)) → ChangesOne (worlds.OrganiserTakes said.organiser moment said sent) before after
    → IsTaken moment said before after (flat_map (λ object. object) sent)
one_taken moment said before after sent one = record {
  others_before = one.ahead;
  others_behind = one.behind;
  host = one.old;
  book = one.new.book;
  address = one.changes.address;
  takes = record { objects = sent; serves = one.changes.serves; is = refl };
  of_these = one.of_these;
  to_these = one.to_these ∙ ap (λ address. one.ahead ++ record { address = address; book = one.new.book } ∷ one.behind) one.changes.same;
}

pub organiser_taken : (moment : ℤ) (kept : List ℕ) (message : Message) (old new : Books) (sent : List (List ℕ)) (octets : List ℕ)
    → ((object : List ℕ) → kept ≡ kept_of object → IsSpelled object message) → is_to_rooms (method_said message.method) ≡ false → OrganisersTake moment message old.organisers.organisers.items new.organisers.organisers.items sent
    → new.rooms ≡ old.rooms → octets ≡ flat_map (λ object. object) sent → TakesKept moment kept old new octets Taken
organiser_taken moment kept message old new sent octets spelled to takes same are object is before have =
    let (said, spells, represented) = spelled object is in
    let (after, hosted, one) = takes said represented before.organisers have.organisers in
    let taken = subst (IsTaken moment said before.organisers after) (sym are) (one_taken moment said before.organisers after sent one) in
    let goes = sym (goes_to message said false represented to) in (
      record { rooms = before.rooms; organisers = after },
      record { rooms = subst (λ r. AreHosted r.rooms.items before.rooms) (sym same) have.rooms; organisers = hosted },
      (
        said,
        spells,
        subst (λ b. StepsFor b moment said before (record { rooms = before.rooms; organisers = after }) octets) goes (taken, refl),
        subst (λ b. Becomes b moment said before (record { rooms = before.rooms; organisers = after }) Taken) goes refl,
      ),
    )

-- ---- what is refused

-- an object that can't be read
pub unread : (kept : List ℕ) (books : Books) (f : Fault) → ((object : List ℕ) → kept ≡ kept_of object → RefusesBy (λ n. ObjectFault n object) f) → RefusesBy (RefusesKept kept books) f
unread kept books Memory h = tt
unread kept books (Refused r) h = λ object is before have. inl (h object is)

-- one that the organisers refuse
pub unhosted : (kept : List ℕ) (message : Message) (books : Books) (f : Fault) → ((object : List ℕ) → kept ≡ kept_of object → IsSpelled object message) → is_to_rooms (method_said message.method) ≡ false
    → RefusesBy (OrganisersRefuse message books.organisers.organisers.items) f → RefusesBy (RefusesKept kept books) f
unhosted kept message books Memory spelled to h = tt
unhosted kept message books (Refused r) spelled to h = λ object is before have.
    let (said, spells, represented) = spelled object is in
    inr (said, spells, goes_to message said false represented to, h said represented before.organisers have.organisers)

-- their books are as before, and so is the box
pub kept_on : (old new : Books) → KeepBooks old.organisers.organisers.items new.organisers.organisers.items → new.rooms ≡ old.rooms → KeepAll old new
kept_on old new keep same box have =
    record { rooms = subst (λ r. AreHosted r.rooms.items box.rooms) (sym same) have.rooms; organisers = keep box.organisers have.organisers }

-- ---- what is answered

pub answers_taken : (moment : ℤ) (k : ℕ) (kept : List ℕ) (old new : Books) (octets : List ℕ) (fate : Fate) → TakesKept moment kept old new octets fate → AnswersKeptAs moment k kept old new octets fate
answers_taken moment k kept old new octets fate takes object is before have =
    let (after, hosted, (said, spells, steps, became)) = takes object is before have in
    (after, hosted, as_taken moment k object before after octets fate said spells steps became)

pub answers_refused : (moment : ℤ) (k : ℕ) (kept : List ℕ) (n : ℕ) (old new : Books) (octets : List ℕ) → RefusesKept kept old n → KeepAll old new → octets ≡ refused_line k n
    → AnswersKeptAs moment k kept old new octets (reports.Refused n)
answers_refused moment k kept n old new octets refuses keep line object is before have =
    (before, keep before have, as_refused moment k object before octets n (refuses object is before have) line)
