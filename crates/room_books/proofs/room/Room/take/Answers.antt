-- The first claim says of which meeting all are.
use Rattle.std.proofs.Common.{◌≡◌, ◌∙◌, Bool, List, [], None, Some, sym, ap, subst}
use Rattle.std.specs.Prelude.{slice_get}
use Rattle.std.proofs.Math.Logic.{∥∥₁_map}
use Rattle.ical_values.specs.Octets.{address_octets}
use Rattle.cal_zones.specs.RoomZones.{room_of}
use Rattle.profile.specs.streams.Streams.{AreClaims}
use Rattle.room_books.specs.declared.claim.Claim.{Claim}
use Rattle.room_books.specs.Claims.{AreClaimed}
use Rattle.room_books.specs.Taking.{claims_said, kind_view, reply_octets, refresh_octets}
use Rattle.room_books.specs.Room.{StepsWith}
use Rattle.cal_events.specs.Component.{method_said}
use Rattle.cal_events.specs.declared.method.Method.{Method}
use Rattle.profile.specs.rooms.Messages.{is_add}
use Rattle.room_books.proofs.shared_lemmas.Accepting.{steps_accept, steps_decline}
use Rattle.room_books.proofs.shared_lemmas.Claiming.{first_in, none_first}
use Rattle.room_books.proofs.room_lemmas.Freeing.{nothing_freed}
use Rattle.room_books.proofs.room_lemmas.RoomSteps.{none_steps}
use Rattle.room_books.proofs.room.Room.take.Goals as goal

pub returns-in_default-clause-steps : goal.returns-in_default-clause-steps
returns-in_default-clause-steps c = λ message says book st.
    let room = address_octets c.args.self.now.address in
    let claims = c.in_ok-claims.claims.items in
    let none : claims ≡ [] = none_first claims (subst (λ (l : List Claim). None ≡ slice_get l 0) c.deref.ensures.value c.in_default.ensures.value) in (
      [],
      subst (λ (l : List Claim). AreClaims room (room_of c.args.self.now.zone) message (claims_said l)) none (c.in_ok-claims.ensures message says).are,
      none_steps room c.args.self.now.meetings.entries book c.args.now (kind_view c.silent.result.kind) _ _ _ st (ap kind_view c.silent.ensures.kind) c.silent.ensures.reply c.silent.ensures.refresh,
    )

-- the message is one that octets spell
pub take_claims-requires-clause-delivered : goal.take_claims-requires-clause-delivered
take_claims-requires-clause-delivered c = ∥∥₁_map c.args.message.now.read (λ read.
    let claims = c.deref-2.result.now in
    let first = c.in-Some.first.now in
    let claimed = subst (AreClaimed (address_octets c.args.self.now.address) (room_of c.args.self.now.zone) read.said) (sym c.deref-2.ensures.value) (c.in_ok-claims.ensures read.said read.are) in
    let is : Some first ≡ slice_get claims 0 = subst (λ (l : List Claim). Some first ≡ slice_get l 0) (c.deref.ensures.value ∙ sym c.deref-2.ensures.value) c.in-Some.ensures.value in (
      record { octets = read.octets; message = read.said; spells = read.spells; are = claimed.are },
      claimed.fit c.in_ok-key.key first (first_in claims first is) c.in_ok-key.ensures,
    ))

pub returns-clause-steps : goal.returns-clause-steps
returns-clause-steps c = λ message says book st.
    let room = address_octets c.args.self.now.address in
    let claims = c.deref-2.result.now in
    let first = c.in-Some.first.now in
    let claimed = subst (AreClaimed room (room_of c.args.self.now.zone) message) (sym c.deref-2.ensures.value) (c.in_ok-claims.ensures message says) in
    let is : Some first ≡ slice_get claims 0 = subst (λ (l : List Claim). Some first ≡ slice_get l 0) (c.deref.ensures.value ∙ sym c.deref-2.ensures.value) c.in-Some.ensures.value in (
      claims_said claims,
      claimed.are,
      subst (λ (adds : Bool). StepsWith room c.take_claims.new.self.meetings.entries book (claims_said claims) c.args.now (kind_view c.in_ok-answer.answer.kind) (reply_octets c.in_ok-answer.answer) adds (refresh_octets c.in_ok-answer.answer))
          (c.is_add-adds.ensures ∙ ap (λ (m : Method). is_add (method_said m)) c.method.ensures ∙ ap is_add says.method)
          (c.in_ok-answer.ensures.steps (claimed.fit c.in_ok-key.key first (first_in claims first is) c.in_ok-key.ensures) book st),
    )

-- ---- where it is accepted, and what a decline names

pub returns-in_default-clause-accepted : goal.returns-in_default-clause-accepted
returns-in_default-clause-accepted c message says book st =
    let s = returns-in_default-clause-steps c message says book st in (s.0, s.1, steps_accept _ _ _ _ _ _ _ _ _ s.2)

pub returns-in_default-clause-declined : goal.returns-in_default-clause-declined
returns-in_default-clause-declined c message says book st =
    let s = returns-in_default-clause-steps c message says book st in (s.0, s.1, steps_decline _ _ _ _ _ _ _ _ _ s.2)

pub returns-clause-accepted : goal.returns-clause-accepted
returns-clause-accepted c message says book st = let s = returns-clause-steps c message says book st in (s.0, s.1, steps_accept _ _ _ _ _ _ _ _ _ s.2)

pub returns-clause-declined : goal.returns-clause-declined
returns-clause-declined c message says book st = let s = returns-clause-steps c message says book st in (s.0, s.1, steps_decline _ _ _ _ _ _ _ _ _ s.2)

pub returns-in_default-clause-frees : goal.returns-in_default-clause-frees
returns-in_default-clause-frees c = λ before after st st'.
    nothing_freed c.args.self.now.meetings.entries (kind_view c.silent.result.kind) c.silent.result.frees before after c.keys_differ.ensures c.silent.ensures.frees st st'
