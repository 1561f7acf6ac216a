-- Only Accepted is to accept.
use Rattle.std.proofs.Common.{◌≡◌, false, refl, sym, ap}
use Rattle.profile.specs.rooms.Rooms.{is_accept}
use Rattle.room_books.specs.declared.meeting.Outcome.{Outcome}
use Rattle.room_books.specs.declared.meeting.Outcome.TheVariants.{Accepted, Declined, Limit}
use Rattle.room_books.specs.declared.answer.LimitKind.TheVariants.{Series, Singles}
use Rattle.room_books.specs.Meeting.{outcome_of}
use Rattle.room_books.proofs.meeting.Outcome.is_accept.Goals as goal

other : (o : Outcome) → (o ≡ Accepted → ⊥) → false ≡ is_accept (outcome_of o)
other Accepted n = absurd (n refl)
other (Declined clash) n = refl
other (Limit Series) n = refl
other (Limit Singles) n = refl

pub returns-in-Accepted : goal.returns-in-Accepted
returns-in-Accepted c = sym (ap (λ (o : Outcome). is_accept (outcome_of o)) c.in-Accepted.is)

pub returns-in_default : goal.returns-in_default
returns-in_default c = other c.args.self.now c.in_default.not-Accepted
