use Rattle.std.proofs.Common.{◌≡◌, ◌∙◌, Bool, [], None, cond, refl, sym, ap, rules}
use Rattle.profile.specs.rooms.Rooms as rooms
use Rattle.room_books.specs.Meeting.{outcome_of}
use Rattle.room_books.specs.declared.meeting.Outcome.{Outcome}
use Rattle.room_books.specs.declared.meeting.Outcome.TheVariants.{Accepted, Declined, Limit}
use Rattle.room_books.proofs.meeting.PartAnswer.decided.Goals as goal
use Rattle.room_books.specs.contracts.meeting.OutcomeClone.TheImpl.{by_variants}

said : (o p : Outcome) → by_variants o p → outcome_of p ≡ outcome_of o
said Accepted p h = search rules
said (Declined clash) p h = search rules
said (Limit limit) p h = search rules

pub returns : goal.returns
returns c =
    let other = sym c.is_accept.ensures ∙ c.if-is_accept.false in
    let same = said c.args.outcome.now c.in_ok-outcome.outcome c.in_ok-outcome.ensures.cases in
    record {
      slot = refl;
      moment = refl;
      outcome_is = same;
      singles = c.new.ensures.items ∙ sym (ap (λ (b : Bool). cond b c.args.self.singles.items []) (ap rooms.is_accept (sym same) ∙ other));
      series = sym (ap (λ (b : Bool). cond b c.args.self.series None) (ap rooms.is_accept (sym same) ∙ other));
    }
