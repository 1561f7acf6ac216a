use Rattle.std.proofs.Common.{refl, subst, ◌∙◌, ap}
use Rattle.room_books.specs.Gone.{IsPartOf}
use Rattle.itip_order.specs.Parts.{part_of}
use Rattle.room_books.specs.Taking.{left_in}
use Rattle.room_books.proofs.meeting.PartAnswer.accepted.Goals as goal

pub returns : goal.returns
returns c = record {
  slot = refl;
  moment_is = refl;
  outcome = refl;
  singles = λ history s. c.in_ok-singles.ensures.left history s ∙ ap (left_in history (part_of c.args.claim.now.part)) c.deref.ensures.value;
  series = λ history s. c.in_ok-series.ensures.left history s;
  part = subst (IsPartOf c.in_ok-singles.singles.items) c.deref.ensures.value c.in_ok-singles.ensures.part;
}
