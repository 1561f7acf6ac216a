use Rattle.std.proofs.Common.{◌≡◌, refl, ap, ◌∙◌, sym}
use Rattle.ical_values.proofs.Exits.{any_err}
use Rattle.indexmap.specs.IndexMap.{set_value_at}
use Rattle.room_books.proofs.room_lemmas.PutIn.{set_same}
use Rattle.room_books.proofs.room.renew.Goals as goal

pub returns-in_err-take-clause-err : goal.returns-in_err-take-clause-err
returns-in_err-take-clause-err c =
    let es = c.args.meetings.now.entries in
    let kept : set_value_at es c.args.place c.take.new.self ≡ es = ap (set_value_at es c.args.place) c.in_err-take.ensures.err ∙ set_same es c.args.place c.in-Some.meeting.now (sym c.in-Some.ensures.value) in
    any_err _ _ kept

pub returns-clause-renewed : goal.returns-clause-renewed
returns-clause-renewed c = record {
  before = c.in-Some.meeting.now;
  meeting = c.take.new.self;
  was = sym c.in-Some.ensures.value;
  made = c.in_ok-take.ensures.made;
  entries = refl;
}
