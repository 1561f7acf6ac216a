use Rattle.std.proofs.Common.{◌∙◌, ◌++◌, List, map, sym, ap}
use Rattle.std.proofs.lemmas.List.{take_all}
use Rattle.room_books.specs.Slots.{is_at}
use Rattle.room_books.specs.declared.meeting.PartAnswer.{PartAnswer}
use Rattle.room_books.specs.Recurring.{recurring_said}
use Rattle.room_books.specs.Meeting.{all_series, series_list}
use Rattle.profile.specs.rooms.Revisions as revisions
use Rattle.std.specs.List.{filter}
use Rattle.room_books.proofs.room_lemmas.RoomSeries.{series_there}
use Rattle.room_books.proofs.decide.push_at.Goals as goal

pub returns : goal.returns
returns c =
    let key = c.in-Some.key.now in
    let items = c.answers_of-given-items.result.now in
    c.loop-given.invariant ∙ ap (λ (l : List PartAnswer). map recurring_said c.args.all.now.items ++ series_list key (all_series l)) (take_all c.loop-given.given-index items c.loop-given-test.false)
    ∙ ap (λ l. map recurring_said c.args.all.now.items ++ l) (series_there c.args.meetings.now.entries c.args.place (key, c.in-Some.meeting.now) items (sym c.in-Some.ensures.entry)
    (c.answers_of-given-items.ensures ∙ ap (λ l. filter (is_at revisions.Whole) l) c.deref.ensures.value))
