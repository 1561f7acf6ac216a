-- Those of the other meetings in the places before are there, and no more.
use Rattle.std.proofs.Common.{map, take}
use Rattle.room_books.specs.Recurring.{recurring_said}
use Rattle.room_books.proofs.room_lemmas.RoomSeries.{AreThere}
use Rattle.room_books.proofs.decide.Deciding.other_series.Given as goal

abbrev pub invariant-loop-place : goal.invariant-loop-place
invariant-loop-place l = AreThere l.self.key.now l.self.room.now.meetings.entries l.own (take l.place-index l.self.room.now.recurring.items) (map recurring_said l.all.items)
