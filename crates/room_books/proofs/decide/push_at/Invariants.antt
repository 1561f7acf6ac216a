use Rattle.std.proofs.Common.{◌≡◌, ◌++◌, map, take}
use Rattle.room_books.specs.Meeting.{all_series, series_list}
use Rattle.room_books.specs.Recurring.{recurring_said}
use Rattle.room_books.proofs.decide.push_at.Given as goal

abbrev pub invariant-loop-given : goal.invariant-loop-given
invariant-loop-given l = map recurring_said l.all.items ≡ map recurring_said l.fn.all.items ++ series_list l.key (all_series (take l.given-index l.given-items))
