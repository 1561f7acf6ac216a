use Rattle.std.proofs.Common.{◌≡◌, ◌++◌, map, take}
use denote.Ref.{Bor}
use Rattle.cal_events.specs.declared.series.Series.{Series}
use Rattle.room_books.specs.Meeting.{all_series}
use Rattle.room_books.proofs.confirming.push_series.Given as goal

abbrev pub invariant-loop-given : goal.invariant-loop-given
invariant-loop-given l = map (λ (one : Bor Series). one.now) l.series.items ≡ map (λ (one : Bor Series). one.now) l.fn.series.items ++ all_series (take l.given-index l.answers)
