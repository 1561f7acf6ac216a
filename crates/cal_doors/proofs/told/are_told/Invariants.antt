use Rattle.std.proofs.Common.{drop}
use Rattle.std.specs.List.{AllZip}
use Rattle.profile.specs.text.Trees.{Tree}
use Rattle.profile.specs.doors.Returning.{TellsSame}
use Rattle.cal_doors.specs.Told.{AreWordsOf, events_among}
use Rattle.cal_doors.proofs.told.are_told.Given as goal

-- if what is left is told, all is
abbrev pub invariant-loop-event : goal.invariant-loop-event
invariant-loop-event l =
    (read answer : Tree) → AreWordsOf read answer l.fn.words → AllZip (AllZip (TellsSame read answer)) (events_among (drop l.event-index l.told)) (events_among l.left)
    → AllZip (AllZip (TellsSame read answer)) (events_among l.fn.told) (events_among l.fn.given)
