use Rattle.std.specs.List.{AllZip}
use Rattle.ical_tree.specs.Runs.{lines_left}
use Rattle.profile.specs.text.Trees.{Tree}
use Rattle.profile.specs.doors.Returning.{TellsSame}
use Rattle.cal_doors.specs.Told.{AreWordsOf}
use Rattle.cal_doors.proofs.told.are_told_lines.Given as goal

-- if what is left is told, all is
abbrev pub invariant-loop-line : goal.invariant-loop-line
invariant-loop-line l =
    (read answer : Tree) → AreWordsOf read answer l.fn.words → AllZip (TellsSame read answer) (lines_left l.line-iterator) (lines_left l.others)
    → AllZip (TellsSame read answer) (lines_left l.fn.lines) (lines_left l.fn.others)
