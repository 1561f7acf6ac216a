-- The own lines of a component, as runs of lines that follow each other in a text.
use Rattle.std.specs.Prelude.{ℕ, List, ◌++◌, take, drop}
use Rattle.std.specs.List.{flat_map}
use Rattle.ical_lines.specs.Text as text
use Rattle.ical_tree.specs.declared.own_lines.Run.{Run}
use Rattle.ical_tree.specs.declared.own_lines.OwnLines.{OwnLines}

-- the lines of a run
abbrev pub run_lines : Run → List (List ℕ)
run_lines r = take r.count (text.lines_left r.from)

-- they with their numbers
abbrev pub run_numbered : Run → List (ℕ × List ℕ)
run_numbered r = take r.count (text.numbered_left r.from)

-- the lines of the text after a run, with their numbers
abbrev pub lines_after_run : Run → List (ℕ × List ℕ)
lines_after_run r = drop r.count (text.numbered_left r.from)

-- the own lines that are still to come
abbrev pub lines_left : OwnLines → List (List ℕ)
lines_left l = run_lines l.run ++ flat_map run_lines l.later.now
