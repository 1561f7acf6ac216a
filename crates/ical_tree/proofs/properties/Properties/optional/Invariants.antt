use Rattle.std.proofs.Common.{◌≡◌, ◌++◌, drop, take, map, length, option_map, Contains, IfSome}
use Rattle.std.specs.List.{count_by}
use Rattle.std.specs.Option.{option_to_list}
use Rattle.ical_lines.specs.Text.{line_text, numbered}
use Rattle.profile.specs.events.Properties.{is_of, lines_named}
use Rattle.ical_tree.specs.Own.{own_lines, own_numbered}
use Rattle.ical_tree.proofs.properties.Properties.optional.Given as goal

-- the line found so far, and those of the name among the lines that are left, are all of the name
abbrev pub invariant-loop-line : goal.invariant-loop-line
invariant-loop-line l = record {
  all : lines_named l.name (own_lines l.self) ≡ option_to_list (option_map line_text l.found) ++ lines_named l.name (map line_text (drop l.line-index l.line-items));
  one : count_by (λ earlier. is_of l.name earlier.1) (map numbered (take l.line-index l.line-items)) ≡ length (option_to_list (option_map line_text l.found));
  among : IfSome l.found (λ line. Contains (own_numbered l.self) (numbered line));
}
