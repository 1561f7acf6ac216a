use Rattle.std.proofs.Common.{◌≡◌, ◌||◌, drop}
use Rattle.std.specs.List.{list_any}
use Rattle.profile.specs.text.Lines.{is_control}
use Rattle.ical_lines.proofs.line.has_control.Given as goal

abbrev pub invariant-loop-octet : goal.invariant-loop-octet
invariant-loop-octet l = (l.found || list_any is_control (drop l.octet-index l.line)) ≡ list_any is_control l.line
