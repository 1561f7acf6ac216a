use Rattle.std.proofs.Common.{◌≡◌, ◌+◌, ◌≤◌, ◌<◌, ◌^◌, filter, length}
use Rattle.std.specs.List.{prefix_len}
use Rattle.std.specs.Str.{is_utf8}
use Rattle.profile.specs.text.Lines.{is_filled}
use Rattle.ical_lines.specs.Breaks.{lines_of}
use Rattle.ical_lines.specs.Unfold.{lines_after}
use Rattle.ical_lines.proofs.unfold.not_utf8.Given as goal

abbrev pub invariant-loop-left : goal.invariant-loop-left
invariant-loop-left l = record {
  memory : length l.text < 2 ^ 63;
  place : l.passed + prefix_len is_utf8 (filter is_filled (lines_after l.left)) ≡ prefix_len is_utf8 (lines_of l.text);
  fits : l.passed + length (filter is_filled (lines_after l.left)) ≤ length (lines_of l.text);
}

abbrev pub decreases-loop-left : goal.decreases-loop-left
decreases-loop-left l = length (lines_after l.left)
