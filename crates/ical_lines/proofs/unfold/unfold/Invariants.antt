use Rattle.std.proofs.Common.{◌≡◌, ◌≤◌, ◌++◌, filter, take, drop, length, vec_len}
use Rattle.profile.specs.text.Lines.{is_filled, gather, unfolded, physical_lines}
use Rattle.ical_lines.specs.Unfold.{lines_after, with_breaks}
use Rattle.ical_lines.proofs.unfold.unfold.Given as goal

abbrev pub invariant-loop-left : goal.invariant-loop-left
invariant-loop-left l = record {
  begun_in : l.begun ≤ vec_len l.text;
  same : take l.begun l.text.items ++ with_breaks (filter is_filled (gather (drop l.begun l.text.items) (lines_after l.left))) ≡ with_breaks (filter is_filled (unfolded (physical_lines l.fn.octets)));
}

abbrev pub decreases-loop-left : goal.decreases-loop-left
decreases-loop-left l = length (lines_after l.left)
