use Rattle.std.proofs.Common.{◌≡◌, ◌+◌, ◌≤◌, ◌&&◌, ℕ, nat_lt, length, true, false}
use Rattle.std.specs.List.{list_any, find, prefix_len}
use Rattle.profile.specs.faults.First.{judged}
use Rattle.profile.specs.text.Lines.{is_faulty, line_has}
use Rattle.ical_lines.specs.Breaks.{lines_of}
use Rattle.ical_lines.specs.Limits.{is_bounded}
use Rattle.ical_lines.specs.Text.{lines_left}
use Rattle.ical_lines.proofs.FirstLemmas.{is_right, judged_after}
use Rattle.ical_lines.proofs.text.check_lines.Given as goal

abbrev pub invariant-loop-line : goal.invariant-loop-line
invariant-loop-line l = record {
  counted : l.lines.passed + length (lines_left l.lines) ≡ length (lines_of l.text);
  fits : l.lines.passed + length (lines_left l.lines) ≤ length l.text;
  within : (is_bounded l.limits && nat_lt 65536 l.lines.passed) ≡ false;
  same : list_any is_faulty (lines_of l.text) ≡ list_any is_faulty (lines_left l.lines);
  first : find is_faulty (judged (is_bounded l.limits) (lines_of l.text)) ≡ find is_faulty (judged_after (is_bounded l.limits) l.lines.passed (lines_left l.lines));
  place : prefix_len is_right (judged (is_bounded l.limits) (lines_of l.text)) ≡ l.lines.passed + prefix_len is_right (judged_after (is_bounded l.limits) l.lines.passed (lines_left l.lines));
  among : (n : ℕ) → list_any (line_has n) (lines_left l.lines) ≡ true → list_any (line_has n) (lines_of l.text) ≡ true;
}

abbrev pub decreases-loop-line : goal.decreases-loop-line
decreases-loop-line l = length (lines_left l.lines)
