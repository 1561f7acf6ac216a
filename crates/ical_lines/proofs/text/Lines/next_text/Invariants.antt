use Rattle.std.proofs.Common.{◌≡◌, length}
use Rattle.ical_lines.specs.Text.{lines_left}
use Rattle.ical_lines.proofs.text.Lines.next_text.Given as goal

abbrev pub invariant-loop-line : goal.invariant-loop-line
invariant-loop-line l = record {
  same : lines_left l.self ≡ lines_left l.fn.self;
  passed : l.self.passed ≡ l.fn.self.passed;
}

abbrev pub decreases-loop-line : goal.decreases-loop-line
decreases-loop-line l = length l.self.rest.now
