use Rattle.std.proofs.Common.{◌≡◌, ◌+◌, drop}
use Rattle.profile.specs.text.Lines.{outside_from, outside}
use Rattle.ical_lines.proofs.pieces.outside_quotes.Given as goal

abbrev pub invariant-loop-place : goal.invariant-loop-place
invariant-loop-place l = l.place + outside_from l.stop l.quoted (drop l.place l.text) ≡ outside l.stop l.text
