use Rattle.std.proofs.Common.{◌≡◌, ◌≤◌, ◌++◌, take, length, drop}
use Rattle.std.specs.Str.{chars}
use Rattle.profile.specs.text.Lines.{fold_from, column_after}
use Rattle.ical_lines.proofs.fold.fold_long_part.Given as goal

abbrev pub invariant-loop-character : goal.invariant-loop-character
invariant-loop-character l = record {
  small : l.at ≤ 75;
  at_is : column_after l.at (drop (length l.yielded) (chars l.text)) ≡ column_after l.column (chars l.text);
  written : l.out.items ++ fold_from l.at (drop (length l.yielded) (chars l.text)) ≡ l.initial.out.items ++ fold_from l.column (chars l.text);
  keeps : take (length l.initial.out.items) l.out.items ≡ l.initial.out.items;
}
