-- The lines that are left come, and nothing after them; what was there before stays.
use Rattle.std.proofs.Common.{◌≡◌, ◌++◌, List, ℕ, Some, length, take}
use Rattle.std.specs.Iterator.{AlwaysYields}
use Rattle.std.specs.Str.Iter.{lines_steps}
use Rattle.std.specs.Str.Lines.{lines}
use Rattle.profile.specs.text.Lines.{written}
use Rattle.itip_messages.specs.BodyText.{name_of, named_lines}
use Rattle.itip_messages.proofs.body_text.write_in_zone.Given as goal

abbrev pub invariant-loop-line : goal.invariant-loop-line
invariant-loop-line l =
    (left : List (List ℕ)) × AlwaysYields lines_steps (λ x. x.now) l.line-iterator left
    × (l.object ++ written (named_lines (name_of (Some l.number)) left) ≡ l.fn.object ++ written (named_lines (name_of (Some l.number)) (lines l.text)))
    × (take (length l.fn.object) l.object ≡ l.fn.object)
