-- The lines that are left come, and nothing after them; what was there before stays.
use Rattle.std.proofs.Common.{◌≡◌, ◌++◌, List, ℕ, length, take}
use Rattle.std.specs.Iterator.{AlwaysYields}
use Rattle.std.specs.Str.Iter.{lines_steps}
use Rattle.std.specs.Str.Lines.{lines}
use Rattle.profile.specs.text.Lines.{written}
use Rattle.itip_messages.proofs.body_text.write_lines.Given as goal

abbrev pub invariant-loop-line : goal.invariant-loop-line
invariant-loop-line l = (left : List (List ℕ)) × AlwaysYields lines_steps (λ x. x.now) l.line-iterator left × (l.object ++ written left ≡ l.fn.object ++ written (lines l.text))
    × (take (length l.fn.object) l.object ≡ l.fn.object)
