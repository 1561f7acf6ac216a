use Rattle.std.proofs.Common.{◌==◌, ℕ, List, ℤ, ◌≤ℤ◌}
use Rattle.std.specs.List.{slice_split}
use Rattle.ical_lines.specs.Text.{line_text}
use Rattle.profile.specs.text.Lines.{line_value}
use Rattle.profile.specs.text.Values.{SpellsLocal}
use Rattle.cal_rules.proofs.Cuts.{Leaves}
use Rattle.cal_doors.proofs.UsesScans.{Scanned}
use Rattle.cal_doors.proofs.uses.last_local.Given as goal

-- no local time of the texts so far is later
abbrev pub invariant-loop-text : goal.invariant-loop-text
invariant-loop-text l =
    (left : List (List ℕ)) × Leaves l.text-iterator left
    × Scanned (λ text. ((local : ℤ) → SpellsLocal text local → local ≤ℤ l.last)) (slice_split (λ c. c == 44) (line_value (line_text l.fn.line))) left
