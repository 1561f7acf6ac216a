use Rattle.cal_rules.proofs.Differences.{multiple_shifts, shift_multiple}
use Rattle.cal_rules.proofs.law.shifts_are_multiples.Goals as goal

pub returns : goal.returns
returns c = λ p days n h. (shift_multiple p days n h, multiple_shifts p days n h)
