use Rattle.std.proofs.Common.{◌≡◌, ◌<◌, ◌≤◌, ℕ, ◌*◌, ◌%◌}
use Rattle.cal_rules.proofs.period.least_count.Given as goal

-- no smaller count gives a multiple of the second number
abbrev pub invariant-loop-count : goal.invariant-loop-count
invariant-loop-count l = record {
  begun : 1 ≤ l.count;
  none : (m : ℕ) → 1 ≤ m → m < l.count → m * l.a % l.b ≡ 0 → ⊥;
}
