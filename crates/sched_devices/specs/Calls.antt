-- The calls of a folder in memory, and which of them fail.
use Rattle.std.specs.Prelude.{◌≡◌, ◌==◌, ◌||◌, nat_le, min, ℕ, ◌+◌, Bool, true, false, List, [], ◌∷◌, ◌++◌, length, Option, None, Some}
use Rattle.sched_devices.specs.declared.call_log.Call.{Call}
use Rattle.sched_devices.specs.declared.call_log.Plan.{Plan}
use Rattle.sched_devices.specs.declared.folder.FolderFault.{FolderFault}
use Rattle.sched_devices.specs.declared.folder.FolderFault.TheVariants.{Device, Missing, Exists, Memory}

abbrev pub is_number : Option ℕ → ℕ → Bool
is_number None call = false
is_number (Some number) call = number == call

abbrev pub is_from : Option ℕ → ℕ → Bool
is_from None call = false
is_from (Some first) call = nat_le first call

-- the call of this number fails, and does nothing
abbrev pub fails : Plan → ℕ → Bool
fails plan call = is_number plan.at call || is_from plan.from call

-- the call of this number is done, and fails then
abbrev pub fails_when_done : Plan → ℕ → Bool
fails_when_done plan call = is_number plan.after call

-- one failure more, up to the greatest u64
abbrev pub one_more : ℕ → ℕ
one_more failures = min (failures + 1) 18_446_744_073_709_551_615

-- a call isn't done: it is one that fails, which counts, or memory is refused, which leaves no trace
abbrev pub IsNotDone : Plan → List Call → Call → ℕ → List Call → ℕ → FolderFault → Type 0
IsNotDone plan calls call failures calls_now failures_now Device =
    (fails plan (length calls + 1) ≡ true) × (calls_now ≡ calls ++ call ∷ []) × (failures_now ≡ one_more failures)
IsNotDone plan calls call failures calls_now failures_now Memory = (calls_now ≡ calls) × (failures_now ≡ failures)
IsNotDone plan calls call failures calls_now failures_now Missing = ⊥
IsNotDone plan calls call failures calls_now failures_now Exists = ⊥
