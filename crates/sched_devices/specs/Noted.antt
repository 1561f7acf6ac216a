-- What a folder in memory notes of a call, and when the call fails.
use Rattle.std.specs.Prelude.{◌≡◌, ◌<◌, ◌⊎◌, ℕ, ◌+◌, true, List, [], ◌∷◌, ◌++◌, length, Option, None, Some, String, string_bytes}
use Rattle.std.specs.declared.alloc.Global.{Global}
use Rattle.sched_devices.specs.Calls.{fails, fails_when_done}
use Rattle.sched_devices.specs.declared.call_log.Call.{Call}
use Rattle.sched_devices.specs.declared.call_log.Call.TheVariants.{Read, Publish}
use Rattle.sched_devices.specs.declared.call_log.CallLog.{CallLog}
use Rattle.sched_devices.specs.declared.call_log.Plan.{Plan}

-- the octets under this name are asked for
abbrev pub IsReadOf : List ℕ → Call → Type 0
IsReadOf name call = (text : String Global) × (call ≡ Read text) × (string_bytes text ≡ name)

-- the temporary is published under this name
abbrev pub IsPublishOf : List ℕ → Call → Type 0
IsPublishOf name call = (text : String Global) × (call ≡ Publish text) × (string_bytes text ≡ name)

-- the call of this number is to fail, before it is done or then
abbrev pub IsToFail : Plan → ℕ → Type 0
IsToFail plan call = (fails plan call ≡ true) ⊎ (fails_when_done plan call ≡ true)

-- A call is noted, once, if memory isn't refused; else it leaves no trace. It fails where it is to fail, and else only for a cause of its own.
pub record IsNoted (is : Call → Type 0) (before after : CallLog) (refused failed cause : Type 0) : Type 0 where
  pub noted : (refused → ⊥) → (call : Call) × is call × (after.calls.items ≡ before.calls.items ++ call ∷ [])
  pub untraced : refused → after.calls.items ≡ before.calls.items
  pub same_plan : after.plan ≡ before.plan
  pub told : failed → IsToFail before.plan (length before.calls.items + 1) ⊎ cause
  pub kept_to : (refused → ⊥) → IsToFail before.plan (length before.calls.items + 1) → failed

-- what stands under a name is longer than what is read
abbrev pub IsTooLong : Option (List ℕ) → Type 0
IsTooLong None = ⊥
IsTooLong (Some octets) = 1_073_741_824 < length octets
