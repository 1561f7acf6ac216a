-- What a writer that fails has taken of the answers to an object.
use Rattle.std.specs.Prelude.{◌≡◌, ◌<◌, ℕ, Bool, true, List, length, take, Option}
use Rattle.std.specs.Io.KnownBytes.{Appends, Keeps}
use Rattle.sched_box.specs.declared.fault.ServeFault.{ServeFault}
use Rattle.sched_box.specs.declared.fault.ServeFault.TheVariants.{Read, Write, TooLong, Memory}

-- of answers, of which there are some, a beginning was written where the writer has failed, none where memory was refused
abbrev pub StopsSending : Option (List ℕ) → Option (List ℕ) → Bool → List ℕ → ServeFault → Type 0
StopsSending old new failed octets Write = (failed ≡ true) × (0 < length octets) × ((n : ℕ) × Appends old new (take n octets))
StopsSending old new failed octets Memory = Keeps old new
StopsSending old new failed octets Read = ⊥
StopsSending old new failed octets TooLong = ⊥
