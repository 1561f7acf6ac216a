-- What a writer that fails has taken.
use Rattle.std.specs.Prelude.{◌≡◌, ℕ, Bool, true, List, take, Option}
use Rattle.std.specs.Io.KnownBytes.{Appends, Keeps}
use Rattle.sched_devices.specs.declared.output.WriteFault.{WriteFault}
use Rattle.sched_devices.specs.declared.output.WriteFault.TheVariants.{Failed, Memory}

-- of the octets a beginning was written where the writer has failed, none where memory was refused
abbrev pub StopsWriting : Option (List ℕ) → Option (List ℕ) → Bool → List ℕ → WriteFault → Type 0
StopsWriting old new failed octets Failed = (failed ≡ true) × ((n : ℕ) × Appends old new (take n octets))
StopsWriting old new failed octets Memory = Keeps old new

-- a fault of the writer comes only where it has failed
abbrev pub WriteStopsFor : Bool → WriteFault → Type 0
WriteStopsFor failed Failed = failed ≡ true
WriteStopsFor failed Memory = Unit {0}

-- where memory was refused the mark is as before
abbrev pub KeepsButFailed : Bool → Bool → WriteFault → Type 0
KeepsButFailed before after Failed = Unit {0}
KeepsButFailed before after Memory = after ≡ before
