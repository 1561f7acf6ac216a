-- What a clause says of the end of a stream.
use Rattle.std.specs.Prelude.{◌≡◌, Bool, true}
use Rattle.sched_box.specs.Objects.{IsPieceFault}
use Rattle.sched_box.specs.declared.fault.ServeFault.{ServeFault}
use Rattle.sched_box.specs.declared.fault.ServeFault.TheVariants.{Read, Write, TooLong, Memory}
use Rattle.sched_box.specs.declared.fault.StreamFault.{StreamFault}
use Rattle.sched_box.specs.declared.fault.StreamFault.TheVariants.{Refused, Serve}

-- the preamble is refused (90), or serving ended
abbrev pub RefusesPreamble : StreamFault → Type 0
RefusesPreamble (Refused r) = r.number ≡ 90
RefusesPreamble (Serve fault) = Unit {0}

-- it is refused, and no fault of a stream
abbrev pub IsRefusal : StreamFault → Type 0
IsRefusal (Refused r) = Unit {0}
IsRefusal (Serve fault) = ⊥

-- the fact holds where it is refused
abbrev pub IfRefusedStream : Type 0 → StreamFault → Type 0
IfRefusedStream P (Refused r) = P
IfRefusedStream P (Serve fault) = Unit {0}

-- the preamble is refused, the reader failed or memory was refused
abbrev pub IsReadFault : StreamFault → Type 0
IsReadFault (Refused r) = Unit {0}
IsReadFault (Serve fault) = IsPieceFault fault

-- a fault of a device comes only where that device has failed: the reader, the writer
abbrev pub StopsFor : Bool → Bool → ServeFault → Type 0
StopsFor reader writer Read = reader ≡ true
StopsFor reader writer Write = writer ≡ true
StopsFor reader writer TooLong = Unit {0}
StopsFor reader writer Memory = Unit {0}

-- and a device that failed is reported: the reader's mark before and after
abbrev pub KeepsButRead : Bool → Bool → ServeFault → Type 0
KeepsButRead before after Read = Unit {0}
KeepsButRead before after Write = after ≡ before
KeepsButRead before after TooLong = after ≡ before
KeepsButRead before after Memory = after ≡ before

-- the writer's
abbrev pub KeepsButWrite : Bool → Bool → ServeFault → Type 0
KeepsButWrite before after Read = after ≡ before
KeepsButWrite before after Write = Unit {0}
KeepsButWrite before after TooLong = after ≡ before
KeepsButWrite before after Memory = after ≡ before

-- the same of a stream, whose preamble may be refused
abbrev pub StreamKeepsButRead : Bool → Bool → StreamFault → Type 0
StreamKeepsButRead before after (Refused r) = after ≡ before
StreamKeepsButRead before after (Serve fault) = KeepsButRead before after fault

abbrev pub StreamKeepsButWrite : Bool → Bool → StreamFault → Type 0
StreamKeepsButWrite before after (Refused r) = after ≡ before
StreamKeepsButWrite before after (Serve fault) = KeepsButWrite before after fault

abbrev pub StreamStopsFor : Bool → Bool → StreamFault → Type 0
StreamStopsFor reader writer (Refused r) = Unit {0}
StreamStopsFor reader writer (Serve fault) = StopsFor reader writer fault
