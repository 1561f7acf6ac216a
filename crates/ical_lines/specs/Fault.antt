-- What a clause says of a `Fault`.
use Rattle.std.specs.Prelude.{◌≡◌, ℕ, Bool, IsTrue, Result, Err}
use Rattle.ical_lines.specs.declared.fault.Fault.{Fault}
use Rattle.ical_lines.specs.declared.fault.Fault.TheVariants.{Refused, Memory}
use Rattle.ical_lines.specs.declared.fault.Refusal.{Refusal}

-- out of memory, or a refusal whose number passes the test
abbrev pub RefusesOnly : (ℕ → Bool) → Fault → Type 0
RefusesOnly test Memory = Unit {0}
RefusesOnly test (Refused r) = IsTrue (test r.number)

-- out of memory, or a refusal of whose number this holds
abbrev pub RefusesBy : (ℕ → Type 0) → Fault → Type 0
RefusesBy Holds Memory = Unit {0}
RefusesBy Holds (Refused r) = Holds r.number

-- out of memory, or a refusal at a line of this number
abbrev pub RefusesAt : (ℕ → Type 0) → Fault → Type 0
RefusesAt Holds Memory = Unit {0}
RefusesAt Holds (Refused r) = Holds r.line

-- out of memory, or a refusal of whose number and line this holds
abbrev pub RefusesWhere : (ℕ → ℕ → Type 0) → Fault → Type 0
RefusesWhere Holds Memory = Unit {0}
RefusesWhere Holds (Refused r) = Holds r.number r.line

-- the same at another line
abbrev pub refusal_at : ℕ → Refusal → Refusal
refusal_at line r = record { number = r.number; line = line }

abbrev pub fault_at : ℕ → Fault → Fault
fault_at line Memory = Memory
fault_at line (Refused r) = Refused (refusal_at line r)

-- what was read was refused, and is refused so at this line
abbrev pub IsPlacedAt : {T : Type 0} → ℕ → Result T Refusal → Refusal → Type 0
IsPlacedAt line read placed = (r : Refusal) × (read ≡ Err r) × (placed ≡ refusal_at line r)

abbrev pub IsFaultAt : {T : Type 0} → ℕ → Result T Fault → Fault → Type 0
IsFaultAt line read placed = (f : Fault) × (read ≡ Err f) × (placed ≡ fault_at line f)
