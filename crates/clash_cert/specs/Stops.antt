-- Where reading stops.
use Rattle.std.specs.Prelude.{ℕ, List}
use Rattle.clash_cert.specs.declared.reading.Stop.{Stop}
use Rattle.clash_cert.specs.declared.reading.Stop.TheVariants.{Memory, At}

-- out of memory, or at a rest of the octets of which this holds
abbrev pub StopsAt : (List ℕ → Type 0) → Stop → Type 0
StopsAt P Memory = Unit {0}
StopsAt P (At rest) = P rest.now
