-- What holds where a call refuses its input, and not where it is out of memory.
use Rattle.ical_lines.specs.declared.fault.Fault.{Fault}
use Rattle.ical_lines.specs.declared.fault.Fault.TheVariants.{Refused, Memory}

abbrev pub IfRefused : Type 0 → Fault → Type 0
IfRefused P Memory = Unit {0}
IfRefused P (Refused r) = P
