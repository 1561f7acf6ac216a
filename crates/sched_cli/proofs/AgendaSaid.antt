-- What `agenda` says, by its status.
use Rattle.std.proofs.Common.{◌≡◌, ℕ, zero, suc, ◌<◌, ◌≤◌, Bool, List, Option, arith}
use Rattle.std.specs.Io.KnownBytes.{Keeps}
use Rattle.sched_devices.specs.declared.output.WriteFault.{WriteFault}
use Rattle.sched_devices.specs.declared.output.WriteFault.TheVariants as write
use Rattle.profile.specs.checker.Naming.{IsOfRoom}
use Rattle.sched_cli.specs.Agendas.{IsAgendaSaid, SaysCount, count_text}
use Rattle.sched_cli.specs.Commands.{SaysLine, memory_text, write_status, write_text}

module _ (room octets : List ℕ) (a b : Option (List ℕ)) (lost : Bool) (status : ℕ) where
  pub said_memory : status ≡ 5 → SaysLine memory_text a b lost → IsAgendaSaid status room octets a b lost
  said_memory is says = record { done = λ l. absurd (omega (arith, is, l)); device = λ e. absurd (omega (arith, is, e)); memory = λ _. says }

  pub said_refused : status ≡ 3 → IsAgendaSaid status room octets a b lost
  said_refused is = record { done = λ l. absurd (omega (arith, is, l)); device = λ e. absurd (omega (arith, is, e)); memory = λ e. absurd (omega (arith, is, e)) }

  pub said_unwritten : (fault : WriteFault) → status ≡ write_status fault → SaysLine (write_text fault) a b lost → IsAgendaSaid status room octets a b lost
  said_unwritten write.Failed is says = record { done = λ l. absurd (omega (arith, is, l)); device = λ _. says; memory = λ e. absurd (omega (arith, is, e)) }
  said_unwritten write.Memory is says = said_memory is says

  pub said_done : status ≤ 1 → (count : ℕ) → IsOfRoom room octets count → SaysCount room count a b lost → IsAgendaSaid status room octets a b lost
  said_done l count is says = record { done = λ _. (count, is, says); device = λ e. absurd (omega (arith, l, e)); memory = λ e. absurd (omega (arith, l, e)) }

-- a count that isn't 0 is said in its line
pub says_some : (room : List ℕ) (count : ℕ) (a b : Option (List ℕ)) (lost : Bool) → 0 < count → SaysLine (count_text room count) a b lost → SaysCount room count a b lost
says_some room zero a b lost l says = absurd (omega (arith, l))
says_some room (suc n) a b lost l says = says

pub says_none : (room : List ℕ) (count : ℕ) (a b : Option (List ℕ)) (lost : Bool) → count ≡ 0 → Keeps a b → SaysCount room count a b lost
says_none room zero a b lost l keeps = keeps
says_none room (suc n) a b lost l keeps = absurd (omega (arith, l))
