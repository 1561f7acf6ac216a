-- What is said of a calendar that is refused, and what `check` says, by its status.
use Rattle.std.proofs.Common.{◌≡◌, ◌∙◌, ap, inr, ℕ, ◌≤◌, Bool, List, ◌++◌, codes, decimal, Option, arith}
use Rattle.std.specs.Io.KnownBytes.{Keeps}
use Rattle.sched_devices.specs.declared.output.WriteFault.{WriteFault}
use Rattle.sched_devices.specs.declared.output.WriteFault.TheVariants as write
use Rattle.sched_cli.specs.Blaming.{IsCheckSaid, IsRefusedText, IsUidLine, SaysBlamed}
use Rattle.sched_cli.specs.Commands.{SaysLine, memory_text, write_status, write_text}

-- the line of the UID, behind that of the number
pub refused_more : (octets : List ℕ) (n : ℕ) (one two three new line : List ℕ) → one ≡ codes "roombox: refused " → two ≡ one ++ decimal n → three ≡ two ++ codes "\n" → new ≡ three ++ line → IsUidLine octets n line
    → IsRefusedText octets n new
refused_more octets n one two three new line a b c d is =
    (line, inr is, d ∙ ap (λ (z : List ℕ). z ++ line) (c ∙ ap (λ (z : List ℕ). z ++ codes "\n") (b ∙ ap (λ (z : List ℕ). z ++ decimal n) a)))

module _ (octets : List ℕ) (a b : Option (List ℕ)) (lost : Bool) (status : ℕ) where
  pub check_memory : status ≡ 5 → SaysLine memory_text a b lost → IsCheckSaid status octets a b lost
  check_memory is says = record { yes = λ e. absurd (omega (arith, is, e)); no = λ e. absurd (omega (arith, is, e)); device = λ e. absurd (omega (arith, is, e)); memory = λ _. says }

  pub check_unwritten : (fault : WriteFault) → status ≡ write_status fault → SaysLine (write_text fault) a b lost → IsCheckSaid status octets a b lost
  check_unwritten write.Failed is says = record { yes = λ e. absurd (omega (arith, is, e)); no = λ e. absurd (omega (arith, is, e)); device = λ _. says; memory = λ e. absurd (omega (arith, is, e)) }
  check_unwritten write.Memory is says = check_memory is says

  pub check_done : status ≤ 1 → (status ≡ 0 → Keeps a b) → (status ≡ 1 → SaysBlamed octets a b lost) → IsCheckSaid status octets a b lost
  check_done l quiet says = record { yes = quiet; no = says; device = λ e. absurd (omega (arith, l, e)); memory = λ e. absurd (omega (arith, l, e)) }
