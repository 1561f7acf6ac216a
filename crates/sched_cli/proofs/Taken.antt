-- The line of an object that isn't refused.
use Rattle.std.proofs.Common.{◌≡◌, ◌∙◌, ap, ℕ, List, Option}
use Rattle.std.specs.Io.KnownBytes.{Appends}
use Rattle.itip_messages.specs.Message.{IsSpelled}
use Rattle.itip_messages.specs.declared.message.Message.{Message}
use Rattle.sched_cli.specs.Diagnosis.{IsTakenLine, SaysTaken, message_line, method_line}

taken_line : (octets line : List ℕ) (message : Message) → IsSpelled octets message → line ≡ message_line message → IsTakenLine octets line
taken_line octets line message (said, spells, represented) is = (said, spells, is ∙ ap method_line represented.method)

pub says_taken : (octets line : List ℕ) (message : Message) (old new : Option (List ℕ)) → IsSpelled octets message → line ≡ message_line message → Appends old new line → SaysTaken octets old new
says_taken octets line message old new spells is written = (line, taken_line octets line message spells is, written)
