use Rattle.std.proofs.Common.{◌≡◌, ◌++◌, take, string_bytes}
use Rattle.profile.specs.rooms.Messages.{word}
use Rattle.itip_messages.proofs.reply.put_word.Given as goal

abbrev pub invariant-loop-octet : goal.invariant-loop-octet
invariant-loop-octet l = string_bytes l.line ≡ string_bytes l.initial.line ++ word (take l.octet-index l.octet-items)
