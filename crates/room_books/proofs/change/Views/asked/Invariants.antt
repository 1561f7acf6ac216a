use Rattle.std.proofs.Common.{take, List}
use Rattle.std.specs.Prelude.{option_copied}
use Rattle.itip_order.specs.Registers.{RepresentsHistory}
use Rattle.profile.specs.rooms.Revisions.{Part}
use Rattle.room_books.specs.Taking.{HasHistory, AreAsked}
use Rattle.room_books.proofs.change.Views.asked.Given as goal

abbrev pub invariant-loop-claim : goal.invariant-loop-claim
invariant-loop-claim l = (before after : List Part) → HasHistory (option_copied l.self.before) before → RepresentsHistory l.self.after.now after
    → AreAsked before after (take l.claim-index l.self.claims.now) l.asked.items
