use Rattle.std.proofs.Common.{take, List}
use Rattle.itip_order.specs.Registers.{RepresentsHistory}
use Rattle.profile.specs.rooms.Revisions.{Part}
use Rattle.room_books.specs.Reply.{AreShown}
use Rattle.room_books.proofs.reply.shown_in.Given as goal

abbrev pub invariant-loop-claim : goal.invariant-loop-claim
invariant-loop-claim l = (history : List Part) → RepresentsHistory l.views.after.now history → AreShown history (take l.claim-index l.views.claims.now) l.shown.items
