use Rattle.std.proofs.Common.{◌≡◌, take, false, List}
use Rattle.std.specs.Prelude.{option_copied}
use Rattle.std.specs.List.{list_any}
use Rattle.itip_order.specs.Registers.{RepresentsHistory}
use Rattle.profile.specs.rooms.Revisions.{Part}
use Rattle.profile.specs.rooms.Rooms.{is_fresh}
use Rattle.room_books.specs.Taking.{HasHistory, parts_said}
use Rattle.room_books.proofs.change.Views.any_fresh.Given as goal

abbrev pub invariant-loop-claim : goal.invariant-loop-claim
invariant-loop-claim l = (before after : List Part) → HasHistory (option_copied l.self.before) before → RepresentsHistory l.self.after.now after
    → list_any (is_fresh before after) (parts_said (take l.claim-index l.self.claims.now)) ≡ false
