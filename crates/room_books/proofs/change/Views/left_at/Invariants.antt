use Rattle.std.proofs.Common.{List, take}
use Rattle.itip_order.specs.Registers.{RepresentsHistory}
use Rattle.profile.specs.rooms.Revisions.{Part}
use Rattle.itip_order.specs.Parts.{part_of}
use Rattle.room_books.specs.Slots.{givens}
use Rattle.room_books.specs.Gone.{IsSplitInto}
use Rattle.room_books.specs.Room.{KeepsSome}
use Rattle.room_books.specs.Meeting.{all_series, all_singles, AreFewer, SaysLossOfOne}
use Rattle.room_books.proofs.change.Views.left_at.Given as goal

abbrev pub invariant-loop-given : goal.invariant-loop-given
invariant-loop-given l =
    KeepsSome (part_of l.self.part.now) l.self.slots.now l.before.held l.self.after.now (givens (take l.given-index l.out)) l.left.items
    × IsSplitInto (all_singles (givens (take l.given-index l.out))) l.gone.singles.items (all_singles l.left.items)
    × AreFewer (all_series (givens (take l.given-index l.out))) (all_series l.left.items)
    × ((history : List Part) → RepresentsHistory l.self.after.now history → SaysLossOfOne l.gone.recurs (all_series (givens (take l.given-index l.out))) (all_series l.left.items))
