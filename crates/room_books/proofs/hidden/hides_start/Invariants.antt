use Rattle.std.proofs.Common.{◌≡◌, false, List, take}
use Rattle.itip_order.specs.Parts.{part_of}
use Rattle.itip_order.specs.Registers.{RepresentsHistory}
use Rattle.profile.specs.checker.Instances.{Instance}
use Rattle.profile.specs.events.Starts.{IsInstance}
use Rattle.profile.specs.rooms.Revisions.{Part}
use Rattle.cal_events.specs.Series.{series_said}
use Rattle.room_books.specs.Taking.{is_hidden_by}
use Rattle.room_books.proofs.hidden.hides_start.Given as goal

abbrev pub invariant-loop-slot : goal.invariant-loop-slot
invariant-loop-slot l =
    (history : List Part) → RepresentsHistory l.held history → (b : Instance) → IsInstance (series_said l.series) b → is_hidden_by (take l.slot-index l.slots) history (part_of l.part) b ≡ false
