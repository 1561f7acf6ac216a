-- The components so far were heard, and there is room for the others.
use Rattle.std.proofs.Common.{◌≡◌, ◌≤◌, ◌+◌, ◌++◌, false, List, take, length}
use Rattle.std.specs.List.{flat_map}
use Rattle.indexmap.specs.IndexMap.{spare}
use Rattle.profile.specs.organisers.Organisers.{Heard, Stored}
use Rattle.itip_order.specs.Parts.{revision_of}
use Rattle.organiser_books.specs.Representation.{heard_said, is_strange, AreSeen}
use Rattle.organiser_books.proofs.meeting.StoredMeeting.hear_all.Given as goal

abbrev pub invariant-loop-component : goal.invariant-loop-component
invariant-loop-component l =
    (l.self.revision ≡ l.fn.self.revision) × (l.self.components ≡ l.fn.self.components) × (l.self.attending ≡ l.fn.self.attending) × (l.self.object ≡ l.fn.self.object)
    × ((stored : Stored) (replies : List Heard) → revision_of l.fn.self.revision ≡ stored.revision → AreSeen l.fn.self stored replies
    → is_strange l.fn.self l.components ≡ false
    → AreSeen l.self stored (replies ++ flat_map (heard_said stored.uid) (take l.component-index l.components)))
    × (length l.components ≤ spare l.self.answers + l.component-index)
