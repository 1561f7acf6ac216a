-- The copies so far, and the components that are left, say what all components say.
use Rattle.std.proofs.Common.{◌++◌, List, drop}
use Rattle.std.specs.List.{AllZip}
use Rattle.profile.specs.events.EventComponents.{EventComponent}
use Rattle.itip_messages.specs.Message.{SaysComponent}
use Rattle.organiser_books.proofs.organiser.copies_of.Given as goal

abbrev pub invariant-loop-component : goal.invariant-loop-component
invariant-loop-component l =
    (said : List EventComponent) → AllZip SaysComponent said l.components → AllZip SaysComponent said (l.copies.items ++ drop l.component-index l.components)
