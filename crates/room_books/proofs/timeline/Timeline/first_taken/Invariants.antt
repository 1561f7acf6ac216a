-- If none of those that are left shares an instant, none of all does.
use Rattle.std.proofs.Common.{Contains, None, drop}
use Rattle.room_books.specs.Timeline.{AreTaken, is_leaving}
use Rattle.room_books.proofs.timeline.Timeline.first_taken.Given as goal

abbrev pub invariant-loop-single : goal.invariant-loop-single
invariant-loop-single l = AreTaken (is_leaving l.own l.gone) l.self.busy.items (Contains (drop l.single-index l.wanted)) None → AreTaken (is_leaving l.own l.gone) l.self.busy.items (Contains l.wanted) None
