use Rattle.std.proofs.Common.{length}
use Rattle.ical_lines.specs.Unfold.{lines_after}
use Rattle.fault_places.proofs.PlaceLemmas.{Walks}
use Rattle.fault_places.proofs.place.place_of.Given as goal

abbrev pub invariant-loop-left : goal.invariant-loop-left
invariant-loop-left l = Walks l.fn.octets l.fn.line (lines_after l.left) l.begun.content.items l.begun.line l.begun.count l.begun.sought

abbrev pub decreases-loop-left : goal.decreases-loop-left
decreases-loop-left l = length (lines_after l.left)
