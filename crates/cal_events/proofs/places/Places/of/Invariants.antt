use Rattle.cal_events.proofs.shared_lemmas.PlaceLemmas.{AreFound}
use Rattle.cal_events.proofs.places.Places.of.Given as goal

-- the places of those so far
abbrev pub invariant-loop-which : goal.invariant-loop-which
invariant-loop-which l = AreFound l.overrides l.which l.sorted.items
