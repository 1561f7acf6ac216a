use Rattle.std.proofs.Common.{map, take}
use Rattle.organiser_books.specs.Showing.{octets_at}
use Rattle.organiser_books.proofs.Showing.{AreShown}
use Rattle.organiser_books.proofs.organiser.Organiser.texts.Given as goal

-- the texts of those before
abbrev pub invariant-loop-uid : goal.invariant-loop-uid
invariant-loop-uid l = AreShown l.self (map octets_at (take l.uid-index l.uid-items)) l.octets.items
