-- The components so far are noted.
use Rattle.std.proofs.Common.{[], take}
use Rattle.organiser_books.specs.Attending.{lists_of, AreNoted}
use Rattle.organiser_books.proofs.attending.attending.Given as goal

abbrev pub invariant-loop-place : goal.invariant-loop-place
invariant-loop-place l = AreNoted (lists_of (take l.place l.components)) l.place [] l.attending.entries
