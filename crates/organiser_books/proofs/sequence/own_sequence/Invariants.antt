use Rattle.std.proofs.Common.{◌≡◌, take}
use Rattle.organiser_books.specs.Storing.{own_in}
use Rattle.organiser_books.proofs.sequence.own_sequence.Given as goal

-- the greatest so far
abbrev pub invariant-loop-component : goal.invariant-loop-component
invariant-loop-component l = l.greatest ≡ own_in (take l.component-index l.components)
