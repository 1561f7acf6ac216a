use Rattle.std.proofs.Common.{◌≡◌, ◌++◌, map}
use denote.Ref.{Bor}
use Rattle.std.specs.Map.{keys_of}
use Rattle.ical_values.specs.declared.text.Text.{Text}
use Rattle.organiser_books.proofs.organiser.Organiser.uids.Given as goal

-- those so far, and those that are left
abbrev pub invariant-loop-uid : goal.invariant-loop-uid
invariant-loop-uid l = map (λ (u : Bor Text). u.now) l.uids.items ++ l.uid-iterator ≡ keys_of l.self.meetings.entries
