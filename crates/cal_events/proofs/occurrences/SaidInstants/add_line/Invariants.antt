use Rattle.std.proofs.Common.{◌≡◌, ◌⊎◌, ◌++◌, ℕ, List, Some}
use Rattle.ical_lines.specs.Text.{line_text}
use Rattle.profile.specs.events.Occurrences.{ListedTime}
use Rattle.cal_rules.proofs.Cuts.{Leaves}
use Rattle.cal_events.specs.Zones.{object_of}
use Rattle.cal_events.specs.Occurrences.{name_of, AreListed}
use Rattle.cal_events.proofs.occurrences_lemmas.OccurrenceLemmas.{texts, on_line}
use Rattle.cal_events.proofs.occurrences.SaidInstants.add_line.Given as goal

-- the texts so far were added, and the others are left
abbrev pub invariant-loop-text : goal.invariant-loop-text
invariant-loop-text l =
    (left : List (List ℕ)) × Leaves l.text-iterator left × (seen : List (List ℕ)) × (texts (line_text l.fn.line) ≡ seen ++ left)
    × ((done : List ListedTime) → AreListed (object_of l.fn.zones) (name_of l.fn.listing) done l.fn.self
    → AreListed (object_of l.fn.zones) (name_of l.fn.listing) (done ++ on_line (line_text l.fn.line) seen) l.self)
    × ((l.self.outside ≡ l.fn.self.outside) ⊎ (l.self.outside ≡ Some l.fn.line.number))
