use Rattle.std.proofs.Common.{map, take}
use Rattle.profile.specs.series.RuleTexts.{nth_entry}
use Rattle.cal_rules.specs.Views.{weekday_number_of}
use Rattle.cal_rules.proofs.Sorting.{ArePlaces}
use Rattle.cal_rules.proofs.write.entries_in_order.Given as goal

-- the places of those that were seen
abbrev pub invariant-loop-entry : goal.invariant-loop-entry
invariant-loop-entry l = ArePlaces nth_entry 0 749 (map weekday_number_of (take l.entry-index l.entries)) l.places.items
