use Rattle.std.proofs.Common.{◌+◌, ◌∙◌, ap, map, take, arith}
use Rattle.std.proofs.lemmas.List.{take_all, take_more, map-append}
use Rattle.profile.specs.series.Rules.{is_entry}
use Rattle.profile.specs.series.RuleTexts.{nth_entry}
use Rattle.cal_rules.specs.Views.{weekday_number_of}
use Rattle.cal_rules.proofs.Sorting.{entries_sorted, one_place, all_below, all_mapped}
use Rattle.cal_rules.proofs.write.entries_in_order.Goals as goal

pub place_of_entry-requires : goal.place_of_entry-requires
place_of_entry-requires c = all_mapped is_entry weekday_number_of c.args.entries.now c.loop-entry.entry-index _ c.requires c.loop-entry-test.true

pub loop-entry-preserved : goal.loop-entry-preserved
loop-entry-preserved c =
    one_place nth_entry 0 749 (map weekday_number_of (take c.loop-entry.entry-index c.args.entries.now)) (map weekday_number_of (take (c.loop-entry.entry-index + 1) c.args.entries.now)) c.loop-entry.places.items c.push.new.self.items c.place_of_entry.result _ c.loop-entry.invariant
    (ap (map weekday_number_of) (take_more c.args.entries.now c.loop-entry.entry-index _ c.loop-entry-test.true) ∙ map-append weekday_number_of (take c.loop-entry.entry-index c.args.entries.now) _)
    c.in_ok-push.ensures.items c.place_of_entry.ensures.1 (omega arith) c.place_of_entry.ensures.0

pub returns-clause-lists : goal.returns-clause-lists
returns-clause-lists c =
    let o = c.put_in_order.ensures in
    entries_sorted (map weekday_number_of c.args.entries.now) c.loop-entry.places.items c.put_in_order.new.places.items (rw (take_all c.loop-entry.entry-index c.args.entries.now c.loop-entry-test.false) at c.loop-entry.invariant) o.rises o.keeps o.adds_none

pub returns-clause-below : goal.returns-clause-below
returns-clause-below c = all_below 0 749 c.loop-entry.places.items c.put_in_order.new.places.items c.loop-entry.invariant.within c.put_in_order.ensures.adds_none
