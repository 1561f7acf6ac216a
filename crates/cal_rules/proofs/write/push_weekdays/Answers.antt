use Rattle.std.proofs.Common.{◌∙◌, ◌++◌, ap, sym, refl, codes, map, string_bytes, if◌then◌else◌}
use Rattle.profile.specs.series.RuleTexts.{nth_entry, weekday_number_text, entries_from}
use Rattle.cal_rules.specs.Views.{weekday_number_of}
use Rattle.cal_rules.proofs.Sorting.{next_listed, none_listed, all_listed}
use Rattle.cal_rules.proofs.write.push_weekdays.Goals as goal

pub loop-place-init : goal.loop-place-init
loop-place-init c = refl

pub nth_entry-requires : goal.nth_entry-requires
nth_entry-requires c =
    rw c.deref-place-items.ensures.value (c.in_ok-places.ensures.below c.loop-place.place-index 0 (rw c.deref-place-items.ensures.value at c.loop-place-test.true))

pub loop-place-preserved : goal.loop-place-preserved
loop-place-preserved c =
    next_listed (λ p. weekday_number_text (nth_entry p)) (string_bytes c.loop-place.text) (string_bytes c.push_lead.new.text) (string_bytes c.push_entry.new.text) (if c.loop-place.is_first then codes ";BYDAY=" else codes ",") c.deref-place-items.result.now c.loop-place.place-index 0 c.loop-place-test.true c.in_ok-push_lead.ensures
    (c.in_ok-push_entry.ensures ∙ ap (λ e. string_bytes c.push_lead.new.text ++ weekday_number_text e) c.nth_entry.ensures)
    ∙ c.loop-place.invariant

pub returns : goal.returns
returns c =
    sym (none_listed (λ p. weekday_number_text (nth_entry p)) (string_bytes c.loop-place.text) (if c.loop-place.is_first then codes ";BYDAY=" else codes ",") c.deref-place-items.result.now c.loop-place.place-index c.loop-place-test.false)
    ∙ c.loop-place.invariant
    ∙ all_listed weekday_number_text nth_entry (string_bytes c.args.text.now) (codes ";BYDAY=") c.deref-place-items.result.now c.in_ok-places.places.items (entries_from 0 (map weekday_number_of c.args.entries.now)) c.deref-place-items.ensures.value c.in_ok-places.ensures.lists
