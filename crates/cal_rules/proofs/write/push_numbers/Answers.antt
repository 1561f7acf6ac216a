use Rattle.std.proofs.Common.{◌<◌, ◌∙◌, ◌++◌, ap, sym, refl, codes, get_or, string_bytes, if◌then◌else◌}
use Rattle.std.specs.Fmt.{signed_decimal}
use Rattle.profile.specs.series.RuleTexts.{nth_number, numbers_from}
use Rattle.cal_rules.proofs.Listed.{number_cast}
use Rattle.cal_rules.proofs.Sorting.{next_listed, none_listed, all_listed}
use Rattle.cal_rules.proofs.write.push_numbers.Goals as goal

pub loop-place-init : goal.loop-place-init
loop-place-init c = refl

pub loop-place-preserved : goal.loop-place-preserved
loop-place-preserved c =
    let k = get_or c.deref-place-items.result.now c.loop-place.place-index 0 in
    let low : k < 733 = rw c.deref-place-items.ensures.value (c.in_ok-places.ensures.below c.loop-place.place-index 0 (rw c.deref-place-items.ensures.value at c.loop-place-test.true)) in
    next_listed (λ p. signed_decimal (nth_number p)) (string_bytes c.loop-place.text) (string_bytes c.push_lead.new.text) (string_bytes c.push_signed.new.text) (if c.loop-place.is_first then c.args.name.now else codes ",") c.deref-place-items.result.now c.loop-place.place-index 0 c.loop-place-test.true c.in_ok-push_lead.ensures
    (c.in_ok-push_signed.ensures ∙ ap (λ z. string_bytes c.push_lead.new.text ++ signed_decimal z) (number_cast k low))
    ∙ c.loop-place.invariant

pub returns : goal.returns
returns c =
    sym (none_listed (λ p. signed_decimal (nth_number p)) (string_bytes c.loop-place.text) (if c.loop-place.is_first then c.args.name.now else codes ",") c.deref-place-items.result.now c.loop-place.place-index c.loop-place-test.false)
    ∙ c.loop-place.invariant
    ∙ all_listed signed_decimal nth_number (string_bytes c.args.text.now) c.args.name.now c.deref-place-items.result.now c.in_ok-places.places.items (numbers_from 0 c.args.numbers.now) c.deref-place-items.ensures.value c.in_ok-places.ensures.lists
