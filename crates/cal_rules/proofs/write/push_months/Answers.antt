use Rattle.std.proofs.Common.{◌∙◌, ◌++◌, ap, sym, refl, codes, decimal, map, string_bytes, if◌then◌else◌}
use Rattle.profile.specs.series.RuleTexts.{listed}
use Rattle.cal_rules.proofs.Sorting.{next_listed, none_listed}
use Rattle.cal_rules.proofs.write.push_months.Goals as goal

pub loop-place-init : goal.loop-place-init
loop-place-init c = refl

pub loop-place-preserved : goal.loop-place-preserved
loop-place-preserved c =
    next_listed decimal (string_bytes c.loop-place.text) (string_bytes c.push_lead.new.text) (string_bytes c.push_number.new.text) (if c.loop-place.is_first then codes ";BYMONTH=" else codes ",") c.deref-place-items.result.now c.loop-place.place-index 0 c.loop-place-test.true c.in_ok-push_lead.ensures c.in_ok-push_number.ensures
    ∙ c.loop-place.invariant

pub returns : goal.returns
returns c =
    sym (none_listed decimal (string_bytes c.loop-place.text) (if c.loop-place.is_first then codes ";BYMONTH=" else codes ",") c.deref-place-items.result.now c.loop-place.place-index c.loop-place-test.false)
    ∙ c.loop-place.invariant
    ∙ ap (λ ms. string_bytes c.args.text.now ++ listed (codes ";BYMONTH=") (map decimal ms)) (c.deref-place-items.ensures.value ∙ c.in_ok-places.ensures)
