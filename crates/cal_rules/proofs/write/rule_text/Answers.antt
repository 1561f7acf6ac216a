use Rattle.std.proofs.Common.{◌≡◌, ◌∙◌, ◌++◌, ap, map, List, ℕ, codes, decimal, string_bytes}
use Rattle.std.specs.Fmt.{signed_decimal}
use Rattle.profile.specs.series.RuleTexts.{listed, weekday_number_text, months_from, numbers_from, entries_from}
use Rattle.cal_rules.specs.Views.{weekday_number_of, rule_text_said}
use Rattle.cal_rules.proofs.Sorting.{months_ready, days_ready, entries_ready, positions_ready}
use Rattle.cal_rules.proofs.write.rule_text.Goals as goal

-- one more piece
more : {before so_far now : List ℕ} (piece : List ℕ) → now ≡ so_far ++ piece → so_far ≡ before → now ≡ before ++ piece
more piece e f = e ∙ ap (λ t. t ++ piece) f

pub push_months-requires : goal.push_months-requires
push_months-requires c = months_ready (rule_text_said c.args.written.now) c.deref.result.now c.requires c.deref.ensures.value

pub push_numbers-requires : goal.push_numbers-requires
push_numbers-requires c = days_ready (rule_text_said c.args.written.now) c.deref-2.result.now c.requires c.deref-2.ensures.value

pub push_weekdays-requires : goal.push_weekdays-requires
push_weekdays-requires c = entries_ready (rule_text_said c.args.written.now) (map weekday_number_of c.deref-3.result.now) c.requires (ap (map weekday_number_of) c.deref-3.ensures.value)

pub push_numbers-requires-2 : goal.push_numbers-requires-2
push_numbers-requires-2 c = positions_ready (rule_text_said c.args.written.now) c.deref-4.result.now c.requires c.deref-4.ensures.value

pub returns : goal.returns
returns c =
    more _ c.in_ok-push_week_start.ensures
    (more _ (c.in_ok-push_numbers-2.ensures ∙ ap (λ ns. string_bytes c.push_weekdays.new.text ++ listed (codes ";BYSETPOS=") (map signed_decimal (numbers_from 0 ns))) c.deref-4.ensures.value)
    (more _ (c.in_ok-push_weekdays.ensures ∙ ap (λ es. string_bytes c.push_numbers.new.text ++ listed (codes ";BYDAY=") (map weekday_number_text (entries_from 0 (map weekday_number_of es)))) c.deref-3.ensures.value)
    (more _ (c.in_ok-push_numbers.ensures ∙ ap (λ ns. string_bytes c.push_months.new.text ++ listed (codes ";BYMONTHDAY=") (map signed_decimal (numbers_from 0 ns))) c.deref-2.ensures.value)
    (more _ (c.in_ok-push_months.ensures ∙ ap (λ ms. string_bytes c.push_interval.new.text ++ listed (codes ";BYMONTH=") (map decimal (months_from 1 ms))) c.deref.ensures.value)
    (more _ c.in_ok-push_interval.ensures
    (more _ c.in_ok-push_until.ensures
    (more _ c.in_ok-push_count.ensures
    (more _ (c.in_ok-push_str.ensures.bytes ∙ ap (λ w. string_bytes c.in_ok-text.text ++ w) c.frequency_word.ensures) c.in_ok-text.ensures.ok))))))))
