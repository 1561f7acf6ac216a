use Rattle.std.proofs.Common.{◌≡◌, ◌∙◌, sym, ap, ℕ, List, None, option_map}
use Rattle.std.specs.Result.{result_ok}
use Rattle.profile.specs.series.RuleTexts.{rule_parts, SpellsFrequency, IsLeastRuleFault}
use Rattle.cal_days.specs.Views.{frequency_of}
use Rattle.cal_rules.specs.Views.{rule_text_said}
use Rattle.cal_rules.specs.Taken.{field, values_in, ArePartsTaken}
use Rattle.cal_rules.proofs.OneRule.{least_kept, least_no_frequency, least_32, least_33}
use Rattle.cal_rules.proofs.Parted.{all_good}
use Rattle.cal_rules.proofs.Taking.{no_values, kept_none, missing_number}
use Rattle.ical_values.proofs.Exits.{err_exit}
use Rattle.cal_rules.proofs.parts.Parts.finish.Goals as goal

pub returns-in-Some-clause-refuses : goal.returns-in-Some-clause-refuses
returns-in-Some-clause-refuses c = λ text taken. least_kept text c.args.self c.in-Some.fault taken c.in-Some.is

pub returns-in_err-frequency-clause-refuses : goal.returns-in_err-frequency-clause-refuses
returns-in_err-frequency-clause-refuses c =
    let none : c.args.self.frequency ≡ None = c.ok_or.ensures.ok_part ∙ ap result_ok c.in_err-frequency.was in
    let number : c.in_err-frequency.field-0.0.number ≡ 32 = missing_number c.ok_or.result c.args.self.frequency _ _ c.ok_or.ensures.value c.in_err-frequency.was none in
    err_exit c.from_residual.result (λ e. (text : List ℕ) → ArePartsTaken (rule_parts text) c.args.self → IsLeastRuleFault text e.number) c.in_err-frequency.field-0.0 c.from_residual.ensures.1 (λ text taken.
    let k = kept_none (rule_parts text) c.args.self taken c.in_default.is in
    rw number (least_no_frequency text taken.known (all_good text k.0) (no_values SpellsFrequency (values_in None (rule_parts text)) (field None c.args.self) (k.1 None) (ap (option_map frequency_of) none))))

pub returns-then-not-go_together-clause-refuses : goal.returns-then-not-go_together-clause-refuses
returns-then-not-go_together-clause-refuses c = λ text taken.
    let k = kept_none (rule_parts text) c.args.self taken c.in_default.is in
    least_32 text (rule_text_said c.written-written.result) taken.known (all_good text k.0) (c.written-written.ensures text k.1 (c.ok_or.ensures.ok_part ∙ ap result_ok c.in_ok-frequency.was)) (sym c.go_together.ensures ∙ c.if-not-go_together.true)

pub returns-then-not-has_one_end-clause-refuses : goal.returns-then-not-has_one_end-clause-refuses
returns-then-not-has_one_end-clause-refuses c = λ text taken.
    let k = kept_none (rule_parts text) c.args.self taken c.in_default.is in
    least_33 text (rule_text_said c.written-written.result) taken.known (c.written-written.ensures text k.1 (c.ok_or.ensures.ok_part ∙ ap result_ok c.in_ok-frequency.was)) (sym c.go_together.ensures ∙ c.if-not-go_together.false) (sym c.has_one_end.ensures ∙ c.if-not-has_one_end.true)

pub returns-clause-says : goal.returns-clause-says
returns-clause-says c = λ text taken.
    let k = kept_none (rule_parts text) c.args.self taken c.in_default.is in
    record {
      known = taken.known;
      says = c.written-written.ensures text k.1 (c.ok_or.ensures.ok_part ∙ ap result_ok c.in_ok-frequency.was);
      together = sym c.go_together.ensures ∙ c.if-not-go_together.false;
      one_end = sym c.has_one_end.ensures ∙ c.if-not-has_one_end.false;
    }
