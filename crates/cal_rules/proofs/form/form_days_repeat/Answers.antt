use Rattle.cal_rules.proofs.Forms.{form_shift, rule_day_form, strides_are_multiples}
use Rattle.cal_rules.proofs.Covers.{cover, cycle_stride, listed_form}
use Rattle.cal_rules.proofs.form.form_days_repeat.Goals as goal

pub returns : goal.returns
returns c = record {
  rule_days = rule_day_form;
  shifts = form_shift;
  cycle = cycle_stride;
  listed = listed_form;
  cover = λ p n some h form. cover p n some h form;
  strides = strides_are_multiples;
}
