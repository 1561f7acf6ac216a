use Rattle.std.proofs.Common.{◌∙◌, ap, refl}
use Rattle.cal_rules.specs.Forms.{form_cycle}
use Rattle.cal_rules.proofs.FormParts.{interval_of, pattern_is}
use Rattle.cal_rules.proofs.rule.Rule.form_cycle.Goals as goal

pub form_cycle-requires : goal.form_cycle-requires
form_cycle-requires c = record { interval = interval_of c.written.result.now c.text-text.result.now c.written.ensures.is c.is_allowed.ensures }

pub returns-clause-cycle : goal.returns-clause-cycle
returns-clause-cycle c =
    let start = c.args.self.now.pattern.start in
    c.form_cycle.ensures.cycle start ∙ ap form_cycle (pattern_is c.written.result.now c.text-text.result.now c.args.self.now start c.written.ensures.is c.text-text.ensures refl)
