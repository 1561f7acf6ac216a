use Rattle.std.proofs.Common.{subst, refl}
use Rattle.profile.specs.series.Rules.{Pattern}
use Rattle.profile.specs.series.Residues.{IsLeastStrideOf}
use Rattle.cal_rules.proofs.FormParts.{interval_of, pattern_is}
use Rattle.cal_rules.proofs.rule.Rule.stride.Goals as goal

pub stride-requires : goal.stride-requires
stride-requires c = record { interval = interval_of c.written.result.now c.text-text.result.now c.written.ensures.is c.is_allowed.ensures }

pub returns-clause-least : goal.returns-clause-least
returns-clause-least c =
    let start = c.args.self.now.pattern.start in
    subst (λ (p : Pattern). IsLeastStrideOf p c.stride.result) (pattern_is c.written.result.now c.text-text.result.now c.args.self.now start c.written.ensures.is c.text-text.ensures refl)
    (c.stride.ensures.least start)
