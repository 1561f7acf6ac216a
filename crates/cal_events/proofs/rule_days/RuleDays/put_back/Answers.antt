use Rattle.std.proofs.Common.{◌≡◌, sym, ap, ◌∙◌, subst}
use Rattle.profile.specs.series.Days.{day_index}
use Rattle.profile.specs.series.Rules.{rule_days_from}
use Rattle.cal_events.specs.RuleDays.{rest_to_come, with_first}
use Rattle.cal_events.proofs.rule_days_lemmas.RuleDayLemmas.{first_back}
use Rattle.cal_events.proofs.rule_days.RuleDays.put_back.Goals as goal

pub returns-clause-days : goal.returns-clause-days
returns-clause-days c = λ rule from are next is.
    let s = c.args.self.now in
    first_back rule from s.from (day_index c.args.day) (rest_to_come s.rest) (subst (λ o. with_first o (rest_to_come s.rest) ≡ rule_days_from rule s.from) c.requires are) next is
    ∙ ap (rule_days_from rule) (sym c.index-self.ensures.value)
