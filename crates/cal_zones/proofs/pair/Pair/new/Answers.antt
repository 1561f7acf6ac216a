use Rattle.std.proofs.Common.{rules}
use Rattle.std.proofs.Common.{inr, refl, sym, ◌∙◌}
use Rattle.std.proofs.lemmas.Option.{none-some}
use Rattle.cal_zones.proofs.Spacing.{never_at_once, pair_spaced, pair_close}
use Rattle.cal_zones.proofs.pair.Pair.new.Goals as goal

pub invariant_of-result : goal.invariant_of-result
invariant_of-result c =
    let matched = c.are_matched.ensures.yes c.if-not-are_matched.false in
    record {
      first = λ none. none-some c.in-Some.first (sym none ∙ c.in-Some.is);
      second = λ none. none-some c.in-Some-rule.second (sym none ∙ c.in-Some-rule.is);
      near = matched.2;
      there = matched.0;
      back = matched.1;
      apart = never_at_once c.args.standard c.args.daylight c.in-Some.first c.in-Some-rule.second c.in-Some.is c.in-Some-rule.is (c.is_spaced.ensures.apart c.if-not-is_spaced.false);
    }

pub returns-clause-accepted : goal.returns-clause-accepted
returns-clause-accepted c =
    (c.are_matched.ensures.yes c.if-not-are_matched.false, pair_spaced c.args.standard c.args.daylight c.in-Some.first c.in-Some-rule.second c.in-Some.is c.in-Some-rule.is (c.is_spaced.ensures.apart c.if-not-is_spaced.false))

pub returns-then-not-is_spaced-clause-refuses : goal.returns-then-not-is_spaced-clause-refuses
returns-then-not-is_spaced-clause-refuses c =
    inr (inr (refl, pair_close c.args.standard c.args.daylight c.in-Some.first c.in-Some-rule.second c.in-Some.is c.in-Some-rule.is (c.is_spaced.ensures.near c.if-not-is_spaced.true)))

pub returns-in_default-clause-standard : goal.returns-in_default-clause-standard
returns-in_default-clause-standard c = search rules

pub returns-in_default-clause-daylight : goal.returns-in_default-clause-daylight
returns-in_default-clause-daylight c = search rules

pub returns-in_default-clause-accepted : goal.returns-in_default-clause-accepted
returns-in_default-clause-accepted c = search rules

pub returns-in_default-clause-refuses : goal.returns-in_default-clause-refuses
returns-in_default-clause-refuses c = search rules

pub returns-in_default-clause-least : goal.returns-in_default-clause-least
returns-in_default-clause-least c = search rules

pub returns-in_default-rule-clause-standard : goal.returns-in_default-rule-clause-standard
returns-in_default-rule-clause-standard c = search rules

pub returns-in_default-rule-clause-daylight : goal.returns-in_default-rule-clause-daylight
returns-in_default-rule-clause-daylight c = search rules

pub returns-in_default-rule-clause-accepted : goal.returns-in_default-rule-clause-accepted
returns-in_default-rule-clause-accepted c = search rules

pub returns-in_default-rule-clause-refuses : goal.returns-in_default-rule-clause-refuses
returns-in_default-rule-clause-refuses c = search rules

pub returns-in_default-rule-clause-least : goal.returns-in_default-rule-clause-least
returns-in_default-rule-clause-least c = search rules

pub returns-clause-standard : goal.returns-clause-standard
returns-clause-standard c = search rules

pub returns-clause-daylight : goal.returns-clause-daylight
returns-clause-daylight c = search rules

pub returns-clause-refuses : goal.returns-clause-refuses
returns-clause-refuses c = search rules

pub returns-clause-least : goal.returns-clause-least
returns-clause-least c = search rules
