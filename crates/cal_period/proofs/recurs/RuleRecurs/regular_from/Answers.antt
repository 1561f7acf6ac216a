use Rattle.std.proofs.Common.{◌≡◌, ◌∙◌, sym, subst, ap, arith, ◌+◌, true, to_z, of_z, w64}
use Rattle.std.specs.Prelude.{IfSome}
use Rattle.std.proofs.lemmas.Int.{ints}
use Rattle.profile.specs.series.Days.{day_index}
use Rattle.profile.specs.series.Rules.{last_rule_day}
use Rattle.profile.specs.series.Zones.{local_time}
use Rattle.profile.specs.events.Spans.{has_end}
use Rattle.cal_rules.specs.LastDays.{NoDayTo, IsLastDayTo}
use Rattle.cal_period.proofs.Members.{ended_from, never_from}
use Rattle.cal_period.proofs.recurs.RuleRecurs.regular_from.Goals as goal

pub returns-in-Some-clause-regular : goal.returns-in-Some-clause-regular
returns-in-Some-clause-regular c =
    let r = c.args.self.now in
    let ended : has_end r ≡ true = sym c.ends.ensures ∙ c.if-not-ends.false in
    let last : day_index c.unwrap.result ≡ last_rule_day = subst (λ o. IfSome o (λ day. day_index day ≡ 3_652_424)) c.unwrap.ensures c.at_index.ensures.value in
    let fits : to_z w64 (of_z w64 c.seconds_at-in-Some.result) ≡ c.seconds_at-in-Some.result = omega (arith, ints, c.seconds_at-in-Some.type_inv) in
    (ended_from r _ (day_index c.in-Some.last) ended (subst (λ n. IsLastDayTo r n (day_index c.in-Some.last)) last c.in-Some.ensures) (fits ∙ c.seconds_at-in-Some.ensures ∙ ap (λ n. local_time (n + 1) 0) c.index-in-Some.ensures.value)).0

pub returns-in-None-clause-regular : goal.returns-in-None-clause-regular
returns-in-None-clause-regular c =
    let r = c.args.self.now in
    let ended : has_end r ≡ true = sym c.ends.ensures ∙ c.if-not-ends.false in
    let last : day_index c.unwrap.result ≡ last_rule_day = subst (λ o. IfSome o (λ day. day_index day ≡ 3_652_424)) c.unwrap.ensures c.at_index.ensures.value in
    let fits : to_z w64 (of_z w64 c.seconds_at-in-None.result) ≡ c.seconds_at-in-None.result = omega (arith, ints, c.seconds_at-in-None.type_inv) in
    (never_from r _ ended (subst (λ n. NoDayTo r n) last c.in-None.ensures) (fits ∙ c.seconds_at-in-None.ensures ∙ ap (λ n. local_time n 0) (c.index-in-None.ensures.value ∙ c.start-in-None.ensures))).0
