use Rattle.std.proofs.Common.{◌≡◌, ◌∙◌, sym, ap, to_z, of_z, w64}
use Rattle.std.specs.Prelude.{Some}
use Rattle.profile.specs.series.Rules.{UntilInstant}
use Rattle.cal_rules.specs.Views.{until_of}
use Rattle.cal_zones.specs.Kinds.{zone_of}
use Rattle.profile.specs.events.EventRules.{as_end}
use Rattle.cal_events.proofs.event_rule_lemmas.RuleLemmas.{local_until, instant_until, stamp_near, until_said}
use Rattle.cal_events.proofs.event_rule.day_until.Goals as goal

pub returns-in-Local : goal.returns-in-Local
returns-in-Local c =
    let same : to_z w64 (of_z w64 c.as_end.result) ≡ as_end c.resolve.result = until_said c.resolve.result c.as_end.result c.resolve.ensures.range c.as_end.ensures in
    let found = rw same at (c.last_day.ensures.day c.requires) in
    local_until (zone_of c.args.clock) c.args.second (Some (until_of c.args.until.now)) _ _ c.resolve.result
    (ap (λ u. Some (until_of u)) c.in-Local.is) c.resolve.ensures.meaning found

pub returns-in-Utc : goal.returns-in-Utc
returns-in-Utc c =
    let same : to_z w64 (of_z w64 c.as_end-in-Utc.result) ≡ as_end c.instant.result = until_said c.instant.result c.as_end-in-Utc.result (stamp_near c.instant.result c.instant.ensures.range) c.as_end-in-Utc.ensures in
    let found = rw same at (c.last_day-in-Utc.ensures.day c.requires) in
    instant_until (zone_of c.args.clock) c.args.second (Some (until_of c.args.until.now)) _ c.instant.result
    (ap (λ u. Some (until_of u)) c.in-Utc.is ∙ ap (λ t. Some (UntilInstant t)) (sym c.instant.ensures.value)) found
