use Rattle.std.proofs.Common.{refl, arith}
use Rattle.jiff_core.proofs.SignedLemmas.{signed_arith}
use Rattle.profile.specs.series.Days.{day_index}
use Rattle.cal_zones.proofs.Lasts.{clock_day}
use Rattle.cal_zones.proofs.Spans.{none_by_rule}
use Rattle.cal_zones.proofs.observance.Observance.quiet_until.Goals as goal

pub returns : goal.returns
returns c =
    let o = c.args.self.now in
    let split = c.day_and_second-day in
    let today = day_index split.result.0 in
    let shown = clock_day c.args.instant o.offset_from c.saturating_add-shown.result c.in-Some-of_seconds.local split.result.0 split.result.1 c.ranges.instant (record { sfits = c.saturating_add-shown.type_inv }) o.from c.saturating_add-shown.ensures (c.in-Some-of_seconds.ensures.found.0 refl) c.in-Some-of_seconds.ensures.value split.ensures.sum split.ensures.second split.ensures.day in
    none_by_rule o c.in-Some.rule c.args.instant _ today split.result.1 c.max-from.result c.first_from.result c.in-Some.is shown (λ n late from. omega (arith, c.max-from.ensures, c.index.ensures.value)) c.first_from.ensures.first
    (omega (arith, signed_arith, c.onset_on.ensures.read, c.onset_on.ensures.low, c.onset_on.ensures.high))
