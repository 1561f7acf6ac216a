use Rattle.std.proofs.Common.{◌≡◌, ◌∙◌, ◌-◌, ◌≤◌, subst, map, arith, to_z, of_z, w64, rules, FitsSigned, to_z-of_z}
use Rattle.cal_zones.specs.Kinds.{zone_of}
use Rattle.cal_agenda.specs.Pages.{PageDay, IsWellWithin}
use Rattle.cal_agenda.specs.PageDays.{AddsTouched, day_said}
use Rattle.cal_agenda.proofs.DayLemmas.{AreDaysSofar, none_sofar, one_more_day, all_days, first_from, last_to, before_first, near_within, over}
use Rattle.cal_agenda.proofs.days.days_of.Goals as goal

pub loop-index-init : goal.loop-index-init
loop-index-init c =
    let span = c.args.span in
    let zone = zone_of c.args.zone.now in
    let first = c.utc_day-first.result in
    let start = c.midnight-start.result in
    let fits : FitsSigned w64 start = search rules in
    let cast : to_z w64 (of_z w64 start) ≡ start = to_z-of_z fits in
    let from_fits : FitsSigned w64 span.start = search rules in
    let from : to_z w64 (of_z w64 span.start) ≡ span.start = to_z-of_z from_fits in
    let low : 731 ≤ first = first_from span.start first span.shown.early (rw from at c.utc_day-first.ensures.high) in
    rw (cast, c.new-days.ensures.items)
    (none_sofar zone span.start span.end (first - 1) start c.midnight-start.ensures.meaning c.midnight-start.ensures.near (before_first span.start first low (rw from at c.utc_day-first.ensures.low)))

pub day_from-day-requires : goal.day_from-day-requires
day_from-day-requires c =
    let span = c.args.span in
    let from_fits : FitsSigned w64 span.start = search rules in
    let from : to_z w64 (of_z w64 span.start) ≡ span.start = to_z-of_z from_fits in
    let until_fits : FitsSigned w64 span.end = search rules in
    let until : to_z w64 (of_z w64 span.end) ≡ span.end = to_z-of_z until_fits in
    let low : 731 ≤ c.utc_day-first.result = first_from span.start c.utc_day-first.result span.shown.early (rw from at c.utc_day-first.ensures.high) in
    let high : c.utc_day-behind.result ≤ 3_652_060 = last_to span.end c.utc_day-behind.result (rw until at c.utc_day-behind.ensures.low) span.shown.late in
    let since = c.loop-index.auto.index in
    let below = c.loop-index-test.true in
    let sofar = rw c.loop-index.start-is at c.loop-index.invariant in
    let within : IsWellWithin c.loop-index.start = near_within c.loop-index.index c.loop-index.start (omega (arith, low, since)) (omega (arith, high, below)) sofar.near in
    record { index = (omega (arith, low, since), omega (arith, high, below)); start = rw c.loop-index.start-is within }

pub loop-index-preserved : goal.loop-index-preserved
loop-index-preserved c =
    let span = c.args.span in
    let zone = zone_of c.args.zone.now in
    let day = c.day_from-day.result in
    let index = c.loop-index.index in
    let start = c.loop-index.start in
    let old = map day_said c.loop-index.days.items in
    let new = map day_said c.keep.new.days.items in
    let fits : FitsSigned w64 day.end = search rules in
    let cast : to_z w64 (of_z w64 day.end) ≡ day.end = to_z-of_z fits in
    let sofar : AreDaysSofar zone span.start span.end index start old = rw c.loop-index.start-is at c.loop-index.invariant in
    let (same_index, same_start) = c.day_from-day.ensures.same in
    let same : day_said day ≡ record { index = index; start = start; end = day.end } = λ i. record { index = same_index i; start = (same_start ∙ c.loop-index.start-is) i; end = day.end } in
    let kept : AddsTouched span.start span.end (record { index = index; start = start; end = day.end }) old new = subst (λ (d : PageDay). AddsTouched span.start span.end d old new) same c.in_ok-keep.ensures in
    rw cast (one_more_day zone span.start span.end index start day.end old new sofar c.day_from-day.ensures.end c.day_from-day.ensures.near kept)

pub returns : goal.returns
returns c =
    let span = c.args.span in
    let until_fits : FitsSigned w64 span.end = search rules in
    let until : to_z w64 (of_z w64 span.end) ≡ span.end = to_z-of_z until_fits in
    let zone = zone_of c.args.zone.now in
    let days = map day_said c.loop-index.days.items in
    let sofar : AreDaysSofar zone span.start span.end c.loop-index.index c.loop-index.start days = rw c.loop-index.start-is at c.loop-index.invariant in
    all_days zone span.start span.end c.loop-index.index c.loop-index.start days sofar
    (over span.end c.loop-index.start c.utc_day-behind.result c.loop-index.index (rw until at c.utc_day-behind.ensures.high) c.loop-index-test.false sofar.near)
