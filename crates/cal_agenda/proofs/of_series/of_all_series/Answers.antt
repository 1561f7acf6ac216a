use Rattle.std.proofs.Common.{◌≡◌, ◌∙◌, ◌++◌, ◌+◌, map, take, sym, ap, subst}
use Rattle.std.proofs.lemmas.List.{map-append}
use Rattle.profile.specs.events.Confirmed.{IsInSeries}
use Rattle.cal_events.specs.Calendar.{instance_of}
use Rattle.cal_agenda.specs.InSpan.{AreAllInSpan}
use Rattle.cal_agenda.proofs.Gathering.{next_kept}
use Rattle.cal_agenda.proofs.of_series.of_all_series.Goals as goal

pub loop-series-preserved : goal.loop-series-preserved
loop-series-preserved c =
    let all = c.args.calendar.now.series in
    let from = c.args.span.start in
    let until = c.args.span.end in
    let k = c.loop-series.series-index in
    let found = c.loop-series.found.items in
    let own = c.in_ok-own.own.items in
    let joined : map instance_of c.append.new.self.items ≡ map instance_of found ++ map instance_of own = ap (map instance_of) c.in_ok-append.ensures.items ∙ map-append instance_of found own in
    subst (AreAllInSpan (IsInSeries (take (k + 1) all)) from until) (sym joined)
    (next_kept from until c.series-series-items.result.now all k c.series-item.result (map instance_of found) (map instance_of own) c.series-series-items.ensures.are c.loop-series-test.true c.series-item.is
    c.series-series-items.ensures.keys.0 c.loop-series.invariant c.in_ok-own.ensures)
