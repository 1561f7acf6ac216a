use Rattle.std.proofs.Common.{◌≡◌, ◌∙◌, ◌++◌, map, sym, ap, subst}
use Rattle.std.proofs.lemmas.List.{map-append}
use Rattle.profile.specs.events.Confirmed.{IsOneOf}
use Rattle.cal_events.specs.Calendar.{instance_of}
use Rattle.cal_agenda.specs.InSpan.{AreAllInSpan}
use Rattle.cal_agenda.proofs.Gathering.{both}
use Rattle.cal_agenda.proofs.Order.{put_in_order}
use Rattle.cal_agenda.proofs.confirmed.agenda.Goals as goal

pub returns : goal.returns
returns c =
    let all = c.args.calendar.now in
    let from = c.args.span.start in
    let until = c.args.span.end in
    let found = c.in_ok-found.found.items in
    let others = c.in_ok-others.others.items in
    let joined : map instance_of c.append.new.self.items ≡ map instance_of found ++ map instance_of others = ap (map instance_of) c.in_ok-append.ensures.items ∙ map-append instance_of found others in
    put_in_order (IsOneOf all) from until c.append.new.self.items c.sort.new.instances.items
    (subst (AreAllInSpan (IsOneOf all) from until) (sym joined) (both from until all (map instance_of found) (map instance_of others) c.series-series.ensures.keys c.in_ok-found.ensures c.in_ok-others.ensures))
    c.sort.ensures.same c.sort.ensures.rises
