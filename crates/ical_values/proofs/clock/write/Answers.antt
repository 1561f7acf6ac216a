use Rattle.std.proofs.Common.{to_z-of_z}
use Rattle.std.proofs.lemmas.Result.{on_ok_weaker}
use Rattle.ical_values.proofs.Spelled.{clock_pieces}
use Rattle.ical_values.proofs.clock.write.Goals as goal

pub returns-clause-ok : goal.returns-clause-ok
returns-clause-ok c =
    let s = c.split-day.ensures in
    let sum = rw (to_z-of_z c.ranges.seconds) at s.sum in
    let p = clock_pieces 59 c.date_text-date.result c.time_text-time.result c.args.zone.now c.split-day.result.0 c.args.seconds c.split-day.result.1 c.date_text-date.ensures c.time_text-time.ensures sum in
    on_ok_weaker c.append_all.result (λ e. (_, (p.0, p.1, p.2), e)) c.append_all.ensures.ok
