use Rattle.std.proofs.Common.{take}
use Rattle.ical_values.proofs.Exits.{if_none}
use Rattle.ical_values.proofs.Spelled.{clock_parts, clock_found, clock_sum}
use Rattle.ical_values.proofs.clock.read.Goals as goal

pub returns-in_err-day-clause-none : goal.returns-in_err-day-clause-none
returns-in_err-day-clause-none c =
    if_none c.from_residual.result (λ seconds s. let p = clock_parts 60 c.args.text.now seconds s in c.in_err-day.ensures.none p.number p.on)

pub returns-in_err-second-clause-none : goal.returns-in_err-second-clause-none
returns-in_err-second-clause-none c =
    if_none c.from_residual-in_err-second.result (λ seconds s. let p = clock_parts 60 c.args.text.now seconds s in c.in_err-second.ensures.none p.second p.at_second)

pub returns-clause-found : goal.returns-clause-found
returns-clause-found c =
    let d = c.in_ok-day.ensures in
    let t = c.in_ok-second.ensures in
    let sum = clock_sum (take 8 c.args.text.now) c.in_ok-day.day c.in_ok-second.second d.found d.high t.range in
    clock_found 60 c.args.text.now c.in_ok-day.day _ c.in_ok-second.second c.if-text-ne15.false c.if-text-ne84.false d.found t.found (rw (c.seconds_at.ensures, c.index.ensures.value) sum)
