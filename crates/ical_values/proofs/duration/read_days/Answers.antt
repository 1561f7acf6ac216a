use Rattle.std.proofs.Common.{◌≡◌, ◌≢◌, arith, length}
use Rattle.std.proofs.lemmas.Bool.Decides.{nat_tests}
use Rattle.ical_values.proofs.Exits.{if_none}
use Rattle.ical_values.proofs.Parts.{days_alone, days_of_time, days_none, days_rest_none}
use Rattle.ical_values.proofs.duration.read_days.Goals as goal

pub returns-in_default-clause-found : goal.returns-in_default-clause-found
returns-in_default-clause-found c = days_of_time c.args.text.now c.in_ok-seconds.seconds c.in_ok-seconds.ensures.found

pub returns-in_err-seconds-clause-none : goal.returns-in_err-seconds-clause-none
returns-in_err-seconds-clause-none c = if_none c.from_residual.result (days_none c.args.text.now c.in_default.ensures.none c.in_err-seconds.ensures.none)

pub returns-then-is_empty-clause-found : goal.returns-then-is_empty-clause-found
returns-then-is_empty-clause-found c =
    let t = c.if-is_empty.true in
    let u = c.is_empty.ensures in
    let end : length c.in-Some.rest.now ≡ 0 = grind (arith, nat_tests) in
    days_alone c.args.text.now c.in-Some.rest.now c.in-Some.days c.in-Some.ensures.found end

pub returns-in_err-seconds-2-clause-none : goal.returns-in_err-seconds-2-clause-none
returns-in_err-seconds-2-clause-none c =
    let t = c.if-is_empty.false in
    let u = c.is_empty.ensures in
    let some : length c.in-Some.rest.now ≢ 0 = grind (arith, nat_tests) in
    let b = c.in-Some.ensures.found in
    if_none c.from_residual-in_err-seconds-2.result (days_rest_none c.args.text.now c.in-Some.rest.now b.0 b.1 some c.in_err-seconds-2.ensures.none)
