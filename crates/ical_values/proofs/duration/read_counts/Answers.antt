use Rattle.std.proofs.Common.{◌≡◌, ◌≢◌, arith, length}
use Rattle.std.proofs.lemmas.Bool.Decides.{nat_tests}
use Rattle.std.proofs.lemmas.Option.{IfSome_then}
use Rattle.ical_values.proofs.Offsets.{if_none_weaker}
use Rattle.ical_values.proofs.Parts.{unsigned_days, unsigned_no_weeks, unsigned_weeks, unsigned_weeks_rest}
use Rattle.ical_values.proofs.duration.read_counts.Goals as goal

pub returns-in_default-clause-found : goal.returns-in_default-clause-found
returns-in_default-clause-found c =
    IfSome_then c.read_days.result c.read_days.ensures.found (λ x h. unsigned_days c.args.text.now c.in_ok-body.body.now x.days x.seconds c.in_ok-body.ensures.found h)

pub returns-in_default-clause-none : goal.returns-in_default-clause-none
returns-in_default-clause-none c =
    if_none_weaker c.read_days.result (λ h. unsigned_no_weeks c.args.text.now c.in_ok-body.body.now c.in_ok-body.ensures.found c.in_default.ensures.none h) c.read_days.ensures.none

pub returns-then-not-is_empty-clause-none : goal.returns-then-not-is_empty-clause-none
returns-then-not-is_empty-clause-none c =
    let t = c.if-not-is_empty.true in
    let u = c.is_empty.ensures in
    let some : length c.in-Some.rest.now ≢ 0 = grind (arith, nat_tests) in
    let b = c.in-Some.ensures.found in
    unsigned_weeks_rest c.args.text.now c.in_ok-body.body.now c.in-Some.rest.now b.0 c.in_ok-body.ensures.found b.1 some

pub returns-clause-found : goal.returns-clause-found
returns-clause-found c =
    let t = c.if-not-is_empty.false in
    let u = c.is_empty.ensures in
    let end : length c.in-Some.rest.now ≡ 0 = grind (arith, nat_tests) in
    unsigned_weeks c.args.text.now c.in_ok-body.body.now c.in-Some.rest.now c.in-Some.weeks c.saturating_mul.result c.in_ok-body.ensures.found c.in-Some.ensures.found end c.saturating_mul.ensures
