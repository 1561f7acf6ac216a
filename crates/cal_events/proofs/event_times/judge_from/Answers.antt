use Rattle.std.proofs.Common.{◌≡◌, ◌∙◌, subst, sym, inr, refl, arith, to_z, of_z, w64, rules}
use Rattle.std.proofs.lemmas.Bool.{false≢true}
use Rattle.std.proofs.lemmas.Int.{ints}
use Rattle.profile.specs.events.Properties.{Form}
use Rattle.cal_events.specs.Component.{GivesLength, ExtentFault, form_of, length_of}
use Rattle.cal_events.proofs.event_times_lemmas.TimesLemmas.{extent_judged, extent_may, outside_may, start_judged, end_judged, within_clock, times_said}
use Rattle.cal_events.proofs.event_times.judge_from.Goals as goal

pub returns-in-Err-clause-fault : goal.returns-in-Err-clause-fault
returns-in-Err-clause-fault c object lines a =
    let fault = subst (λ (f : Form). ExtentFault f c.args.extent c.in-Err.refusal.number) c.form.ensures c.in-Err.ensures.fault in
    rw c.at.ensures (extent_judged object lines c.args.start c.args.instant c.args.in_dates c.args.extent _ a fault)

pub returns-in-Err-clause-at : goal.returns-in-Err-clause-at
returns-in-Err-clause-at c = rw c.at.ensures (inr (extent_may (form_of c.form.result) c.args.extent _ c.in-Err.ensures.fault, refl))

pub returns-then-not-in_dates-clause-fault : goal.returns-then-not-in_dates-clause-fault
returns-then-not-in_dates-clause-fault c object lines a =
    rw c.at-then-not-in_dates.ensures (start_judged object lines c.args.start c.args.instant c.args.in_dates c.args.extent a c.if-not-in_dates.true)

pub returns-then-not-ends_in-clause-fault : goal.returns-then-not-ends_in-clause-fault
returns-then-not-ends_in-clause-fault c object lines a =
    rw c.at-then-not-ends_in.ensures (end_judged object lines c.args.start c.args.instant c.args.in_dates c.args.extent a (sym c.ends_in.ensures ∙ c.if-not-ends_in.true))

pub returns-then-not-ends_in-clause-at : goal.returns-then-not-ends_in-clause-at
returns-then-not-ends_in-clause-at c = rw c.at-then-not-ends_in.ensures (inr (outside_may c.args.extent (sym c.ends_in.ensures ∙ c.if-not-ends_in.true), refl))

-- what is in the dates has a stamp
pub returns-in_default-clause-fault : goal.returns-in_default-clause-fault
returns-in_default-clause-fault c object lines a =
    let instant = c.args.instant in
    let within = within_clock object lines c.args.start instant c.args.in_dates c.args.extent a (search rules) in
    let same : to_z w64 (of_z w64 instant) ≡ instant = omega (arith, ints, within.0, within.1) in
    let found = rw same at (c.in_default.ensures.found) in
    absurd (false≢true (found.1 within))

pub returns-clause-says : goal.returns-clause-says
returns-clause-says c object lines a =
    let instant = c.args.instant in
    let within = within_clock object lines c.args.start instant c.args.in_dates c.args.extent a (search rules) in
    let kept : to_z w64 (of_z w64 instant) ≡ instant = omega (arith, ints, within.0, within.1) in
    let same : c.in-Some.instant ≡ instant = c.in-Some.ensures.value ∙ kept in
    let gives = subst (λ (f : Form). GivesLength f c.args.extent (length_of c.in-Ok.length)) c.form.ensures c.in-Ok.ensures.length in
    times_said object lines c.args.start instant c.args.in_dates c.args.extent c.in-Ok.length c.in-Some.instant same a gives c.in-Ok.ensures.most (search rules) (search rules)
