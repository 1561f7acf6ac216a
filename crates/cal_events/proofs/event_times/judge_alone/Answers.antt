use Rattle.std.proofs.Common.{◌≡◌, ◌∙◌, sym, subst, refl, ℤ, pos, rules}
use Rattle.std.specs.Prelude.{Option, IfSome}
use Rattle.cal_events.specs.Component.{times_of}
use Rattle.cal_events.proofs.event_times_lemmas.TimesLemmas.{alone_said, alone_judged, alone_may, alone_out, outside_may}
use Rattle.cal_events.proofs.event_times.judge_alone.Goals as goal

pub returns-in-Err-clause-fault : goal.returns-in-Err-clause-fault
returns-in-Err-clause-fault c object lines a = rw c.at.ensures (alone_judged object lines c.args.extent c.in-Err.refusal.number a c.in-Err.ensures.fault)

pub returns-in-Err-clause-at : goal.returns-in-Err-clause-at
returns-in-Err-clause-at c = rw c.at.ensures (alone_may c.args.extent _ c.in-Err.ensures.fault, refl)

pub returns-then-not-ends_in-clause-fault : goal.returns-then-not-ends_in-clause-fault
returns-then-not-ends_in-clause-fault c object lines a = rw c.at-then-not-ends_in.ensures (alone_out object lines c.args.extent a (sym c.ends_in.ensures ∙ c.if-not-ends_in.true))

pub returns-then-not-ends_in-clause-at : goal.returns-then-not-ends_in-clause-at
returns-then-not-ends_in-clause-at c = rw c.at-then-not-ends_in.ensures (outside_may c.args.extent (sym c.ends_in.ensures ∙ c.if-not-ends_in.true), refl)

pub returns-clause-says : goal.returns-clause-says
returns-clause-says c object lines a =
    let times = times_of (record { start = c.epoch.result; instant = c.unwrap.result; length = c.in-Ok.length }) in
    let start : c.unwrap.result ≡ pos 0 = subst (λ (o : Option ℤ). IfSome o (λ (t : ℤ). t ≡ pos 0)) c.unwrap.ensures c.of_instant.ensures.value in
    alone_said object lines times c.args.extent a c.in-Ok.ensures.length c.in-Ok.ensures.most (search rules) c.epoch.ensures.form c.epoch.ensures.zone c.epoch.ensures.local start
