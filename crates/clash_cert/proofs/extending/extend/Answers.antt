use Rattle.std.proofs.Common.{subst}
use Rattle.std.specs.Prelude.{IfNone, IfSome}
use Rattle.profile.proofs.MadeCertificates.{made_holds}
use Rattle.clash_cert.specs.Looked.{AreLookedAt}
use Rattle.clash_cert.specs.Makings.{IsNamedClash}
use Rattle.clash_cert.proofs.LookedLemmas.{clear_again}
use Rattle.clash_cert.proofs.extending.extend.Goals as goal

pub returns-in-Some-clause-clear : goal.returns-in-Some-clause-clear
returns-in-Some-clause-clear c known =
    let all = c.args.calendar.now in
    let clash = c.in-Some.clash in
    let named : IsNamedClash all clash = subst (λ o. IfSome o (IsNamedClash all)) c.in-Some.is c.in_ok-clash.ensures.clash in
    (λ none. absurd none, λ clear. clear named.a named.b clash.instant named.first named.second named.is)

pub returns-clause-chosen : goal.returns-clause-chosen
returns-clause-chosen c kept = c.in_ok-certificate.ensures c.args.calendar.now c.single_count-singles.ensures c.series.ensures.are kept

pub returns-clause-made : goal.returns-clause-made
returns-clause-made c known text =
    let all = c.args.calendar.now in
    let looked = subst (λ o. IfNone o (AreLookedAt c.args.kept.now all)) c.in_default.is c.in_ok-clash.ensures.clear in
    made_holds all (clear_again c.args.kept.now all looked c.args.old.now known) c.in_ok-certificate.certificate text (returns-clause-chosen c known.0)

pub returns-clause-clear : goal.returns-clause-clear
returns-clause-clear c known =
    let all = c.args.calendar.now in
    let looked = subst (λ o. IfNone o (AreLookedAt c.args.kept.now all)) c.in_default.is c.in_ok-clash.ensures.clear in
    (λ certificate. clear_again c.args.kept.now all looked c.args.old.now known, λ is. tt)
