use Rattle.std.proofs.Common.{[], subst}
use Rattle.std.specs.Prelude.{IfNone}
use Rattle.profile.specs.checker.Instances.{AreClear}
use Rattle.profile.specs.events.Confirmed.{IsOneOf}
use Rattle.clash_cert.specs.Looked.{AreLookedAt}
use Rattle.clash_cert.proofs.LookedLemmas.{clear_anew}
use Rattle.clash_cert.proofs.making.make.Goals as goal

pub returns-clause-made : goal.returns-clause-made
returns-clause-made c =
    let all = c.args.calendar.now in
    let clear : AreClear (IsOneOf all) (IsOneOf all) = clear_anew all (subst (λ o. IfNone o (AreLookedAt [] all)) c.in_default.is c.in_ok-clash.ensures.clear) in
    c.in_ok-certificate.ensures.holds clear

pub returns-clause-clear : goal.returns-clause-clear
returns-clause-clear c =
    let all = c.args.calendar.now in
    let clear : AreClear (IsOneOf all) (IsOneOf all) = clear_anew all (subst (λ o. IfNone o (AreLookedAt [] all)) c.in_default.is c.in_ok-clash.ensures.clear) in
    (λ certificate. clear, λ is. tt)
