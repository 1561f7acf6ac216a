use Rattle.std.specs.Prelude.{IfOk}
use Rattle.profile.specs.checker.Certificates.{CertificateHoldsFor}
use Rattle.profile.specs.checker.Instances.{IsClear}
use Rattle.profile.specs.events.Confirmed.{Confirmed, IsOneOf}
use Rattle.profile.specs.events.Events.{Event}
use Rattle.profile.specs.events.Spans.{IsSaidSeries}
use Rattle.std.proofs.Common.{subst}
use Rattle.clash_check.specs.Verdicts.{IsVerdict, MakesFew}
use Rattle.clash_check.proofs.OpenLemmas.{of_all}
use Rattle.clash_check.proofs.VerdictLemmas.{yes_of, yes_says}
use Rattle.clash_check.proofs.checking.judge_read.Goals as goal

pub returns-clause-verdict : goal.returns-clause-verdict
returns-clause-verdict c = subst (λ (all : Confirmed). IfOk c.judge.result (λ checked. IsVerdict all c.args.certificate.now checked.verdict)) c.in_ok-drawing.ensures.calendar c.judge.ensures.verdict

pub returns-clause-yes : goal.returns-clause-yes
returns-clause-yes c =
    let all = c.args.calendar.now in
    let text = c.args.certificate.now in
    let verdict = subst (λ (all : Confirmed). IfOk c.judge.result (λ checked. IsVerdict all text checked.verdict)) c.in_ok-drawing.ensures.calendar c.judge.ensures.verdict in
    yes_of c.one_certificate.ensures.reading all text c.judge.result verdict

pub returns-clause-clear : goal.returns-clause-clear
returns-clause-clear c =
    let all = c.args.calendar.now in
    let text = c.args.certificate.now in
    let verdict = subst (λ (all : Confirmed). IfOk c.judge.result (λ checked. IsVerdict all text checked.verdict)) c.in_ok-drawing.ensures.calendar c.judge.ensures.verdict in
    let said = of_all (λ (series : Event). ∥ IsSaidSeries series ∥₁) c.series-series.result.now all.series c.series-series.ensures.are c.series_are_said.ensures in
    yes_says (CertificateHoldsFor all text) (IsClear (IsOneOf all)) c.judge.result (c.certificate_means_clear.ensures all text said)
    (yes_of c.one_certificate.ensures.reading all text c.judge.result verdict)

pub returns-clause-made : goal.returns-clause-made
returns-clause-made c =
    subst (λ (all : Confirmed). IfOk c.judge.result (MakesFew all c.args.certificate.now)) c.in_ok-drawing.ensures.calendar (c.judge.ensures.few c.in_ok-drawing.ensures.none)
