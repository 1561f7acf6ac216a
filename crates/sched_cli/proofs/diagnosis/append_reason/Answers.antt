use Rattle.std.proofs.Common.{IfSome, subst}
use Rattle.fault_places.specs.InTheWay.{IsInTheWay}
use Rattle.sched_cli.proofs.DiagnosisLemmas.{way_reason}
use Rattle.fault_places.proofs.PlaceLemmas.{on_ok}
use Rattle.sched_cli.proofs.diagnosis.append_reason.Goals as goal

pub returns : goal.returns
returns c =
    let octets = c.args.octets.now in
    let n = c.args.refusal.number in
    let is = subst (λ o. IfSome o (λ w. IsInTheWay octets n w)) c.in-Some.is c.in_ok-found.ensures in
    on_ok c.append_help.result _ _ (λ h. way_reason octets _ _ _ _ _ n c.args.refusal.line c.in-Some.found is c.in_ok-append_place.ensures c.in_ok-end_line.ensures c.in_ok-append_way.ensures h) c.append_help.ensures
