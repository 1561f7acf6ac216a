use Rattle.std.proofs.Common.{IfSome, map, subst}
use Rattle.std.specs.Prelude.{None, string_bytes}
use Rattle.profile.specs.doors.Adapting.{IsAdapted}
use Rattle.sched_cli.proofs.DiagnosisLemmas.{helps}
use Rattle.fault_places.proofs.PlaceLemmas.{on_ok}
use Rattle.sched_cli.proofs.diagnosis.append_help.Goals as goal

pub returns : goal.returns
returns c =
    let octets = c.args.octets.now in
    let a = c.in-Some.adapted in
    let is = subst (λ o. IfSome o (λ x. IsAdapted None octets (map string_bytes x.going_on.items) x.octets.items)) c.in-Some.is c.in_ok-adapted.ensures in
    on_ok c.append_adapted.result _ _
    (λ h. helps octets _ _ _ (map string_bytes a.going_on.items) a.octets.items c.as_slice.result.now is c.as_slice.ensures.value c.in_ok-extend_from_slice-2.ensures.items h)
    c.append_adapted.ensures
