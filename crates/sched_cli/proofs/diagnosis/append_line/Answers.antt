use Rattle.std.proofs.Common.{◌≡◌, ◌++◌, List, ℕ, subst}
use Rattle.sched_cli.specs.Diagnosis.{IsPlaceText}
use Rattle.fault_places.specs.EventFlaws.{IsToldFlaw}
use Rattle.sched_cli.proofs.DiagnosisLemmas.{blamed_reason, flaw_reason}
use Rattle.fault_places.proofs.PlaceLemmas.{on_ok}
use Rattle.sched_cli.proofs.diagnosis.append_line.Goals as goal

pub returns-in_default : goal.returns-in_default
returns-in_default c =
    let octets = c.args.octets.now in
    let old = c.args.text.now.items in
    let one = c.append_blamed.new.text.items in
    let place = subst (λ at. (place : List ℕ) × IsPlaceText octets at place × (one ≡ old ++ place)) c.line.ensures c.in_ok-append_blamed.ensures in
    blamed_reason octets old one c.end_line.new.text.items c.args.refusal.number c.args.refusal.line place c.in_ok-end_line.ensures

pub returns : goal.returns
returns c =
    let octets = c.args.octets.now in
    let old = c.args.text.now.items in
    let one = c.append_blamed.new.text.items in
    let place = subst (λ at. (place : List ℕ) × IsPlaceText octets at place × (one ≡ old ++ place)) c.line.ensures c.in_ok-append_blamed.ensures in
    let is = subst (IsToldFlaw octets c.args.refusal.number) c.in-Placed.is c.in_ok-found.ensures in
    on_ok c.append_flaw.result _ _ (λ g. flaw_reason octets old one _ _ c.args.refusal.number c.args.refusal.line c.in-Placed.found is place c.in_ok-end_line.ensures g) c.append_flaw.ensures
