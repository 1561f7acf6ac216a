use Rattle.std.proofs.Common.{◌≡◌, ◌⊎◌, inl, inr, subst}
use Rattle.std.specs.Prelude.{Result, IsTrue, IfOk, OnOk}
use Rattle.ical_lines.specs.Text.{line_text}
use Rattle.ical_lines.specs.declared.fault.Refusal.{Refusal}
use Rattle.ical_lines.proofs.FaultLemmas.{placed_where}
use Rattle.profile.specs.text.Values.{SpellsLocal}
use Rattle.profile.specs.events.Properties.{Fixed, allows_form, time_kind}
use Rattle.profile.specs.events.ZonedTimes.{InZoneFault, LocalFault}
use Rattle.profile.specs.events.EventBlame.{NamedBlame}
use Rattle.ical_values.proofs.Exits.{err_exit, refusal_exit}
use Rattle.cal_events.specs.Blame.{zones_of}
use Rattle.cal_events.specs.Zones.{object_of}
use Rattle.cal_events.proofs.when.read_in_zone.Goals as goal

pub returns-in_err-local-clause-fault : goal.returns-in_err-local-clause-fault
returns-in_err-local-clause-fault c =
    let kind = time_kind (line_text c.args.line) in
    let text = c.args.text.now in
    let placed = placed_where (LocalFault kind text) c.args.line.number _ _ c.in_err-local.ensures c.read_local.ensures.fault in
    refusal_exit _ (InZoneFault (object_of c.args.zones.now) c.args.name.now kind text) _ c.from_residual.ensures.1 (inl placed.0)

pub returns-in_err-local-clause-at : goal.returns-in_err-local-clause-at
returns-in_err-local-clause-at c =
    let kind = time_kind (line_text c.args.line) in
    let text = c.args.text.now in
    let line = c.args.line.number in
    let placed = placed_where (LocalFault kind text) line _ _ c.in_err-local.ensures c.read_local.ensures.fault in
    err_exit _ (λ (e : Refusal). ((e.line ≡ line) × LocalFault kind text e.number) ⊎ NamedBlame (zones_of c.args.zones.now) line c.args.name.now e.number e.line) _
    c.from_residual.ensures.1 (inl (placed.1, placed.0))

pub returns-in_err-zone-clause-fault : goal.returns-in_err-zone-clause-fault
returns-in_err-zone-clause-fault c =
    let kind = time_kind (line_text c.args.line) in
    let text = c.args.text.now in
    let allowed = subst (λ (read : Result _ Refusal). OnOk read (IsTrue (allows_form kind Fixed))) c.in_ok-local.ensures c.read_local.ensures.allowed in
    let reads = subst (λ (read : Result _ Refusal). IfOk read (SpellsLocal text)) c.in_ok-local.ensures c.read_local.ensures.reads in
    refusal_exit _ (InZoneFault (object_of c.args.zones.now) c.args.name.now kind text) _ c.from_residual-in_err-zone.ensures.1
    (inr (allowed, (c.in_ok-local.local, reads), c.in_err-zone.ensures.fault))

pub returns-in_err-zone-clause-at : goal.returns-in_err-zone-clause-at
returns-in_err-zone-clause-at c =
    let kind = time_kind (line_text c.args.line) in
    let text = c.args.text.now in
    let line = c.args.line.number in
    err_exit _ (λ (e : Refusal). ((e.line ≡ line) × LocalFault kind text e.number) ⊎ NamedBlame (zones_of c.args.zones.now) line c.args.name.now e.number e.line) _
    c.from_residual-in_err-zone.ensures.1 (inr (rw c.number.ensures at (c.in_err-zone.ensures.at)))

pub returns-clause-allowed : goal.returns-clause-allowed
returns-clause-allowed c =
    subst (λ (read : Result _ Refusal). OnOk read (IsTrue (allows_form (time_kind (line_text c.args.line)) Fixed))) c.in_ok-local.ensures c.read_local.ensures.allowed

pub returns-clause-says : goal.returns-clause-says
returns-clause-says c =
    (subst (λ (read : Result _ Refusal). IfOk read (SpellsLocal c.args.text.now)) c.in_ok-local.ensures c.read_local.ensures.reads, c.in_ok-zone.ensures.says)
