use Rattle.std.proofs.Common.{◌≡◌, ◌∙◌, ap, is_some}
use Rattle.std.specs.Prelude.{option_map}
use Rattle.std.specs.Option.{option_to_list}
use Rattle.ical_lines.specs.Text.{line_text}
use Rattle.ical_lines.specs.declared.fault.Refusal.{Refusal}
use Rattle.ical_tree.specs.Own.{own_lines, own_numbered}
use Rattle.ical_values.proofs.Exits.{err_exit}
use Rattle.cal_events.specs.Blame.{IsZoneLine}
use Rattle.cal_events.specs.WithZone.{HasZoneLine}
use Rattle.cal_events.proofs.shared_lemmas.LineBlame.{zone_line_found, zone_line_again}
use Rattle.cal_events.proofs.with_zone_lemmas.Places.{not_alone, given_line}
use Rattle.cal_events.proofs.with_zone.judge_unnamed.Goals as goal

pub returns-in_err-line-clause-fault : goal.returns-in_err-line-clause-fault
returns-in_err-line-clause-fault c =
    let own = own_lines c.args.properties.now in
    err_exit c.from_residual.result (λ (e : Refusal). (e.number ≡ 44) × HasZoneLine own) c.in_err-line.field-0.0 c.from_residual.ensures.1
    (c.in_err-line.ensures.refuses, not_alone own c.in_err-line.ensures.twice)

pub returns-in_err-line-clause-at : goal.returns-in_err-line-clause-at
returns-in_err-line-clause-at c =
    err_exit c.from_residual.result (λ (e : Refusal). IsZoneLine (own_numbered c.args.properties.now) e.line) c.in_err-line.field-0.0 c.from_residual.ensures.1
    (zone_line_again _ _ c.in_err-line.ensures.second)

pub returns-in-Some-clause-fault : goal.returns-in-Some-clause-fault
returns-in-Some-clause-fault c =
    (ap (λ (e : Refusal). e.number) c.at.ensures, given_line line_text (own_lines c.args.properties.now) c.in_ok-line.field-0 c.in_ok-line.ensures.found (ap is_some c.in-Some.is))

pub returns-in-Some-clause-at : goal.returns-in-Some-clause-at
returns-in-Some-clause-at c =
    let once = c.in_ok-line.ensures.found ∙ ap (λ l. option_to_list (option_map line_text l)) c.in-Some.is in
    zone_line_found (own_numbered c.args.properties.now) (own_lines c.args.properties.now) c.in-Some.line _ c.in_ok-line.field-0 c.in-Some.is c.in_ok-line.ensures.among once
    (ap (λ (e : Refusal). e.line) c.at.ensures ∙ c.number.ensures)
