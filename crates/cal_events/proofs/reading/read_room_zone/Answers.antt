use Rattle.std.proofs.Common.{◌≡◌, ℕ, refl, ap, ◌∙◌}
use Rattle.std.specs.Prelude.{option_map}
use Rattle.std.specs.Option.{option_to_list}
use Rattle.ical_lines.specs.Text.{line_text}
use Rattle.ical_tree.specs.Own.{own_lines, own_numbered}
use Rattle.ical_lines.specs.Fault.{RefusesAt, RefusesBy, IsFaultAt}
use Rattle.ical_lines.specs.declared.fault.Fault.{Fault}
use Rattle.ical_values.proofs.Exits.{err_exit}
use Rattle.profile.specs.series.RoomZones.{RoomZoneFault}
use Rattle.cal_events.specs.Blame.{IsZoneLine}
use Rattle.cal_events.proofs.shared_lemmas.LineBlame.{ok_placed, if_err, fault_number, fault_line, zone_line_found, zone_line_again}
use Rattle.cal_events.proofs.shared_lemmas.ReadingLemmas.{room_named, room_unnamed}
use Rattle.cal_events.proofs.reading.read_room_zone.Goals as goal

pub returns-in_err-line-clause-at : goal.returns-in_err-line-clause-at
returns-in_err-line-clause-at c =
    err_exit _ (RefusesAt (IsZoneLine (own_numbered c.args.properties.now))) _ c.from_residual.ensures.1 (zone_line_again _ _ c.in_err-line.ensures.second)

pub returns-in-Some-clause-names : goal.returns-in-Some-clause-names
returns-in-Some-clause-names c =
    let once = c.in_ok-line.ensures.found ∙ ap (λ l. option_to_list (option_map line_text l)) c.in-Some.is in
    ok_placed _ c.placed_fault.result c.read.result _ c.placed_fault.ensures
    (room_named _ (own_lines c.args.properties.now) (line_text c.in-Some.line) _ once c.value.ensures c.read.ensures.means)

pub returns-in-Some-clause-fault : goal.returns-in-Some-clause-fault
returns-in-Some-clause-fault c =
    let P : ℕ → Type 0 = λ n. (n ≡ 44) × RoomZoneFault (own_lines c.args.properties.now) in
    let once = c.in_ok-line.ensures.found ∙ ap (λ l. option_to_list (option_map line_text l)) c.in-Some.is in
    let read = room_unnamed _ (own_lines c.args.properties.now) (line_text c.in-Some.line) _ once c.value.ensures c.read.ensures.fault in
    if_err _ (IsFaultAt c.in-Some.line.number c.read.result) (RefusesBy P) c.placed_fault.result c.placed_fault.ensures
    (λ (f : Fault) so. fault_number P c.in-Some.line.number c.read.result f so read)

pub returns-in-Some-clause-at : goal.returns-in-Some-clause-at
returns-in-Some-clause-at c =
    let own = c.args.properties.now in
    let once = c.in_ok-line.ensures.found ∙ ap (λ l. option_to_list (option_map line_text l)) c.in-Some.is in
    if_err _ (IsFaultAt c.in-Some.line.number c.read.result) (RefusesAt (IsZoneLine (own_numbered own))) c.placed_fault.result c.placed_fault.ensures
    (λ (f : Fault) so. fault_line (IsZoneLine (own_numbered own)) c.in-Some.line.number c.read.result f so
    (zone_line_found (own_numbered own) (own_lines own) c.in-Some.line c.in-Some.line.number c.in_ok-line.field-0 c.in-Some.is c.in_ok-line.ensures.among once refl))
