use Rattle.std.proofs.Common.{ap, codes, subst, sym}
use Rattle.ical_lines.specs.Fault.{RefusesBy}
use Rattle.ical_tree.specs.Tree.{component_lines}
use Rattle.cal_zones.specs.Onsets.{observance_of, yearly_rule}
use Rattle.cal_zones.specs.Read.{SingleFault, in_times, has_rule}
use Rattle.profile.specs.events.Properties.{IsMissing}
use Rattle.profile.specs.series.ZoneTexts.{SaysOnce}
use Rattle.cal_zones.proofs.Reading.{single_refused}
use Rattle.ical_values.proofs.Exits.{err_exit}
use Rattle.cal_zones.proofs.read.read_single.Goals as goal

pub returns-in_err-observance-clause-fault : goal.returns-in_err-observance-clause-fault
returns-in_err-observance-clause-fault c =
    err_exit _ (RefusesBy (SingleFault (component_lines c.args.part.now))) _ c.from_residual-in_err-observance.ensures.1
    (in_times (rw c.in_ok-properties.ensures.lines at c.in_err-observance.ensures.fault))

pub returns-in_err-check_missing-clause-fault : goal.returns-in_err-check_missing-clause-fault
returns-in_err-check_missing-clause-fault c =
    let lines = component_lines c.args.part.now in
    let fault = c.in_err-check_missing.ensures.fault in
    let there = has_rule (λ missing. fault.1 (subst (IsMissing (codes "RRULE")) (sym c.in_ok-properties.ensures.lines) missing)) in
    err_exit _ (RefusesBy (SingleFault lines)) _ c.from_residual-in_err-check_missing.ensures.1 (subst (SingleFault lines) (sym fault.0) there)

pub returns-in-Ok-clause-says : goal.returns-in-Ok-clause-says
returns-in-Ok-clause-says c =
    let o = c.in_ok-observance.observance in
    let once : SaysOnce (component_lines c.args.part.now) (observance_of o) = record {
      times = rw c.in_ok-properties.ensures.lines at c.in_ok-observance.ensures.says;
      no_rule = subst (IsMissing (codes "RRULE")) c.in_ok-properties.ensures.lines c.in_ok-check_missing.ensures.missing;
      is = ap (yearly_rule o.day) c.in_ok-observance.ensures.no_rule;
    } in
    (observance_of o, c.in-Ok.ensures.ok, once, c.in-Ok.ensures.accepted.1)

pub returns-clause-fault : goal.returns-clause-fault
returns-clause-fault c =
    let lines = component_lines c.args.part.now in
    let o = c.in_ok-observance.observance in
    let once : SaysOnce lines (observance_of o) = record {
      times = rw c.in_ok-properties.ensures.lines at c.in_ok-observance.ensures.says;
      no_rule = subst (IsMissing (codes "RRULE")) c.in_ok-properties.ensures.lines c.in_ok-check_missing.ensures.missing;
      is = ap (yearly_rule o.day) c.in_ok-observance.ensures.no_rule;
    } in
    rw c.at.ensures (single_refused lines o _ once c.in_ok-observance.ensures.no_rule c.in-Err.ensures.refuses)
