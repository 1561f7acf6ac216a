use Rattle.std.proofs.Common.{codes, sym, subst}
use Rattle.ical_lines.specs.Fault.{RefusesBy}
use Rattle.ical_tree.specs.Tree.{component_lines}
use Rattle.profile.specs.events.Properties.{SomeLine}
use Rattle.profile.specs.series.GeneralZoneTexts.{IsNoDatesLine, RunsFault, bad_date}
use Rattle.ical_tree.specs.Own.{own_lines}
use Rattle.ical_values.proofs.Exits.{err_exit}
use Rattle.cal_zones.proofs.Reading.{fault_exit}
use Rattle.cal_doors.specs.Runs.{runs_in}
use Rattle.cal_doors.specs.Reading.{DatesFault}
use Rattle.cal_doors.proofs.PartSays.{part_added}
use Rattle.cal_doors.proofs.part.add_part.Goals as goal

pub returns-in_err-times-clause-fault : goal.returns-in_err-times-clause-fault
returns-in_err-times-clause-fault c =
    err_exit _ (RefusesBy (RunsFault (component_lines c.args.part.now))) _ c.from_residual-in_err-times.ensures.1
    (rw c.in_ok-properties.ensures.lines at c.in_err-times.ensures.fault)

pub returns-in_err-add_first-clause-fault : goal.returns-in_err-add_first-clause-fault
returns-in_err-add_first-clause-fault c =
    let lines = component_lines c.args.part.now in
    fault_exit _ (RunsFault lines) (RunsFault (own_lines c.in_ok-properties.properties)) _ (λ n h. subst (λ ls. RunsFault ls n) c.in_ok-properties.ensures.lines h)
    c.from_residual-in_err-add_first.ensures.1 c.in_err-add_first.ensures.fault

pub returns-in_err-add_dates-clause-fault : goal.returns-in_err-add_dates-clause-fault
returns-in_err-add_dates-clause-fault c =
    let lines = component_lines c.args.part.now in
    fault_exit _ (RunsFault lines) (DatesFault (own_lines c.in_ok-properties.properties)) _
    (λ n h. subst (RunsFault lines) (sym h.0) (bad_date (subst (SomeLine (codes "RDATE") IsNoDatesLine) c.in_ok-properties.ensures.lines h.1)))
    c.from_residual-in_err-add_dates.ensures.1 c.in_err-add_dates.ensures.fault

pub returns-clause-adds : goal.returns-clause-adds
returns-clause-adds c =
    let lines = component_lines c.args.part.now in
    let same = c.in_ok-properties.ensures.lines in
    let t = c.in_ok-times.times in
    part_added lines t.start t.from t.to (runs_in c.args.runs.now.items) (runs_in c.add_first.new.runs.items) _
    (rw same at c.in_ok-times.ensures.says) (rw same at c.in_ok-add_first.ensures.adds) (rw same at c.in_ok-add_dates.ensures.adds)
