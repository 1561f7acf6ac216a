use Rattle.std.proofs.Common.{codes, sym, subst, refl, arith}
use Rattle.ical_lines.specs.Text.{line_text}
use Rattle.ical_tree.proofs.OneLine.{the_line}
use Rattle.profile.specs.series.ZoneTexts.{IsLocalLine}
use Rattle.profile.specs.series.GeneralZoneTexts.{RunsFault}
use Rattle.ical_values.proofs.Exits.{refusal_exit}
use Rattle.ical_tree.specs.Own.{own_lines}
use Rattle.cal_zones.proofs.Blamed.{not_once}
use Rattle.cal_zones.proofs.Reading.{said}
use Rattle.cal_doors.proofs.PartSays.{not_one, start_fault, from_fault, to_fault}
use Rattle.cal_doors.proofs.part.read_times.Goals as goal

pub returns-in_err-line-clause-fault : goal.returns-in_err-line-clause-fault
returns-in_err-line-clause-fault c =
    let lines = own_lines c.args.properties.now in
    refusal_exit _ (RunsFault lines) _ c.from_residual.ensures.1
    (subst (RunsFault lines) (sym c.in_err-line.ensures.refuses) (not_one (codes "DTSTART") lines (0, omega arith, refl) (not_once c.in_err-line.ensures.faulty)))

pub returns-in_err-start-clause-fault : goal.returns-in_err-start-clause-fault
returns-in_err-start-clause-fault c =
    let lines = own_lines c.args.properties.now in
    let line = line_text c.in_ok-line.line in
    refusal_exit _ (RunsFault lines) _ c.from_residual-in_err-start.ensures.1
    (start_fault lines line _ (the_line (codes "DTSTART") lines line c.in_ok-line.ensures.found) c.in_err-start.ensures.fault)

pub returns-in_err-from-clause-fault : goal.returns-in_err-from-clause-fault
returns-in_err-from-clause-fault c =
    let lines = own_lines c.args.properties.now in
    refusal_exit _ (RunsFault lines) _ c.from_residual-in_err-from.ensures.1 (from_fault lines _ c.in_err-from.ensures.fault)

pub returns-in_err-to-clause-fault : goal.returns-in_err-to-clause-fault
returns-in_err-to-clause-fault c =
    let lines = own_lines c.args.properties.now in
    refusal_exit _ (RunsFault lines) _ c.from_residual-in_err-to.ensures.1 (to_fault lines _ c.in_err-to.ensures.fault)

pub returns-clause-says : goal.returns-clause-says
returns-clause-says c =
    let lines = own_lines c.args.properties.now in
    record {
      says_start = said IsLocalLine (codes "DTSTART") lines (line_text c.in_ok-line.line) c.in_ok-start.start c.in_ok-line.ensures.found c.in_ok-start.ensures.says;
      says_from = c.in_ok-from.ensures.says;
      says_to = c.in_ok-to.ensures.says;
    }
