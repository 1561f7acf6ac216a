use Rattle.std.proofs.Common.{codes, sym, subst, refl, arith, ℤ}
use Rattle.std.specs.Prelude.{Some, true}
use Rattle.ical_lines.specs.Text.{line_text}
use Rattle.ical_lines.specs.declared.fault.Refusal.{Refusal}
use Rattle.std.proofs.lemmas.Bool.{or_left, or_right}
use Rattle.ical_tree.specs.Own.{own_lines, numbered_own}
use Rattle.ical_tree.proofs.OneLine.{the_line}
use Rattle.profile.specs.series.ZoneBlame.{PartBlame}
use Rattle.cal_zones.proofs.Blamed.{is_named, not_once, once_blame, start_blame}
use Rattle.profile.specs.events.Properties.{Says}
use Rattle.profile.specs.series.ZoneTexts.{IsLocalLine, IsOffsetLine, TimesFault, dates}
use Rattle.cal_zones.proofs.Reading.{said, not_one, start_fault, from_fault, to_fault}
use Rattle.ical_values.proofs.Exits.{err_exit, refusal_exit}
use Rattle.cal_zones.proofs.parts.read_times.Goals as goal

pub returns-in_err-check_missing-clause-fault : goal.returns-in_err-check_missing-clause-fault
returns-in_err-check_missing-clause-fault c =
    let fault = c.in_err-check_missing.ensures.fault in
    let lines = own_lines c.args.properties.now in
    refusal_exit _ (TimesFault lines) _ c.from_residual.ensures.1 (subst (TimesFault lines) (sym fault.0) (dates fault.1))

pub returns-in_err-line-clause-fault : goal.returns-in_err-line-clause-fault
returns-in_err-line-clause-fault c =
    let lines = own_lines c.args.properties.now in
    refusal_exit _ (TimesFault lines) _ c.from_residual-in_err-line.ensures.1
    (subst (TimesFault lines) (sym c.in_err-line.ensures.refuses) (not_one (codes "DTSTART") lines (0, omega arith, refl) (not_once c.in_err-line.ensures.faulty)))

pub returns-in_err-line-clause-at : goal.returns-in_err-line-clause-at
returns-in_err-line-clause-at c =
    let part = numbered_own c.args.properties.now in
    err_exit _ (λ (e : Refusal). PartBlame part e.number e.line) _ c.from_residual-in_err-line.ensures.1
    (once_blame part (codes "DTSTART") _ _ c.in_err-line.ensures.refuses c.in_err-line.ensures.faulty)

pub returns-in_err-start-clause-at : goal.returns-in_err-start-clause-at
returns-in_err-start-clause-at c =
    let part = numbered_own c.args.properties.now in
    let lines = own_lines c.args.properties.now in
    let line = line_text c.in_ok-line.line in
    let named = is_named (codes "DTSTART") lines line (the_line (codes "DTSTART") lines line c.in_ok-line.ensures.found) in
    err_exit _ (λ (e : Refusal). PartBlame part e.number e.line) _ c.from_residual-in_err-start.ensures.1
    (start_blame part c.in_ok-line.line.number line _ _ c.in_ok-line.ensures.among named c.in_err-start.ensures.at c.in_err-start.ensures.fault)

pub returns-in_err-from-clause-at : goal.returns-in_err-from-clause-at
returns-in_err-from-clause-at c =
    let part = numbered_own c.args.properties.now in
    err_exit _ (λ (e : Refusal). PartBlame part e.number e.line) _ c.from_residual-in_err-from.ensures.1 (c.in_err-from.ensures.at (λ line h. or_left _ _ h))

pub returns-in_err-to-clause-at : goal.returns-in_err-to-clause-at
returns-in_err-to-clause-at c =
    let part = numbered_own c.args.properties.now in
    err_exit _ (λ (e : Refusal). PartBlame part e.number e.line) _ c.from_residual-in_err-to.ensures.1 (c.in_err-to.ensures.at (λ line h. or_right _ _ h))

pub returns-in_err-start-clause-fault : goal.returns-in_err-start-clause-fault
returns-in_err-start-clause-fault c =
    let lines = own_lines c.args.properties.now in
    let line = line_text c.in_ok-line.line in
    refusal_exit _ (TimesFault lines) _ c.from_residual-in_err-start.ensures.1
    (start_fault lines line _ (the_line (codes "DTSTART") lines line c.in_ok-line.ensures.found) c.in_err-start.ensures.fault)

pub returns-in_err-from-clause-fault : goal.returns-in_err-from-clause-fault
returns-in_err-from-clause-fault c =
    let lines = own_lines c.args.properties.now in
    refusal_exit _ (TimesFault lines) _ c.from_residual-in_err-from.ensures.1 (from_fault lines _ c.in_err-from.ensures.fault)

pub returns-in_err-to-clause-fault : goal.returns-in_err-to-clause-fault
returns-in_err-to-clause-fault c =
    let lines = own_lines c.args.properties.now in
    refusal_exit _ (TimesFault lines) _ c.from_residual-in_err-to.ensures.1 (to_fault lines _ c.in_err-to.ensures.fault)

pub returns-clause-says : goal.returns-clause-says
returns-clause-says c =
    let lines = own_lines c.args.properties.now in
    record {
      start = subst (λ (t : ℤ). Says (codes "DTSTART") true IsLocalLine lines (Some t)) (sym c.new.ensures.start) (said IsLocalLine (codes "DTSTART") lines (line_text c.in_ok-line.line) c.in_ok-start.start c.in_ok-line.ensures.found c.in_ok-start.ensures.says);
      second = c.new.result.starts.2;
      from = subst (λ (t : ℤ). Says (codes "TZOFFSETFROM") true IsOffsetLine lines (Some t)) (sym c.new.ensures.from) c.in_ok-from.ensures.says;
      to = subst (λ (t : ℤ). Says (codes "TZOFFSETTO") true IsOffsetLine lines (Some t)) (sym c.new.ensures.to) c.in_ok-to.ensures.says;
      no_dates = c.in_ok-check_missing.ensures.missing;
    }
