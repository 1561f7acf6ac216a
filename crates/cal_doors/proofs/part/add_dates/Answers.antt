use Rattle.std.proofs.Common.{◌≡◌, ◌+◌, ◌∷◌, [], ap, drop, map, sym}
use Rattle.std.proofs.lemmas.List.{drop_all}
use Rattle.ical_lines.specs.Text.{line_text}
use Rattle.ical_tree.proofs.OneLine.{at_place}
use Rattle.ical_tree.specs.Own.{own_lines}
use Rattle.cal_zones.proofs.Reading.{fault_exit}
use Rattle.cal_doors.specs.Runs.{runs_in}
use Rattle.cal_doors.specs.Reading.{LineFault, DatesFault}
use Rattle.cal_doors.proofs.PartSays.{none_passed, line_added, other_passed, lines_added, line_fault}
use Rattle.cal_doors.proofs.part.add_dates.Goals as goal
use Rattle.cal_doors.proofs.part.add_dates.Goals.{then-is_named+in_ok-add_line, else-is_named}

pub loop-line-init : goal.loop-line-init
loop-line-init c =
    none_passed c.args.times.now.from c.args.times.now.to (own_lines c.args.properties.now) (map line_text c.lines-line-items.result.now) (runs_in c.args.runs.now.items) (ap (map line_text) c.lines-line-items.ensures)

pub returns-in_err-add_line-clause-fault : goal.returns-in_err-add_line-clause-fault
returns-in_err-add_line-clause-fault c =
    let all = own_lines c.args.properties.now in
    let items = c.lines-line-items.result.now in
    let i = c.loop-line.line-index in
    let x = c.line-item.result in
    let left = map line_text (drop i items) in
    let rest = map line_text (drop (i + 1) items) in
    let steps : left ≡ line_text x ∷ rest = ap (map line_text) (at_place items i x c.loop-line-test.true c.line-item.is) in
    fault_exit _ (DatesFault all) (LineFault (line_text x)) _
    (λ n h. line_fault c.args.times.now.from c.args.times.now.to all left rest (line_text x) (runs_in c.args.runs.now.items) (runs_in c.loop-line.runs.items) n c.loop-line.invariant steps (sym c.if-is_named.ensures) h)
    c.from_residual.ensures.1 c.in_err-add_line.ensures.fault

pub loop-line-preserved : goal.loop-line-preserved
loop-line-preserved c =
    let all = own_lines c.args.properties.now in
    let from = c.args.times.now.from in
    let to = c.args.times.now.to in
    let old = runs_in c.args.runs.now.items in
    let mid = runs_in c.loop-line.runs.items in
    let items = c.lines-line-items.result.now in
    let i = c.loop-line.line-index in
    let x = c.line-item.result in
    let left = map line_text (drop i items) in
    let rest = map line_text (drop (i + 1) items) in
    let steps : left ≡ line_text x ∷ rest = ap (map line_text) (at_place items i x c.loop-line-test.true c.line-item.is) in
    elim c.if-is_named.branch [
      | then-is_named+in_ok-add_line w ↦ rw w.runs-is (line_added from to all left rest (line_text x) old mid _ c.loop-line.invariant steps (sym w.if-is_named.ensures) w.in_ok-add_line.ensures.adds)
      | else-is_named w ↦ rw w.runs-is (other_passed from to all left rest (line_text x) old mid c.loop-line.invariant steps (sym w.if-is_named.ensures))
    ]

pub returns-clause-adds : goal.returns-clause-adds
returns-clause-adds c =
    let items = c.lines-line-items.result.now in
    let left = map line_text (drop c.loop-line.line-index items) in
    let none : left ≡ [] = ap (map line_text) (drop_all c.loop-line.line-index items c.loop-line-test.false) in
    lines_added c.args.times.now.from c.args.times.now.to (own_lines c.args.properties.now) left (runs_in c.args.runs.now.items) (runs_in c.loop-line.runs.items) c.loop-line.invariant none
