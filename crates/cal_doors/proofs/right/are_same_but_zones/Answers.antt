use Rattle.std.proofs.Common.{◌∙◌, ap, sym}
use Rattle.cal_doors.specs.Adapted.{others_among}
use Rattle.cal_doors.proofs.RightGiven.{own_same, others_same}
use Rattle.cal_doors.proofs.right.are_same_but_zones.Goals as goal

pub returns-clause-own : goal.returns-clause-own
returns-clause-own c = λ _. own_same c.args.before.now c.args.after.now (c.has_same_lines.ensures c.if-not-has_same_lines.false)

pub returns-clause-others : goal.returns-clause-others
returns-clause-others c = λ same.
    others_same c.args.before.now c.args.after.now
    (ap others_among (sym c.children.ensures) ∙ c.are_same_components.ensures same ∙ ap others_among c.children-2.ensures)
