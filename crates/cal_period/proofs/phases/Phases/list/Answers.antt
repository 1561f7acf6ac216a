use Rattle.std.proofs.Common.{arith}
use Rattle.cal_period.proofs.PhaseLemmas.{first_more, first_still, all_first}
use Rattle.cal_period.proofs.phases.Phases.list.Goals as goal
use Rattle.cal_period.proofs.phases.Phases.list.Goals.{in-Some+in_ok-push, in_default}

pub loop-number-preserved : goal.loop-number-preserved
loop-number-preserved c =
    let f = c.args.self.now in
    elim c.match-nth.branch [
      | in-Some+in_ok-push v ↦
          rw v.all-is
          (first_more f.rule.now.pattern f.second f.least f.greatest c.args.m c.loop-number.number c.loop-number.all.items v.push.new.self.items v.in-Some.residue c.loop-number.invariant v.in-Some.ensures v.in_ok-push.ensures.items)
      | in_default v ↦
          rw v.all-is (first_still f.rule.now.pattern f.second f.least f.greatest c.args.m c.loop-number.number c.loop-number.all.items c.loop-number.invariant v.in_default.ensures)
    ]

pub returns : goal.returns
returns c =
    let f = c.args.self.now in
    let past = c.loop-number-test.false in
    all_first f.rule.now.pattern f.second f.least f.greatest c.args.m c.args.turns c.loop-number.number c.loop-number.all.items f.form.0 f.form.1 c.requires.are (omega (arith, past)) c.loop-number.invariant
