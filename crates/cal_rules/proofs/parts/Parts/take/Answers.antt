use Rattle.std.proofs.Common.{◌∙◌, ◌<◌, sym, refl, Some, MatchOption}
use Rattle.cal_rules.proofs.Taking.{entered, falls, stays}
use Rattle.cal_rules.proofs.parts.Parts.take.Goals as goal
use Rattle.cal_rules.proofs.parts.Parts.take.Goals.{in_default-fault-via-in-Some-fault+else-kept-fault, in_default-fault-via-in_default-fault}

pub returns-in_default-clause-takes : goal.returns-in_default-clause-takes
returns-in_default-clause-takes c = λ parts taken.
    entered parts c.args.part.now c.args.self.now c.enter.new.self taken (rw c.in_default.is at c.in_ok-fault.ensures.enters) c.in_ok-fault.ensures.keeps

pub returns-in-Some-fault-clause-takes : goal.returns-in-Some-fault-clause-takes
returns-in-Some-fault-clause-takes c = λ parts taken.
    stays parts c.args.part.now c.args.self.now c.enter.new.self taken c.in-Some-fault.kept c.in-Some.fault (sym c.in_ok-fault.ensures.keeps ∙ c.in-Some-fault.is) c.in-Some-fault.is c.if-kept-fault.true
    (rw c.in-Some.is at c.in_ok-fault.ensures.enters)

pub returns-in_default-fault-clause-takes : goal.returns-in_default-fault-clause-takes
returns-in_default-fault-clause-takes c = λ parts taken.
    let less : MatchOption c.enter.new.self.fault (Unit {0}) (λ kept. c.in-Some.fault.number < kept.number) = elim c.in_default-fault.branch [
      | in_default-fault-via-in-Some-fault+else-kept-fault w ↦ rw w.in-Some-fault.is w.if-kept-fault.false
      | in_default-fault-via-in_default-fault w ↦ rw w.in_default-fault.is tt
    ] in
    falls parts c.args.part.now c.args.self.now (record c.enter.new.self { fault = Some c.in-Some.fault }) taken c.in-Some.fault refl (rw c.in_ok-fault.ensures.keeps at less) (rw c.in-Some.is at c.in_ok-fault.ensures.enters)
