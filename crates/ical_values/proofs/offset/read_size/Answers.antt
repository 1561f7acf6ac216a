use Rattle.std.proofs.lemmas.Grind.{common_steps}
use Rattle.std.proofs.Common.{arith}
use Rattle.ical_values.proofs.Offsets.{if_none_weaker, size_of_four, size_of_others}
use Rattle.ical_values.proofs.offset.read_size.Goals as goal

pub returns-clause-none : goal.returns-clause-none
returns-clause-none c =
    if_none_weaker c.read_time-2.result (size_of_four c.args.digits.now c.if-digits-ne4.false) c.read_time-2.ensures.none

pub returns-then-digits-ne4-clause-none : goal.returns-then-digits-ne4-clause-none
returns-then-digits-ne4-clause-none c =
    if_none_weaker c.read_time.result (size_of_others c.args.digits.now c.if-digits-ne4.true) c.read_time.ensures.none

pub returns-clause-found : goal.returns-clause-found
returns-clause-found c = grind (arith, common_steps)
