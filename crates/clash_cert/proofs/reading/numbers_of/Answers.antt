use Rattle.clash_cert.proofs.GroupWords.{no_more, one_first, not_empty}
use Rattle.clash_cert.proofs.reading.numbers_of.Goals as goal

pub returns-in_default : goal.returns-in_default
returns-in_default c = no_more c.args.text.now c.loop-rest.numbers.items c.loop-rest.rest.now c.loop-rest.invariant (not_empty _ _ c.is_empty.ensures c.loop-rest-test.true) c.in_default.ensures

pub loop-rest-preserved : goal.loop-rest-preserved
loop-rest-preserved c =
    one_first c.args.text.now c.loop-rest.numbers.items c.loop-rest.rest.now c.push.new.self.items c.in-Some.left.now c.in-Some.number c.loop-rest.invariant
    (not_empty _ _ c.is_empty.ensures c.loop-rest-test.true) c.in-Some.ensures c.in_ok-push.ensures.items
