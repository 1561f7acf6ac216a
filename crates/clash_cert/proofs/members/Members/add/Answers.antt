use Rattle.std.proofs.Common.{◌-◌, ◌++◌, ◌∷◌, [], length, take, get_or, subst, arith}
use Rattle.clash_cert.proofs.MemberLemmas.{AreAdded, push_last, none_left_over, added_more, added_all}
use Rattle.clash_cert.proofs.members.Members.add.Goals as goal

pub loop-left-preserved : goal.loop-left-preserved
loop-left-preserved c =
    let left = c.loop-left.left.now in
    let k = length left - 1 in
    let inv = subst (λ xs. AreAdded c.args.group c.args.numbers.now xs c.args.self.now c.loop-left.self c.loop-left.after) (push_last left (omega (arith, c.in-len1-up.len_at_least))) c.loop-left.invariant in
    added_more c.args.group (get_or left k 0) c.end_of_run-last.result c.args.numbers.now (take k left) c.args.self.now c.loop-left.self (record { by_number = c.insert.new.self }) c.loop-left.after inv
    c.end_of_run-last.ensures c.in_ok-insert.ensures.updates

pub returns : goal.returns
returns c groups added of place is order apart =
    let left = c.loop-left.left.now in
    let nothing = none_left_over left (omega (arith, c.in_default.len_below)) in
    let inv = subst (λ xs. AreAdded c.args.group c.args.numbers.now xs c.args.self.now c.loop-left.self c.loop-left.after) nothing c.loop-left.invariant in
    added_all c.args.group c.args.numbers.now c.args.self.now c.loop-left.self c.loop-left.after groups added inv of place is order apart
