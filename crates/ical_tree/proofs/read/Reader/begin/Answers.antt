use Rattle.std.proofs.lemmas.Grind.{common_steps}
use Rattle.std.proofs.Common.{◌≡◌, ◌≤◌, length, is_some, true, sym, ◌∙◌, arith}
use Rattle.profile.specs.text.Objects.{may_begin}
use Rattle.ical_tree.specs.Reading.{Built, open_names, open_view}
use Rattle.ical_tree.specs.Runs.{run_numbered}
use Rattle.ical_tree.specs.Tree.{component_begun, component_name}
use Rattle.ical_tree.proofs.BuiltLemmas.{begun}
use Rattle.ical_tree.proofs.read.Reader.begin.Goals as goal

pub returns-clause-built : goal.returns-clause-built
returns-clause-built c = λ done line o b.
    let mid = c.end_run.new.self in
    let moved = c.in_ok-end_run.ensures in
    let few : length mid.«open».items ≤ 7 = omega (arith, moved.«open», c.args.self.now.«open».ok.0) in
    let may : may_begin (open_names (open_view mid)) (is_some mid.closed) (component_name c.new.result) ≡ true = rw (moved.view, moved.closed, c.new.ensures.name) (sym c.may_begin.ensures ∙ c.if-not-may_begin.false) in
    let built : Built (open_view mid) mid.closed done = rw (moved.view, moved.closed) b in
    let number : component_begun c.new.result ≡ c.args.rest.passed = c.new.ensures.begun ∙ c.passed.ensures in
    rw (c.in_ok-push.ensures.items, sym number) (begun mid.«open».items (run_numbered mid.run) c.new.result mid.closed done line moved.empty (rw c.new.ensures.name o) c.new.ensures.lines c.new.ensures.children may few built)

pub returns-then-len-ge-MAX_DEPTH-clause-fault : goal.returns-then-len-ge-MAX_DEPTH-clause-fault
returns-then-len-ge-MAX_DEPTH-clause-fault c = grind (arith, common_steps)

pub returns-then-not-may_begin-clause-fault : goal.returns-then-not-may_begin-clause-fault
returns-then-not-may_begin-clause-fault c = grind (arith, common_steps)

pub returns-clause-names : goal.returns-clause-names
returns-clause-names c = grind (arith, common_steps)
