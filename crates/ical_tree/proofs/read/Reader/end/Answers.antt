use Rattle.std.proofs.lemmas.Grind.{common_steps}
use Rattle.std.proofs.Common.{◌≡◌, ◌++◌, ◌∷◌, [], length, subst, ap, sym, ◌∙◌, arith, append-nil, vec_len}
use Rattle.ical_tree.specs.Reading.{Built, open_view, with_lines}
use Rattle.ical_tree.specs.Runs.{run_numbered}
use Rattle.ical_tree.proofs.BuiltLemmas.{ended_child, ended_only, none_left, opens}
use Rattle.ical_tree.proofs.read.Reader.end.Goals as goal

pub returns-in_default-pop-clause-built : goal.returns-in_default-pop-clause-built
returns-in_default-pop-clause-built c = λ done line e v b.
    let mid = c.end_run.new.self in
    let moved = c.in_ok-end_run.ensures in
    let built : Built (open_view mid) mid.closed done = rw (moved.view, moved.closed) b in
    let none : length c.pop.new.self.items ≡ 0 = omega (arith, none_left (vec_len c.pop.new.self) c.in_default-pop.ensures.variant.1, c.pop.new.self.ok.0) in
    let left : length c.pop-2.new.self.items ≡ 0 = sym (ap length (c.in_default-pop.ensures.items ∙ append-nil c.pop-2.new.self.items)) ∙ none in
    ended_only mid.«open».items c.pop.new.self.items c.pop-2.new.self.items (run_numbered mid.run) c.in-Some.component mid.closed done line moved.empty e (rw v (sym c.is_named.ensures ∙ c.if-not-is_named.false)) c.in-Some.ensures.items none left built

pub returns-clause-built : goal.returns-clause-built
returns-clause-built c = λ done line e v b.
    let mid = c.end_run.new.self in
    let moved = c.in_ok-end_run.ensures in
    let built : Built (open_view mid) mid.closed done = rw (moved.view, moved.closed) b in
    let two = c.in-Some.ensures.items ∙ ap (λ z. z ++ c.in-Some.component ∷ []) c.in-Some-pop.ensures.items in
    rw c.in_ok-push.ensures.items (ended_child c.pop-2.new.self.items (run_numbered mid.run) c.in-Some-pop.parent c.push_child.new.self c.in-Some.component mid.closed done line moved.empty e (rw v (sym c.is_named.ensures ∙ c.if-not-is_named.false)) c.in_ok-push_child.ensures.name c.in_ok-push_child.ensures.begun c.in_ok-push_child.ensures.lines c.in_ok-push_child.ensures.added (subst (λ xs. Built (with_lines (run_numbered mid.run) (opens xs)) mid.closed done) two built))

pub returns-then-not-is_named-clause-fault : goal.returns-then-not-is_named-clause-fault
returns-then-not-is_named-clause-fault c = grind (arith, common_steps)

pub returns-clause-names : goal.returns-clause-names
returns-clause-names c = grind (arith, common_steps)
