use Rattle.std.proofs.Common.{List, map, sym, subst, inl, inr, ◌∙◌}
use Rattle.std.specs.Prelude.{Contains}
use Rattle.ical_lines.specs.Text.{line_text, numbered}
use Rattle.ical_lines.specs.declared.line.Line.{Line}
use Rattle.ical_tree.proofs.OwnLemmas.{is_among}
use Rattle.cal_events.proofs.occurrences.first_recurring.Goals as goal
use Rattle.cal_events.proofs.occurrences.first_recurring.Goals.{then-names-via-then-names, then-names-via-else-names+then-names-2}

pub returns-then-names-clause-at : goal.returns-then-names-clause-at
returns-then-names-clause-at c =
    let x = c.line-item.result in
    let among = subst (λ (lines : List Line). Contains (map numbered lines) (numbered x)) c.lines-line-items.ensures
    (is_among c.lines-line-items.result.now c.loop-line.line-index x c.loop-line-test.true c.line-item.is) in
    elim c.then-names.branch [
      | then-names-via-then-names w ↦ inl (record { line = line_text x; among = among; holds = sym c.names.ensures ∙ w.if-names.true })
      | then-names-via-else-names+then-names-2 w ↦ inr (record { line = line_text x; among = among; holds = sym w.names-else-names.ensures ∙ w.if-names-2.true })
    ]
