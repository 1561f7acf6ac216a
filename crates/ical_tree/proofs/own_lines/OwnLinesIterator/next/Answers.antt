use Rattle.std.proofs.Common.{◌≡◌, ◌++◌, [], refl, sym, ◌∙◌, arith}
use Rattle.std.specs.List.{flat_map}
use Rattle.std.proofs.lemmas.List.{nil_from_length}
use Rattle.ical_tree.specs.Runs.{run_lines}
use Rattle.ical_tree.proofs.own_lines.OwnLinesIterator.next.Goals as goal

pub returns-in_default-later-clause-steps : goal.returns-in_default-later-clause-steps
returns-in_default-later-clause-steps c =
    let later = c.loop-line.self.later.now in
    let none : later ≡ [] = nil_from_length later (omega (arith, c.in_default-later.len_below)) in
    let old : run_lines c.loop-line.self.run ++ flat_map run_lines later ≡ [] = rw (none, c.in_default.ensures.lines.0) refl in
    let new : run_lines c.take_first.new.self ++ flat_map run_lines later ≡ [] = rw (none, c.in_default.ensures.lines.1) refl in
    (sym c.loop-line.invariant ∙ old, new)
