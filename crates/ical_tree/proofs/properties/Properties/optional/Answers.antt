use Rattle.std.proofs.lemmas.Grind.{common_steps}
use Rattle.std.proofs.Common.{◌∙◌, ◌+◌, ap, sym, subst, length, arith, map, option_map, option_to_list, Contains, true, false}
use Rattle.ical_lines.specs.Text.{line_text, numbered}
use Rattle.profile.specs.events.Properties.{is_of}
use Rattle.profile.specs.faults.Blame.{IsSecond}
use Rattle.ical_tree.proofs.OwnLemmas.{second_at, count_next, is_among, is_none, one_found}
use Rattle.ical_tree.proofs.properties.Properties.optional.Goals.{then-is_named+else-is_some, else-is_named}
use Rattle.ical_tree.proofs.properties.Properties.optional.Goals as goal

pub returns-then-is_some-clause-twice : goal.returns-then-is_some-clause-twice
returns-then-is_some-clause-twice c = grind (arith, common_steps)

pub returns-then-is_some-clause-second : goal.returns-then-is_some-clause-second
returns-then-is_some-clause-second c =
    let one = c.loop-line.invariant.one ∙ one_found line_text c.loop-line.found (sym c.is_some.ensures ∙ c.if-is_some.true) in
    let second = second_at c.args.name.now c.deref-line-items.result.now c.loop-line.line-index c.line-item.result c.loop-line-test.true c.line-item.is (sym c.is_named.ensures ∙ c.if-is_named.true) one in
    rw (c.at.ensures, c.number.ensures) (subst (λ items. IsSecond (is_of c.args.name.now) (map numbered items) c.line-item.result.number) c.deref-line-items.ensures.value second)

pub loop-line-preserved : goal.loop-line-preserved
loop-line-preserved c = elim c.if-is_named.branch [
  | then-is_named+else-is_some w ↦
      let none = is_none c.loop-line.found (sym w.is_some.ensures ∙ w.if-is_some.false) in
      let next = count_next c.args.name.now c.deref-line-items.result.now c.loop-line.line-index c.line-item.result true c.loop-line-test.true c.line-item.is (sym c.is_named.ensures ∙ w.if-is_named.true) in
      let one = ap (λ n. n + 1) (c.loop-line.invariant.one ∙ ap (λ found. length (option_to_list (option_map line_text found))) none) in record {
        all = grind (arith, common_steps);
        one = rw w.found-is (next ∙ one);
        among = rw w.found-is (subst (λ items. Contains (map numbered items) (numbered c.line-item.result)) c.deref-line-items.ensures.value (is_among c.deref-line-items.result.now c.loop-line.line-index c.line-item.result c.loop-line-test.true c.line-item.is));
      }
  | else-is_named w ↦
      let next = count_next c.args.name.now c.deref-line-items.result.now c.loop-line.line-index c.line-item.result false c.loop-line-test.true c.line-item.is (sym c.is_named.ensures ∙ w.if-is_named.false) in record {
        all = grind (arith, common_steps);
        one = rw w.found-is (omega (arith, next, c.loop-line.invariant.one));
        among = rw w.found-is c.loop-line.invariant.among;
      }
]

pub returns-clause-found : goal.returns-clause-found
returns-clause-found c = grind (arith, common_steps)
