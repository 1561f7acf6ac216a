use Rattle.std.proofs.Common.{◌≡◌, true, sym, ◌∙◌}
use Rattle.std.proofs.lemmas.Result.{err_from_is_err_and}
use Rattle.ical_lines.specs.Text.{numbered_left}
use Rattle.profile.specs.text.Objects.{is_property}
use Rattle.ical_tree.proofs.FirstOctet.{neither, other_first}
use Rattle.ical_tree.proofs.PairLemmas.{at_property, now_property}
use Rattle.ical_tree.proofs.read.Reader.take.Goals.{in_default-via-in-Some-2+else-is_named-2, in_default-via-in_default}
use Rattle.ical_tree.proofs.read.Reader.take.Goals as goal

pub returns-in_err-add-in_default-clause-fault : goal.returns-in_err-add-in_default-clause-fault
returns-in_err-add-in_default-clause-fault c =
    let property : is_property c.args.text.now ≡ true = elim c.in_default.branch [
      | in_default-via-in-Some-2+else-is_named-2 w ↦ neither c.args.text.now _ w.in-Some.ensures w.if-is_named.ensures w.if-is_named-2.ensures
      | in_default-via-in_default w ↦ other_first c.args.text.now w.in_default.ensures
    ] in
    let p = err_from_is_err_and c.from_residual.result c.from_residual.ensures.1 in
    rw (p.1, p.2) (at_property c.in_err-add-in_default.field-0.0.number _ _ c.args.text.now property ∙ c.in_err-add-in_default.ensures.fault)

pub returns-in_ok-add-in_default-clause-built : goal.returns-in_ok-add-in_default-clause-built
returns-in_ok-add-in_default-clause-built c = λ done b.
    let property : is_property c.args.text.now ≡ true = elim c.in_default.branch [
      | in_default-via-in-Some-2+else-is_named-2 w ↦ neither c.args.text.now _ w.in-Some.ensures w.if-is_named.ensures w.if-is_named-2.ensures
      | in_default-via-in_default w ↦ other_first c.args.text.now w.in_default.ensures
    ] in
    c.in_ok-add-in_default.ensures.built done (c.args.rest.passed, c.args.text.now) (numbered_left c.args.rest) property c.requires.next b

pub returns-in_ok-add-in_default-clause-names : goal.returns-in_ok-add-in_default-clause-names
returns-in_ok-add-in_default-clause-names c =
    let property : is_property c.args.text.now ≡ true = elim c.in_default.branch [
      | in_default-via-in-Some-2+else-is_named-2 w ↦ neither c.args.text.now _ w.in-Some.ensures w.if-is_named.ensures w.if-is_named-2.ensures
      | in_default-via-in_default w ↦ other_first c.args.text.now w.in_default.ensures
    ] in
    c.in_ok-add-in_default.ensures.names ∙ sym (now_property _ c.args.text.now property)
