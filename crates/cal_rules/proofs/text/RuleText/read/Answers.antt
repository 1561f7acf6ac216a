use Rattle.std.proofs.Common.{rules}
use Rattle.std.proofs.Common.{◌++◌, [], ◌∷◌, refl, arith}
use Rattle.ical_lines.specs.Fault.{RefusesBy}
use Rattle.ical_lines.specs.declared.fault.Fault.TheVariants.{Refused}
use Rattle.profile.specs.series.RuleTexts.{rule_parts, IsLeastRuleFault}
use Rattle.cal_rules.specs.Views.{rule_text_said}
use Rattle.cal_rules.proofs.Cuts.{all_left, cut_more, cut_done}
use Rattle.cal_rules.proofs.OneRule.{least_unknown, is_allowed}
use Rattle.cal_rules.proofs.Taking.{next_part, next_there, all_taken}
use Rattle.ical_values.proofs.Exits.{err_exit}
use Rattle.cal_rules.proofs.text.RuleText.read.Goals as goal

pub loop-part-init : goal.loop-part-init
loop-part-init c =
    let s = c.split-part-items.ensures in
    (rule_parts c.args.text.now, all_left 59 c.args.text.now _ _ (omega arith) s.text s.has_more s.pattern c.into_iter-part-iterator.ensures.into_iter_gives, [], refl, c.new-parts.ensures)

pub loop-part-preserved : goal.loop-part-preserved
loop-part-preserved c =
    let i = c.loop-part.invariant in
    let more = cut_more c.loop-part.part-iterator c.next.new.self c.in-Some.part i.0 i.1 c.in-Some.ensures.steps in
    (more.0, more.2, i.2 ++ c.in-Some.part.now ∷ [], next_part (rule_parts c.args.text.now) i.2 i.0 more.0 c.in-Some.part.now i.3 more.1, c.in_ok-take.ensures.takes i.2 i.4)

pub returns-in_err-take-clause-refuses : goal.returns-in_err-take-clause-refuses
returns-in_err-take-clause-refuses c =
    let i = c.loop-part.invariant in
    let more = cut_more c.loop-part.part-iterator c.next.new.self c.in-Some.part i.0 i.1 c.in-Some.ensures.steps in
    err_exit c.from_residual.result (RefusesBy (IsLeastRuleFault c.args.text.now)) c.in_err-take.field-0.0 c.from_residual.ensures.1
    (least_unknown c.args.text.now c.in-Some.part.now c.in_err-take.field-0.0 (next_there (rule_parts c.args.text.now) i.2 i.0 more.0 c.in-Some.part.now i.3 more.1) c.in_err-take.ensures.refuses)

pub returns-in_err-written-clause-refuses : goal.returns-in_err-written-clause-refuses
returns-in_err-written-clause-refuses c =
    let i = c.loop-part.invariant in
    let done = cut_done c.loop-part.part-iterator c.next.new.self i.0 i.1 c.in-None.ensures.steps in
    err_exit c.from_residual-in_err-written.result (RefusesBy (IsLeastRuleFault c.args.text.now)) (Refused c.in_err-written.field-0.0) c.from_residual-in_err-written.ensures.1
    (c.in_err-written.ensures.refuses c.args.text.now (all_taken (rule_parts c.args.text.now) i.2 i.0 c.loop-part.parts i.3 done i.4))

pub invariant_of-result : goal.invariant_of-result
invariant_of-result c =
    let i = c.loop-part.invariant in
    let done = cut_done c.loop-part.part-iterator c.next.new.self i.0 i.1 c.in-None.ensures.steps in
    let spelled = c.in_ok-written.ensures.says c.args.text.now (all_taken (rule_parts c.args.text.now) i.2 i.0 c.loop-part.parts i.3 done i.4) in
    is_allowed c.args.text.now (rule_text_said c.in_ok-written.written) spelled.says spelled.together spelled.one_end

pub returns-clause-reads : goal.returns-clause-reads
returns-clause-reads c =
    let i = c.loop-part.invariant in
    let done = cut_done c.loop-part.part-iterator c.next.new.self i.0 i.1 c.in-None.ensures.steps in
    c.in_ok-written.ensures.says c.args.text.now (all_taken (rule_parts c.args.text.now) i.2 i.0 c.loop-part.parts i.3 done i.4)

pub returns-clause-refuses : goal.returns-clause-refuses
returns-clause-refuses c = search rules
