use Rattle.std.proofs.Common.{Some, ap, ◌∙◌, arith}
use Rattle.std.proofs.lemmas.Str.Pattern.{strip_prefix_char}
use Rattle.profile.specs.text.Lines.{pieces}
use Rattle.ical_lines.proofs.MarkLemmas.{colon_name, colon_params, colon_value, semicolon_name, semicolon_params, semicolon_value}
use Rattle.ical_lines.proofs.line.Line.of.Goals as goal

pub invariant_of-result-clause-has_name : goal.invariant_of-result-clause-has_name
invariant_of-result-clause-has_name c =
    colon_name c.args.text.now _ _ _ c.split_mark.ensures.whole (strip_prefix_char 58 _ (Some c.in-Some.value) c.in-Some.ensures.cases (omega arith)) c.split_mark.ensures.plain

pub invariant_of-result-clause-has_params : goal.invariant_of-result-clause-has_params
invariant_of-result-clause-has_params c =
    colon_params c.args.text.now _ _ _ c.split_mark.ensures.whole (strip_prefix_char 58 _ (Some c.in-Some.value) c.in-Some.ensures.cases (omega arith)) c.split_mark.ensures.plain

pub invariant_of-result-clause-has_value : goal.invariant_of-result-clause-has_value
invariant_of-result-clause-has_value c =
    colon_value c.args.text.now _ _ _ c.split_mark.ensures.whole (strip_prefix_char 58 _ (Some c.in-Some.value) c.in-Some.ensures.cases (omega arith)) c.split_mark.ensures.plain

pub invariant_of-result-in-Some-strip_prefix-clause-has_name : goal.invariant_of-result-in-Some-strip_prefix-clause-has_name
invariant_of-result-in-Some-strip_prefix-clause-has_name c =
    semicolon_name c.args.text.now _ _ _ c.split_mark.ensures.whole (strip_prefix_char 59 _ (Some c.in-Some-strip_prefix.after) c.in-Some-strip_prefix.ensures.cases (omega arith)) c.split_mark.ensures.plain

pub invariant_of-result-in-Some-strip_prefix-clause-has_params : goal.invariant_of-result-in-Some-strip_prefix-clause-has_params
invariant_of-result-in-Some-strip_prefix-clause-has_params c =
    ap (pieces 59) c.split_outside.ensures.front ∙ semicolon_params c.args.text.now _ _ _ c.split_mark.ensures.whole (strip_prefix_char 59 _ (Some c.in-Some-strip_prefix.after) c.in-Some-strip_prefix.ensures.cases (omega arith)) c.split_mark.ensures.plain

pub invariant_of-result-in-Some-strip_prefix-clause-has_value : goal.invariant_of-result-in-Some-strip_prefix-clause-has_value
invariant_of-result-in-Some-strip_prefix-clause-has_value c =
    semicolon_value c.args.text.now _ _ _ _ c.split_mark.ensures.whole (strip_prefix_char 59 _ (Some c.in-Some-strip_prefix.after) c.in-Some-strip_prefix.ensures.cases (omega arith)) c.split_mark.ensures.plain c.split_outside.ensures.back
