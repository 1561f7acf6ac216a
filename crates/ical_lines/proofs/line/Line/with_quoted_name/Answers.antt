use Rattle.ical_lines.proofs.MarkLemmas.{head_params}
use Rattle.ical_lines.proofs.line.Line.with_quoted_name.Goals as goal

pub invariant_of-result-clause-has_params : goal.invariant_of-result-clause-has_params
invariant_of-result-clause-has_params c =
    head_params c.args.text.now _ _ _ c.split_outside.ensures.front c.split_outside-2.ensures.front c.split_outside-2.ensures.back
