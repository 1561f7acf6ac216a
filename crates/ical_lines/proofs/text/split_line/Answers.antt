use Rattle.ical_lines.proofs.BreakLemmas.{next_line, last_line, next_whole, last_whole, next_cut}
use Rattle.ical_lines.proofs.text.split_line.Goals as goal

pub split_at-requires-in-Some : goal.split_at-requires-in-Some
split_at-requires-in-Some c =
    next_cut c.as_bytes.result.now c.args.text.now _ c.in-Some.end c.as_bytes.ensures.utf8 c.as_bytes.ensures.value c.in-Some.ensures c.split_at.ensures.back

pub returns-in-Some-clause-lines : goal.returns-in-Some-clause-lines
returns-in-Some-clause-lines c =
    next_line c.as_bytes.result.now c.args.text.now _ _ _ _ c.in-Some.end c.as_bytes.ensures.value c.in-Some.ensures c.split_at.ensures.front c.split_at.ensures.back c.split_at-in-Some.ensures.back c.without_return.ensures

pub returns-in-Some-clause-one_line : goal.returns-in-Some-clause-one_line
returns-in-Some-clause-one_line c =
    next_whole c.as_bytes.result.now c.args.text.now _ _ c.in-Some.end c.as_bytes.ensures.value c.in-Some.ensures c.split_at.ensures.front c.without_return.ensures

pub returns-in-None-clause-lines : goal.returns-in-None-clause-lines
returns-in-None-clause-lines c =
    last_line c.as_bytes.result.now c.args.text.now _ c.as_bytes.ensures.value c.in-None.ensures c.without_return-in-None.ensures

pub returns-in-None-clause-one_line : goal.returns-in-None-clause-one_line
returns-in-None-clause-one_line c =
    last_whole c.as_bytes.result.now c.args.text.now _ c.as_bytes.ensures.value c.in-None.ensures c.without_return-in-None.ensures
