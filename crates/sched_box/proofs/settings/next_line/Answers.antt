use Rattle.std.proofs.Common.{arith, refl, Some, None, inl, inr}
use Rattle.std.proofs.lemmas.Str.Pattern.{split_parts, strip_suffix_char}
use Rattle.sched_box.proofs.settings.next_line.Goals as goal

pub returns-in_default-clause-split : goal.returns-in_default-clause-split
returns-in_default-clause-split c = split_parts 10 c.args.text.now None c.in_default.ensures.cases (omega arith)

pub returns-in-Some-strip_suffix-clause-split : goal.returns-in-Some-strip_suffix-clause-split
returns-in-Some-strip_suffix-clause-split c =
    let parts = split_parts 10 c.args.text.now (Some (c.in-Some.whole, c.in-Some.after)) c.in-Some.ensures.cases (omega arith) in
    record { whole = c.in-Some.whole.now; split = parts.0; first = parts.1; bare = inl (strip_suffix_char 13 c.in-Some.whole.now (Some c.in-Some-strip_suffix.line) c.in-Some-strip_suffix.ensures.cases (omega arith)) }

pub returns-in-None-clause-split : goal.returns-in-None-clause-split
returns-in-None-clause-split c =
    let parts = split_parts 10 c.args.text.now (Some (c.in-Some.whole, c.in-Some.after)) c.in-Some.ensures.cases (omega arith) in
    record { whole = c.in-Some.whole.now; split = parts.0; first = parts.1; bare = inr (refl, strip_suffix_char 13 c.in-Some.whole.now None c.in-None.ensures.cases (omega arith)) }
