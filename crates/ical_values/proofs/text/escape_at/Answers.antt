use Rattle.std.proofs.Common.{sym, arith, refl, Some, None}
use Rattle.std.proofs.lemmas.Str.Pattern.{strip_prefix_char}
use Rattle.ical_values.proofs.Escapes.{unescaped_pair, unescaped_lone, no_escape}
use Rattle.ical_values.proofs.text.escape_at.Goals as goal

pub returns-in-Some-clause-meaning : goal.returns-in-Some-clause-meaning
returns-in-Some-clause-meaning c =
    let e = strip_prefix_char 92 c.args.after.now (Some c.in-Some.rest) c.in-Some.ensures.cases (omega arith) in
    rw e (sym (unescaped_pair 92 c.in-Some.rest.now refl))

pub returns-in-Some-strip_prefix-clause-meaning : goal.returns-in-Some-strip_prefix-clause-meaning
returns-in-Some-strip_prefix-clause-meaning c =
    let e = strip_prefix_char 59 c.args.after.now (Some c.in-Some-strip_prefix.rest) c.in-Some-strip_prefix.ensures.cases (omega arith) in
    rw e (sym (unescaped_pair 59 c.in-Some-strip_prefix.rest.now refl))

pub returns-in-Some-strip_prefix-2-clause-meaning : goal.returns-in-Some-strip_prefix-2-clause-meaning
returns-in-Some-strip_prefix-2-clause-meaning c =
    let e = strip_prefix_char 44 c.args.after.now (Some c.in-Some-strip_prefix-2.rest) c.in-Some-strip_prefix-2.ensures.cases (omega arith) in
    rw e (sym (unescaped_pair 44 c.in-Some-strip_prefix-2.rest.now refl))

pub returns-in-Some-strip_prefix-3-clause-meaning : goal.returns-in-Some-strip_prefix-3-clause-meaning
returns-in-Some-strip_prefix-3-clause-meaning c =
    let e = strip_prefix_char 110 c.args.after.now (Some c.in-Some-strip_prefix-3.rest) c.in-Some-strip_prefix-3.ensures.cases (omega arith) in
    rw e (sym (unescaped_pair 110 c.in-Some-strip_prefix-3.rest.now refl))

pub returns-in-Some-strip_prefix-4-clause-meaning : goal.returns-in-Some-strip_prefix-4-clause-meaning
returns-in-Some-strip_prefix-4-clause-meaning c =
    let e = strip_prefix_char 78 c.args.after.now (Some c.in-Some-strip_prefix-4.rest) c.in-Some-strip_prefix-4.ensures.cases (omega arith) in
    rw e (sym (unescaped_pair 78 c.in-Some-strip_prefix-4.rest.now refl))

pub returns-clause-meaning : goal.returns-clause-meaning
returns-clause-meaning c =
    let a = strip_prefix_char 92 c.args.after.now None c.in_default.ensures.cases (omega arith) in
    let b = strip_prefix_char 59 c.args.after.now None c.in_default-strip_prefix.ensures.cases (omega arith) in
    let d = strip_prefix_char 44 c.args.after.now None c.in_default-strip_prefix-2.ensures.cases (omega arith) in
    let e = strip_prefix_char 110 c.args.after.now None c.in_default-strip_prefix-3.ensures.cases (omega arith) in
    let f = strip_prefix_char 78 c.args.after.now None c.in_default-strip_prefix-4.ensures.cases (omega arith) in
    sym (unescaped_lone c.args.after.now (no_escape c.args.after.now a b d e f))
