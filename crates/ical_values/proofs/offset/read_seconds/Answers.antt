use Rattle.std.proofs.Common.{arith, Some, None}
use Rattle.std.proofs.lemmas.Str.Pattern.{strip_prefix_char}
use Rattle.ical_values.proofs.Exits.{if_none}
use Rattle.ical_values.proofs.Offsets.{plus_none, minus_none, sign_none}
use Rattle.ical_values.proofs.offset.read_seconds.Goals as goal

pub returns-in_err-size-clause-none : goal.returns-in_err-size-clause-none
returns-in_err-size-clause-none c =
    let e = strip_prefix_char 43 c.args.text.now (Some c.in-Some.digits) c.in-Some.ensures.cases (omega arith) in
    if_none c.from_residual.result (plus_none c.args.text.now c.in-Some.digits.now e (rw c.as_bytes.ensures.value at c.in_err-size.ensures.none))

pub returns-in_err-digits-clause-none : goal.returns-in_err-digits-clause-none
returns-in_err-digits-clause-none c =
    let a = strip_prefix_char 43 c.args.text.now None c.in_default.ensures.cases (omega arith) in
    let b = strip_prefix_char 45 c.args.text.now None c.in_err-digits.ensures.cases (omega arith) in
    if_none c.from_residual-in_err-digits.result (sign_none c.args.text.now a b)

pub returns-in_err-size-2-clause-none : goal.returns-in_err-size-2-clause-none
returns-in_err-size-2-clause-none c =
    let e = strip_prefix_char 45 c.args.text.now (Some c.in_ok-digits.digits) c.in_ok-digits.ensures.cases (omega arith) in
    if_none c.from_residual-in_err-size-2.result (minus_none c.args.text.now c.in_ok-digits.digits.now e (rw c.as_bytes-2.ensures.value at c.in_err-size-2.ensures.none))
