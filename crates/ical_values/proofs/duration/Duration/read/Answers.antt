use Rattle.std.proofs.Common.{arith, Some, None, inr}
use Rattle.std.proofs.lemmas.Result.{IfOk-weaker, IfErr-weaker}
use Rattle.std.proofs.lemmas.Str.Pattern.{strip_prefix_char}
use Rattle.ical_values.proofs.Signs.{plus_reads, plus_none, plus_long, bare_reads, bare_none, bare_not_negative, bare_long, minus_none}
use Rattle.ical_values.proofs.duration.Duration.read.Goals as goal

pub returns-in-Some-clause-reads : goal.returns-in-Some-clause-reads
returns-in-Some-clause-reads c =
    let e = strip_prefix_char 43 c.args.text.now (Some c.in-Some.body) c.in-Some.ensures.cases (omega arith) in
    IfOk-weaker c.read_unsigned.result _ _ (λ d u. plus_reads c.args.text.now c.in-Some.body.now d.days d.seconds e u) (rw c.as_bytes.ensures.value at c.read_unsigned.ensures.reads)

pub returns-in-Some-clause-none : goal.returns-in-Some-clause-none
returns-in-Some-clause-none c =
    let e = strip_prefix_char 43 c.args.text.now (Some c.in-Some.body) c.in-Some.ensures.cases (omega arith) in
    IfErr-weaker c.read_unsigned.result _ _ (λ r f number. plus_none c.args.text.now c.in-Some.body.now e (f number)) (rw c.as_bytes.ensures.value at c.read_unsigned.ensures.none)

pub returns-in-Some-clause-range : goal.returns-in-Some-clause-range
returns-in-Some-clause-range c =
    let e = strip_prefix_char 43 c.args.text.now (Some c.in-Some.body) c.in-Some.ensures.cases (omega arith) in
    IfErr-weaker c.read_unsigned.result _ _ (λ r f number. inr (plus_long c.args.text.now c.in-Some.body.now e (f number))) (rw c.as_bytes.ensures.value at c.read_unsigned.ensures.range)

pub returns-in_default-strip_prefix-clause-reads : goal.returns-in_default-strip_prefix-clause-reads
returns-in_default-strip_prefix-clause-reads c =
    IfOk-weaker c.read_unsigned-in_default-strip_prefix.result _ _ (λ d u. bare_reads c.args.text.now d.days d.seconds u) (rw c.as_bytes-in_default-strip_prefix.ensures.value at c.read_unsigned-in_default-strip_prefix.ensures.reads)

pub returns-in_default-strip_prefix-clause-none : goal.returns-in_default-strip_prefix-clause-none
returns-in_default-strip_prefix-clause-none c =
    let plus = strip_prefix_char 43 c.args.text.now None c.in_default.ensures.cases (omega arith) in
    IfErr-weaker c.read_unsigned-in_default-strip_prefix.result _ _ (λ r f number. bare_none c.args.text.now plus (f number)) (rw c.as_bytes-in_default-strip_prefix.ensures.value at c.read_unsigned-in_default-strip_prefix.ensures.none)

pub returns-in_default-strip_prefix-clause-not_negative : goal.returns-in_default-strip_prefix-clause-not_negative
returns-in_default-strip_prefix-clause-not_negative c =
    let minus = strip_prefix_char 45 c.args.text.now None c.in_default-strip_prefix.ensures.cases (omega arith) in
    IfErr-weaker c.read_unsigned-in_default-strip_prefix.result _ _ (λ r f number. bare_not_negative c.args.text.now minus) c.read_unsigned-in_default-strip_prefix.ensures.range

pub returns-in_default-strip_prefix-clause-range : goal.returns-in_default-strip_prefix-clause-range
returns-in_default-strip_prefix-clause-range c =
    IfErr-weaker c.read_unsigned-in_default-strip_prefix.result _ _ (λ r f number. inr (bare_long c.args.text.now (f number))) (rw c.as_bytes-in_default-strip_prefix.ensures.value at c.read_unsigned-in_default-strip_prefix.ensures.range)

pub returns-in-None-clause-not_negative : goal.returns-in-None-clause-not_negative
returns-in-None-clause-not_negative c = λ same.
    let e = strip_prefix_char 45 c.args.text.now (Some c.in-Some-strip_prefix.body) c.in-Some-strip_prefix.ensures.cases (omega arith) in
    minus_none c.args.text.now c.in-Some-strip_prefix.body.now e (rw c.as_bytes-2.ensures.value at c.in-None.ensures.none)
