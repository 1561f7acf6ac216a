use Rattle.std.proofs.Common.{rules}
use Rattle.std.proofs.lemmas.Int.{ints}
use Rattle.std.proofs.Common.{None, arith}
use Rattle.std.proofs.lemmas.Str.Pattern.{strip_prefix_char}
use Rattle.ical_values.proofs.Exits.{if_none}
use Rattle.cal_rules.proofs.Numbers.{no_unsigned}
use Rattle.cal_rules.proofs.values.read_place.Goals as goal

pub returns-in_err-size-2-clause-none : goal.returns-in_err-size-2-clause-none
returns-in_err-size-2-clause-none c =
    let minus = strip_prefix_char 45 c.args.value.now None c.in_default.ensures.cases (omega arith) in
    let plus = strip_prefix_char 43 c.args.value.now c.strip_prefix-2.result c.strip_prefix-2.ensures.cases (omega arith) in
    if_none c.from_residual-in_err-size-2.result (no_unsigned c.args.most c.args.value c.unwrap_or-digits.result c.strip_prefix-2.result plus minus c.unwrap_or-digits.ensures c.in_err-size-2.ensures.none)

pub returns-in-Some-clause-reads : goal.returns-in-Some-clause-reads
returns-in-Some-clause-reads c = search (ints, rules)

pub returns-in-Some-clause-none : goal.returns-in-Some-clause-none
returns-in-Some-clause-none c = search (ints, rules)

pub returns-clause-reads : goal.returns-clause-reads
returns-clause-reads c = search (ints, rules)

pub returns-clause-none : goal.returns-clause-none
returns-clause-none c = search (ints, rules)
