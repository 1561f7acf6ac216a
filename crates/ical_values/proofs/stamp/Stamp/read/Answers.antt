use Rattle.std.proofs.lemmas.Grind.{common_steps}
use Rattle.std.proofs.Common.{◌≡◌, ◌∙◌, sym, arith, Some, to_z, of_z, w64}
use Rattle.std.proofs.lemmas.Int.{ints}
use Rattle.std.proofs.lemmas.List.{append_cancel_right}
use Rattle.std.proofs.lemmas.Str.Pattern.{strip_suffix_char}
use Rattle.ical_values.proofs.stamp.Stamp.read.Goals as goal

pub returns-in-Some-read-clause-reads : goal.returns-in-Some-read-clause-reads
returns-in-Some-read-clause-reads c =
    let e = strip_suffix_char 90 c.args.text.now (Some c.in-Some.local) c.in-Some.ensures.cases (omega arith) in
    let r = c.in-Some-read.ensures in
    let same : to_z w64 (of_z w64 c.in-Some-read.instant) ≡ c.in-Some-read.instant = omega (arith, ints, r.range) in
    rw same (c.in-Some.local.now, rw (← c.as_bytes.ensures.value) r.found, e)

pub returns-in-None-clause-none : goal.returns-in-None-clause-none
returns-in-None-clause-none c = λ instant h.
    let e = strip_suffix_char 90 c.args.text.now (Some c.in-Some.local) c.in-Some.ensures.cases (omega arith) in
    let same = append_cancel_right h.0 c.in-Some.local.now _ (sym h.2 ∙ e) in
    c.in-None.ensures.none instant (rw (c.as_bytes.ensures.value, ← same) h.1)

pub returns-in_default-clause-none : goal.returns-in_default-clause-none
returns-in_default-clause-none c = grind (arith, common_steps)
