use Rattle.std.proofs.Common.{refl, ap, sym, ◌∙◌, arith, filter, length, eqb}
use Rattle.std.specs.List.{prefix_len}
use Rattle.std.specs.Str.{is_utf8}
use Rattle.profile.specs.text.Lines.{is_filled}
use Rattle.ical_lines.specs.Unfold.{lines_after}
use Rattle.ical_lines.proofs.BreakLemmas.{lines_of-le}
use Rattle.ical_lines.proofs.Utf8Lemmas.{stops_here, passes_on, counts_on}
use Rattle.ical_lines.proofs.unfold.not_utf8.Goals as goal

pub overflow_add-passed : goal.overflow_add-passed
overflow_add-passed c = omega (arith, c.loop-left.invariant.memory, c.loop-left.invariant.fits, lines_of-le c.args.text.now)

pub returns-in_default-from_utf8 : goal.returns-in_default-from_utf8
returns-in_default-from_utf8 c =
    let left = ap lines_after c.in-Some.is ∙ c.split_line.ensures.lines in
    let here = ap (λ ls. prefix_len is_utf8 (filter is_filled ls)) left ∙ stops_here c.split_line.result.0.now (lines_after c.split_line.result.1) c.in_default-from_utf8.ensures.cases.0 in
    rw c.at.ensures (refl, omega (arith, here, c.loop-left.invariant.place))

pub overflow_add-passed-then-not-is_empty : goal.overflow_add-passed-then-not-is_empty
overflow_add-passed-then-not-is_empty c = omega (arith, c.loop-left.invariant.memory, c.loop-left.invariant.fits, lines_of-le c.args.text.now)

pub loop-left-preserved-then-not-is_empty : goal.loop-left-preserved-then-not-is_empty
loop-left-preserved-then-not-is_empty c =
    let line = c.split_line.result.0.now in
    let rest = lines_after c.split_line.result.1 in
    let left = ap lines_after c.in-Some.is ∙ c.split_line.ensures.lines in
    let filled = ap (λ t. eqb (length t) 0) (sym c.in-Ok.ensures.cases.0) ∙ (sym c.is_empty.ensures ∙ c.if-not-is_empty.true) in
    let right = c.in-Ok.ensures.cases.1 in
    let place = ap (λ ls. prefix_len is_utf8 (filter is_filled ls)) left ∙ passes_on line rest right filled in
    let count = ap (λ ls. length (filter is_filled ls)) left ∙ counts_on line rest filled in
    record {
      memory = c.loop-left.invariant.memory;
      place = omega (arith, place, c.loop-left.invariant.place);
      fits = omega (arith, count, c.loop-left.invariant.fits);
    }

pub overflow_add-passed-2 : goal.overflow_add-passed-2
overflow_add-passed-2 c = omega (arith, c.loop-left.invariant.memory, c.loop-left.invariant.fits, lines_of-le c.args.text.now)
