use Rattle.std.proofs.Common.{◌≡◌, ◌∙◌, arith, ap, sym, subst, ℕ, ◌+◌, ◌/◌, ◌<◌, ◌-ℤ◌, ◌+ℤ◌, ◌≤ℤ◌, pos}
use Rattle.std.specs.Int.Signed.{◌<ℤ◌}
use Rattle.std.proofs.lemmas.Int.{ints}
use Rattle.ical_values.proofs.Facts.{wide_clock}
use Rattle.profile.specs.series.Days.{day_index}
use Rattle.profile.specs.series.GeneralZones.{AtInstant}
use Rattle.profile.specs.series.GeneralZoneTexts.{IsLastOnsetDay}
use Rattle.cal_doors.specs.Listed.{HasStart}
use Rattle.cal_doors.proofs.RuleDays.{shown_at, apart, index_to, last_at, last_early, day_is}
use Rattle.cal_doors.proofs.rule.last_until.Goals as goal

pub returns-then-end-begin : goal.returns-then-end-begin
returns-then-end-begin c =
    let until = c.args.until in
    let s = c.seconds.result in
    let begin = c.seconds-begin.result in
    let less = rw (shown_at until s c.requires c.seconds.ensures.range, wide_clock begin c.seconds-begin.ensures.range) at c.if-end-begin.true in
    let early : (until +ℤ s) <ℤ begin = grind (arith, ints) in
    λ o has. last_early o until s begin (record { start_there = has.start_there ∙ sym c.seconds-begin.ensures.value; second = has.second; before = has.before ∙ sym c.seconds.ensures.value }) c.seconds.ensures.range c.requires.0 early

pub returns-then-days-gt-MOST_SPAN : goal.returns-then-days-gt-MOST_SPAN
returns-then-days-gt-MOST_SPAN c =
    let until = c.args.until in
    let s = c.seconds.result in
    let begin = c.seconds-begin.result in
    let first = c.day_and_second-first in
    let n = c.abs_diff.result in
    let shown = shown_at until s c.requires c.seconds.ensures.range in
    let wide = wide_clock begin c.seconds-begin.ensures.range in
    let less = rw (shown, wide) at c.if-end-begin.false in
    let from : begin ≤ℤ (until +ℤ s) = grind (arith, ints) in
    let long : pos n ≡ (until +ℤ s) -ℤ begin = apart (until +ℤ s) begin n (rw (shown, wide) at c.abs_diff.ensures) from in
    let fits = index_to until s begin first.result.0 first.result.1 n c.requires c.seconds.ensures.range c.seconds-begin.ensures.range first.ensures.second (c.seconds-begin.ensures.value ∙ first.ensures.sum) long in
    let far = c.if-days-gt-MOST_SPAN.true in
    let more : 14_610 < n / 86_400 = omega (arith, far, fits) in
    λ o has.
    let there : HasStart begin s o = record { start_there = has.start_there ∙ sym c.seconds-begin.ensures.value; second = has.second; before = has.before ∙ sym c.seconds.ensures.value } in
    (o.day + n / 86_400, last_at o until s begin n there long, omega (arith, more))

pub overflow_add-index : goal.overflow_add-index
overflow_add-index c =
    let until = c.args.until in
    let s = c.seconds.result in
    let begin = c.seconds-begin.result in
    let first = c.day_and_second-first in
    let n = c.abs_diff.result in
    let shown = shown_at until s c.requires c.seconds.ensures.range in
    let wide = wide_clock begin c.seconds-begin.ensures.range in
    let less = rw (shown, wide) at c.if-end-begin.false in
    let from : begin ≤ℤ (until +ℤ s) = grind (arith, ints) in
    let long : pos n ≡ (until +ℤ s) -ℤ begin = apart (until +ℤ s) begin n (rw (shown, wide) at c.abs_diff.ensures) from in
    let fits = index_to until s begin first.result.0 first.result.1 n c.requires c.seconds.ensures.range c.seconds-begin.ensures.range first.ensures.second (c.seconds-begin.ensures.value ∙ first.ensures.sum) long in
    omega (arith, fits, c.index.ensures.range)

pub unwrap-requires : goal.unwrap-requires
unwrap-requires c =
    let until = c.args.until in
    let s = c.seconds.result in
    let begin = c.seconds-begin.result in
    let first = c.day_and_second-first in
    let n = c.abs_diff.result in
    let shown = shown_at until s c.requires c.seconds.ensures.range in
    let wide = wide_clock begin c.seconds-begin.ensures.range in
    let less = rw (shown, wide) at c.if-end-begin.false in
    let from : begin ≤ℤ (until +ℤ s) = grind (arith, ints) in
    let long : pos n ≡ (until +ℤ s) -ℤ begin = apart (until +ℤ s) begin n (rw (shown, wide) at c.abs_diff.ensures) from in
    let fits = index_to until s begin first.result.0 first.result.1 n c.requires c.seconds.ensures.range c.seconds-begin.ensures.range first.ensures.second (c.seconds-begin.ensures.value ∙ first.ensures.sum) long in
    c.at_index.ensures.found.1 (omega (arith, fits, c.index.ensures.value), omega (arith, fits, c.index.ensures.value))

pub returns : goal.returns
returns c =
    let until = c.args.until in
    let s = c.seconds.result in
    let begin = c.seconds-begin.result in
    let first = c.day_and_second-first in
    let n = c.abs_diff.result in
    let shown = shown_at until s c.requires c.seconds.ensures.range in
    let wide = wide_clock begin c.seconds-begin.ensures.range in
    let less = rw (shown, wide) at c.if-end-begin.false in
    let from : begin ≤ℤ (until +ℤ s) = grind (arith, ints) in
    let long : pos n ≡ (until +ℤ s) -ℤ begin = apart (until +ℤ s) begin n (rw (shown, wide) at c.abs_diff.ensures) from in
    λ o has.
    let there : HasStart begin s o = record { start_there = has.start_there ∙ sym c.seconds-begin.ensures.value; second = has.second; before = has.before ∙ sym c.seconds.ensures.value } in
    let day = day_is begin s first.result.0 first.result.1 o first.ensures.second (c.seconds-begin.ensures.value ∙ first.ensures.sum) there in
    let at = rw c.unwrap.ensures at c.at_index.ensures.value in
    let last = subst (IsLastOnsetDay o (AtInstant until)) (sym (at ∙ ap (λ (i : ℕ). i + n / 86_400) (c.index.ensures.value ∙ day))) (last_at o until s begin n there long) in
    let same : day_index c.unwrap.result ≡ o.day + n / 86_400 = at ∙ ap (λ (i : ℕ). i + n / 86_400) (c.index.ensures.value ∙ day) in
    (last, omega (arith, same, c.if-days-gt-MOST_SPAN.false))
