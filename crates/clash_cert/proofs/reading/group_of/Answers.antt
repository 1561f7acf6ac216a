use Rattle.std.proofs.Common.{◌∙◌, ap, arith, rules}
use Rattle.profile.specs.text.Values.{IsClockSeconds}
use Rattle.clash_cert.specs.Reading.{ascend}
use Rattle.clash_cert.proofs.TextLemmas.{match_some, match_none}
use Rattle.clash_cert.proofs.GroupWords.{group_lacks_stamp, group_lacks_numbers, group_too_short, group_other, group_there, first_apart, both_parts}
use Rattle.clash_cert.proofs.reading.group_of.Goals as goal

pub returns-in_default-stamp_of : goal.returns-in_default-stamp_of
returns-in_default-stamp_of c =
    let cut = c.in-Some.ensures.cases in
    let words = c.args.words.now in
    group_lacks_stamp c.args.series words c.in-Some.stamp.now c.in-Some.rest.now c.ranges.series.fits (both_parts 16 words c.in-Some.stamp.now c.in-Some.rest.now cut.1 cut.2) cut.3 c.in_default-stamp_of.ensures

pub returns-in_default-2 : goal.returns-in_default-2
returns-in_default-2 c =
    let cut = c.in-Some.ensures.cases in
    let words = c.args.words.now in
    group_lacks_numbers c.args.series words c.in-Some.stamp.now c.in-Some.rest.now c.ranges.series.fits (both_parts 16 words c.in-Some.stamp.now c.in-Some.rest.now cut.1 cut.2) cut.3
    (match_none _ _ _ c.in_default-2.is c.in_ok-numbers.ensures)

pub returns-then-len-lt-DAYS_AND_TWO : goal.returns-then-len-lt-DAYS_AND_TWO
returns-then-len-lt-DAYS_AND_TWO c =
    let cut = c.in-Some.ensures.cases in
    let words = c.args.words.now in
    let are = match_some _ _ _ c.in-Some-2.numbers c.in-Some-2.is c.in_ok-numbers.ensures in
    let long = c.len.ensures in
    let short = c.if-len-lt-DAYS_AND_TWO.true in
    group_too_short c.args.series words c.in-Some.stamp.now c.in-Some.rest.now c.ranges.series.fits (both_parts 16 words c.in-Some.stamp.now c.in-Some.rest.now cut.1 cut.2) cut.3
    c.in-Some-2.numbers.items are (omega (arith, long, short))

pub returns-then-not-are_members : goal.returns-then-not-are_members
returns-then-not-are_members c =
    let cut = c.in-Some.ensures.cases in
    let words = c.args.words.now in
    let numbers = c.in-Some-2.numbers.items in
    let are = match_some _ _ _ c.in-Some-2.numbers c.in-Some-2.is c.in_ok-numbers.ensures in
    let long = c.len.ensures in
    let some = c.if-len-lt-DAYS_AND_TWO.false in
    let members = c.remove-days.new.self.items in
    let split = first_apart numbers members c.remove-days.result (omega (arith, long, some)) c.remove-days.ensures.value c.remove-days.ensures.items in
    group_other c.args.series words c.in-Some.stamp.now c.in-Some.rest.now c.ranges.series.fits (both_parts 16 words c.in-Some.stamp.now c.in-Some.rest.now cut.1 cut.2) cut.3 numbers are c.remove-days.result members split
    c.are_members.result (c.are_members.ensures ∙ ap (ascend c.args.series 0) c.deref.ensures.value) c.if-not-are_members.true

pub returns : goal.returns
returns c =
    let cut = c.in-Some.ensures.cases in
    let words = c.args.words.now in
    let numbers = c.in-Some-2.numbers.items in
    let are = match_some _ _ _ c.in-Some-2.numbers c.in-Some-2.is c.in_ok-numbers.ensures in
    let long = c.len.ensures in
    let some = c.if-len-lt-DAYS_AND_TWO.false in
    let members = c.remove-days.new.self.items in
    let split = first_apart numbers members c.remove-days.result (omega (arith, long, some)) c.remove-days.ensures.value c.remove-days.ensures.items in
    let range : IsClockSeconds c.in-Some-stamp_of.from = search rules in
    group_there c.args.series words c.in-Some.stamp.now c.in-Some.rest.now c.ranges.series.fits (both_parts 16 words c.in-Some.stamp.now c.in-Some.rest.now cut.1 cut.2) cut.3 numbers are c.remove-days.result members split
    c.are_members.result c.in-Some-stamp_of.from (c.are_members.ensures ∙ ap (ascend c.args.series 0) c.deref.ensures.value) c.if-not-are_members.false (omega (arith, long, some)) range c.in-Some-stamp_of.ensures
