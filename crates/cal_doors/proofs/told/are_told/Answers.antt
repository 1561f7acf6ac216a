use Rattle.std.proofs.Common.{◌≡◌, ◌∙◌, sym, subst, ◌-◌, ◌+◌, length, take, drop, arith}
use Rattle.std.proofs.lemmas.Bool.Decides.{nat_tests}
use Rattle.std.proofs.lemmas.List.{drop_all, nil_from_length}
use Rattle.std.specs.List.{AllZip}
use Rattle.ical_tree.specs.Runs.{lines_left}
use Rattle.ical_tree.specs.Tree.{component_lines}
use Rattle.ical_tree.proofs.OneLine.{at_place}
use Rattle.profile.specs.doors.Returning.{TellsSame}
use Rattle.cal_doors.proofs.RightOthers.{rest_of}
use Rattle.cal_doors.proofs.ToldEvents.{told_more, told_other, told_none}
use Rattle.cal_doors.proofs.told.are_told.Goals as goal

pub loop-event-preserved-then-not-is_named : goal.loop-event-preserved-then-not-is_named
loop-event-preserved-then-not-is_named c = λ read answer are rest.
    let told = c.args.told.now in
    let i = c.loop-event.event-index in
    let event = c.event-item.result in
    c.loop-event.invariant read answer are (told_other (AllZip (TellsSame read answer)) (drop i told) (drop (i + 1) told) c.loop-event.left.now event
    (at_place told i event c.loop-event-test.true c.event-item.is) (sym c.is_named.ensures ∙ c.if-not-is_named.true) rest)

pub loop-event-preserved : goal.loop-event-preserved
loop-event-preserved c = λ read answer are rest.
    let told = c.args.told.now in
    let i = c.loop-event.event-index in
    let event = c.event-item.result in
    let begin = c.from_event-left.result.now in
    let first = c.first-item.result in
    let same = c.are_told_lines.ensures c.if-not-are_told_lines.false read answer are in
    let each = subst (λ l. AllZip (TellsSame read answer) l (component_lines first)) c.lines.ensures
    (subst (AllZip (TellsSame read answer) (lines_left c.lines.result)) c.lines-in-loop-event.ensures same) in
    c.loop-event.invariant read answer are (told_more (AllZip (TellsSame read answer)) (drop i told) (drop (i + 1) told) c.loop-event.left.now begin
    (take (length begin - 1) (drop 1 begin)) event first (at_place told i event c.loop-event-test.true c.event-item.is) (sym c.is_named.ensures ∙ c.if-not-is_named.false)
    c.from_event-left.ensures (rest_of begin first (omega (arith, c.in-len1-up.len_at_least)) c.first-item.is) each rest)

pub returns : goal.returns
returns c = λ none read answer are.
    let told = c.args.told.now in
    let i = c.loop-event.event-index in
    let begin = c.from_event.result.now in
    let empty : length begin ≡ 0 = grind (arith, nat_tests, none, c.is_empty.ensures) in
    c.loop-event.invariant read answer are (told_none (AllZip (TellsSame read answer)) (drop i told) c.loop-event.left.now begin (drop_all i told c.loop-event-test.false)
    c.from_event.ensures (nil_from_length begin empty))
