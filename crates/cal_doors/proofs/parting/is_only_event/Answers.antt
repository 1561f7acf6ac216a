use Rattle.std.proofs.Common.{◌≡◌, ◌∙◌, ap, ◌-◌, ◌∷◌, length, take, drop, arith}
use Rattle.std.proofs.lemmas.Bool.Decides.{nat_tests}
use Rattle.std.proofs.lemmas.List.{nil_from_length}
use Rattle.ical_tree.specs.Tree.{component_lines}
use Rattle.cal_doors.specs.Told.{events_among}
use Rattle.cal_doors.proofs.RightOthers.{rest_of}
use Rattle.cal_doors.proofs.ToldEvents.{first_of, none_of}
use Rattle.cal_doors.proofs.parting.is_only_event.Goals as goal

pub returns : goal.returns
returns c = λ none.
    let begin = c.from_event.result.now in
    let only = c.only-item.result in
    let later = take (length begin - 1) (drop 1 begin) in
    let last = c.from_event-2.result.now in
    let empty : length last ≡ 0 = grind (arith, nat_tests, none, c.is_empty.ensures) in
    first_of c.args.components.now begin later only c.from_event.ensures (rest_of begin only (omega (arith, c.in-len1-up.len_at_least)) c.only-item.is)
    ∙ ap (λ l. l ∷ events_among later) (c.has_same_lines.ensures c.if-not-has_same_lines.false)
    ∙ ap (λ ls. component_lines c.args.event.now ∷ ls) (none_of later last c.from_event-2.ensures (nil_from_length last empty))
