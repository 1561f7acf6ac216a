use Rattle.std.proofs.Common.{◌≡◌, ◌∙◌, ap, sym, ◌-◌, ◌∷◌, length, take, drop, arith}
use Rattle.std.proofs.lemmas.Bool.Decides.{nat_tests}
use Rattle.std.proofs.lemmas.List.{nil_from_length}
use Rattle.ical_tree.specs.Tree.{tree_of}
use Rattle.cal_doors.specs.Adapted.{others_among}
use Rattle.cal_doors.proofs.RightOthers.{other_first, rest_of}
use Rattle.cal_doors.proofs.parting.is_only_other.Goals as goal

pub returns : goal.returns
returns c = λ none.
    let begin = c.past_zones.result.now in
    let only = c.only-item.result in
    let later = take (length begin - 1) (drop 1 begin) in
    let last = c.past_zones-2.result.now in
    let empty : length last ≡ 0 = grind (arith, nat_tests, none, c.is_empty.ensures) in
    sym c.past_zones.ensures ∙ ap others_among (rest_of begin only (omega (arith, c.in-len1-up.len_at_least)) c.only-item.is)
    ∙ other_first only later (sym c.is_named.ensures ∙ c.if-is_named.false) ∙ ap (λ t. t ∷ others_among later) (c.is_same.ensures c.if-not-is_same.false)
    ∙ ap (λ ts. tree_of c.args.event.now ∷ ts) (sym c.past_zones-2.ensures ∙ ap others_among (nil_from_length last empty))
