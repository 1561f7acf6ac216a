use Rattle.std.proofs.Common.{◌∙◌, ◌&&◌, sym, ap}
use Rattle.clash_cert.specs.Grouped.{is_among}
use Rattle.clash_cert.proofs.GroupingLemmas.{among_is}
use Rattle.clash_cert.proofs.grouping.are_both_among.Goals as goal

pub returns-then-has_number : goal.returns-then-has_number
returns-then-has_number c =
    let members = c.args.members.now in
    let pair = c.args.pair.now in
    let first = among_is members pair.first c.has_number.result (c.has_number.ensures c.requires) in
    let second = among_is members pair.second c.has_number-then-has_number.result (c.has_number-then-has_number.ensures c.requires) in
    second ∙ ap (λ b. b && is_among members pair.second) (sym c.if-has_number.true ∙ first)

pub returns-else-has_number : goal.returns-else-has_number
returns-else-has_number c =
    let members = c.args.members.now in
    let pair = c.args.pair.now in
    let first = among_is members pair.first c.has_number.result (c.has_number.ensures c.requires) in
    c.if-has_number.false ∙ ap (λ b. b && is_among members pair.second) (sym c.if-has_number.false ∙ first)
