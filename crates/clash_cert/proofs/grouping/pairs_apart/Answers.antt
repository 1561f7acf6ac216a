use Rattle.std.proofs.Common.{◌∙◌, ◌++◌, ◌∷◌, [], map, take, Vec, Global, true, false, refl, sym, ap}
use Rattle.std.proofs.lemmas.List.{map-append, append-nil}
use Rattle.clash_cert.specs.declared.certificate.Pair.{Pair}
use Rattle.clash_cert.specs.Texts.{pair_said}
use Rattle.clash_cert.specs.Grouped.{apart_of}
use Rattle.clash_cert.proofs.MarkLemmas.{said_there}
use Rattle.clash_cert.proofs.GroupingLemmas.{apart_more}
use Rattle.clash_cert.proofs.grouping.pairs_apart.Goals as goal
use Rattle.clash_cert.proofs.grouping.pairs_apart.Goals.{then-not-are_both_among+in_ok-push, else-not-are_both_among}

pub loop-pair-preserved : goal.loop-pair-preserved
loop-pair-preserved c =
    let members = c.args.members.now in
    let pairs = map pair_said c.args.pairs.now in
    let k = c.loop-pair.pair-index in
    let pair = c.pair-item.result in
    let p = pair_said pair in
    let old = c.loop-pair.kept.items in
    let there = said_there c.args.pairs.now k pair pairs refl c.loop-pair-test.true c.pair-item.is in
    elim c.if-not-are_both_among.branch [
      | then-not-are_both_among+in_ok-push w ↦
          ap (λ (v : Vec Pair Global). map pair_said v.items) w.kept-is ∙ ap (map pair_said) w.in_ok-push.ensures.items ∙ map-append pair_said old (pair ∷ [])
          ∙ ap (λ l. l ++ p ∷ []) c.loop-pair.invariant ∙ sym (apart_more members pairs k p false there.0 there.1 (sym w.if-not-are_both_among.true ∙ c.are_both_among.ensures))
      | else-not-are_both_among w ↦
          ap (λ (v : Vec Pair Global). map pair_said v.items) w.kept-is ∙ c.loop-pair.invariant ∙ sym (append-nil (apart_of members (take k pairs)))
          ∙ sym (apart_more members pairs k p true there.0 there.1 (sym w.if-not-are_both_among.false ∙ c.are_both_among.ensures))
    ]
