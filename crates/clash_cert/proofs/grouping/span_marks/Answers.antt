use Rattle.std.proofs.Common.{◌≡◌, ◌∙◌, ◌+◌, ◌<◌, ◌++◌, ◌||◌, ℕ, suc, List, Bool, All, length, get_or, take, drop, false, subst, sym, ap, refl, rules, arith}
use Rattle.std.proofs.Math.Seq.{take-append_seam}
use Rattle.std.proofs.lemmas.List.{length-map, take_all}
use Rattle.std.proofs.lemmas.List.Elements.{All-contains, All-replicate}
use Rattle.profile.specs.checker.Certificates.{IsApart, groups_of}
use Rattle.clash_cert.specs.Texts.{pair_said}
use Rattle.clash_cert.specs.Grouped.{AreMarked, spans}
use Rattle.clash_cert.proofs.MarkLemmas.{none_marked, marked_more, said_there}
use Rattle.clash_cert.proofs.grouping.span_marks.Goals as goal

pub loop-pair-init : goal.loop-pair-init
loop-pair-init c =
    let marks = c.in_ok-marks.marks.items in
    let made = c.in_ok-marks.ensures.items_if_clones_equal (λ y e. e) in
    (search rules, none_marked marks (subst (λ (l : List Bool). All (λ m. m ≡ false) l) (sym made) (All-replicate (λ m. m ≡ false) _ false refl)))

pub mark-requires : goal.mark-requires
mark-requires c =
    let said = c.args.certificate.now in
    let p = pair_said c.pair-item.result in
    let there = said_there c.pairs-pair-items.result.now c.loop-pair.pair-index c.pair-item.result said.pairs c.pairs-pair-items.ensures c.loop-pair-test.true c.pair-item.is in
    let (some, order, most) = (All-contains (IsApart said.series (groups_of said)) said.pairs p c.requires.claims.pairs (c.loop-pair.pair-index, there.0, there.1)).pair in
    let count = ap length c.deref_mut.ensures.value in
    (some, order, omega (arith, most, count, c.loop-pair.invariant.0))

pub loop-pair-preserved : goal.loop-pair-preserved
loop-pair-preserved c =
    let said = c.args.certificate.now in
    let k = c.loop-pair.pair-index in
    let p = pair_said c.pair-item.result in
    let old = c.loop-pair.marks.items in
    let new = c.mark.new.marks in
    let there = said_there c.pairs-pair-items.result.now k c.pair-item.result said.pairs c.pairs-pair-items.ensures c.loop-pair-test.true c.pair-item.is in
    let value = c.deref_mut.ensures.value in
    let count : length new ≡ length old = c.mark.ensures.count ∙ ap length value in
    let step = subst (λ (l : List Bool). (place : ℕ) → place < length l → get_or new place false ≡ (get_or l place false || spans (suc place) p)) value c.mark.ensures.are in
    let written : take c.loop-pair.marks.len (new ++ drop (length new) old) ≡ new =
    ap (λ n. take n (new ++ drop (length new) old)) (sym (c.mark.ensures.count ∙ c.deref_mut.ensures.len)) ∙ take-append_seam new (drop (length new) old) in
    subst (λ (l : List Bool). (length l ≡ said.series) × AreMarked (take (k + 1) said.pairs) l) (sym written)
    (count ∙ c.loop-pair.invariant.0, marked_more said.pairs k p old new there.0 there.1 c.loop-pair.invariant.1 count step)

pub returns-clause-are : goal.returns-clause-are
returns-clause-are c =
    let said = c.args.certificate.now in
    let are = c.pairs-pair-items.ensures in
    let past = c.loop-pair-test.false in
    let all : take c.loop-pair.pair-index said.pairs ≡ said.pairs = take_all c.loop-pair.pair-index said.pairs (omega (arith, past, ap length are, length-map c.pairs-pair-items.result.now pair_said)) in
    subst (λ pairs. AreMarked pairs c.loop-pair.marks.items) all c.loop-pair.invariant.1
