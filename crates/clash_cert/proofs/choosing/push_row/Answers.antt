use Rattle.std.proofs.Common.{◌≡◌, ◌∙◌, ◌+◌, ◌∷◌, [], map, length, subst, sym, ap, arith}
use Rattle.std.proofs.lemmas.List.{map-append, length-map}
use Rattle.cal_events.specs.Series.{series_said}
use Rattle.clash_cert.specs.declared.certificate.Pair.{Pair}
use Rattle.clash_cert.specs.Texts.{entry_said, pair_said}
use Rattle.clash_cert.specs.Chosen.{AreKeptFrom, ArePairsMade}
use Rattle.clash_cert.proofs.ChosenLemmas.{pairs_more, row_end}
use Rattle.clash_cert.proofs.choosing.push_row.Goals as goal

pub loop-j-preserved : goal.loop-j-preserved
loop-j-preserved c =
    let i = c.args.i in
    let j = c.loop-j.j in
    let xs = c.args.series.now in
    let all = map series_said xs in
    let known = AreKeptFrom c.args.old.now c.args.kept.now all in
    let entry = c.in_ok-entry.entry in
    let old = c.loop-j.pairs.items in
    let pair : Pair = record { first = i + 1; second = j + 1; entry = entry } in
    let said = ap (map pair_said) c.in_ok-push.ensures.items ∙ map-append pair_said old (pair ∷ []) in
    let within = c.loop-j-test.true in
    subst (ArePairsMade known all i (j + 1)) (sym said)
    (pairs_more known all i j (map pair_said old) (entry_said entry) c.loop-j.auto.j (omega (arith, within, length-map xs series_said)) c.loop-j.invariant c.in_ok-entry.ensures.good c.in_ok-entry.ensures.made)

pub returns : goal.returns
returns c =
    let xs = c.args.series.now in
    let all = map series_said xs in
    let known = AreKeptFrom c.args.old.now c.args.kept.now all in
    let pairs = map pair_said c.loop-j.pairs.items in
    let within = c.requires.within in
    let most = c.loop-j.auto.j-end (omega (arith, within)) in
    let end = c.loop-j-test.false in
    let last : c.loop-j.j ≡ length all = omega (arith, most, end, length-map xs series_said) in
    row_end known all c.args.i pairs (subst (λ n. ArePairsMade known all c.args.i n pairs) last c.loop-j.invariant)
