use Rattle.std.proofs.Common.{length, map, refl, subst, sym}
use Rattle.std.proofs.lemmas.List.Elements.{All-contains}
use Rattle.profile.specs.checker.Certificates.{IsPair, OfPair}
use Rattle.profile.specs.events.Confirmed.{Confirmed}
use Rattle.clash_cert.specs.Texts.{pair_said}
use Rattle.clash_check.specs.Entries.{ArePairOf}
use Rattle.clash_check.proofs.StatementLemmas.{judged_failing, judged_next, said_in, stated_at, stated_within}
use Rattle.clash_check.proofs.statements.first_failing_pair.Goals as goal

pub entry_holds-requires-clause-pair : goal.entry_holds-requires-clause-pair
entry_holds-requires-clause-pair g c =
    let pairs = c.args.pairs.now in
    let all = g.D.Drawn.calendar c.args.drawn.now in
    subst (λ (x : Confirmed). IsPair (length x.series) c.pair-item.result.first c.pair-item.result.second) (sym c.loop-pair.invariant.same)
    (All-contains (ArePairOf (length all.series)) (map pair_said pairs) (pair_said c.pair-item.result) c.requires
    (said_in pair_said OfPair pairs c.loop-pair.pair-index c.pair-item.result c.loop-pair-test.true c.pair-item.is)).0

pub entry_holds-requires-clause-entry : goal.entry_holds-requires-clause-entry
entry_holds-requires-clause-entry g c =
    let pairs = c.args.pairs.now in
    let all = g.D.Drawn.calendar c.args.drawn.now in
    (All-contains (ArePairOf (length all.series)) (map pair_said pairs) (pair_said c.pair-item.result) c.requires
    (said_in pair_said OfPair pairs c.loop-pair.pair-index c.pair-item.result c.loop-pair-test.true c.pair-item.is)).1

pub returns-then-not-branch-clause-judged : goal.returns-then-not-branch-clause-judged
returns-then-not-branch-clause-judged g c =
    let pairs = c.args.pairs.now in
    let place = c.loop-pair.pair-index in
    let within = stated_within pair_said OfPair pairs place c.pair-item.result c.loop-pair-test.true c.pair-item.is in
    let is = stated_at pair_said OfPair pairs place c.pair-item.result c.loop-pair-test.true c.pair-item.is in
    judged_failing (g.D.Drawn.calendar c.args.drawn.now) (map OfPair (map pair_said pairs)) place (g.D.Drawn.calendar c.loop-pair.drawn) _ _ (g.D.Drawn.count c.entry_holds.new.drawn) within
    c.loop-pair.invariant (OfPair (pair_said c.pair-item.result)) is c.in_ok-entry_holds.field-0 c.in_ok-entry_holds.ensures.holds c.in_ok-entry_holds.ensures.count c.if-not-branch.true
    c.pair-item.result.first c.pair-item.result.second (refl, refl)

pub loop-pair-preserved : goal.loop-pair-preserved
loop-pair-preserved g c =
    let pairs = c.args.pairs.now in
    let place = c.loop-pair.pair-index in
    let within = stated_within pair_said OfPair pairs place c.pair-item.result c.loop-pair-test.true c.pair-item.is in
    let is = stated_at pair_said OfPair pairs place c.pair-item.result c.loop-pair-test.true c.pair-item.is in
    judged_next (g.D.Drawn.calendar c.args.drawn.now) (map OfPair (map pair_said pairs)) place (g.D.Drawn.calendar c.loop-pair.drawn) _ _ (g.D.Drawn.count c.entry_holds.new.drawn) within
    c.loop-pair.invariant (OfPair (pair_said c.pair-item.result)) is c.in_ok-entry_holds.field-0 c.in_ok-entry_holds.ensures.holds c.in_ok-entry_holds.ensures.count c.if-not-branch.false
    (g.D.Drawn.calendar c.entry_holds.new.drawn) c.entry_holds.ensures.calendar
