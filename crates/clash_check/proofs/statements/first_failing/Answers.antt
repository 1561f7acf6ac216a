use Rattle.std.proofs.Common.{length, map, subst, sym}
use Rattle.std.specs.Prelude.{All}
use Rattle.std.proofs.lemmas.Result.{IfOk-weaker}
use Rattle.profile.specs.checker.Certificates.{IsGroup, OfGroup, OfPair, groups_of, statements}
use Rattle.profile.specs.events.Confirmed.{Confirmed}
use Rattle.clash_cert.specs.Texts.{group_said, pair_said}
use Rattle.clash_check.specs.Entries.{AreJudged, ArePairOf}
use Rattle.clash_check.proofs.StatementLemmas.{all_judged, group_fails, pairs_of}
use Rattle.clash_check.proofs.statements.first_failing.Goals as goal

pub first_failing_group-requires : goal.first_failing_group-requires
first_failing_group-requires g c =
    let all = g.D.Drawn.calendar c.args.drawn.now in
    subst (All (IsGroup (length all.series))) (sym c.groups.ensures) (subst (λ n. All (IsGroup n) (groups_of c.args.certificate.now)) c.requires.counts c.requires.claims.groups)

pub returns-in-Some-clause-judged : goal.returns-in-Some-clause-judged
returns-in-Some-clause-judged g c =
    let all = g.D.Drawn.calendar c.args.drawn.now in
    let groups = map group_said c.groups.result.now in
    group_fails all c.args.certificate.now groups c.groups.ensures c.in-Some.named.0 c.in-Some.named.1 _ _
    (subst (λ o. AreJudged all (map OfGroup groups) o (g.D.Drawn.count c.args.drawn.now) (g.D.Drawn.count c.first_failing_group.new.drawn)) c.in-Some.is c.in_ok-named.ensures.judged)

pub first_failing_pair-requires : goal.first_failing_pair-requires
first_failing_pair-requires g c =
    let all = g.D.Drawn.calendar c.args.drawn.now in
    subst (λ (x : Confirmed). All (ArePairOf (length x.series)) (map pair_said c.pairs.result.now)) (sym c.first_failing_group.ensures.calendar)
    (subst (All (ArePairOf (length all.series))) (sym c.pairs.ensures) (pairs_of all c.args.certificate.now c.requires.claims c.requires.counts))

pub returns-clause-judged : goal.returns-clause-judged
returns-clause-judged g c =
    let all = g.D.Drawn.calendar c.args.drawn.now in
    let here = g.D.Drawn.calendar c.first_failing_group.new.drawn in
    let groups = map group_said c.groups.result.now in
    let pairs = map pair_said c.pairs.result.now in
    let old = g.D.Drawn.count c.args.drawn.now in
    let mid = g.D.Drawn.count c.first_failing_group.new.drawn in
    let new = g.D.Drawn.count c.first_failing_pair.new.drawn in
    let first = subst (λ o. AreJudged all (map OfGroup groups) o old mid) c.in_default.is c.in_ok-named.ensures.judged in
    IfOk-weaker c.first_failing_pair.result (λ found. AreJudged here (map OfPair pairs) found mid new) (λ found. AreJudged all (statements c.args.certificate.now) found old new)
    (all_judged all here c.args.certificate.now groups pairs c.groups.ensures c.pairs.ensures c.first_failing_group.ensures.calendar old mid new first) c.first_failing_pair.ensures.judged
