use Rattle.std.proofs.Common.{◌∙◌, Bool, subst, arith}
use Rattle.std.specs.Prelude.{Contains, MatchBool}
use Rattle.profile.specs.checker.Instances.{AreClear, HasClash}
use Rattle.profile.specs.checker.Certificates.{statements}
use Rattle.profile.specs.events.Confirmed.{Confirmed, IsOneOf}
use Rattle.clash_check.specs.Entries.{AreJudged}
use Rattle.clash_check.specs.Singles.{IsEachClear, AreSinglesDrawn}
use Rattle.clash_check.proofs.JudgingLemmas.{each_clear, verdict_statement, verdict_singles, verdict_yes, made_statement, made_singles, made_yes}
use Rattle.clash_check.proofs.judging.judge_counted.Goals as goal

pub returns-in-Some-clause-verdict : goal.returns-in-Some-clause-verdict
returns-in-Some-clause-verdict g c =
    let all = g.D.Drawn.calendar c.args.drawn.now in
    let old = g.D.Drawn.count c.args.drawn.now in
    let new = g.D.Drawn.count c.first_failing.new.drawn in
    verdict_statement all c.args.certificate.now c.requires.counts c.in-Some.first c.in-Some.second c.no_at.result.verdict c.no_at.ensures.no old new
    (subst (λ o. AreJudged all (statements c.args.certificate.now) o old new) c.in-Some.is c.in_ok-first.ensures.judged)

pub returns-in-Some-clause-few : goal.returns-in-Some-clause-few
returns-in-Some-clause-few g c = λ none.
    let all = g.D.Drawn.calendar c.args.drawn.now in
    let old = g.D.Drawn.count c.args.drawn.now in
    let new = g.D.Drawn.count c.first_failing.new.drawn in
    let made = c.no_at.ensures.made in
    let inv = c.drawn.type_inv in
    made_statement all c.args.certificate.now c.in-Some.first c.in-Some.second c.no_at.result.verdict old new c.no_at.result.made c.no_at.ensures.no none (made ∙ c.drawn.ensures) (omega (arith, made, inv))
    (subst (λ o. AreJudged all (statements c.args.certificate.now) o old new) c.in-Some.is c.in_ok-first.ensures.judged)

pub returns-then-branch-clause-verdict : goal.returns-then-branch-clause-verdict
returns-then-branch-clause-verdict g c =
    let all = g.D.Drawn.calendar c.args.drawn.now in
    let held = subst (λ o. AreJudged all (statements c.args.certificate.now) o (g.D.Drawn.count c.args.drawn.now) (g.D.Drawn.count c.first_failing.new.drawn)) c.in_default.is c.in_ok-first.ensures.judged in
    verdict_singles all c.args.certificate.now c.requires.counts held.hold c.no.result.verdict c.no.ensures.no
    (subst (λ (b : Bool). MatchBool b (HasClash (Contains all.singles) (IsOneOf all)) (AreClear (Contains all.singles) (IsOneOf all))) c.if-branch.true
    (subst (λ (x : Confirmed). MatchBool c.in_ok-have_clash.field-0 (HasClash (Contains x.singles) (IsOneOf x)) (AreClear (Contains x.singles) (IsOneOf x))) c.first_failing.ensures.calendar c.in_ok-have_clash.ensures.clash))

pub returns-then-branch-clause-few : goal.returns-then-branch-clause-few
returns-then-branch-clause-few g c = λ none.
    let all = g.D.Drawn.calendar c.args.drawn.now in
    let mid = g.D.Drawn.count c.first_failing.new.drawn in
    let new = g.D.Drawn.count c.have_clash.new.drawn in
    let held = subst (λ o. AreJudged all (statements c.args.certificate.now) o (g.D.Drawn.count c.args.drawn.now) mid) c.in_default.is c.in_ok-first.ensures.judged in
    let made = c.no.ensures.made in
    let inv = c.drawn-then-branch.type_inv in
    made_singles all c.args.certificate.now c.no.result.verdict _ mid new c.no.result.made c.no.ensures.no none (made ∙ c.drawn-then-branch.ensures) (omega (arith, made, inv)) held
    (subst (λ (x : Confirmed). IsEachClear x → AreSinglesDrawn x mid new) c.first_failing.ensures.calendar c.in_ok-have_clash.ensures.count
    (each_clear all c.is_drawable.ensures c.args.certificate.now c.requires.claims c.requires.counts held.hold))

pub returns-clause-verdict : goal.returns-clause-verdict
returns-clause-verdict g c =
    let all = g.D.Drawn.calendar c.args.drawn.now in
    let held = subst (λ o. AreJudged all (statements c.args.certificate.now) o (g.D.Drawn.count c.args.drawn.now) (g.D.Drawn.count c.first_failing.new.drawn)) c.in_default.is c.in_ok-first.ensures.judged in
    verdict_yes all c.args.certificate.now c.requires.counts held.hold
    (subst (λ (b : Bool). MatchBool b (HasClash (Contains all.singles) (IsOneOf all)) (AreClear (Contains all.singles) (IsOneOf all))) c.if-branch.false
    (subst (λ (x : Confirmed). MatchBool c.in_ok-have_clash.field-0 (HasClash (Contains x.singles) (IsOneOf x)) (AreClear (Contains x.singles) (IsOneOf x))) c.first_failing.ensures.calendar c.in_ok-have_clash.ensures.clash))

pub returns-clause-few : goal.returns-clause-few
returns-clause-few g c = λ none.
    let all = g.D.Drawn.calendar c.args.drawn.now in
    let mid = g.D.Drawn.count c.first_failing.new.drawn in
    let new = g.D.Drawn.count c.have_clash.new.drawn in
    let held = subst (λ o. AreJudged all (statements c.args.certificate.now) o (g.D.Drawn.count c.args.drawn.now) mid) c.in_default.is c.in_ok-first.ensures.judged in
    let inv = c.drawn-2.type_inv in
    made_yes all c.args.certificate.now _ mid new c.drawn-2.result none c.drawn-2.ensures (omega (arith, inv)) held
    (subst (λ (x : Confirmed). IsEachClear x → AreSinglesDrawn x mid new) c.first_failing.ensures.calendar c.in_ok-have_clash.ensures.count
    (each_clear all c.is_drawable.ensures c.args.certificate.now c.requires.claims c.requires.counts held.hold))
