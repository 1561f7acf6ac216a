use Rattle.std.proofs.Common.{length, map, subst, sym}
use Rattle.std.proofs.lemmas.List.Elements.{All-contains}
use Rattle.profile.specs.checker.Certificates.{IsGroup, OfGroup}
use Rattle.profile.specs.events.Confirmed.{Confirmed}
use Rattle.clash_cert.specs.Texts.{group_said}
use Rattle.clash_check.proofs.StatementLemmas.{judged_failing, judged_next, said_in, stated_at, stated_within}
use Rattle.clash_check.proofs.statements.first_failing_group.Goals as goal

pub group_holds-requires : goal.group_holds-requires
group_holds-requires g c =
    let groups = c.args.groups.now in
    let all = g.D.Drawn.calendar c.args.drawn.now in
    subst (λ (x : Confirmed). IsGroup (length x.series) (group_said c.group-item.result)) (sym c.loop-group.invariant.same)
    (All-contains (IsGroup (length all.series)) (map group_said groups) (group_said c.group-item.result) c.requires
    (said_in group_said OfGroup groups c.loop-group.group-index c.group-item.result c.loop-group-test.true c.group-item.is))

pub returns-then-not-branch-clause-judged : goal.returns-then-not-branch-clause-judged
returns-then-not-branch-clause-judged g c =
    let groups = c.args.groups.now in
    let place = c.loop-group.group-index in
    let within = stated_within group_said OfGroup groups place c.group-item.result c.loop-group-test.true c.group-item.is in
    let is = stated_at group_said OfGroup groups place c.group-item.result c.loop-group-test.true c.group-item.is in
    judged_failing (g.D.Drawn.calendar c.args.drawn.now) (map OfGroup (map group_said groups)) place (g.D.Drawn.calendar c.loop-group.drawn) _ _ (g.D.Drawn.count c.group_holds.new.drawn) within
    c.loop-group.invariant (OfGroup (group_said c.group-item.result)) is c.in_ok-group_holds.field-0 c.in_ok-group_holds.ensures.holds c.in_ok-group_holds.ensures.count c.if-not-branch.true
    c.name.result.0 c.name.result.1 (c.name.ensures.first, c.name.ensures.second)

pub loop-group-preserved : goal.loop-group-preserved
loop-group-preserved g c =
    let groups = c.args.groups.now in
    let place = c.loop-group.group-index in
    let within = stated_within group_said OfGroup groups place c.group-item.result c.loop-group-test.true c.group-item.is in
    let is = stated_at group_said OfGroup groups place c.group-item.result c.loop-group-test.true c.group-item.is in
    judged_next (g.D.Drawn.calendar c.args.drawn.now) (map OfGroup (map group_said groups)) place (g.D.Drawn.calendar c.loop-group.drawn) _ _ (g.D.Drawn.count c.group_holds.new.drawn) within
    c.loop-group.invariant (OfGroup (group_said c.group-item.result)) is c.in_ok-group_holds.field-0 c.in_ok-group_holds.ensures.holds c.in_ok-group_holds.ensures.count c.if-not-branch.false
    (g.D.Drawn.calendar c.group_holds.new.drawn) c.group_holds.ensures.calendar
