use Rattle.std.proofs.Common.{◌∙◌, [], sym, subst}
use Rattle.std.proofs.lemmas.Option.{same_Some}
use Rattle.cal_events.specs.Recurrence.{recurring}
use Rattle.cal_events.specs.declared.recurrence.Recurrence.{Recurrence}
use Rattle.cal_events.specs.Instances.{AreWalked, IsOfClock}
use Rattle.cal_events.proofs.shared_lemmas.InstanceLemmas.{first_with_master, first_without}
use Rattle.cal_events.proofs.instances.first_place.Goals as goal

pub returns-in-Some-clause-first : goal.returns-in-Some-clause-first
returns-in-Some-clause-first c =
    let os = c.args.event.now.overrides.items in
    first_with_master os c.args.after c.args.event.now.recurrence c.in-Some.recurrence c.in-Some.is c.first_start-start.result c.own_place.result c.first_moved-moved.result c.sooner.result c.first_start-start.ensures.first c.own_place.ensures c.first_moved-moved.ensures c.sooner.ensures

pub returns-in-Some-clause-passed : goal.returns-in-Some-clause-passed
returns-in-Some-clause-passed c d is =
    let same = same_Some c.in-Some.recurrence d (sym c.in-Some.is ∙ is) in
    let days = c.first_start-start.new.days in
    subst (λ (x : Recurrence). AreWalked (recurring x) [] c.args.after days) same c.first_start-start.ensures.walked

pub returns-in-None-clause-first : goal.returns-in-None-clause-first
returns-in-None-clause-first c =
    first_without c.args.event.now.overrides.items c.args.after c.args.event.now.recurrence c.in-None.is c.first_moved-moved.result c.first_moved-moved.ensures

pub returns-in-Some-clause-reads : goal.returns-in-Some-clause-reads
returns-in-Some-clause-reads c d is =
    let same = same_Some c.in-Some.recurrence d (sym c.in-Some.is ∙ is) in
    subst (λ (x : Recurrence). IsOfClock (recurring x) c.first_start-start.new.clock) same c.first_start-start.ensures.reads

pub first_start-start-requires-clause-reads : goal.first_start-start-requires-clause-reads
first_start-start-requires-clause-reads c = c.requires.reads c.in-Some.recurrence c.in-Some.is
