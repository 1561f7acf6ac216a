use Rattle.std.proofs.Common.{sym, subst, arith}
use Rattle.std.proofs.lemmas.Int.{ints}
use Rattle.cal_events.specs.Calendar.{instance_of}
use Rattle.cal_events.specs.MeetingComponents.{IsInEventDates}
use Rattle.cal_events.proofs.shared_lemmas.InstanceLemmas.{master_there, nothing_there, made_of_master, made_of_override}
use Rattle.cal_events.proofs.instances.instance_at.Goals as goal

pub instance_with-requires : goal.instance_with-requires
instance_with-requires c =
    let o = c.in-Some-default.component.now in
    let named : IsInEventDates c.args.place.start = subst IsInEventDates c.in-Some-default.ensures.found.1.1 o.named in
    (omega (arith, ints, named), omega (arith, ints, named))

pub instance_with-requires-in-None-Some : goal.instance_with-requires-in-None-Some
instance_with-requires-in-None-Some c =
    let event = c.args.event.now in
    let none = c.in-None-Some.ensures.none in
    let there = master_there event.recurrence event.overrides.items c.args.place c.requires none c.in-None-Some.recurrence c.in-None-Some.is-1 in
    (omega (arith, ints, there.1.in_dates), omega (arith, ints, there.1.in_dates))

pub unreachable-requires : goal.unreachable-requires
unreachable-requires c =
    let event = c.args.event.now in
    let none = c.in-None-None.ensures.none in
    nothing_there event.recurrence event.overrides.items c.args.place c.requires none c.in-None-None.is-1

pub returns-in-Some-default-clause-instance : goal.returns-in-Some-default-clause-instance
returns-in-Some-default-clause-instance c =
    let event = c.args.event.now in
    let o = c.in-Some-default.component in
    let found = c.in-Some-default.ensures.found in
    let r = c.instance_with.result in
    made_of_override event o.now found.0 (instance_of r) c.args.place.start c.args.place.slot found.1.0 (sym found.1.1) c.instance_with.ensures.start c.instance_with.ensures.key c.instance_with.ensures.ends

pub returns-in-None-Some-clause-instance : goal.returns-in-None-Some-clause-instance
returns-in-None-Some-clause-instance c =
    let event = c.args.event.now in
    let m = c.in-None-Some.recurrence in
    let none = c.in-None-Some.ensures.none in
    let there = master_there event.recurrence event.overrides.items c.args.place c.requires none m c.in-None-Some.is-1 in
    let r = c.instance_with-in-None-Some.result in
    made_of_master event m c.in-None-Some.is-1 (instance_of r) c.args.place.start c.args.place.slot there.0 there.1 c.instance_with-in-None-Some.ensures.start c.instance_with-in-None-Some.ensures.key
    c.instance_with-in-None-Some.ensures.ends
