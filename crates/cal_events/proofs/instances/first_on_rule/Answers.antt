use Rattle.std.proofs.Common.{◌≡◌, ◌∙◌, [], refl, arith, to_z, of_z, w64}
use Rattle.std.proofs.lemmas.Bool.{false≢true}
use Rattle.std.proofs.lemmas.Int.{ints}
use Rattle.profile.specs.series.Days.{day_index}
use Rattle.profile.specs.events.EventRules.{IsOnDay}
use Rattle.cal_events.specs.Component.{local_said}
use Rattle.cal_events.specs.Recurrence.{recurring}
use Rattle.cal_events.proofs.shared_lemmas.InstanceLemmas.{last_of_rule, first_of_rule, none_of_rule}
use Rattle.cal_events.proofs.instances_lemmas.ClockLemmas.{means_by, same_clock}
use Rattle.cal_events.proofs.shared_lemmas.Walks.{walked_on, walked_out, walked_back}
use Rattle.cal_events.proofs.instances.first_on_rule.Goals as goal

pub loop-found-init : goal.loop-found-init
loop-found-init c = (c.pass_given.ensures (recurring c.args.recurrence.now) [] c.requires.walked, c.requires.reads)

pub start_by-start-requires-clause-day : goal.start_by-start-requires-clause-day
start_by-start-requires-clause-day c =
    let rule = c.args._rule.now in
    let step = c.in-Some.ensures rule (c.loop-found.invariant.0.listed rule c.requires.rule) in
    let last = last_of_rule rule (day_index c.in-Some.found) step.2.0.holds in
    omega (arith, ints, last)

pub put_back-requires : goal.put_back-requires
put_back-requires c =
    let rule = c.args._rule.now in
    (c.in-Some.ensures rule (c.loop-found.invariant.0.listed rule c.requires.rule)).1

pub returns-then-is_wanted-clause-first : goal.returns-then-is_wanted-clause-first
returns-then-is_wanted-clause-first c =
    let d = c.day_and_second-second.result in
    let on : IsOnDay (local_said c.args.recurrence.now.times.start) (day_index d.0) d.1 = (c.day_and_second-second.ensures.second, omega (arith, ints, c.local.ensures, c.day_and_second-second.ensures.sum, c.day_and_second-second.type_inv)) in
    let same : to_z w64 (of_z w64 c.start_by-start.result) ≡ c.start_by-start.result = omega (arith, ints, c.start_by-start.ensures.range) in
    let rule = c.args._rule.now in
    let walked = c.loop-found.invariant.0 in
    let step = c.in-Some.ensures rule (walked.listed rule c.requires.rule) in
    rw same (first_of_rule (recurring c.args.recurrence.now) [] c.args.after rule c.requires.rule c.args.recurrence.now.steady.meaning (day_index d.0) d.1 on c.loop-found.days.from walked.none
    c.args.recurrence.now.steady.ascends (day_index c.in-Some.found) step.2.0 c.start_by-start.result (means_by c.args.recurrence.now c.loop-found.clock _ c.start_by-start.result c.loop-found.invariant.1 c.start_by-start.ensures.meaning) (rw same at (c.if-is_wanted.ensures.0 refl)))

pub returns-then-is_wanted-clause-walked : goal.returns-then-is_wanted-clause-walked
returns-then-is_wanted-clause-walked c =
    let d = c.day_and_second-second.result in
    let on : IsOnDay (local_said c.args.recurrence.now.times.start) (day_index d.0) d.1 = (c.day_and_second-second.ensures.second, omega (arith, ints, c.local.ensures, c.day_and_second-second.ensures.sum, c.day_and_second-second.type_inv)) in
    let same : to_z w64 (of_z w64 c.start_by-start.result) ≡ c.start_by-start.result = omega (arith, ints, c.start_by-start.ensures.range) in
    let rule = c.args._rule.now in
    let walked = c.loop-found.invariant.0 in
    let step = c.in-Some.ensures rule (walked.listed rule c.requires.rule) in
    walked_back (recurring c.args.recurrence.now) [] c.args.after rule c.requires.rule c.args.recurrence.now.steady.meaning (day_index d.0) d.1 on c.loop-found.days c.next.new.self walked
    c.in-Some.found c.start_by-start.result c.put_back.new.self step (means_by c.args.recurrence.now c.loop-found.clock _ c.start_by-start.result c.loop-found.invariant.1 c.start_by-start.ensures.meaning)
    (c.put_back.ensures.days rule c.loop-found.days.from step.0 step.2.0 step.2.1) c.put_back.ensures.from c.put_back.ensures.first (c.put_back.ensures.start ∙ same)

pub loop-found-preserved : goal.loop-found-preserved
loop-found-preserved c =
    let d = c.day_and_second-second.result in
    let on : IsOnDay (local_said c.args.recurrence.now.times.start) (day_index d.0) d.1 = (c.day_and_second-second.ensures.second, omega (arith, ints, c.local.ensures, c.day_and_second-second.ensures.sum, c.day_and_second-second.type_inv)) in
    let same : to_z w64 (of_z w64 c.start_by-start.result) ≡ c.start_by-start.result = omega (arith, ints, c.start_by-start.ensures.range) in
    let rule = c.args._rule.now in
    let walked = c.loop-found.invariant.0 in
    let step = c.in-Some.ensures rule (walked.listed rule c.requires.rule) in (
      walked_on (recurring c.args.recurrence.now) [] c.args.after rule c.requires.rule c.args.recurrence.now.steady.meaning (day_index d.0) d.1 on c.loop-found.days c.next.new.self walked
          c.in-Some.found c.start_by-start.result step (means_by c.args.recurrence.now c.loop-found.clock _ c.start_by-start.result c.loop-found.invariant.1 c.start_by-start.ensures.meaning) (λ w. false≢true (c.if-is_wanted.ensures.1 (rw same w))),
      same_clock c.args.recurrence.now c.loop-found.clock c.start_by-start.new.clock c.start_by-start.ensures.zone c.loop-found.invariant.1,
    )

pub loop-found-smaller : goal.loop-found-smaller
loop-found-smaller c =
    let rule = c.args._rule.now in
    let step = c.in-Some.ensures rule (c.loop-found.invariant.0.listed rule c.requires.rule) in
    let last = last_of_rule rule (day_index c.in-Some.found) step.2.0.holds in
    omega (arith, last, step.2.0.not_before, step.2.1)

pub returns-clause-first : goal.returns-clause-first
returns-clause-first c =
    let d = c.day_and_second-second.result in
    let on : IsOnDay (local_said c.args.recurrence.now.times.start) (day_index d.0) d.1 = (c.day_and_second-second.ensures.second, omega (arith, ints, c.local.ensures, c.day_and_second-second.ensures.sum, c.day_and_second-second.type_inv)) in
    let rule = c.args._rule.now in
    let walked = c.loop-found.invariant.0 in
    let step = c.in_default.ensures rule (walked.listed rule c.requires.rule) in
    none_of_rule (recurring c.args.recurrence.now) [] c.args.after rule c.requires.rule c.args.recurrence.now.steady.meaning (day_index d.0) d.1 on c.loop-found.days.from walked.none step.2.0

pub returns-clause-walked : goal.returns-clause-walked
returns-clause-walked c =
    let d = c.day_and_second-second.result in
    let on : IsOnDay (local_said c.args.recurrence.now.times.start) (day_index d.0) d.1 = (c.day_and_second-second.ensures.second, omega (arith, ints, c.local.ensures, c.day_and_second-second.ensures.sum, c.day_and_second-second.type_inv)) in
    let rule = c.args._rule.now in
    let walked = c.loop-found.invariant.0 in
    let step = c.in_default.ensures rule (walked.listed rule c.requires.rule) in
    walked_out (recurring c.args.recurrence.now) [] c.args.after rule c.requires.rule c.args.recurrence.now.steady.meaning (day_index d.0) d.1 on c.loop-found.days c.next.new.self walked step

pub returns-then-is_wanted-clause-reads : goal.returns-then-is_wanted-clause-reads
returns-then-is_wanted-clause-reads c = same_clock c.args.recurrence.now c.loop-found.clock c.start_by-start.new.clock c.start_by-start.ensures.zone c.loop-found.invariant.1

pub returns-clause-reads : goal.returns-clause-reads
returns-clause-reads c = c.loop-found.invariant.1
