use Rattle.std.proofs.Common.{◌≡◌, ◌∙◌, ap, refl, sym, subst, not, [], arith, to_z, of_z, w64, to_z-of_z, ℤ, ◌<ℤ◌}
use Rattle.std.proofs.lemmas.Bool.{false≢true}
use Rattle.std.specs.Prelude.{is_some}
use Rattle.std.specs.Cmp.{unsigned_Decides}
use Rattle.std.proofs.lemmas.Int.{ints, by_lt_z}
use Rattle.profile.specs.series.Days.{day_index}
use Rattle.profile.specs.events.EventRules.{IsOnDay}
use Rattle.cal_events.specs.Component.{component_of, local_said}
use Rattle.cal_events.specs.Instances.{AreWalked}
use Rattle.cal_events.proofs.shared_lemmas.DraftKeys.{some_there}
use Rattle.cal_events.proofs.shared_lemmas.InstanceLemmas.{last_of_rule}
use Rattle.cal_events.proofs.single_starts_lemmas.SingleStartLemmas.{at, gives, gives_not, gives_none, wanted_at, early_unwanted}
use Rattle.cal_events.proofs.shared_lemmas.Walks.{walked_on}
use Rattle.cal_events.proofs.single_starts.is_on_rule.Goals as goal

pub loop-day-init : goal.loop-day-init
loop-day-init c = c.days_of-days.ensures (component_of c.args.master.now) [] refl refl

pub start_on-start-requires-clause-day : goal.start_on-start-requires-clause-day
start_on-start-requires-clause-day c =
    let r = some_there c.args.master.now.rule (c.is_none.ensures ∙ ap not c.if-is_none.false) in
    let step = c.in-Some.ensures r.0 (c.loop-day.invariant.listed r.0 r.1) in
    let last = last_of_rule r.0 (day_index c.in-Some.day) step.2.0.holds in
    omega (arith, ints, last)

pub returns-then-start-instant : goal.returns-then-start-instant
returns-then-start-instant c =
    let event = component_of c.args.master.now in
    let r = some_there c.args.master.now.rule (c.is_none.ensures ∙ ap not c.if-is_none.false) in
    let d = c.day_and_second-second.result in
    let on : IsOnDay (local_said c.args.master.now.times.start) (day_index d.0) d.1 = (c.day_and_second-second.ensures.second, omega (arith, ints, c.local.ensures, c.day_and_second-second.ensures.sum, c.day_and_second-second.type_inv)) in
    let start = c.start_on-start.result in
    let instant = c.args.instant in
    let here : to_z w64 (of_z w64 start) ≡ start = omega (arith, ints, c.start_on-start.ensures.range) in
    let given : to_z w64 (of_z w64 instant) ≡ instant = to_z-of_z c.ranges.instant in
    let walked = subst (λ (x : ℤ). AreWalked event [] (at x) c.loop-day.days) given c.loop-day.invariant in
    let step = c.in-Some.ensures r.0 (walked.listed r.0 r.1) in
    let wanted = wanted_at event instant c.requires.named c.requires.not_excepted in
    let words = unsigned_Decides (of_z w64 start) (of_z w64 instant) in (
      (λ h. gives event instant r.0 r.1 (c.requires.clock (ap (λ o. is_some o) r.1)).0 (day_index d.0) d.1 on c.loop-day.days.from walked.none wanted (day_index c.in-Some.day) step.2.0 start c.start_on-start.ensures.meaning
          (sym here ∙ ap (to_z w64) (words.0 h) ∙ given)),
      λ h. words.1 (by_lt_z instant start
          (λ less. absurd (gives_not event instant r.0 r.1 (c.requires.clock (ap (λ o. is_some o) r.1)).0 (day_index d.0) d.1 on c.loop-day.days.from walked.none wanted (c.requires.clock (ap (λ o. is_some o) r.1)).1 (day_index c.in-Some.day) step.2.0 start
          c.start_on-start.ensures.meaning less h))
          (λ most. ap (of_z w64) {x = start} {y = instant} (omega (arith, ints, most, c.if-start-instant.true, here, given)))),
    )

pub loop-day-smaller : goal.loop-day-smaller
loop-day-smaller c =
    let r = some_there c.args.master.now.rule (c.is_none.ensures ∙ ap not c.if-is_none.false) in
    let step = c.in-Some.ensures r.0 (c.loop-day.invariant.listed r.0 r.1) in
    let last = last_of_rule r.0 (day_index c.in-Some.day) step.2.0.holds in
    omega (arith, last, step.2.0.not_before, step.2.1)

pub loop-day-preserved : goal.loop-day-preserved
loop-day-preserved c =
    let event = component_of c.args.master.now in
    let r = some_there c.args.master.now.rule (c.is_none.ensures ∙ ap not c.if-is_none.false) in
    let d = c.day_and_second-second.result in
    let on : IsOnDay (local_said c.args.master.now.times.start) (day_index d.0) d.1 = (c.day_and_second-second.ensures.second, omega (arith, ints, c.local.ensures, c.day_and_second-second.ensures.sum, c.day_and_second-second.type_inv)) in
    let start = c.start_on-start.result in
    let bound = to_z w64 (of_z w64 c.args.instant) in
    let here : to_z w64 (of_z w64 start) ≡ start = omega (arith, ints, c.start_on-start.ensures.range) in
    let early : start <ℤ bound = omega (arith, ints, c.if-start-instant.false, here) in
    let walked = c.loop-day.invariant in
    let step = c.in-Some.ensures r.0 (walked.listed r.0 r.1) in
    walked_on event [] (at bound) r.0 r.1 (c.requires.clock (ap (λ o. is_some o) r.1)).0 (day_index d.0) d.1 on c.loop-day.days c.next.new.self walked c.in-Some.day start step c.start_on-start.ensures.meaning (early_unwanted event bound start early)

pub returns : goal.returns
returns c =
    let event = component_of c.args.master.now in
    let r = some_there c.args.master.now.rule (c.is_none.ensures ∙ ap not c.if-is_none.false) in
    let d = c.day_and_second-second.result in
    let on : IsOnDay (local_said c.args.master.now.times.start) (day_index d.0) d.1 = (c.day_and_second-second.ensures.second, omega (arith, ints, c.local.ensures, c.day_and_second-second.ensures.sum, c.day_and_second-second.type_inv)) in
    let given : to_z w64 (of_z w64 c.args.instant) ≡ c.args.instant = to_z-of_z c.ranges.instant in
    let walked = subst (λ (x : ℤ). AreWalked event [] (at x) c.loop-day.days) given c.loop-day.invariant in
    let step = c.in_default.ensures r.0 (walked.listed r.0 r.1) in
    let wanted = wanted_at event c.args.instant c.requires.named c.requires.not_excepted in
    ((λ h. absurd (false≢true h)), λ h. absurd (gives_none event c.args.instant r.0 r.1 (c.requires.clock (ap (λ o. is_some o) r.1)).0 (day_index d.0) d.1 on c.loop-day.days.from walked.none wanted step.2.0 h))
