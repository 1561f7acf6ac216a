use Rattle.std.proofs.Common.{◌≡◌, ◌∙◌, sym, subst, arith, rules, ◌<◌, ℤ, ◌≤ℤ◌, ◌-ℤ◌, ◌⊎◌, to_z, of_z, w64, FitsSigned, to_z-of_z}
use Rattle.std.specs.Prelude.{Option}
use Rattle.std.specs.Int.{saturate_signed}
use Rattle.std.proofs.lemmas.Bool.{true≢false}
use Rattle.std.proofs.lemmas.Int.{ints}
use Rattle.profile.specs.events.Properties.{first_second}
use Rattle.profile.specs.events.Starts.{Overlaps}
use Rattle.cal_events.specs.Left.{GivesFirst}
use Rattle.cal_events.specs.Event.{said_meeting}
use Rattle.cal_events.specs.declared.instance.Instance.{Instance}
use Rattle.cal_events.proofs.shared_lemmas.Overlaps.{left_first, found, too_late, passed_on, one_fewer, steps_left, ended, at_most}
use Rattle.cal_events.proofs.overlapping.first_overlapping.Goals as goal

pub loop-next-init : goal.loop-next-init
loop-next-init c =
    let event = c.args.event.now in
    let from = c.args.span.start in
    let n = c.longest.result in
    let begin = c.saturating_sub.result in
    let fits : FitsSigned w64 begin = search rules in
    let cast : to_z w64 (of_z w64 begin) ≡ begin = to_z-of_z fits in
    let fits_n : FitsSigned w64 n = search rules in
    let cast_n : to_z w64 (of_z w64 n) ≡ n = to_z-of_z fits_n in
    let fits_from : FitsSigned w64 from = search rules in
    let cast_from : to_z w64 (of_z w64 from) ≡ from = to_z-of_z fits_from in
    let is : begin ≡ saturate_signed w64 (from -ℤ n) = rw (cast_from, cast_n) at c.saturating_sub.ensures in
    let early : (begin ≤ℤ (from -ℤ n)) ⊎ (begin ≤ℤ first_second) = subst (λ (x : ℤ). (x ≤ℤ (from -ℤ n)) ⊎ (x ≤ℤ first_second)) (sym is) (at_most (from -ℤ n)) in
    record {
      old = c.instances-instances.result;
      still = left_first (said_meeting event) from c.args.span.end begin n c.instances-instances.result c.longest.ensures.bound event.dated early (rw cast at c.instances-instances.ensures.left);
      given = c.next-next.ensures.steps;
    }

pub loop-next-preserved : goal.loop-next-preserved
loop-next-preserved c =
    let event = c.args.event.now in
    let from = c.args.span.start in
    let to = c.args.span.end in
    let ahead = c.loop-next.invariant in
    let i = c.in-Some.instance in
    let given = subst (λ (o : Option Instance). GivesFirst ahead.old o c.loop-next.instances) c.in-Some.is ahead.given in
    let fits_start : FitsSigned w64 i.start = search rules in
    let start : to_z w64 (of_z w64 i.start) ≡ i.start = to_z-of_z fits_start in
    let fits_end : FitsSigned w64 i.end = search rules in
    let end : to_z w64 (of_z w64 i.end) ≡ i.end = to_z-of_z fits_end in
    let not : Overlaps i.start i.end from to → ⊥ = λ s. true≢false (sym (c.overlaps.ensures.1 (rw (start, end) s)) ∙ c.if-overlaps.false) in
    record {
      old = c.loop-next.instances;
      still = passed_on (said_meeting event) from to ahead.old c.loop-next.instances ahead.still i given event.ends not;
      given = c.next-next-in-Some.ensures.steps;
    }

pub loop-next-smaller : goal.loop-next-smaller
loop-next-smaller c =
    let event = c.args.event.now in
    let from = c.args.span.start in
    let to = c.args.span.end in
    let ahead = c.loop-next.invariant in
    let i = c.in-Some.instance in
    let given = subst (λ (o : Option Instance). GivesFirst ahead.old o c.loop-next.instances) c.in-Some.is ahead.given in
    let fits_start : FitsSigned w64 i.start = search rules in
    let start : to_z w64 (of_z w64 i.start) ≡ i.start = to_z-of_z fits_start in
    let fits_end : FitsSigned w64 i.end = search rules in
    let end : to_z w64 (of_z w64 i.end) ≡ i.end = to_z-of_z fits_end in
    let not : Overlaps i.start i.end from to → ⊥ = λ s. true≢false (sym (c.overlaps.ensures.1 (rw (start, end) s)) ∙ c.if-overlaps.false) in
    let still = passed_on (said_meeting event) from to ahead.old c.loop-next.instances ahead.still i given event.ends not in
    let new = c.next-next-in-Some.new.self in
    let next = c.next-next-in-Some.result in
    subst (λ (o : Option Instance). steps_left next new < steps_left o c.loop-next.instances) (sym c.in-Some.is)
    (one_fewer (said_meeting event) from to c.loop-next.instances new i next still event.dated c.next-next-in-Some.ensures.steps)

pub returns-then-instance-span : goal.returns-then-instance-span
returns-then-instance-span c =
    let event = c.args.event.now in
    let from = c.args.span.start in
    let to = c.args.span.end in
    let ahead = c.loop-next.invariant in
    let i = c.in-Some.instance in
    let given = subst (λ (o : Option Instance). GivesFirst ahead.old o c.loop-next.instances) c.in-Some.is ahead.given in
    let fits_start : FitsSigned w64 i.start = search rules in
    let start : to_z w64 (of_z w64 i.start) ≡ i.start = to_z-of_z fits_start in
    let fits_to : FitsSigned w64 to = search rules in
    let cast_to : to_z w64 (of_z w64 to) ≡ to = to_z-of_z fits_to in
    let late = rw (cast_to, start) at c.if-instance-span.true in
    too_late (said_meeting event) from to ahead.old c.loop-next.instances ahead.still i given (grind (arith, ints, late))

pub returns-then-overlaps : goal.returns-then-overlaps
returns-then-overlaps c =
    let event = c.args.event.now in
    let from = c.args.span.start in
    let to = c.args.span.end in
    let ahead = c.loop-next.invariant in
    let i = c.in-Some.instance in
    let given = subst (λ (o : Option Instance). GivesFirst ahead.old o c.loop-next.instances) c.in-Some.is ahead.given in
    let fits_start : FitsSigned w64 i.start = search rules in
    let start : to_z w64 (of_z w64 i.start) ≡ i.start = to_z-of_z fits_start in
    let fits_end : FitsSigned w64 i.end = search rules in
    let end : to_z w64 (of_z w64 i.end) ≡ i.end = to_z-of_z fits_end in
    found (said_meeting event) from to ahead.old c.loop-next.instances ahead.still i given (rw (start, end) at (c.overlaps.ensures.0 c.if-overlaps.true))

pub returns : goal.returns
returns c = ended (said_meeting c.args.event.now) c.args.span.start c.args.span.end c.loop-next.next c.loop-next.instances c.loop-next.invariant c.in_default.not-Some
