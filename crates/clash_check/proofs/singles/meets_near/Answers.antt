use Rattle.std.proofs.Common.{◌∙◌, ℤ, ◌<ℤ◌, length, sym, subst, rules, to_z, of_z, to_z-of_z, w64, FitsSigned}
use Rattle.std.specs.Prelude.{◌↔◌, Some, None}
use Rattle.std.proofs.lemmas.Bool.{true≢false}
use Rattle.profile.specs.events.Confirmed.{Confirmed}
use Rattle.clash_check.specs.Draws.{IsSpanBetween, IsPlaceIn}
use Rattle.clash_check.specs.Singles.{IsEntryInstant}
use Rattle.clash_check.proofs.SweepLemmas.{known_at}
use Rattle.clash_check.proofs.SingleLemmas.{near_first, near_met, near_few, near_next, near_none, near_all, near_fewer, near_within, near_at, lasts_at}
use Rattle.clash_check.proofs.singles.meets_near.Goals as goal

pub loop-next-init : goal.loop-next-init
loop-next-init g c =
    let wide : FitsSigned w64 c.args.width = search rules in
    let fits : FitsSigned w64 c.entry.result = search rules in
    let stop : FitsSigned w64 c.args.span.start = search rules in
    let end : FitsSigned w64 c.args.span.end = search rules in
    let enters : IsEntryInstant c.args.span.start c.args.width c.entry.result =
    subst (λ t. IsEntryInstant t c.args.width c.entry.result) (to_z-of_z stop) (subst (λ w. IsEntryInstant (to_z w64 (of_z w64 c.args.span.start)) w c.entry.result) (to_z-of_z wide) c.entry.ensures) in (
      c.args.width,
      c.entry.result,
      c.requires.width.0,
      c.requires.of,
      enters,
      record {
        same = c.draw_span-next.ensures.calendar ∙ c.begin.ensures.calendar;
        near = λ a there.
            near_first a (known_at (g.D.Drawn.calendar c.args.drawn.now) c.is_drawable.ensures c.args.i a there) c.args.span c.args.width c.entry.result
            (lasts_at (g.D.Drawn.calendar c.args.drawn.now) c.is_drawable.ensures c.args.i a c.args.width there (c.requires.of a there)) c.requires.width.0 enters
            (g.D.Drawn.coming c.begin.new.self c.args.i) (g.D.Drawn.coming c.draw_span-next.new.drawn c.args.i) _ _ _ c.draw_span-next.result c.begin.ensures.count
            (subst (λ (t : ℤ). (s e : ℤ) → g.D.Drawn.coming c.begin.new.self c.args.i s e ↔ IsSpanBetween a c.entry.result t s e) (to_z-of_z end)
            (subst (λ (t : ℤ). (s e : ℤ) → g.D.Drawn.coming c.begin.new.self c.args.i s e ↔ IsSpanBetween a t (to_z w64 (of_z w64 c.args.span.end)) s e) (to_z-of_z fits) (c.begin.ensures.coming a there)))
            c.draw_span-next.ensures.drawn c.draw_span-next.ensures.coming c.draw_span-next.ensures.count;
      },
    )

pub returns-then-is_going_on-clause-calendar : goal.returns-then-is_going_on-clause-calendar
returns-then-is_going_on-clause-calendar g c = c.loop-next.invariant.5.same

pub returns-then-is_going_on-clause-meets : goal.returns-then-is_going_on-clause-meets
returns-then-is_going_on-clause-meets g c = λ a there.
    let (width, entry, some, of, enters, at) = c.loop-next.invariant in
    let near = near_at a c.args.span width entry _ _ _ c.loop-next.next (Some c.in-Some.instance) c.in-Some.is (at.near a there) in
    near_met a (known_at (g.D.Drawn.calendar c.args.drawn.now) c.is_drawable.ensures c.args.i a there) c.args.span width entry
    (lasts_at (g.D.Drawn.calendar c.args.drawn.now) c.is_drawable.ensures c.args.i a width there (of a there)) some enters _ _ _ c.in-Some.instance near c.requires.span.0 c.requires.span.1
    (c.is_going_on.ensures.0 c.if-is_going_on.true).0
    (let stop : FitsSigned w64 c.args.span.start = search rules in subst (λ (t : ℤ). t <ℤ c.in-Some.instance.end) (to_z-of_z stop) (c.is_going_on.ensures.0 c.if-is_going_on.true).1)

pub returns-then-is_going_on-clause-count : goal.returns-then-is_going_on-clause-count
returns-then-is_going_on-clause-count g c = λ a there.
    let (width, entry, some, of, enters, at) = c.loop-next.invariant in
    let near = near_at a c.args.span width entry _ _ _ c.loop-next.next (Some c.in-Some.instance) c.in-Some.is (at.near a there) in
    near_few a (known_at (g.D.Drawn.calendar c.args.drawn.now) c.is_drawable.ensures c.args.i a there) c.args.span width entry
    (lasts_at (g.D.Drawn.calendar c.args.drawn.now) c.is_drawable.ensures c.args.i a width there (of a there)) some enters _ _ _ c.in-Some.instance near

pub draw_span-next-requires-in-Some : goal.draw_span-next-requires-in-Some
draw_span-next-requires-in-Some g c = subst (λ (x : Confirmed). IsPlaceIn (length x.series) c.args.i) (sym c.loop-next.invariant.5.same) c.requires.place

pub loop-next-smaller : goal.loop-next-smaller
loop-next-smaller g c =
    let (width, entry, some, of, enters, at) = c.loop-next.invariant in
    near_fewer (g.D.Drawn.calendar c.args.drawn.now) c.args.i c.requires.place c.args.span.end c.in-Some.instance c.loop-next.next c.draw_span-next-in-Some.result c.in-Some.is
    (λ a there.
    let near = near_at a c.args.span width entry _ _ _ c.loop-next.next (Some c.in-Some.instance) c.in-Some.is (at.near a there) in
    let n = near_next a (known_at (g.D.Drawn.calendar c.args.drawn.now) c.is_drawable.ensures c.args.i a there) c.args.span width entry
    (lasts_at (g.D.Drawn.calendar c.args.drawn.now) c.is_drawable.ensures c.args.i a width there (of a there)) some enters _ _ _ c.in-Some.instance near
    (g.D.Drawn.coming c.draw_span-next-in-Some.new.drawn c.args.i) _ c.draw_span-next-in-Some.result
    (λ h. let stop : FitsSigned w64 c.args.span.start = search rules in
    true≢false (sym (c.is_going_on.ensures.1 (h.0, subst (λ (t : ℤ). t <ℤ c.in-Some.instance.end) (sym (to_z-of_z stop)) h.1)) ∙ c.if-is_going_on.false))
    c.draw_span-next-in-Some.ensures.drawn c.draw_span-next-in-Some.ensures.coming c.draw_span-next-in-Some.ensures.count in
    (n.0, near_within a c.args.span width entry _ _ _ c.draw_span-next-in-Some.result n.1))

pub loop-next-preserved : goal.loop-next-preserved
loop-next-preserved g c =
    let (width, entry, some, of, enters, at) = c.loop-next.invariant in (
      width,
      entry,
      some,
      of,
      enters,
      record {
        same = c.draw_span-next-in-Some.ensures.calendar ∙ at.same;
        near = λ a there.
            let near = near_at a c.args.span width entry _ _ _ c.loop-next.next (Some c.in-Some.instance) c.in-Some.is (at.near a there) in
            (near_next a (known_at (g.D.Drawn.calendar c.args.drawn.now) c.is_drawable.ensures c.args.i a there) c.args.span width entry
            (lasts_at (g.D.Drawn.calendar c.args.drawn.now) c.is_drawable.ensures c.args.i a width there (of a there)) some enters _ _ _ c.in-Some.instance near
            (g.D.Drawn.coming c.draw_span-next-in-Some.new.drawn c.args.i) _ c.draw_span-next-in-Some.result
            (λ h. let stop : FitsSigned w64 c.args.span.start = search rules in
            true≢false (sym (c.is_going_on.ensures.1 (h.0, subst (λ (t : ℤ). t <ℤ c.in-Some.instance.end) (sym (to_z-of_z stop)) h.1)) ∙ c.if-is_going_on.false))
            c.draw_span-next-in-Some.ensures.drawn c.draw_span-next-in-Some.ensures.coming c.draw_span-next-in-Some.ensures.count).1;
      },
    )

pub returns-clause-calendar : goal.returns-clause-calendar
returns-clause-calendar g c = c.loop-next.invariant.5.same

pub returns-clause-meets : goal.returns-clause-meets
returns-clause-meets g c = λ a there.
    let (width, entry, some, of, enters, at) = c.loop-next.invariant in
    let near = near_at a c.args.span width entry _ _ _ c.loop-next.next None c.in_default.is (at.near a there) in
    near_none a (known_at (g.D.Drawn.calendar c.args.drawn.now) c.is_drawable.ensures c.args.i a there) c.args.span width entry
    (lasts_at (g.D.Drawn.calendar c.args.drawn.now) c.is_drawable.ensures c.args.i a width there (of a there)) some enters _ _ _ near

pub returns-clause-count : goal.returns-clause-count
returns-clause-count g c = λ a there.
    let (width, entry, some, of, enters, at) = c.loop-next.invariant in
    let near = near_at a c.args.span width entry _ _ _ c.loop-next.next None c.in_default.is (at.near a there) in
    near_all a (known_at (g.D.Drawn.calendar c.args.drawn.now) c.is_drawable.ensures c.args.i a there) c.args.span width entry
    (lasts_at (g.D.Drawn.calendar c.args.drawn.now) c.is_drawable.ensures c.args.i a width there (of a there)) some enters _ _ _ near
