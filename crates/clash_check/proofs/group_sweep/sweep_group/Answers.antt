use Rattle.std.proofs.Common.{◌∙◌, ℤ, ◌<◌, ◌-◌, sym, subst, refl, arith, rules, length, get_or, take, to_z-of_z, w64, FitsSigned}
use Rattle.std.specs.Prelude.{◌↔◌, negsuc}
use Rattle.std.specs.BinaryHeap.{heap_items}
use Rattle.std.proofs.lemmas.Int.{ints}
use Rattle.std.proofs.lemmas.List.{take_more, take_all, get_or_default}
use Rattle.profile.specs.events.Confirmed.{Confirmed}
use Rattle.cal_events.specs.declared.sweep.Span.{Span}
use Rattle.clash_check.specs.Draws.{IsPlaceIn, IsSpanBetween}
use Rattle.clash_check.specs.Walks.{MeetsLast, SharesWithNone, IsLaterEnd}
use Rattle.clash_check.proofs.GroupSweepLemmas.{begun_none, begun_more, group_first, group_found, group_some, group_fewer, group_past, group_clear, group_all, popped_member, none_left, taken_less}
use Rattle.clash_check.proofs.group_sweep.sweep_group.Goals as goal

pub loop-number-init : goal.loop-number-init
loop-number-init g c = λ bound same.
    begun_none (g.D.Drawn.calendar c.args.drawn.now) bound _ _ _ _ _ refl c.new-coming.ensures.items c.new-coming.ensures.heap_order refl (search rules)

pub begin-requires : goal.begin-requires
begin-requires g c =
    let b = c.loop-number.invariant _ refl in
    subst (λ (all : Confirmed). IsPlaceIn (length all.series) (get_or c.args.members.now c.loop-number.number-index 0)) (sym b.same)
    (c.requires.places (get_or c.args.members.now c.loop-number.number-index 0) (c.loop-number.number-index, c.loop-number-test.true, get_or_default c.args.members.now c.loop-number.number-index _ 0 c.loop-number-test.true))

pub loop-number-preserved : goal.loop-number-preserved
loop-number-preserved g c = λ bound same.
    let members = c.args.members.now in
    let i = c.loop-number.number-index in
    let k = get_or members i 0 in
    let within : i < length members = c.loop-number-test.true in
    rw (take_more members i 0 within) (begun_more (g.D.Drawn.calendar c.args.drawn.now) c.is_drawable.ensures (take i members) k bound
    (λ j there same. let less = taken_less members i j c.requires.ascending within there in omega (arith, less, same))
    _ _ _ (g.D.Drawn.coming c.loop-number.drawn) (g.D.Drawn.coming c.begin.new.self) (g.D.Drawn.coming c.push_next.new.drawn) _ _ _ _ _ _ (negsuc 9223372036854775807) (omega (arith, ints))
    (c.loop-number.invariant bound same) c.begin.ensures.calendar c.begin.ensures.count
    (λ a at. subst (λ (b : ℤ). (s e : ℤ) → g.D.Drawn.coming c.begin.new.self k s e ↔ IsSpanBetween a (negsuc 9223372036854775807) b s e) (sym same) (c.begin.ensures.coming a at))
    c.begin.ensures.others c.in_ok-push_next.ensures.calendar c.in_ok-push_next.ensures.next c.in_ok-push_next.ensures.others c.in_ok-push_next.ensures.order)

pub push_next-requires : goal.push_next-requires
push_next-requires g c =
    let b = c.loop-number.invariant _ refl in
    subst (λ (all : Confirmed). IsPlaceIn (length all.series) (get_or c.args.members.now c.loop-number.number-index 0)) (sym (c.begin.ensures.calendar ∙ b.same))
    (c.requires.places (get_or c.args.members.now c.loop-number.number-index 0) (c.loop-number.number-index, c.loop-number-test.true, get_or_default c.args.members.now c.loop-number.number-index _ 0 c.loop-number-test.true))

pub returns-in_err-push_next-clause-calendar : goal.returns-in_err-push_next-clause-calendar
returns-in_err-push_next-clause-calendar g c = c.push_next.ensures.calendar ∙ c.begin.ensures.calendar ∙ (c.loop-number.invariant _ refl).same

pub loop-next-init : goal.loop-next-init
loop-next-init g c = λ bound same.
    let members = c.args.members.now in
    group_first (g.D.Drawn.calendar c.args.drawn.now) c.is_drawable.ensures members bound _ (g.D.Drawn.coming c.loop-number.drawn) _ _ _
    (rw (take_all c.loop-number.number-index members c.loop-number-test.false) at (c.loop-number.invariant bound same))

pub returns-then-meets-clause-calendar : goal.returns-then-meets-clause-calendar
returns-then-meets-clause-calendar g c = (c.loop-next.invariant _ refl).same

pub returns-then-meets-clause-clash : goal.returns-then-meets-clause-clash
returns-then-meets-clause-clash g c =
    let fits : FitsSigned w64 c.args.bound = search rules in
    group_found (g.D.Drawn.calendar c.args.drawn.now) c.is_drawable.ensures c.args.members.now c.requires.places c.args.bound _ _ _ _ _ _ (c.loop-next.invariant c.args.bound (sym (to_z-of_z fits)))
    c.in-Some.field-0 _ c.in-Some.ensures.permutation (subst (MeetsLast c.loop-next.last) c.span-span.ensures c.if-meets.ensures)

pub returns-then-meets-clause-count : goal.returns-then-meets-clause-count
returns-then-meets-clause-count g c =
    let fits : FitsSigned w64 c.args.bound = search rules in
    group_some (g.D.Drawn.calendar c.args.drawn.now) c.is_drawable.ensures c.args.members.now c.requires.places c.args.bound _ _ _ _ _ _ (c.loop-next.invariant c.args.bound (sym (to_z-of_z fits)))
    c.in-Some.field-0 _ c.in-Some.ensures.permutation

pub push_next-requires-in-Some : goal.push_next-requires-in-Some
push_next-requires-in-Some g c =
    let at = c.loop-next.invariant _ refl in
    subst (λ (all : Confirmed). IsPlaceIn (length all.series) c.in-Some.field-0.0.series) (sym at.same)
    (c.requires.places c.in-Some.field-0.0.series (popped_member (g.D.Drawn.calendar c.args.drawn.now) c.is_drawable.ensures c.args.members.now c.requires.places _ _ _ _ _ _ _ at c.in-Some.field-0 _ c.in-Some.ensures.permutation))

pub loop-next-smaller : goal.loop-next-smaller
loop-next-smaller g c =
    let l = group_fewer (g.D.Drawn.calendar c.args.drawn.now) c.is_drawable.ensures c.args.members.now c.requires.places _ _ (g.D.Drawn.coming c.loop-next.drawn) _ _ _ _ (c.loop-next.invariant _ refl)
    c.in-Some.field-0 _ c.in-Some.ensures.permutation (g.D.Drawn.coming c.push_next-in-Some.new.drawn) _ _ c.in_ok-push_next-2.ensures.next in
    omega (arith, l)

pub loop-next-preserved : goal.loop-next-preserved
loop-next-preserved g c = λ bound same.
    group_past (g.D.Drawn.calendar c.args.drawn.now) c.is_drawable.ensures c.args.members.now c.requires.places bound _ (g.D.Drawn.coming c.loop-next.drawn) _ _ _ _ (c.loop-next.invariant bound same)
    c.in-Some.field-0 _ c.in-Some.ensures.permutation (g.D.Drawn.coming c.push_next-in-Some.new.drawn) _ _ c.in_ok-push_next-2.ensures.next c.in-Some.ensures.heap_order c.requires.ascending
    (subst (SharesWithNone c.loop-next.last) c.span-span.ensures c.if-meets.ensures) c.later_end.result (subst (λ (x : Span). IsLaterEnd c.loop-next.last x c.later_end.result) c.span-span.ensures c.later_end.ensures) _ c.in_ok-push_next-2.ensures.calendar c.in_ok-push_next-2.ensures.others c.in_ok-push_next-2.ensures.order

pub returns-in_err-push_next-2-clause-calendar : goal.returns-in_err-push_next-2-clause-calendar
returns-in_err-push_next-2-clause-calendar g c = c.push_next-in-Some.ensures.calendar ∙ (c.loop-next.invariant _ refl).same

pub returns-clause-calendar : goal.returns-clause-calendar
returns-clause-calendar g c = (c.loop-next.invariant _ refl).same

pub returns-clause-clash : goal.returns-clause-clash
returns-clause-clash g c =
    let empty = none_left (heap_items c.loop-next.coming) (sym c.loop-next.coming.data.ok.0 ∙ c.in_default.ensures.none) in
    let fits : FitsSigned w64 c.args.bound = search rules in
    group_clear (g.D.Drawn.calendar c.args.drawn.now) c.is_drawable.ensures c.args.members.now c.requires.places c.args.bound _ _ _ _ _ _ (c.loop-next.invariant c.args.bound (sym (to_z-of_z fits))) empty

pub returns-clause-count : goal.returns-clause-count
returns-clause-count g c =
    let empty = none_left (heap_items c.loop-next.coming) (sym c.loop-next.coming.data.ok.0 ∙ c.in_default.ensures.none) in
    let fits : FitsSigned w64 c.args.bound = search rules in
    group_all (g.D.Drawn.calendar c.args.drawn.now) c.is_drawable.ensures c.args.members.now c.requires.places c.args.bound _ _ _ _ _ _ (c.loop-next.invariant c.args.bound (sym (to_z-of_z fits))) empty
