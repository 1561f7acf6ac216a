use Rattle.std.proofs.Common.{◌==◌, inl, inr, refl, arith}
use Rattle.std.specs.List.{slice_split}
use Rattle.cal_rules.proofs.Cuts.{all_left, cut_more, cut_done}
use Rattle.cal_rules.proofs.Entered.{none_yet, one_more, is_there_in, too_many, list_read}
use Rattle.cal_rules.proofs.values.read_list.Goals as goal

pub loop-text-init : goal.loop-text-init
loop-text-init g c =
    let all = slice_split (λ x. x == 44) c.args.list.now in
    let s = c.split-text-items.ensures in
    (all, all_left 44 c.args.list.now _ _ (omega arith) s.text s.has_more s.pattern c.into_iter-text-iterator.ensures.into_iter_gives, rw c.new-values.ensures.items (none_yet _ all all refl))

pub returns-in_default-clause-none : goal.returns-in_default-clause-none
returns-in_default-clause-none g c =
    let i = c.loop-text.invariant in
    let more = cut_more c.loop-text.text-iterator c.next.new.self c.in-Some.text i.0 i.1 c.in-Some.ensures.steps in
    inl (c.in-Some.text.now, is_there_in _ _ i.0 more.0 c.in-Some.text.now c.loop-text.values.items i.2 more.1, record { shown = c.in-Some.text; shows = refl; says = record { met = c.in_default.ensures } })

pub loop-text-preserved : goal.loop-text-preserved
loop-text-preserved g c =
    let i = c.loop-text.invariant in
    let more = cut_more c.loop-text.text-iterator c.next.new.self c.in-Some.text i.0 i.1 c.in-Some.ensures.steps in (
      more.0,
      more.2,
      one_more _ _ i.0 more.0 c.in-Some.text.now c.loop-text.values.items c.push.new.self.items c.in-Some-read.value i.2 more.1 (omega (arith, c.len.ensures, c.if-len-eq-MOST.false))
          c.in_ok-push.ensures.items (record { shown = c.in-Some.text; shows = refl; says = record { met = c.in-Some-read.ensures } }),
    )

pub returns-then-len-eq-MOST-clause-none : goal.returns-then-len-eq-MOST-clause-none
returns-then-len-eq-MOST-clause-none g c =
    let i = c.loop-text.invariant in
    let more = cut_more c.loop-text.text-iterator c.next.new.self c.in-Some.text i.0 i.1 c.in-Some.ensures.steps in
    inr (too_many _ _ i.0 more.0 c.in-Some.text.now c.loop-text.values.items i.2 more.1 (omega (arith, c.len.ensures, c.if-len-eq-MOST.true)))

pub returns-clause-reads : goal.returns-clause-reads
returns-clause-reads g c =
    let i = c.loop-text.invariant in
    list_read _ _ i.0 c.loop-text.values.items i.2 (cut_done c.loop-text.text-iterator c.next.new.self i.0 i.1 c.in-None.ensures.steps)
