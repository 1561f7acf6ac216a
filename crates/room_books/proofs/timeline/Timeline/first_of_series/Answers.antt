use Rattle.std.proofs.Common.{◌∙◌, ◌≤◌, List, length, get_or, pos, subst, sym}
use Rattle.std.proofs.lemmas.Bool.{both_ways}
use Rattle.std.proofs.lemmas.List.Elements.{Contains-get_or}
use Rattle.std.specs.Prelude.{Contains}
use Rattle.room_books.specs.declared.timeline.Busy.{Busy}
use Rattle.room_books.specs.Timeline.{is_leaving}
use Rattle.room_books.specs.Meeting.{Recurs}
use Rattle.room_books.proofs.shared_lemmas.Recurrings.{first_shared, holds_all, more_lent, none_shared, overlap_turned, turned}
use Rattle.room_books.proofs.timeline_lemmas.Timelines.{IsNoneTaken}
use Rattle.room_books.proofs.timeline.Timeline.first_of_series.Goals as goal

abbrev nothing : Busy
nothing = record { single = record { slot = pos 0; span = record { start = pos 0; end = pos 0 } }; place = 0 }

pub returns-in-Some : goal.returns-in-Some
returns-in-Some c =
    let b = get_or c.deref-busy-items.result.now c.loop-busy.busy-index nothing in
    let f = first_shared c.args.series.now b.single.span c.first_sharer.result c.in-Some.instance c.as_single.result c.first_sharer.ensures c.in-Some.is
    c.as_single.ensures.slot c.as_single.ensures.start c.as_single.ensures.end in (
      f.0,
      (
        subst (λ (l : List Busy). Contains l b) c.deref-busy-items.ensures.value (Contains-get_or c.deref-busy-items.result.now c.loop-busy.busy-index nothing c.loop-busy-test.true),
        (sym c.is_gone.ensures ∙ c.if-is_gone.false),
        overlap_turned b.single.span c.as_single.result.span f.1,
      ),
    )

pub loop-busy-preserved-then-is_gone : goal.loop-busy-preserved-then-is_gone
loop-busy-preserved-then-is_gone c =
    let P = IsNoneTaken (is_leaving c.args.own c.args.gone.now) (Recurs c.args.series.now) in
    more_lent P c.args.self.now.busy.items c.deref-busy-items.result.now c.deref-busy-items.ensures.value c.loop-busy.busy-index nothing c.loop-busy-test.true
    (λ s t is stays h. both_ways _ stays (sym c.is_gone.ensures ∙ c.if-is_gone.true)) c.loop-busy.invariant

pub loop-busy-preserved : goal.loop-busy-preserved
loop-busy-preserved c =
    let P = IsNoneTaken (is_leaving c.args.own c.args.gone.now) (Recurs c.args.series.now) in
    let b = get_or c.deref-busy-items.result.now c.loop-busy.busy-index nothing in
    more_lent P c.args.self.now.busy.items c.deref-busy-items.result.now c.deref-busy-items.ensures.value c.loop-busy.busy-index nothing c.loop-busy-test.true
    (λ s t is stays h. none_shared c.args.series.now b.single.span c.first_sharer.result c.first_sharer.ensures c.in_default.is s t is (turned s.span b.single.span t h)) c.loop-busy.invariant

pub returns : goal.returns
returns c = λ s is b t among stays h.
    holds_all (IsNoneTaken (is_leaving c.args.own c.args.gone.now) (Recurs c.args.series.now)) c.args.self.now.busy.items c.loop-busy.busy-index
    (subst (λ (l : List Busy). length l ≤ c.loop-busy.busy-index) c.deref-busy-items.ensures.value c.loop-busy-test.false) c.loop-busy.invariant b among s t is stays h
