use Rattle.std.proofs.Common.{◌∙◌, refl, subst, sym}
use Rattle.cal_events.specs.Calendar.{instance_of}
use Rattle.cal_events.specs.Series.{series_said}
use Rattle.cal_period.specs.Onward.{IsSharedByPair}
use Rattle.room_books.specs.Meeting.{Recurs}
use Rattle.room_books.proofs.shared_lemmas.Recurrings.{AreFreeOf, holds_all, holds_more, none_of_pair, overlap_start, recurs_as, span_as}
use Rattle.room_books.proofs.recurring.clash_with.Goals as goal

pub returns-in-Some : goal.returns-in-Some
returns-in-Some c =
    let s = c.args.series.now in let r = c.recurring-item.result in
    let found = subst (λ e. IsSharedByPair e (series_said r.series.now) c.in_ok-asked.field-0) c.loop-recurring.invariant.0 c.in_ok-asked.ensures.found in
    let pair = subst (IsSharedByPair (series_said s) (series_said r.series.now)) c.in-Some.is found in
    let a = instance_of c.in-Some.asked in let b = instance_of c.in-Some.booked in
    let x = c.as_single.ensures in let y = c.as_single-in-Some.ensures in (
      recurs_as s a c.as_single.result pair.first x.slot x.start x.end,
      record {
        recurring = r;
        among = (c.loop-recurring.recurring-index, c.loop-recurring-test.true, sym c.recurring-item.is);
        of = refl;
        is = recurs_as r.series.now b c.as_single-in-Some.result pair.second y.slot y.start y.end;
      },
      overlap_start c.as_single.result.span c.as_single-in-Some.result.span a b (span_as a c.as_single.result x.start x.end) (span_as b c.as_single-in-Some.result y.start y.end) pair.shared,
    )

pub loop-recurring-preserved : goal.loop-recurring-preserved
loop-recurring-preserved c =
    let s = c.args.series.now in let r = c.recurring-item.result in
    let found = subst (λ e. IsSharedByPair e (series_said r.series.now) c.in_ok-asked.field-0) c.loop-recurring.invariant.0 c.in_ok-asked.ensures.found in
    let clear = subst (IsSharedByPair (series_said s) (series_said r.series.now)) c.in_default.is found in (
      c.clash_with.ensures.same ∙ c.loop-recurring.invariant.0,
      holds_more (AreFreeOf (Recurs s)) c.args.all.now c.loop-recurring.recurring-index r c.loop-recurring-test.true
          (subst (AreFreeOf (Recurs s)) c.recurring-item.is (λ x is y t other h. none_of_pair s r.series.now clear x y t is other h)) c.loop-recurring.invariant.1,
    )

pub returns : goal.returns
returns c = λ single is r other t among.
    holds_all (AreFreeOf (Recurs c.args.series.now)) c.args.all.now c.loop-recurring.recurring-index c.loop-recurring-test.false c.loop-recurring.invariant.1 r among single is other t
