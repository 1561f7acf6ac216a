use Rattle.std.proofs.Common.{get_or, subst, take, inl, inr, ap, arith}
use Rattle.std.proofs.lemmas.List.{get_or_default}
use Rattle.std.proofs.lemmas.Option.{slice_get_within}
use Rattle.room_books.specs.Meeting.{Recurs}
use Rattle.room_books.specs.Recurring.{AreBeside}
use Rattle.room_books.specs.declared.recurring.Recurring.{Recurring}
use Rattle.room_books.proofs.shared_lemmas.Recurrings.{at_place, clear_to_more}
use Rattle.room_books.proofs.recurring.clash_from.Goals as goal

pub loop-place-init : goal.loop-place-init
loop-place-init c = λ place r first last at. absurd (omega (arith, first, last))

pub returns-in-Some : goal.returns-in-Some
returns-in-Some c =
    let d = c.index-all-place-in-loop-place.result in (
      c.loop-place.place,
      get_or c.args.all.now c.loop-place.place d,
      c.loop-place.auto.place,
      record { at = at_place c.args.all.now c.loop-place.place d c.loop-place-test.true; found = inl (subst (AreBeside (Recurs (get_or c.args.all.now c.loop-place.place d).series.now) (take c.loop-place.place c.args.all.now)) c.in-Some.is c.in_ok-shared.ensures) },
    )

pub returns-in-Some-alone : goal.returns-in-Some-alone
returns-in-Some-alone c =
    let d = c.index-all-place-in-loop-place.result in (
      c.loop-place.place,
      get_or c.args.all.now c.loop-place.place d,
      c.loop-place.auto.place,
      record {
        at = at_place c.args.all.now c.loop-place.place d c.loop-place-test.true;
        found = inr (c.in-Some-alone.ensures, ap (λ (r : Recurring). r.key.now) (get_or_default c.args.all.now c.loop-place.place c.index-all-place.result d c.loop-place-test.true));
      },
    )

pub loop-place-preserved : goal.loop-place-preserved
loop-place-preserved c =
    let d = c.index-all-place-in-loop-place.result in
    clear_to_more c.args.all.now c.args.from c.loop-place.place d c.loop-place-test.true
    (subst (AreBeside (Recurs (get_or c.args.all.now c.loop-place.place d).series.now) (take c.loop-place.place c.args.all.now)) c.in_default.is c.in_ok-shared.ensures) c.in_default-alone.ensures c.loop-place.invariant

pub returns : goal.returns
returns c = λ place r first at. c.loop-place.invariant place r first (let w = slice_get_within c.args.all.now place r at in let e = c.loop-place-test.false in omega (arith, w, e)) at
