-- What the sweep finds of the spans is of the instances.
use Rattle.std.proofs.Common.{Option, ◌∙◌, get_or, pos, refl, subst}
use Rattle.std.specs.Prelude.{IfSome, IfNone}
use Rattle.cal_events.specs.declared.instance.Single.{Single}
use Rattle.cal_events.specs.declared.sweep.Overlap.{Overlap}
use Rattle.cal_events.specs.Sweep.{AreSpansApart, IsOverlap}
use Rattle.room_books.proofs.decide_lemmas.Deciding.{apart_separate, among, first_within, place_in, second_within, slots_differ, overlap_is}
use Rattle.room_books.proofs.decide.own_overlap.Goals as goal

pub returns-in_default : goal.returns-in_default
returns-in_default c =
    apart_separate c.args.wanted.now c.deref.result.now (c.deref.ensures.value ∙ c.in_ok-spans.ensures)
    (subst (λ (o : Option Overlap). IfNone o (AreSpansApart c.deref.result.now)) c.in_default.is c.in_ok-overlap.ensures.none)

pub returns : goal.returns
returns c =
    let singles = c.args.wanted.now in
    let spans = c.deref.result.now in
    let are = c.deref.ensures.value ∙ c.in_ok-spans.ensures in
    let found = subst (λ (o : Option Overlap). IfSome o (IsOverlap spans)) c.in-Some.is c.in_ok-overlap.ensures.found in
    let overlap = c.in-Some.overlap in
    let d : Single = record { slot = pos 0; span = record { start = pos 0; end = pos 0 } } in
    let first = get_or singles overlap.first d in
    let second = get_or singles overlap.second d in
    let first_at = place_in singles overlap.first first d (first_within singles spans are overlap found) refl in
    let second_at = place_in singles overlap.second second d (second_within singles spans are overlap found) refl in
    let both = among singles spans are overlap found first second first_at second_at in (
      both.0,
      both.1,
      slots_differ singles spans are overlap found first second first_at second_at,
      overlap_is singles spans are overlap found first second first_at second_at,
    )
