-- Series that are left of others, without some of their instances.
-- Cited by without_hidden of series, Views::kept of taking, left_at of taking.
use Rattle.std.proofs.Common.{◌≡◌, ℤ, List, [], ◌∷◌, ◌++◌, inl, inr, sym, subst, arith, length-append}
use Rattle.std.specs.List.{Contains}
use Rattle.std.specs.Option.{option_to_list}
use Rattle.std.proofs.lemmas.Grind.{flat_map-append}
use Rattle.std.proofs.lemmas.List.Elements.{Contains-append_left, Contains-append_right, Contains-append_cases}
use Rattle.itip_order.proofs.Lists.{in_cons, in_head, none_in_nil}
use Rattle.cal_events.specs.Series.{series_said, IsSeriesWithout}
use Rattle.cal_events.specs.declared.series.Series.{Series}
use Rattle.cal_events.specs.declared.instance.Single.{Single}
use Rattle.room_books.specs.Slots.{Reordered}
use Rattle.room_books.specs.Meeting.{all_series, AreFewer, Recurs}
use Rattle.room_books.specs.declared.meeting.PartAnswer.{PartAnswer}
use Rattle.itip_messages.proofs.shared_lemmas.WrittenLines.{flat_push}
use Rattle.room_books.proofs.shared_lemmas.Reordering.{re_back, re_flat, re_in, re_length, re_swapped}
use Rattle.room_books.specs.Slots.Reordered.{re_then}

pub fewer_none : (before : List Series) → AreFewer before []
fewer_none before = record { shorter = omega arith; within = λ single r. absurd (none_in_nil r.0 r.1) }

pub fewer_same : (before : List Series) → AreFewer before before
fewer_same before = record { shorter = omega arith; within = λ single r. r }

pub fewer_both : (a b c d : List Series) → AreFewer a b → AreFewer c d → AreFewer (a ++ c) (b ++ d)
fewer_both a b c d f g = record {
  shorter = let x = f.shorter in let y = g.shorter in let p = length-append a c in let q = length-append b d in omega (arith, x, y, p, q);
  within = λ single r. elim (Contains-append_cases b d r.0 r.1) [
    | inl first ↦ let was = f.within single (r.0, first, r.2) in (was.0, Contains-append_left a c was.0 was.1, was.2)
    | inr second ↦ let was = g.within single (r.0, second, r.2) in (was.0, Contains-append_right a c was.0 was.1, was.2)
  ];
}

-- one without its instances at some starts
pub fewer_one : (series left : Series) (starts : List ℤ) → IsSeriesWithout (series_said series) starts (series_said left) → AreFewer (series ∷ []) (left ∷ [])
fewer_one series left starts is = record {
  shorter = omega arith;
  within = λ single r. (
    series,
    in_head series [],
    recurs single (subst (λ (s : Series). Recurs s single) (sym (only r.0 r.1)) r.2),
  );
}
  where
    only : (s : Series) → Contains (left ∷ []) s → left ≡ s
    only s c = elim (in_cons left [] s c) [ inl here ↦ here | inr none ↦ absurd (none_in_nil s none) ]

    recurs : (single : Single) → Recurs left single → Recurs series single
    recurs single r = record { booked = r.booked; is = ((is.instances r.booked).0 r.is).0; slot = r.slot; span = r.span }

-- ---- of answers

-- one more answer
pub one_fewer : (done : List PartAnswer) (given : PartAnswer) (left kept kept' : List Series) → AreFewer (option_to_list given.series) left → kept' ≡ kept ++ left
    → AreFewer (all_series done) kept → AreFewer (all_series (done ++ given ∷ [])) kept'
one_fewer done given left kept kept' f e all =
    subst (λ (l : List Series). AreFewer l kept') (sym (flat_push (λ (x : PartAnswer). option_to_list x.series) done given))
    (subst (AreFewer (all_series done ++ option_to_list given.series)) (sym e) (fewer_both (all_series done) kept (option_to_list given.series) left all f))

pub fewer_reordered : (xs ys after : List Series) → Reordered xs ys → AreFewer ys after → AreFewer xs after
fewer_reordered xs ys after same f = record {
  shorter = let h = f.shorter in let n = re_length xs ys same in omega (arith, h, n);
  within = λ single r. let was = f.within single r in (was.0, re_in ys xs (re_back xs ys same) was.0 was.1, was.2);
}

-- what is left of some answers, beside others that stay
pub all_fewer : (answers out others left : List PartAnswer) → Reordered answers (out ++ others) → AreFewer (all_series out) (all_series left) → AreFewer (all_series answers) (all_series (others ++ left))
all_fewer answers out others left same f =
    let g : PartAnswer → List Series = λ x. option_to_list x.series in
    let turned : Reordered answers (others ++ out) = re_then answers (out ++ others) (others ++ out) same (re_swapped out others) in
    subst (AreFewer (all_series answers)) (sym (flat_map-append g others left))
    (fewer_reordered (all_series answers) (all_series others ++ all_series out) (all_series others ++ all_series left)
    (subst (Reordered (all_series answers)) (flat_map-append g others out) (re_flat g answers (others ++ out) turned))
    (fewer_both (all_series others) (all_series others) (all_series out) (all_series left) (fewer_same (all_series others)) f))
