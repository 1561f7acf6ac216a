-- The loops of a change: what a place confirmed is taken out, one after another, and then what it confirms is put in.
-- Cited by Timeline::change, Timeline::put_all, Timeline::take_all.
use Rattle.std.proofs.Common.{◌≡◌, ℕ, ℤ, zero, suc, ◌+◌, ◌<◌, ◌≤◌, Bool, true, false, ◌&&◌, ◌||◌, List, [], ◌∷◌, ◌++◌, inl, inr, length, get_or, drop, refl, sym, ap, ◌∙◌, subst, arith, length-append}
use Rattle.std.specs.Prelude.{◌==◌, ◌≢◌}
use Rattle.std.proofs.lemmas.Bool.{and_parts, cases_Bool, both_ways, eq-eqb, eqb-true}
use Rattle.std.proofs.lemmas.List.{drop-append-le, drop_all}
use Rattle.std.proofs.lemmas.List.Folds.{list_any-append}
use Rattle.cal_events.specs.declared.sweep.Span.{Span}
use Rattle.room_books.specs.declared.timeline.Busy.{Busy}
use Rattle.std.specs.List.{Contains}
use Rattle.std.specs.Vec.{vec_len, vec_capacity}
use Rattle.std.proofs.Math.Seq.{drop-cons}
use Rattle.itip_order.proofs.Lists.{in_tail}
use Rattle.cal_events.specs.declared.instance.Single.{Single}
use Rattle.room_books.specs.declared.timeline.Timeline.{Timeline}
use Rattle.room_books.specs.Gone.{AreSeparate, HaveInstant}
use Rattle.room_books.specs.Timeline.{busy_in, has_busy, has_single, same_single, holds_instants, HoldsInstants, AreAt, IsFreeAmong, IsFreeBut, IsChanged, IsTakenOut, IsPut}
use Rattle.room_books.proofs.timeline_lemmas.Timelines.{IsPutting, unchanged, take_held, putting_last, has_at, has_from, single_at, separate_once, take_step, put_step, free_step, later_apart}

-- those left are there still, and this many were taken out
pub record IsTaking (place : ℕ) (left : List Single) (count : ℕ) (old new : Timeline) : Type 0 where
  pub changed : IsChanged place left old.busy.items new.busy.items
  pub confirmed : new.confirmed + count ≡ old.confirmed
  pub len : vec_len new.busy ≤ vec_len old.busy
  pub capacity : vec_capacity new.busy ≡ vec_capacity old.busy

-- those left are still to be put in, and this many were
pub record ArePut (place : ℕ) (left all : List Single) (count : ℕ) (old new : Timeline) : Type 0 where
  pub putting : (kept : List Single) → AreAt place kept old.busy.items → IsPutting place left (kept ++ all) old.busy.items new.busy.items
  pub free : (s : Single) → Contains left s → IsFreeAmong new.busy.items s.span
  pub confirmed : new.confirmed ≡ old.confirmed + count
  pub room : vec_len new.busy + length all ≤ vec_capacity new.busy + count

suc_is : (k : ℕ) → suc k ≡ k + 1
suc_is k = omega arith

-- one more is taken out
pub taking_more : (place : ℕ) (xs : List Single) (k : ℕ) (d : Single) (old mid new : Timeline) → k < length xs → AreSeparate xs → IsTaking place (drop k xs) k old mid
    → IsTakenOut (busy_in place (get_or xs k d)) mid.busy.items new.busy.items → new.confirmed + 1 ≡ mid.confirmed → vec_len new.busy ≤ vec_len mid.busy → vec_capacity new.busy ≡ vec_capacity mid.busy
    → IsTaking place (drop (k + 1) xs) (k + 1) old new
taking_more place xs k d old mid new within separate taking taken confirmed len capacity = subst (λ (n : ℕ). IsTaking place (drop n xs) n old new) (suc_is k) record {
  changed = take_step place (get_or xs k d) (drop (suc k) xs) old.busy.items mid.busy.items new.busy.items (separate_once xs k d separate within)
      (subst (λ (l : List Single). IsChanged place l old.busy.items mid.busy.items) (drop-cons xs k d within) taking.changed) taken;
  confirmed = (let c = taking.confirmed in omega (arith, c, confirmed));
  len = (let l = taking.len in omega (arith, l, len));
  capacity = capacity ∙ taking.capacity;
}

-- one more is put in
pub putting_more : (place : ℕ) (xs : List Single) (k : ℕ) (d : Single) (old mid new : Timeline) → k < length xs → AreSeparate xs → ArePut place (drop k xs) xs k old mid
    → IsPut (busy_in place (get_or xs k d)) mid.busy.items new.busy.items → new.confirmed ≡ mid.confirmed + 1 → vec_len new.busy ≤ vec_len mid.busy + 1 → vec_capacity mid.busy ≤ vec_capacity new.busy
    → ArePut place (drop (k + 1) xs) xs (k + 1) old new
putting_more place xs k d old mid new within separate before put confirmed len capacity = subst (λ (n : ℕ). ArePut place (drop n xs) xs n old new) (suc_is k) record {
  putting = λ kept held. put_step place (get_or xs k d) (drop (suc k) xs) (kept ++ xs) old.busy.items mid.busy.items new.busy.items
      (subst (λ (l : List Single). IsPutting place l (kept ++ xs) old.busy.items mid.busy.items) (drop-cons xs k d within) (before.putting kept held)) put;
  free = λ s c. free_step place (get_or xs k d) mid.busy.items new.busy.items s.span put
      (before.free s (subst (λ (l : List Single). Contains l s) (sym (drop-cons xs k d within)) (in_tail (get_or xs k d) (drop (suc k) xs) s c)))
      (later_apart xs k d separate within s c);
  confirmed = (let c = before.confirmed in omega (arith, c, confirmed));
  room = (let r = before.room in omega (arith, r, len, capacity));
}

-- ---- some go, some are kept, some are added

-- those that go and aren't taken out yet, and those that are kept, are there
abbrev pub IsTakingSome : ℕ → List Single → ℕ → Timeline → Timeline → Type 0
IsTakingSome place gone k old new = (kept : List Single) → AreAt place (gone ++ kept) old.busy.items → AreSeparate (gone ++ kept) → IsTaking place (drop k (gone ++ kept)) k old new

get_or_left : (xs ys : List Single) (k : ℕ) (d : Single) → k < length xs → get_or (xs ++ ys) k d ≡ get_or xs k d
get_or_left [] ys k d h = absurd (omega (arith, h))
get_or_left (x ∷ xs) ys zero d h = refl
get_or_left (x ∷ xs) ys (suc k) d h = get_or_left xs ys k d (omega (arith, h))

pub taking_none : (place : ℕ) (gone : List Single) (old : Timeline) → IsTakingSome place gone 0 old old
taking_none place gone old kept held apart = record {
  changed = unchanged place (gone ++ kept) old.busy.items held;
  confirmed = omega arith;
  len = omega arith;
  capacity = refl;
}

-- the next is there
pub next_there : (place : ℕ) (gone kept : List Single) (k : ℕ) (d : Single) (old mid : Timeline) → k < length gone → IsTaking place (drop k (gone ++ kept)) k old mid
    → HoldsInstants (get_or gone k d).span → has_busy (busy_in place (get_or gone k d)) mid.busy.items ≡ true
next_there place gone kept k d old mid within taking holds =
    let all = gone ++ kept in
    let far : k < length all = omega (arith, within, length-append gone kept) in
    let next : get_or all k d ≡ get_or gone k d = get_or_left gone kept k d within in
    let left = subst (λ (l : List Single). IsChanged place l old.busy.items mid.busy.items) (drop-cons all k d far ∙ ap (λ (s : Single). s ∷ drop (suc k) all) next) taking.changed in
    take_held place (get_or gone k d) (drop (suc k) all) old.busy.items mid.busy.items mid.busy.items left holds

pub taking_next : (place : ℕ) (gone : List Single) (k : ℕ) (d : Single) (old mid new : Timeline) → k < length gone → IsTakingSome place gone k old mid
    → IsTakenOut (busy_in place (get_or gone k d)) mid.busy.items new.busy.items → new.confirmed + 1 ≡ mid.confirmed → vec_len new.busy ≤ vec_len mid.busy → vec_capacity new.busy ≡ vec_capacity mid.busy
    → IsTakingSome place gone (k + 1) old new
taking_next place gone k d old mid new within before taken confirmed len capacity kept held apart =
    let all = gone ++ kept in
    let next : get_or all k d ≡ get_or gone k d = get_or_left gone kept k d within in
    taking_more place all k d old mid new (omega (arith, within, length-append gone kept)) apart (before kept held apart)
    (subst (λ (s : Single). IsTakenOut (busy_in place s) mid.busy.items new.busy.items) (sym next) taken) confirmed len capacity

pub taken_all : (place : ℕ) (gone : List Single) (k : ℕ) (old new : Timeline) → k ≤ length gone → length gone ≤ k → IsTakingSome place gone k old new
    → (kept : List Single) → AreAt place (gone ++ kept) old.busy.items → AreSeparate (gone ++ kept) → IsChanged place kept old.busy.items new.busy.items
taken_all place gone k old new e f before kept held apart =
    subst (λ (l : List Single). IsChanged place l old.busy.items new.busy.items) (drop-append-le k gone kept e ∙ ap (λ l. l ++ kept) (drop_all k gone f)) (before kept held apart).changed

-- before the first is put in
pub putting_none : (place : ℕ) (kept added : List Single) (old : List Busy) → AreAt place kept old → IsPutting place added (kept ++ added) old old
putting_none place kept added old held = record {
  own = λ x e. ap (λ b. b || (holds_instants x.single.span && has_single x.single added)) (held x e)
      ∙ spread (holds_instants x.single.span) (has_single x.single kept) (has_single x.single added)
      ∙ ap (λ b. holds_instants x.single.span && b) (sym (list_any-append (same_single x.single) kept added));
  others = λ x n. refl;
}
  where
    spread : (h a b : Bool) → ((h && a) || (h && b)) ≡ (h && (a || b))
    spread true a b = refl
    spread false a b = refl

-- after the last
pub put_more : (place : ℕ) (added : List Single) (k : ℕ) (old new : Timeline) → length added ≤ k → ArePut place (drop k added) added k old new
    → (kept : List Single) → AreAt place kept old.busy.items → IsChanged place (kept ++ added) old.busy.items new.busy.items
put_more place added k old new e before kept held =
    putting_last place (kept ++ added) old.busy.items new.busy.items
    (subst (λ (l : List Single). IsPutting place l (kept ++ added) old.busy.items new.busy.items) (drop_all k added e) (before.putting kept held))

-- what is free beside the meeting, and apart from what it keeps, is free where the rest is gone
pub free_beside : (place : ℕ) (kept : List Single) (old mid : List Busy) (span : Span) → IsChanged place kept old mid → IsFreeBut place old span → ((s : Single) (t : ℤ) → Contains kept s → HaveInstant s.span span t → ⊥) → IsFreeAmong mid span
free_beside place kept old mid span changed free apart b t c h = elim (cases_Bool (b.place == place)) [
  | inl own ↦
      let among = and_parts _ _ (sym (changed.own b (eqb-true b.place place own)) ∙ has_from mid b c) in
      apart b.single t (single_at kept b.single among.1) (record { in_first = h.in_second; in_second = h.in_first; before = h.before })
  | inr other ↦ (
      let n : b.place ≢ place = λ e. both_ways _ other (eq-eqb b.place place e) in
      free b t (has_at old b (sym (changed.others b n) ∙ has_from mid b c)) n h)
]
