-- Texts that are in one, one after another: each is a text, at its place, and one more at the end.
-- Cited by Texts::at, Texts::len, Texts::push.
use Rattle.std.proofs.Common.{◌≡◌, ◌∙◌, ℕ, zero, suc, ◌-◌, ◌<◌, ◌≤◌, true, List, [], ◌∷◌, ◌++◌, length, get_or, take, drop, refl, sym, ap, subst, arith}
use Rattle.std.specs.Prelude.{◌==◌, nat_le, slice_range}
use Rattle.std.specs.Str.{IsUtf8, IsCharBoundary}
use Rattle.std.proofs.lemmas.Bool.{and_parts, and_from}
use Rattle.std.proofs.lemmas.Bool.Decides.{nat_tests}
use Rattle.std.proofs.lemmas.List.{drop_all, drop_at, take-append-le, drop-append-le, take_all, length-append, length-drop}
use Rattle.std.proofs.lemmas.List.Folds.{drop_split}
use Rattle.std.proofs.lemmas.Str.{IsUtf8-append, IsUtf8-nil, IsUtf8-from_is_utf8, is_utf8-from_IsUtf8, IsCharBoundary-from_drop}
use Rattle.cal_events.specs.Texts.{pieces_between, is_piece, are_pieces}

-- ---- each is a text

at_most : (a b : ℕ) → nat_le a b ≡ true → a ≤ b
at_most a b h = grind (arith, nat_tests, h)

same_number : (a b : ℕ) → (a == b) ≡ true → a ≡ b
same_number a b h = grind (arith, nat_tests, h)

equal_number : (a : ℕ) → (a == a) ≡ true
equal_number a = grind (arith, nat_tests)

piece_is : (joined : List ℕ) (start end : ℕ) → is_piece joined start end ≡ true → (start ≤ end) × (end ≤ length joined) × IsUtf8 (slice_range joined start end)
piece_is joined start end h =
    let p = and_parts (nat_le start end) _ h in
    let q = and_parts (nat_le end (length joined)) _ p.1 in
    (at_most start end p.0, at_most end (length joined) q.0, IsUtf8-from_is_utf8 _ q.1)

start_in : (joined : List ℕ) (start : ℕ) (ends : List ℕ) → are_pieces joined start ends ≡ true → start ≤ length joined
start_in joined start [] h = let e = same_number start (length joined) h in omega (arith, e)
start_in joined start (end ∷ ends) h =
    let p = piece_is joined start end (and_parts (is_piece joined start end) _ h).0 in
    omega (arith, p.0, p.1)

rest_is : (joined : List ℕ) (start : ℕ) (ends : List ℕ) → are_pieces joined start ends ≡ true → IsUtf8 (drop start joined)
rest_is joined start [] h = subst IsUtf8 (sym (drop_all start joined (let e = same_number start (length joined) h in omega (arith, e)))) IsUtf8-nil
rest_is joined start (end ∷ ends) h =
    let a = and_parts (is_piece joined start end) _ h in
    let p = piece_is joined start end a.0 in
    subst IsUtf8 (sym (drop_split joined start end p.0)) (IsUtf8-append _ _ p.2 (rest_is joined end ends a.1))

start_cut : (joined : List ℕ) (start : ℕ) (ends : List ℕ) → are_pieces joined start ends ≡ true → IsCharBoundary joined start
start_cut joined start ends h = IsCharBoundary-from_drop joined start (start_in joined start ends h) (rest_is joined start ends h)

pub count : (joined : List ℕ) (start : ℕ) (ends : List ℕ) → length (pieces_between joined start ends) ≡ length ends
count joined start [] = refl
count joined start (end ∷ ends) = ap suc (count joined end ends)

pub place_in : (joined : List ℕ) (ends : List ℕ) (all : List (List ℕ)) (k : ℕ) → pieces_between joined 0 ends ≡ all → k < length all → k < length ends
place_in joined ends all k e w = let n = count joined 0 ends in let m = ap length e in omega (arith, w, n, m)

-- ---- the one at a place

pub record IsPieceAt (joined : List ℕ) (start : ℕ) (ends : List ℕ) (k : ℕ) : Type 0 where
  pub is : get_or (pieces_between joined start ends) k [] ≡ slice_range joined (get_or (start ∷ ends) k 0) (get_or ends k 0)
  pub order : get_or (start ∷ ends) k 0 ≤ get_or ends k 0
  pub begins : IsCharBoundary joined (get_or (start ∷ ends) k 0)
  pub stops : IsCharBoundary joined (get_or ends k 0)

pub piece_at : (joined : List ℕ) (start : ℕ) (ends : List ℕ) (k : ℕ) → are_pieces joined start ends ≡ true → k < length ends → IsPieceAt joined start ends k
piece_at joined start [] k h w = absurd (omega (arith, w))
piece_at joined start (end ∷ ends) zero h w =
    let a = and_parts (is_piece joined start end) _ h in
    record {
      is = refl;
      order = (piece_is joined start end a.0).0;
      begins = start_cut joined start (end ∷ ends) h;
      stops = start_cut joined end ends a.1;
    }
piece_at joined start (end ∷ ends) (suc k) h w =
    let a = and_parts (is_piece joined start end) _ h in
    let p = piece_at joined end ends k a.1 (omega (arith, w)) in
    record { is = p.is; order = p.order; begins = p.begins; stops = p.stops }

-- ---- one more

module _ (joined more : List ℕ) where
  still : (start end : ℕ) → is_piece joined start end ≡ true → slice_range (joined ++ more) start end ≡ slice_range joined start end
  still start end h =
      let p = piece_is joined start end h in
      ap (take (end - start)) (drop-append-le start joined more (omega (arith, p.0, p.1)))
      ∙ take-append-le (end - start) (drop start joined) more (omega (arith, p.0, p.1, length-drop start joined))

  last_one : (start : ℕ) → start ≡ length joined → slice_range (joined ++ more) start (length (joined ++ more)) ≡ more
  last_one start e =
      ap (take (length (joined ++ more) - start)) (drop_at joined more start (sym e))
      ∙ take_all (length (joined ++ more) - start) more (omega (arith, e, length-append joined more))

  made : (start end : ℕ) → start ≤ end → end ≤ length (joined ++ more) → IsUtf8 (slice_range (joined ++ more) start end) → is_piece (joined ++ more) start end ≡ true
  made start end l w u =
      and_from (nat_le start end) _ (grind (arith, nat_tests, l))
      (and_from (nat_le end (length (joined ++ more))) _ (grind (arith, nat_tests, w)) (is_utf8-from_IsUtf8 _ u))

  pub pushed : (start : ℕ) (ends : List ℕ) → are_pieces joined start ends ≡ true
      → pieces_between (joined ++ more) start (ends ++ length (joined ++ more) ∷ []) ≡ pieces_between joined start ends ++ more ∷ []
  pushed start [] h = ap (λ (p : List ℕ). p ∷ []) (last_one start (same_number start (length joined) h))
  pushed start (end ∷ ends) h =
      let a = and_parts (is_piece joined start end) _ h in
      let e = still start end a.0 in
      let r = pushed end ends a.1 in
      λ i. e i ∷ r i

  pub pushed_are : IsUtf8 more → (start : ℕ) (ends : List ℕ) → are_pieces joined start ends ≡ true
      → are_pieces (joined ++ more) start (ends ++ length (joined ++ more) ∷ []) ≡ true
  pushed_are u start [] h =
      let e = same_number start (length joined) h in
      and_from (is_piece (joined ++ more) start (length (joined ++ more))) _
      (made start (length (joined ++ more)) (omega (arith, e, length-append joined more)) (omega arith) (subst IsUtf8 (sym (last_one start e)) u))
      (equal_number (length (joined ++ more)))
  pushed_are u start (end ∷ ends) h =
      let a = and_parts (is_piece joined start end) _ h in
      let p = piece_is joined start end a.0 in
      and_from (is_piece (joined ++ more) start end) _
      (made start end p.0 (omega (arith, p.1, length-append joined more)) (subst IsUtf8 (sym (still start end a.0)) p.2))
      (pushed_are u end ends a.1)
