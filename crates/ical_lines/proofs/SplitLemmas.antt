-- What memchr finds, as the parts that a list is split into.
use Rattle.std.proofs.Common.{◌≡◌, map, ℕ, ◌+◌, ◌-◌, ◌<◌, ◌≤◌, Bool, eqb, None, Some, List, [], ◌∷◌, ◌++◌, length, take, drop, get_or, ap, sym, ◌∙◌, arith}
use Rattle.std.specs.List.{slice_split, position_or_len}
use Rattle.std.proofs.lemmas.List.{get_or_default, take_rest, drop_more, take-append-drop}
use Rattle.std.proofs.lemmas.List.Sums.{position_or_len_is}
use Rattle.std.proofs.lemmas.List.Splits.{slice_split_first, slice_split_none}
use Rattle.std.proofs.lemmas.Bool.{false_from_ne_true}
use Rattle.std.proofs.lemmas.Bool.Decides.{Decides-eqb}
use Rattle.memchr.specs.Find.{IsFirstByte, is_byte}
use Rattle.profile.specs.text.Lines.{physical_lines, without_return}

-- the first byte that is c ends the first part
pub split_at_byte : (c : ℕ) (xs : List ℕ) (i : ℕ) → IsFirstByte (is_byte c) xs (Some i) → slice_split (λ x. eqb x c) xs ≡ take i xs ∷ slice_split (λ x. eqb x c) (drop (i + 1) xs)
split_at_byte c xs i h =
    let p : ℕ → Bool = λ x. eqb x c in
    let low : i ≤ length xs = omega (arith, h.0.high) in
    let e : position_or_len p xs ≡ i = position_or_len_is p xs i 0 low (λ k l. false_from_ne_true (p (get_or xs k 0)) (h.0.before k (omega arith) l)) (λ _. h.1) in
    let inside : position_or_len p xs < length xs = omega (arith, e, h.0.high) in
    slice_split_first p xs 0 inside ∙ ap (λ n. take n xs ∷ slice_split p (drop (n + 1) xs)) e

-- where no byte is c, the list is the one part
pub split_no_byte : (c : ℕ) (xs : List ℕ) → IsFirstByte (is_byte c) xs None → slice_split (λ x. eqb x c) xs ≡ xs ∷ []
split_no_byte c xs h =
    let p : ℕ → Bool = λ x. eqb x c in
    slice_split_none p xs (λ k d l. rw (get_or_default xs k d 0 l) (false_from_ne_true (p (get_or xs k 0)) (h k (omega arith) l)))

-- what comes before it, the byte, and the rest
pub rest_at_byte : (xs : List ℕ) (i : ℕ) → IsFirstByte (is_byte 10) xs (Some i) → (line : List ℕ) × (xs ≡ line ++ 10 ∷ take (length xs - (i + 1)) (drop (i + 1) xs))
rest_at_byte xs i h =
    (take i xs, sym (take-append-drop i xs) ∙ ap (λ z. take i xs ++ z) (drop_more xs i 0 h.0.high ∙ (ap (λ z. z ∷ drop (i + 1) xs) ((Decides-eqb (get_or xs i 0) 10).0 h.1) ∙ ap (λ z. 10 ∷ z) (sym (take_rest xs (i + 1))))))

pub first_line : (xs f : List ℕ) (i : ℕ) → IsFirstByte (is_byte 10) xs (Some i) → f ≡ without_return (take i xs) → physical_lines xs ≡ f ∷ physical_lines (take (length xs - (i + 1)) (drop (i + 1) xs))
first_line xs f i h e =
    rw (e, take_rest xs (i + 1)) (ap (map without_return) (split_at_byte 10 xs i h))

pub only_line : (xs f : List ℕ) → IsFirstByte (is_byte 10) xs None → f ≡ without_return xs → physical_lines xs ≡ f ∷ []
only_line xs f h e = rw e (ap (map without_return) (split_no_byte 10 xs h))
