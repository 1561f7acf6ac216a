-- Some of all go and the others are kept: put together, one more element, and what holds of them where all are apart.
-- Cited by Views::kept, left_at, left_beside, still.
use Rattle.std.proofs.Common.{◌≡◌, ◌∙◌, ℕ, ◌+◌, ◌<◌, List, [], ◌∷◌, ◌++◌, take, length, get_or, sym, ap, subst, append-nil, append_assoc}
use Rattle.std.proofs.lemmas.List.{take_more}
use Rattle.cal_events.specs.declared.instance.Single.{Single}
use Rattle.room_books.specs.declared.meeting.PartAnswer.{PartAnswer}
use Rattle.room_books.specs.Gone.{IsPartedInto, IsSplitInto, Sheds}
use Rattle.std.proofs.lemmas.List.Sorted.{IsPermutation-append_comm, IsPermutation-append_left, IsPermutation-append_right, IsPermutation-cons, IsPermutation-middle, IsPermutation-refl, IsPermutation-sym, IsPermutation-trans}
use Rattle.std.specs.List.Sorted.{IsPermutation}
use Rattle.std.proofs.lemmas.Grind.{flat_map-append}
use Rattle.room_books.specs.Slots.{Reordered}
use Rattle.room_books.proofs.shared_lemmas.Reordering.{re_flat, re_permutation}
use Rattle.room_books.specs.Gone.IsSplitInto.{none, goes, stays}
use Rattle.room_books.specs.Meeting.{all_singles}
use Rattle.itip_messages.proofs.shared_lemmas.WrittenLines.{flat_push}

-- ---- put together

pub split_both : (a g k b h l : List Single) → IsSplitInto a g k → IsSplitInto b h l → IsSplitInto (a ++ b) (g ++ h) (k ++ l)
split_both _ _ _ b h l none t = t
split_both _ _ _ b h l (goes s a g k r) t = goes s (a ++ b) (g ++ h) (k ++ l) (split_both a g k b h l r t)
split_both _ _ _ b h l (stays s a g k r) t = stays s (a ++ b) (g ++ h) (k ++ l) (split_both a g k b h l r t)

-- all are kept, or all go
pub split_kept : (xs : List Single) → IsSplitInto xs [] xs
split_kept [] = none
split_kept (x ∷ xs) = stays x xs [] xs (split_kept xs)

pub split_gone : (xs : List Single) → IsSplitInto xs xs []
split_gone [] = none
split_gone (x ∷ xs) = goes x xs xs [] (split_gone xs)

-- ---- one more element of a loop

pub sheds_none : (old : List Single) → Sheds [] [] old old
sheds_none old = record { gone = []; is = sym (append-nil old); split = none }

pub sheds_stay : (xs left new old gone : List Single) (i : ℕ) (d : Single) → i < length xs → new ≡ left ++ get_or xs i d ∷ [] → Sheds (take i xs) left old gone → Sheds (take (i + 1) xs) new old gone
sheds_stay xs left new old gone i d h e s =
    let x = get_or xs i d in
    subst (λ (l : List Single). Sheds l new old gone) (sym (take_more xs i d h)) (record {
      gone = s.gone;
      is = s.is;
      split = subst (IsSplitInto (take i xs ++ x ∷ []) s.gone) (sym e) (subst (λ (g : List Single). IsSplitInto (take i xs ++ x ∷ []) g (left ++ x ∷ [])) (append-nil s.gone)
          (split_both (take i xs) s.gone left (x ∷ []) [] (x ∷ []) s.split (split_kept (x ∷ []))));
    })

pub sheds_go : (xs left old gone gone' : List Single) (i : ℕ) (d : Single) → i < length xs → gone' ≡ gone ++ get_or xs i d ∷ [] → Sheds (take i xs) left old gone → Sheds (take (i + 1) xs) left old gone'
sheds_go xs left old gone gone' i d h e s =
    let x = get_or xs i d in
    subst (λ (l : List Single). Sheds l left old gone') (sym (take_more xs i d h)) (record {
      gone = s.gone ++ x ∷ [];
      is = e ∙ ap (λ l. l ++ x ∷ []) s.is ∙ append_assoc old s.gone (x ∷ []);
      split = subst (IsSplitInto (take i xs ++ x ∷ []) (s.gone ++ x ∷ [])) (append-nil left)
          (split_both (take i xs) s.gone left (x ∷ []) (x ∷ []) [] s.split (split_gone (x ∷ [])));
    })

-- in any order
pub split_parted : (all gone kept : List Single) → IsSplitInto all gone kept → IsPartedInto all gone kept
split_parted _ _ _ none = IsPermutation-refl []
split_parted _ _ _ (goes s a g k r) = IsPermutation-cons s a (g ++ k) (split_parted a g k r)
split_parted _ _ _ (stays s a g k r) =
    IsPermutation-trans (s ∷ a) (s ∷ (g ++ k)) (g ++ s ∷ k) (IsPermutation-cons s a (g ++ k) (split_parted a g k r)) (IsPermutation-sym (g ++ s ∷ k) (s ∷ (g ++ k)) (IsPermutation-middle g s k))

-- of nothing nothing goes
pub split_none : (all gone : List Single) (kept : List PartAnswer) → all ≡ [] → gone ≡ [] → kept ≡ [] → IsSplitInto all gone (all_singles kept)
split_none all gone kept a g k = subst (λ (l : List Single). IsSplitInto l gone (all_singles kept)) (sym a) (subst (λ (l : List Single). IsSplitInto [] l (all_singles kept)) (sym g) (subst (λ (l : List PartAnswer). IsSplitInto [] [] (all_singles l)) (sym k) none))

-- one more answer
pub one_shed : (done : List PartAnswer) (given : PartAnswer) (left kept kept' gone gone' : List Single) → Sheds given.singles.items left gone gone' → kept' ≡ kept ++ left
    → IsSplitInto (all_singles done) gone kept → IsSplitInto (all_singles (done ++ given ∷ [])) gone' kept'
one_shed done given left kept kept' gone gone' s e split =
    let f : PartAnswer → List Single = λ x. x.singles.items in
    subst (λ (l : List Single). IsSplitInto l gone' kept') (sym (flat_push f done given))
    (subst (λ (l : List Single). IsSplitInto (all_singles done ++ given.singles.items) l kept') (sym s.is)
    (subst (IsSplitInto (all_singles done ++ given.singles.items) (gone ++ s.gone)) (sym e)
    (split_both (all_singles done) gone kept given.singles.items s.gone left split s.split)))

-- what goes and what is left of some answers, beside others that stay
pub whole_parted : (answers out others left : List PartAnswer) (gone : List Single) → Reordered answers (out ++ others) → IsSplitInto (all_singles out) gone (all_singles left) → IsPartedInto (all_singles answers) gone (all_singles (others ++ left))
whole_parted answers out others left gone same split =
    let f : PartAnswer → List Single = λ x. x.singles.items in
    let a = all_singles answers in let o = all_singles out in let t = all_singles others in let l = all_singles left in
    let first : IsPermutation a (o ++ t) = subst (IsPermutation a) (flat_map-append f out others) (re_permutation a (all_singles (out ++ others)) (re_flat f answers (out ++ others) same)) in
    let second : IsPermutation (o ++ t) ((gone ++ l) ++ t) = IsPermutation-append_left t o (gone ++ l) (split_parted o gone l split) in
    let third : IsPermutation ((gone ++ l) ++ t) (gone ++ (t ++ l)) =
    subst (λ (x : List Single). IsPermutation x (gone ++ (t ++ l))) (sym (append_assoc gone l t)) (IsPermutation-append_right gone (l ++ t) (t ++ l) (IsPermutation-append_comm l t)) in
    subst (λ (x : List Single). IsPermutation a (gone ++ x)) (sym (flat_map-append f others left))
    (IsPermutation-trans a (o ++ t) (gone ++ (t ++ l)) first (IsPermutation-trans (o ++ t) ((gone ++ l) ++ t) (gone ++ (t ++ l)) second third))
