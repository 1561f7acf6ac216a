-- The latest of what was answered, with one more answer; and in whatever order they are.
use Rattle.std.proofs.Common.{◌≡◌, ◌∙◌, Bool, true, false, cond, List, [], ◌∷◌, ◌++◌, Option, None, Some, refl, sym, ap, subst, inl, inr}
use Rattle.std.specs.List.{filter, list_all, Contains}
use Rattle.std.specs.declared.cmp.Ordering.{Ordering}
use Rattle.std.specs.declared.cmp.Ordering.TheVariants.{Less, Equal, Greater}
use Rattle.std.specs.Ordering.{is_le, is_gt, int_cmp, nat_cmp, ordering_reverse, ordering_then}
use Rattle.std.specs.Cmp.{IsTotalOrder}
use Rattle.std.proofs.lemmas.Bool.{true≢false}
use Rattle.std.proofs.lemmas.Cmp.{int_cmp_total, nat_cmp_total, on_total, then_total, tied_itself, upto}
use Rattle.std.proofs.lemmas.List.Elements.{Contains-append_left, Contains-append_right, Contains-append_cases, filter-append}
use Rattle.itip_order.proofs.Lists.{all_at, all_from, in_cons, in_head, none_in_nil}
use Rattle.profile.specs.events.EventComponents.{NeedsAction}
use Rattle.profile.specs.organisers.Organisers.{Heard, IsLatestOf, heard_cmp, rank}
use Rattle.organiser_books.specs.declared.answers.AttendeeAnswer.{AttendeeAnswer}
use Rattle.organiser_books.specs.Answers.{answer_cmp, later_answer}
use Rattle.organiser_books.specs.Representation.{answered, IsHeardAnswer, IsLatestHeard, LatestOf}

heard_total : IsTotalOrder heard_cmp
heard_total = then_total (on_total (λ (h : Heard). h.revision.stamp) int_cmp_total) (on_total (λ (h : Heard). rank h.answer) nat_cmp_total)

le_not_gt : (o : Ordering) → is_gt o ≡ false → is_le o ≡ true
le_not_gt Less e = refl
le_not_gt Equal e = refl
le_not_gt Greater e = absurd (true≢false e)

gt_not_le : (o : Ordering) → is_le o ≡ true → is_gt o ≡ false
gt_not_le Less e = refl
gt_not_le Equal e = refl
gt_not_le Greater e = absurd (true≢false (sym e))

turned : (o : Ordering) → is_le (ordering_reverse o) ≡ false → is_le o ≡ true
turned Less e = refl
turned Equal e = absurd (true≢false e)
turned Greater e = absurd (true≢false e)

le_trans : (a b c : Heard) → is_le (heard_cmp a b) ≡ true → is_le (heard_cmp b c) ≡ true → is_le (heard_cmp a c) ≡ true
le_trans a b c p q = le_not_gt _ (upto heard_total a b c (gt_not_le _ p) (gt_not_le _ q))

le_itself : (a : Heard) → is_le (heard_cmp a a) ≡ true
le_itself a = ap is_le (tied_itself heard_total a)

le_back : (a b : Heard) → is_le (heard_cmp a b) ≡ false → is_le (heard_cmp b a) ≡ true
le_back a b n = turned (heard_cmp b a) (ap is_le (sym (heard_total.antisymm a b)) ∙ n)

-- answers are compared as what was heard
cmp_is : (h g : Heard) (x y : AttendeeAnswer) → IsHeardAnswer h x → IsHeardAnswer g y → answer_cmp x y ≡ heard_cmp h g
cmp_is h g x y a b = λ i. ordering_then (int_cmp (a.stamp i) (b.stamp i)) (nat_cmp (rank (a.status i)) (rank (b.status i)))

-- one more
pub latest_more : (all : List Heard) (h : Heard) (old : Option AttendeeAnswer) (new : AttendeeAnswer) → IsHeardAnswer h new → LatestOf all old → LatestOf (all ++ h ∷ []) (Some (later_answer old new))
latest_more all h None new a none = subst (λ l. IsLatestHeard (l ++ h ∷ []) new) (sym none) record {
  heard = h;
  among = in_head h [];
  is = a;
  latest = all_from (λ other. is_le (heard_cmp other h)) (h ∷ []) (λ x c. elim (in_cons h [] x c) [
    | inl here ↦ subst (λ z. is_le (heard_cmp z h) ≡ true) here (le_itself h)
    | inr there ↦ absurd (none_in_nil x there)
  ]);
}
latest_more all h (Some held) new a s = by (is_le (answer_cmp new held)) refl
  where
    at_end : (g : Heard) → is_le (heard_cmp h g) ≡ true → ((x : Heard) → Contains all x → is_le (heard_cmp x g) ≡ true) → list_all (λ other. is_le (heard_cmp other g)) (all ++ h ∷ []) ≡ true
    at_end g le below = all_from (λ other. is_le (heard_cmp other g)) (all ++ h ∷ []) (λ x c. elim (Contains-append_cases all (h ∷ []) x c) [
      | inl old ↦ below x old
      | inr last ↦ elim (in_cons h [] x last) [ inl here ↦ subst (λ z. is_le (heard_cmp z g) ≡ true) here le | inr there ↦ absurd (none_in_nil x there) ]
    ])

    by : (b : Bool) → is_le (answer_cmp new held) ≡ b → IsLatestHeard (all ++ h ∷ []) (cond b held new)
    by true e = record {
      heard = s.heard;
      among = Contains-append_left all (h ∷ []) s.heard s.among;
      is = s.is;
      latest = at_end s.heard (ap is_le (sym (cmp_is h s.heard new held a s.is)) ∙ e) (λ x c. all_at (λ other. is_le (heard_cmp other s.heard)) all x s.latest c);
    }
    by false e =
        let above = le_back h s.heard (ap is_le (sym (cmp_is h s.heard new held a s.is)) ∙ e) in
        record {
          heard = h;
          among = Contains-append_right all (h ∷ []) h (in_head h []);
          is = a;
          latest = at_end h (le_itself h) (λ x c. le_trans x s.heard h (all_at (λ other. is_le (heard_cmp other s.heard)) all x s.latest c) above);
        }

-- in another order
pub latest_same : (xs ys : List Heard) (r : Option AttendeeAnswer) → ((h : Heard) → Contains xs h → Contains ys h) → ((h : Heard) → Contains ys h → Contains xs h) → LatestOf xs r → LatestOf ys r
latest_same xs [] None f g none = refl
latest_same xs (y ∷ ys) None f g none = absurd (none_in_nil y (subst (λ l. Contains l y) none (g y (in_head y ys))))
latest_same xs ys (Some a) f g s = record {
  heard = s.heard;
  among = f s.heard s.among;
  is = s.is;
  latest = all_from (λ other. is_le (heard_cmp other s.heard)) ys (λ x c. all_at (λ other. is_le (heard_cmp other s.heard)) xs x s.latest (g x c));
}

-- two lists turned about
turn : {X : Type 0} (xs ys : List X) (x : X) → Contains (xs ++ ys) x → Contains (ys ++ xs) x
turn xs ys x c = elim (Contains-append_cases xs ys x c) [ inl left ↦ Contains-append_right ys xs x left | inr right ↦ Contains-append_left ys xs x right ]

pub latest_turned : (f : Heard → Bool) (xs ys : List Heard) (r : Option AttendeeAnswer) → LatestOf (filter f (xs ++ ys)) r → LatestOf (filter f (ys ++ xs)) r
latest_turned f xs ys r s =
    subst (λ l. LatestOf l r) (sym (filter-append f ys xs))
    (latest_same (filter f xs ++ filter f ys) (filter f ys ++ filter f xs) r (turn (filter f xs) (filter f ys)) (turn (filter f ys) (filter f xs)) (subst (λ l. LatestOf l r) (filter-append f xs ys) s))

-- what it says is the answer that is seen
pub latest_is : (all : List Heard) (r : Option AttendeeAnswer) → LatestOf all r → IsLatestOf all (answered r)
latest_is all None none = subst (λ l. IsLatestOf l NeedsAction) (sym none) refl
latest_is [] (Some a) s = absurd (none_in_nil s.heard s.among)
latest_is (x ∷ xs) (Some a) s = (s.heard, s.among, s.is.status, s.latest)
