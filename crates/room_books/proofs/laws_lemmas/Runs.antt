-- Over every run what is confirmed is clear, and within the limits.
-- Cited by runs_stay_clear.
use Rattle.std.proofs.Common.{◌≡◌, ℤ, ◌≤◌, Bool, true, false, not, ◌&&◌, cond, List, [], ◌∷◌, ◌++◌, Option, Some, None, inl, inr, refl, sym, ap, ◌∙◌, subst, length, arith, length-append, append-nil}
use Rattle.std.specs.Prelude.{IsTrue, nat_lt, option_map}
use Rattle.std.specs.Option.{option_to_list}
use Rattle.std.specs.List.{Contains, filter, flat_map}
use Rattle.std.proofs.lemmas.Bool.{and_parts, and_from, true≢false, both_ways, not-true, not_from_false, false_from_ne_true, lt-ltb}
use Rattle.std.proofs.lemmas.List.Elements.{Contains-append_left, Contains-append_right, Contains-append_cases, filter-append}
use Rattle.profile.specs.checker.Instances.{Instance, IsClear}
use Rattle.profile.specs.events.Events.{Event}
use Rattle.profile.specs.rooms.Revisions.{Part, in_view}
use Rattle.profile.specs.rooms.Messages.{Outcome, Accept, Busy, SeriesLimit, SinglesLimit}
use Rattle.profile.specs.rooms.Rooms.{Claim, PartAnswer, Book, Confirms, IsWithinLimits, Recurring, empty_book, is_accept, is_confirmed, is_hidden, left_of, recurring_in, confirmed_singles, confirmed_series, is_fresh, is_set, parts_of, asked, Decides, answered, IsStep, Delivery, Runs}
use Rattle.itip_order.proofs.Lists.{in_cons, in_head, in_tail, none_in_nil, filter_at}
use Rattle.room_books.proofs.shared_lemmas.Pairs.{flat_at, map_at, map_from}
use Rattle.room_books.proofs.shared_lemmas.Views.{view_back, hidden_stays}

-- clear, and within the limits
pub record Good (book : Book) : Type 0 where
  pub clear : IsClear (Confirms book)
  pub few : IsWithinLimits book

-- each answer's part was taken
abbrev pub AnswersTaken : Book → Type 0
AnswersTaken book = (a : PartAnswer) → Contains book.answers a → Contains book.taken a.claim.part

-- the elements of xs are among those of ys, which is no shorter
pub record IsWithin {X : Type 0} (xs ys : List X) : Type 0 where
  pub among : (x : X) → Contains xs x → Contains ys x
  pub shorter : length xs ≤ length ys

module _ {X : Type 0} where
  within_itself : (xs : List X) → IsWithin xs xs
  within_itself xs = record { among = λ x c. c; shorter = omega arith }

  within_both : (f g xs ys : List X) → IsWithin f g → IsWithin xs ys → IsWithin (f ++ xs) (g ++ ys)
  within_both f g xs ys v w = record {
    among = λ x c. elim (Contains-append_cases f xs x c) [
      | inl here ↦ Contains-append_left g ys x (v.among x here)
      | inr there ↦ Contains-append_right g ys x (w.among x there)
    ];
    shorter = let s = w.shorter in let t = v.shorter in omega (arith, length-append f xs, length-append g ys);
  }

  within_more : (f xs ys : List X) → IsWithin xs ys → IsWithin xs (f ++ ys)
  within_more f xs ys w = record {
    among = λ x c. Contains-append_right f ys x (w.among x c);
    shorter = let s = w.shorter in omega (arith, length-append f ys);
  }

  -- a stronger test keeps fewer
  within_test : (q p : X → Bool) (xs : List X) → ((x : X) → q x ≡ true → p x ≡ true) → IsWithin (filter q xs) (filter p xs)
  within_test q p [] f = within_itself []
  within_test q p (b ∷ xs) f = step (q b) (p b) (f b) (within_test q p xs f)
    where
      step : (c d : Bool) → (c ≡ true → d ≡ true) → IsWithin (filter q xs) (filter p xs) → IsWithin (cond c (b ∷ filter q xs) (filter q xs)) (cond d (b ∷ filter p xs) (filter p xs))
      step true true f w = within_both (b ∷ []) (b ∷ []) (filter q xs) (filter p xs) (within_itself (b ∷ [])) w
      step true false f w = absurd (true≢false (sym (f refl)))
      step false true f w = within_more (b ∷ []) (filter q xs) (filter p xs) w
      step false false f w = w

  -- and of fewer answers, each of which gives fewer, there are fewer
  within_filter : (q p : PartAnswer → Bool) (f g : PartAnswer → List X) (xs : List PartAnswer) → ((a : PartAnswer) → Contains xs a → q a ≡ true → (p a ≡ true) × IsWithin (f a) (g a))
      → IsWithin (flat_map f (filter q xs)) (flat_map g (filter p xs))
  within_filter q p f g [] h = within_itself []
  within_filter q p f g (a ∷ xs) h = step (q a) (p a) (h a (in_head a xs)) (within_filter q p f g xs (λ x c. h x (in_tail a xs x c)))
    where
      step : (c d : Bool) → (c ≡ true → (d ≡ true) × IsWithin (f a) (g a)) → IsWithin (flat_map f (filter q xs)) (flat_map g (filter p xs))
          → IsWithin (flat_map f (cond c (a ∷ filter q xs) (filter q xs))) (flat_map g (cond d (a ∷ filter p xs) (filter p xs)))
      step true true h w = within_both (f a) (g a) (flat_map f (filter q xs)) (flat_map g (filter p xs)) (h refl).1 w
      step true false h w = absurd (true≢false (sym (h refl).0))
      step false true h w = within_more (g a) (flat_map f (filter q xs)) (flat_map g (filter p xs)) w
      step false false h w = w

-- ---- a book that confirms no more than another

pub record ConfirmsLess (a b : Book) : Type 0 where
  pub singles : IsWithin (confirmed_singles a) (confirmed_singles b)
  pub series : IsWithin (confirmed_series a) (confirmed_series b)
  pub left : (r : Recurring) → Contains (confirmed_series a) r → (x : Instance) → is_hidden a.taken r.part x ≡ false → is_hidden b.taken r.part x ≡ false

less_confirms : (a b : Book) → ConfirmsLess a b → (x : Instance) → Confirms a x → Confirms b x
less_confirms a b less x (inl c) = inl (less.singles.among x c)
less_confirms a b less x (inr l) = inr (record { series = l.series; among = less.series.among l.series l.among; is = l.is; shown = less.left l.series l.among x l.shown })

pub less_good : (a b : Book) → ConfirmsLess a b → Good b → Good a
less_good a b less g = record {
  clear = λ x y t c d clash. g.clear x y t (less_confirms a b less x c) (less_confirms a b less y d) clash;
  few =
      let few = g.few in
      record {
        series = let s = less.series.shorter in let f = few.series in omega (arith, s, f);
        singles = let s = less.singles.shorter in let f = few.singles in omega (arith, s, f);
      };
}

abbrev book_of : List Part → List PartAnswer → Book
book_of taken answers = record { taken = taken; answers = answers }

-- the series of an answer are of its part
own_part : (part : Part) (o : Option Event) (r : Recurring) → Contains (option_to_list (option_map (λ (meeting : Event). record { part = part; meeting = meeting }) o)) r → r.part ≡ part
own_part part None r c = absurd (none_in_nil r c)
own_part part (Some meeting) r c = elim (in_cons _ [] r c) [ inl here ↦ sym (ap (λ (x : Recurring). x.part) here) | inr none ↦ absurd (none_in_nil r none) ]

-- after more parts the old answers confirm no more than before
pub confirmed_back : (taken more : List Part) (answers : List PartAnswer) → ((a : PartAnswer) → Contains answers a → Contains taken a.claim.part) → ConfirmsLess (book_of (taken ++ more) answers) (book_of taken answers)
confirmed_back taken more answers known = record {
  singles = within_filter (is_confirmed (taken ++ more)) (is_confirmed taken) (left_of (taken ++ more)) (left_of taken) answers (λ a c e. (
    still a c e,
    within_test (λ b. not (is_hidden (taken ++ more) a.claim.part b)) (λ b. not (is_hidden taken a.claim.part b)) a.claim.singles (λ b left. not_from_false _ (shown a c e b (not-true _ left))),
  ));
  series = within_filter (is_confirmed (taken ++ more)) (is_confirmed taken) recurring_in recurring_in answers (λ a c e. (still a c e, within_itself (recurring_in a)));
  left = λ r c x h.
      let found = flat_at recurring_in (filter (is_confirmed (taken ++ more)) answers) r c in
      let from = filter_at (is_confirmed (taken ++ more)) answers found.0 found.1 in
      let part = own_part found.0.claim.part found.0.claim.series r found.2 in
      subst (λ (p : Part). is_hidden taken p x ≡ false) (sym part) (shown found.0 from.0 from.1 x (subst (λ (p : Part). is_hidden (taken ++ more) p x ≡ false) part h));
}
  where
    still : (a : PartAnswer) → Contains answers a → is_confirmed (taken ++ more) a ≡ true → is_confirmed taken a ≡ true
    still a c e = let both = and_parts _ _ e in and_from _ _ both.0 (view_back taken more a.claim.part (known a c) both.1)

    -- what no part hides now was hidden by none
    shown : (a : PartAnswer) → Contains answers a → is_confirmed (taken ++ more) a ≡ true → (b : Instance) → is_hidden (taken ++ more) a.claim.part b ≡ false → is_hidden taken a.claim.part b ≡ false
    shown a c e b h =
        let seen = (and_parts (is_accept a.outcome) (in_view (taken ++ more) a.claim.part) e).1 in
        false_from_ne_true (is_hidden taken a.claim.part b) (λ hidden. both_ways (is_hidden (taken ++ more) a.claim.part b) h (hidden_stays taken more a.claim.part b (known a c) seen hidden))

-- of the same confirmed answers as much is confirmed
same_less : (taken : List Part) (xs ys : List PartAnswer) → filter (is_confirmed taken) xs ≡ filter (is_confirmed taken) ys → ConfirmsLess (book_of taken xs) (book_of taken ys)
same_less taken xs ys e = record {
  singles = subst (λ (l : List PartAnswer). IsWithin (confirmed_singles (book_of taken xs)) (flat_map (left_of taken) l)) e (within_itself (confirmed_singles (book_of taken xs)));
  series = subst (λ (l : List PartAnswer). IsWithin (confirmed_series (book_of taken xs)) (flat_map recurring_in l)) e (within_itself (confirmed_series (book_of taken xs)));
  left = λ r c x h. h;
}

declined_are : (taken : List Part) (moment : ℤ) (outcome : Outcome) (claims : List Claim) → is_accept outcome ≡ false → filter (is_confirmed taken) (answered moment outcome claims) ≡ []
declined_are taken moment outcome [] e = refl
declined_are taken moment outcome (c ∷ cs) e =
    let rest = filter (is_confirmed taken) (answered moment outcome cs) in
    ap (λ b. cond (b && in_view taken c.part) (record { claim = c; moment = moment; outcome = outcome } ∷ rest) rest) e ∙ declined_are taken moment outcome cs e

good_none : (taken : List Part) (old new : List PartAnswer) → Good (book_of taken old) → filter (is_confirmed taken) new ≡ [] → Good (book_of taken (old ++ new))
good_none taken old new g e =
    less_good (book_of taken (old ++ new)) (book_of taken old)
    (same_less taken (old ++ new) old (filter-append (is_confirmed taken) old new ∙ ap (λ l. filter (is_confirmed taken) old ++ l) e ∙ append-nil (filter (is_confirmed taken) old))) g

-- where the old answers are good, what was decided leaves good ones
decided_good : (taken : List Part) (old : List PartAnswer) (moment : ℤ) (outcome : Outcome) (claims : List Claim) → Good (book_of taken old) → (IsTrue (nat_lt 0 (length claims)) → Decides (book_of taken (old ++ answered moment Accept claims)) outcome)
    → Good (book_of taken (old ++ answered moment outcome claims))
decided_good taken old moment Accept [] g d = good_none taken old [] g refl
decided_good taken old moment Accept (c ∷ cs) g d =
    let both = d (lt-ltb 0 (length (c ∷ cs)) (omega arith)) in
    record { clear = both.1; few = both.0 }
decided_good taken old moment (Busy a b t) claims g d = good_none taken old (answered moment (Busy a b t) claims) g (declined_are taken moment (Busy a b t) claims refl)
decided_good taken old moment SeriesLimit claims g d = good_none taken old (answered moment SeriesLimit claims) g (declined_are taken moment SeriesLimit claims refl)
decided_good taken old moment SinglesLimit claims g d = good_none taken old (answered moment SinglesLimit claims) g (declined_are taken moment SinglesLimit claims refl)

-- what holds of each book that a room reaches
pub record IsSound (book : Book) : Type 0 where
  pub known : AnswersTaken book
  pub good : Good book

answered_part : (moment : ℤ) (outcome : Outcome) (claims : List Claim) (a : PartAnswer) → Contains (answered moment outcome claims) a → (c : Claim) × Contains claims c × (a.claim ≡ c)
answered_part moment outcome [] a c = absurd (none_in_nil a c)
answered_part moment outcome (x ∷ xs) a c =
    elim (in_cons _ _ a c) [
      | inl here ↦ (x, in_head x xs, sym (ap (λ y. y.claim) here))
      | inr there ↦ let rest = answered_part moment outcome xs a there in (rest.0, in_tail x xs rest.0 rest.1, rest.2)
    ]

-- a new answer is to one of the claims, whose part is fresh
pub record IsNew (before after : List Part) (claims : List Claim) (a : PartAnswer) : Type 0 where
  pub among : Contains claims a.claim
  pub set : is_set a.claim.part ≡ true
  pub gone : in_view before a.claim.part ≡ false
  pub seen : in_view after a.claim.part ≡ true

pub new_answer : (before after : List Part) (moment : ℤ) (outcome : Outcome) (claims : List Claim) (a : PartAnswer) → Contains (answered moment outcome (asked before after claims)) a → IsNew before after claims a
new_answer before after moment outcome claims a c =
    let found = map_at _ (asked before after claims) a c in
    let is : found.0 ≡ a.claim = ap (λ (x : PartAnswer). x.claim) found.2 in
    let from = filter_at (λ (x : Claim). is_set x.part && is_fresh before after x.part) claims found.0 found.1 in
    let both = and_parts _ _ from.1 in
    let fresh = and_parts _ _ both.1 in
    record {
      among = subst (λ (x : Claim). Contains claims x) is from.0;
      set = subst (λ (x : Claim). is_set x.part ≡ true) is both.0;
      gone = subst (λ (x : Claim). in_view before x.part ≡ false) is (not-true _ fresh.1);
      seen = subst (λ (x : Claim). in_view after x.part ≡ true) is fresh.0;
    }

-- a step from a sound book leads to a sound book
pub step_sound : (before : Book) (claims : List Claim) (moment : ℤ) (outcome : Outcome) (after : Book) → IsStep before claims moment outcome after → IsSound before → IsSound after
step_sound before claims moment outcome after s sound =
    let asked_now = asked before.taken after.taken claims in
    let is_asked = λ (c : Claim) (h : Contains asked_now c). filter_at (λ c. is_set c.part && is_fresh before.taken after.taken c.part) claims c h in
    let stayed = less_good (book_of (before.taken ++ parts_of claims) before.answers) before (confirmed_back before.taken (parts_of claims) before.answers sound.known) sound.good in
    let old = subst (λ (t : List Part). Good (book_of t before.answers)) (sym s.taken) stayed in
    let now = decided_good after.taken before.answers moment outcome asked_now old s.decided in
    record {
      known = λ a c.
          let P : List Part → Type 0 = λ t. Contains t a.claim.part in
          subst P (sym s.taken) (elim (Contains-append_cases before.answers _ a (subst (λ (l : List PartAnswer). Contains l a) s.answers c)) [
            | inl old ↦ Contains-append_left before.taken (parts_of claims) a.claim.part (sound.known a old)
            | inr new ↦
                let found = answered_part moment outcome asked_now a new in
                Contains-append_right before.taken (parts_of claims) a.claim.part
                (subst (λ (c : Claim). Contains (parts_of claims) c.part) (sym found.2) (map_from (λ (c : Claim). c.part) claims found.0 (is_asked found.0 found.1).0))
          ]);
      good = subst (λ (l : List PartAnswer). Good (book_of after.taken l)) (sym s.answers) now;
    }

empty_sound : IsSound empty_book
empty_sound = record {
  known = λ a c. absurd (none_in_nil a c);
  good = record { clear = λ a b t c. absurd (none_confirmed a c); few = record { series = omega arith; singles = omega arith } };
}
  where
    none_confirmed : (x : Instance) → Confirms empty_book x → ⊥
    none_confirmed x (inl c) = none_in_nil x c
    none_confirmed x (inr l) = none_in_nil l.series l.among

run_sound : (before : Book) (ds : List Delivery) (after : Book) → Runs before ds after → IsSound before → IsSound after
run_sound before [] after r sound = subst IsSound (sym r) sound
run_sound before (d ∷ ds) after r sound =
    run_sound r.0 ds after r.3 (step_sound before d.claims d.moment r.1 r.0 r.2 sound)

pub runs_good : (ds : List Delivery) (book : Book) → Runs empty_book ds book → Good book
runs_good ds book r = (run_sound empty_book ds book r empty_sound).good
