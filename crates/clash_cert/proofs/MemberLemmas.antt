-- What is known of the series that are in groups, and how the pairs that have a line are found by that.
use Rattle.std.proofs.Common.{◌≡◌, ◌≢◌, ℕ, zero, suc, ◌+◌, ◌-◌, ◌<◌, ◌≤◌, ◌==◌, false, List, [], ◌∷◌, ◌++◌, Contains, length, get_or, take, drop, append_assoc, subst, sym, refl, ap, ◌∙◌, inl, inr, arith}
use Rattle.std.specs.Prelude.{◌⊎◌, AllPairs, Option, Some, None, MatchOption}
use Rattle.std.specs.List.{slice_get}
use Rattle.std.specs.Ordering.{nat_cmp}
use Rattle.std.specs.BTreeMap.{is_at, Updates}
use Rattle.std.proofs.lemmas.Bool.{cases_order}
use Rattle.std.proofs.lemmas.Bool.Decides.{nat_tests}
use Rattle.std.proofs.lemmas.List.{length-drop, take-append-drop}
use Rattle.std.proofs.Math.Seq.{drop-cons}
use Rattle.std.proofs.lemmas.Option.{same_Some, none-some, slice_get-get_or, slice_get_within, get_or_from_slice_get}
use Rattle.profile.specs.checker.Certificates.{Group, IsPair, IsPairBefore, AreTogether}
use Rattle.clash_cert.specs.Walked.{IsMemberOf, member_of, IsOfGroups, AreApart, IsRunEnd, IsNextOf, IsNextPairAfter, IsPairFrom, IsNextFrom, IsApartFrom, IsApartIn}
use Rattle.clash_cert.specs.declared.members.Member.{Member}
use Rattle.clash_cert.specs.declared.members.Members.{Members}
use Rattle.clash_cert.specs.declared.members.Run.{Run}
use Rattle.clash_cert.proofs.ListLemmas.{none_in_nil, in_head, in_tail, in_cons, contained, pairs_head, pairs_tail, pairs_back}

-- ---- places of groups

get_left : {X : Type 0} (xs ys : List X) (k : ℕ) (x : X) → slice_get xs k ≡ Some x → slice_get (xs ++ ys) k ≡ Some x
get_left [] ys k x e = absurd (none-some x e)
get_left (y ∷ xs) ys zero x e = e
get_left (y ∷ xs) ys (suc k) x e = get_left xs ys k x e

get_push : {X : Type 0} (xs : List X) (y : X) → slice_get (xs ++ y ∷ []) (length xs) ≡ Some y
get_push [] y = refl
get_push (x ∷ xs) y = get_push xs y

get_push_cases : {X : Type 0} (xs : List X) (y : X) (k : ℕ) (x : X) → slice_get (xs ++ y ∷ []) k ≡ Some x → (slice_get xs k ≡ Some x) ⊎ ((k ≡ length xs) × (y ≡ x))
get_push_cases [] y zero x e = inr (refl, same_Some y x e)
get_push_cases [] y (suc k) x e = absurd (none-some x e)
get_push_cases (z ∷ xs) y zero x e = inl e
get_push_cases (z ∷ xs) y (suc k) x e =
    elim (get_push_cases xs y k x e) [
      | inl old ↦ inl old
      | inr last ↦ inr (let f = last.0 in omega (arith, f), last.1)
    ]

pub place_of : (groups : List Group) (g : Group) → Contains groups g → (place : ℕ) × (slice_get groups place ≡ Some g)
place_of groups g (k, w, e) = (k, slice_get-get_or groups k g w ∙ ap Some e)

pub of_place : (groups : List Group) (place : ℕ) (g : Group) → slice_get groups place ≡ Some g → Contains groups g
of_place groups place g e = (place, slice_get_within groups place g e, get_or_from_slice_get groups place g g e)

-- ---- none at first

-- ---- the first that isn't in the group of another

module _ (groups : List Group) (members : Members) (of : IsOfGroups groups members) where
  -- who is together with another is known
  known_first : (i j : ℕ) (t : AreTogether groups i j) → (m : Member) × (member_of members i ≡ Some m) × (slice_get groups m.group ≡ Some t.0)
  known_first i j (g, c, a, b) =
      let place = place_of groups g c in
      let m = of.all place.0 i g place.1 a in
      (m.0, m.1, ap (slice_get groups) m.2 ∙ place.1)

  known_second : (i j : ℕ) (t : AreTogether groups i j) → (m : Member) × (member_of members j ≡ Some m) × (slice_get groups m.group ≡ Some t.0) × ((place : ℕ) × (m.group ≡ place) × (slice_get groups place ≡ Some t.0))
  known_second i j (g, c, a, b) =
      let place = place_of groups g c in
      let m = of.all place.0 j g place.1 b in
      (m.0, m.1, ap (slice_get groups) m.2 ∙ place.1, (place.0, m.2, place.1))

  apart_here : (n i j : ℕ) → j ≤ n → (AreTogether groups i j → ⊥) → IsApartFrom n groups i j j
  apart_here n i j most none = record { least = omega arith; most = most; apart = none; none_before = λ k a b. absurd (omega (arith, a, b)) }

  pub apart_first : (n i j : ℕ) → j ≤ n → member_of members i ≡ None → IsApartFrom n groups i j j
  apart_first n i j most e = apart_here n i j most (λ t. let m = known_first i j t in none-some m.0 (sym e ∙ m.1))

  pub apart_second : (n i j : ℕ) → j ≤ n → member_of members j ≡ None → IsApartFrom n groups i j j
  apart_second n i j most e = apart_here n i j most (λ t. let m = known_second i j t in none-some m.0 (sym e ∙ m.1))

  pub apart_other : (n i j : ℕ) (a b : Member) → j ≤ n → member_of members i ≡ Some a → member_of members j ≡ Some b → (a.group ≡ b.group → ⊥) → IsApartFrom n groups i j j
  apart_other n i j a b most e f other = apart_here n i j most (λ t. other (same t))
    where
      same : AreTogether groups i j → a.group ≡ b.group
      same (g, c, h, k) =
          let place = place_of groups g c in
          let m = of.all place.0 i g place.1 h in
          let o = of.all place.0 j g place.1 k in
          ap (λ (x : Member). x.group) (same_Some a m.0 (sym e ∙ m.1)) ∙ m.2 ∙ sym o.2 ∙ ap (λ (x : Member). x.group) (same_Some o.0 b (sym o.1 ∙ f))

  module _ (n i j : ℕ) (a b : Member) (e : member_of members i ≡ Some a) (f : member_of members j ≡ Some b) (same : a.group ≡ b.group) where
    run_together : (k : ℕ) → j ≤ k → k ≤ b.last → AreTogether groups i k
    run_together k least most =
        let x = of.known i a e in
        let y = of.known j b f in
        let one : x.group ≡ y.group = same_Some x.group y.group (sym x.is ∙ ap (slice_get groups) same ∙ y.is) in
        (y.group, of_place groups b.group y.group y.is, subst (λ (g : Group). Contains g.members i) one (x.run i (omega arith) x.least), y.run k least most)

    next_apart : AreTogether groups i (suc b.last) → ⊥
    next_apart (g, c, h, k) =
        let place = place_of groups g c in
        let m = of.all place.0 i g place.1 h in
        let y = of.known j b f in
        let here : b.group ≡ place.0 = sym same ∙ ap (λ (x : Member). x.group) (same_Some a m.0 (sym e ∙ m.1)) ∙ m.2 in
        let one : y.group ≡ g = same_Some y.group g (sym y.is ∙ ap (slice_get groups) here ∙ place.1) in
        y.ends (subst (λ (x : Group). Contains x.members (suc b.last)) (sym one) k)

    pub apart_run : (r : Option ℕ) → j ≤ n → MatchOption r (n ≤ b.last) (λ next. (next ≡ suc b.last) × (next ≤ n)) → IsApartIn n groups i j r
    apart_run None most all = λ k least fits. run_together k least (omega (arith, fits, all))
    apart_run (Some next) most (is, fits) =
        let y = of.known j b f in
        let later = y.least in
        record {
          least = omega (arith, later, is);
          most = fits;
          apart = λ t. next_apart (subst (AreTogether groups i) is t);
          none_before = λ k least before. run_together k least (omega (arith, before, is));
        }

pub none_from : (n : ℕ) (groups : List Group) (i j : ℕ) → n < j → IsApartIn n groups i j None
none_from n groups i j h k least most = absurd (omega (arith, h, least, most))

-- ---- the first pair that has a line, from one on

-- the pairs up to one have none
pub record AreSkipped (n : ℕ) (groups : List Group) (first second i j : ℕ) : Type 0 where
  pub some : 0 < i
  pub least : i ≤ j
  pub from : IsPairFrom first second i j
  pub none : (p q : ℕ) → IsPair n p q → IsPairFrom first second p q → IsPairBefore p q i j → AreTogether groups p q

pub skip_start : (n : ℕ) (groups : List Group) (first second : ℕ) → 0 < first → first ≤ second → AreSkipped n groups first second first second
skip_start n groups first second some least = record { some = some; least = least; from = inr (refl, refl); none = none }
  where
    none : (p q : ℕ) → IsPair n p q → IsPairFrom first second p q → IsPairBefore p q first second → AreTogether groups p q
    none p q pair (inl (inl a)) (inl b) = absurd (omega (arith, a, b))
    none p q pair (inl (inr (e, a))) (inl b) = absurd (omega (arith, e, b))
    none p q pair (inr (e, f)) (inl b) = absurd (omega (arith, e, b))
    none p q pair (inl (inl a)) (inr (g, b)) = absurd (omega (arith, a, g))
    none p q pair (inl (inr (e, a))) (inr (g, b)) = absurd (omega (arith, a, b))
    none p q pair (inr (e, f)) (inr (g, b)) = absurd (omega (arith, f, b))

module _ (n : ℕ) (groups : List Group) (first second i j : ℕ) (s : AreSkipped n groups first second i j) where
  -- those of the series i up to a number, too
  row_skipped : (place : ℕ) → ((k : ℕ) → j ≤ k → suc k ≤ place → AreTogether groups i k) → (p q : ℕ) → IsPair n p q → IsPairFrom first second p q → (p ≡ i) × (suc q ≤ place) ⊎ (p < i) → AreTogether groups p q
  row_skipped place row p q pair from (inr less) = s.none p q pair from (inl less)
  row_skipped place row p q pair from (inl (same, before)) =
      elim (cases_order q j) [
        | inl e ↦ here (omega (arith, e))
        | inr v ↦ elim v [ inl lt ↦ s.none p q pair from (inr (same, lt)) | inr lt ↦ here (omega (arith, lt)) ]
      ]
    where
      here : j ≤ q → AreTogether groups p q
      here least = subst (λ m. AreTogether groups m q) (sym same) (row q least before)

  pub found_here : (place : ℕ) → i ≤ n → IsApartFrom n groups i j place → IsNextFrom first second n groups (Some (i, place))
  found_here place most a =
      let later = s.least in
      let more = a.least in
      record {
        is = (record { pair = (s.some, omega (arith, later, more), a.most); apart = a.apart }, from_here s.from);
        none_before = none;
      }
    where
      from_here : IsPairFrom first second i j → IsPairFrom first second i place
      from_here (inl (inl b)) = inl (inl b)
      from_here (inl (inr (e, b))) = let more = a.least in inl (inr (e, omega (arith, b, more)))
      from_here (inr (e, f)) =
          elim (cases_order second place) [
            | inl g ↦ inr (e, g)
            | inr v ↦ elim v [ inl lt ↦ inl (inr (e, lt)) | inr lt ↦ absurd (let more = a.least in omega (arith, f, lt, more)) ]
          ]

      none : (p q : ℕ) → IsPair n p q → IsPairFrom first second p q → IsPairBefore p q i place → AreTogether groups p q
      none p q pair from (inl less) = row_skipped place a.none_before p q pair from (inr less)
      none p q pair from (inr (e, b)) = row_skipped place a.none_before p q pair from (inl (e, omega (arith, b)))

  -- the whole row
  pub row_done : ((k : ℕ) → j ≤ k → k ≤ n → AreTogether groups i k) → AreSkipped n groups first second (suc i) (suc i)
  row_done row = record { some = omega arith; least = omega arith; from = inl (later s.from); none = none }
    where
      later : IsPairFrom first second i j → IsPairBefore first second (suc i) (suc i)
      later (inl (inl b)) = inl (omega (arith, b))
      later (inl (inr (e, b))) = inl (omega (arith, e))
      later (inr (e, f)) = inl (omega (arith, e))

      none : (p q : ℕ) → IsPair n p q → IsPairFrom first second p q → IsPairBefore p q (suc i) (suc i) → AreTogether groups p q
      none p q pair from (inr (e, b)) = absurd (omega (arith, e, b, pair.1))
      none p q pair from (inl less) =
          elim (cases_order p i) [
            | inl e ↦ row_skipped (suc n) (λ k a b. row k a (omega (arith, b))) p q pair from (inl (e, omega (arith, pair.2)))
            | inr v ↦ elim v [ inl lt ↦ row_skipped (suc n) (λ k a b. row k a (omega (arith, b))) p q pair from (inr lt) | inr lt ↦ absurd (omega (arith, less, lt)) ]
          ]

pub none_left : (n : ℕ) (groups : List Group) (first second i : ℕ) → n < i → AreSkipped n groups first second i i → IsNextFrom first second n groups None
none_left n groups first second i past s = record {
  is = tt;
  none_before = λ p q pair from b. s.none p q pair from (inl (omega (arith, pair.1, pair.2, past)));
}

pub none_there : (n : ℕ) (groups : List Group) (first second : ℕ) → n < first → IsNextFrom first second n groups None
none_there n groups first second past = record { is = tt; none_before = λ p q pair from b. absurd (not_from p q pair from) }
  where
    not_from : (p q : ℕ) → IsPair n p q → IsPairFrom first second p q → ⊥
    not_from p q pair (inl (inl a)) = absurd (omega (arith, a, past, pair.1, pair.2))
    not_from p q pair (inl (inr (e, a))) = absurd (omega (arith, e, past, pair.1, pair.2))
    not_from p q pair (inr (e, f)) = absurd (omega (arith, e, past, pair.1, pair.2))

-- ---- after a pair

next_of : (From To : ℕ → ℕ → Type 0) (n : ℕ) (groups : List Group) (next : Option (ℕ × ℕ)) → ((p q : ℕ) → IsPair n p q → From p q → To p q) → ((p q : ℕ) → IsPair n p q → To p q → From p q)
    → IsNextOf From n groups next → IsNextOf To n groups next
next_of From To n groups None f g x = record { is = tt; none_before = λ p q pair t b. x.none_before p q pair (g p q pair t) b }
next_of From To n groups (Some r) f g x = record { is = (x.is.0, f r.0 r.1 x.is.0.pair x.is.1); none_before = λ p q pair t b. x.none_before p q pair (g p q pair t) b }

pub next_first : (n : ℕ) (groups : List Group) (next : Option (ℕ × ℕ)) → IsNextFrom 1 1 n groups next → IsNextPairAfter 0 0 n groups next
next_first n groups next = next_of (IsPairFrom 1 1) (IsPairBefore 0 0) n groups next (λ p q pair from. inl pair.0) from
  where
    from : (p q : ℕ) → IsPair n p q → IsPairBefore 0 0 p q → IsPairFrom 1 1 p q
    from p q pair b =
        elim (cases_order 1 p) [
          | inl e ↦ elim (cases_order 1 q) [
            | inl f ↦ inr (e, f)
            | inr v ↦ elim v [ inl lt ↦ inl (inr (e, lt)) | inr lt ↦ absurd (omega (arith, lt, pair.0, pair.1)) ]
          ]
          | inr v ↦ elim v [ inl lt ↦ inl (inl lt) | inr lt ↦ absurd (omega (arith, lt, pair.0)) ]
        ]

pub next_in_row : (n i j : ℕ) (groups : List Group) (next : Option (ℕ × ℕ)) → IsNextFrom i (suc j) n groups next → IsNextPairAfter i j n groups next
next_in_row n i j groups next = next_of (IsPairFrom i (suc j)) (IsPairBefore i j) n groups next to from
  where
    to : (p q : ℕ) → IsPair n p q → IsPairFrom i (suc j) p q → IsPairBefore i j p q
    to p q pair (inl (inl a)) = inl a
    to p q pair (inl (inr (e, a))) = inr (e, omega (arith, a))
    to p q pair (inr (e, f)) = inr (e, omega (arith, f))

    from : (p q : ℕ) → IsPair n p q → IsPairBefore i j p q → IsPairFrom i (suc j) p q
    from p q pair (inl a) = inl (inl a)
    from p q pair (inr (e, a)) =
        elim (cases_order (suc j) q) [
          | inl f ↦ inr (e, f)
          | inr v ↦ elim v [ inl lt ↦ inl (inr (e, lt)) | inr lt ↦ absurd (omega (arith, a, lt)) ]
        ]

pub next_row : (n i j : ℕ) (groups : List Group) (next : Option (ℕ × ℕ)) → n ≤ j → IsNextFrom (suc i) (suc i) n groups next → IsNextPairAfter i j n groups next
next_row n i j groups next end = next_of (IsPairFrom (suc i) (suc i)) (IsPairBefore i j) n groups next to from
  where
    to : (p q : ℕ) → IsPair n p q → IsPairFrom (suc i) (suc i) p q → IsPairBefore i j p q
    to p q pair (inl (inl a)) = inl (omega (arith, a))
    to p q pair (inl (inr (e, a))) = inl (omega (arith, e))
    to p q pair (inr (e, f)) = inl (omega (arith, e))

    from : (p q : ℕ) → IsPair n p q → IsPairBefore i j p q → IsPairFrom (suc i) (suc i) p q
    from p q pair (inr (e, a)) = absurd (omega (arith, a, end, pair.2))
    from p q pair (inl a) =
        elim (cases_order (suc i) p) [
          | inl e ↦ elim (cases_order (suc i) q) [
            | inl f ↦ inr (e, f)
            | inr v ↦ elim v [ inl lt ↦ inl (inr (e, lt)) | inr lt ↦ absurd (omega (arith, lt, e, pair.1)) ]
          ]
          | inr v ↦ elim v [ inl lt ↦ inl (inl lt) | inr lt ↦ absurd (omega (arith, lt, a)) ]
        ]

pub none_after : (n i j : ℕ) (groups : List Group) → n ≤ i → n ≤ j → IsNextPairAfter i j n groups None
none_after n i j groups end last = record { is = tt; none_before = λ p q pair a b. absurd (none p q pair a) }
  where
    none : (p q : ℕ) → IsPair n p q → IsPairBefore i j p q → ⊥
    none p q pair (inl a) = absurd (omega (arith, a, end, pair.1, pair.2))
    none p q pair (inr (e, a)) = absurd (omega (arith, a, last, pair.2))

-- ---- the series of a group are added, the last first

other_key : (x q : ℕ) → (q ≡ x → ⊥) → is_at (nat_cmp x) q ≡ false
other_key x q other = grind (arith, nat_tests)

-- the series that were added make one run, which begins so
abbrev pub IsRunAt : Members → ℕ → List ℕ → Option Run → Type 0
IsRunAt members group done None = done ≡ []
IsRunAt members group done (Some run) = (rest : List ℕ) × (done ≡ run.first ∷ rest) × (m : Member) × (member_of members run.first ≡ Some m) × (m.last ≡ run.last)

-- what is known of one that was added
pub record IsAdded (members : Members) (group : ℕ) (done : List ℕ) (i : ℕ) : Type 0 where
  pub m : Member
  pub is : member_of members i ≡ Some m
  pub of : m.group ≡ group
  pub least : i ≤ m.last
  pub run : (j : ℕ) → i ≤ j → j ≤ m.last → Contains done j
  pub ends : Contains done (suc m.last) → ⊥

-- of these numbers those behind are added
pub record AreAdded (group : ℕ) (numbers left : List ℕ) (old new : Members) (after : Option Run) : Type 0 where
  pub done : List ℕ
  pub whole : numbers ≡ left ++ done
  pub first : IsRunAt new group done after
  pub added : AllPairs ◌<◌ numbers → (i : ℕ) → Contains done i → IsAdded new group done i
  pub others : (i : ℕ) → (Contains done i → ⊥) → member_of new i ≡ member_of old i

module _ (group x last : ℕ) (numbers front : List ℕ) (old now new : Members) (after : Option Run) (a : AreAdded group numbers (front ++ x ∷ []) old now after) (end : IsRunEnd after x last)
    (put : Updates nat_cmp now.by_number new.by_number x (Some (record { group = group; last = last }))) where
  here : member_of new x ≡ Some (record { group = group; last = last })
  here = put.1

  kept : (q : ℕ) → (q ≡ x → ⊥) → member_of new q ≡ member_of now q
  kept q other = put.2 q (other_key x q other)

  whole : numbers ≡ front ++ x ∷ a.done
  whole = a.whole ∙ append_assoc front (x ∷ []) a.done

  later : AllPairs ◌<◌ numbers → (i : ℕ) → Contains a.done i → x < i
  later order i c = pairs_head ◌<◌ x a.done i (pairs_back ◌<◌ front (x ∷ a.done) (subst (AllPairs ◌<◌) whole order)) c

  ascend : AllPairs ◌<◌ numbers → AllPairs ◌<◌ a.done
  ascend order = pairs_tail ◌<◌ x a.done (pairs_back ◌<◌ front (x ∷ a.done) (subst (AllPairs ◌<◌) whole order))

  -- the new one
  new_added : AllPairs ◌<◌ numbers → IsAdded new group (x ∷ a.done) x
  new_added order = go after a.first end
    where
      alone : last ≡ x → (Contains a.done (suc x) → ⊥) → IsAdded new group (x ∷ a.done) x
      alone e none = record {
        m = record { group = group; last = last };
        is = here;
        of = refl;
        least = omega (arith, e);
        run = λ j least most. (zero, omega arith, let same : x ≡ j = omega (arith, e, least, most) in same);
        ends = λ c. elim (in_cons x a.done (suc last) c) [ inl f ↦ absurd (omega (arith, f, e)) | inr there ↦ none (subst (λ k. Contains a.done (suc k)) e there) ];
      }

      joined : (run : Run) (rest : List ℕ) → a.done ≡ run.first ∷ rest → (m : Member) → member_of now run.first ≡ Some m → m.last ≡ run.last → run.first ≡ suc x → last ≡ run.last → IsAdded new group (x ∷ a.done) x
      joined run rest e m f g next same =
          let w = a.added order run.first (subst (λ (ns : List ℕ). Contains ns run.first) (sym e) (in_head run.first rest)) in
          let one : w.m.last ≡ last = ap (λ (y : Member). y.last) (same_Some w.m m (sym w.is ∙ f)) ∙ g ∙ sym same in
          let least = w.least in
          record {
            m = record { group = group; last = last };
            is = here;
            of = refl;
            least = omega (arith, least, one, next);
            run = λ j from to. elim (cases_order x j) [
              | inl s ↦ (zero, omega arith, s)
              | inr v ↦ elim v [
                | inl lt ↦ in_tail x a.done j (w.run j (omega (arith, lt, next)) (omega (arith, to, one)))
                | inr lt ↦ absurd (omega (arith, lt, from))
              ]
            ];
            ends = λ c. elim (in_cons x a.done (suc last) c) [
              | inl s ↦ absurd (omega (arith, s, least, one, next))
              | inr there ↦ w.ends (subst (λ k. Contains a.done (suc k)) (sym one) there)
            ];
          }

      apart : (run : Run) (rest : List ℕ) → a.done ≡ run.first ∷ rest → (run.first ≡ suc x → ⊥) → Contains a.done (suc x) → ⊥
      apart run rest e other c =
          elim (in_cons run.first rest (suc x) (subst (λ (ns : List ℕ). Contains ns (suc x)) e c)) [
            | inl s ↦ other s
            | inr there ↦
                let less : run.first < suc x = pairs_head ◌<◌ run.first rest (suc x) (subst (AllPairs ◌<◌) e (ascend order)) there in
                let more : x < run.first = later order run.first (subst (λ (ns : List ℕ). Contains ns run.first) (sym e) (in_head run.first rest)) in
                absurd (omega (arith, less, more))
          ]

      go : (r : Option Run) → IsRunAt now group a.done r → IsRunEnd r x last → IsAdded new group (x ∷ a.done) x
      go None none e = alone e (λ c. none_in_nil (suc x) (subst (λ (ns : List ℕ). Contains ns (suc x)) none c))
      go (Some run) (rest, e, m, f, g) (inl (next, same)) = joined run rest e m f g next same
      go (Some run) (rest, e, m, f, g) (inr (other, same)) = alone same (apart run rest e other)

  old_added : AllPairs ◌<◌ numbers → (i : ℕ) → Contains a.done i → IsAdded new group (x ∷ a.done) i
  old_added order i c =
      let w = a.added order i c in
      let more = later order i c in
      let least = w.least in
      record {
        m = w.m;
        is = kept i (λ e. omega (arith, e, more)) ∙ w.is;
        of = w.of;
        least = w.least;
        run = λ j from to. in_tail x a.done j (w.run j from to);
        ends = λ d. elim (in_cons x a.done (suc w.m.last) d) [ inl s ↦ absurd (omega (arith, s, more, least)) | inr there ↦ w.ends there ];
      }

  pub added_more : AreAdded group numbers front old new (Some (record { first = x; last = last }))
  added_more = record {
    done = x ∷ a.done;
    whole = whole;
    first = (a.done, refl, record { group = group; last = last }, here, refl);
    added = λ order i c. elim (in_cons x a.done i c) [
      | inl e ↦ subst (IsAdded new group (x ∷ a.done)) e (new_added order)
      | inr there ↦ old_added order i there
    ];
    others = λ i none. kept i (λ e. none (zero, omega arith, sym e)) ∙ a.others i (λ c. none (in_tail x a.done i c));
  }

pub added_all : (group : ℕ) (numbers : List ℕ) (old new : Members) (after : Option Run) (groups : List Group) (added : Group) → AreAdded group numbers [] old new after → IsOfGroups groups old
    → group ≡ length groups → added.members ≡ numbers → AllPairs ◌<◌ numbers → AreApart groups numbers → IsOfGroups (groups ++ added ∷ []) new
added_all group numbers old new after groups added a of place is order apart = record { known = known; all = all }
  where
    mine : (i : ℕ) → Contains added.members i → IsAdded new group a.done i
    mine i c = a.added order i (subst (λ (ns : List ℕ). Contains ns i) (is ∙ a.whole) c)

    known : (i : ℕ) (m : Member) → member_of new i ≡ Some m → IsMemberOf (groups ++ added ∷ []) i m
    known i m e =
        elim (contained a.done i) [
          | inl there ↦ own (a.added order i there)
          | inr none ↦ older (of.known i m (sym (a.others i none) ∙ e))
        ]
      where
        own : IsAdded new group a.done i → IsMemberOf (groups ++ added ∷ []) i m
        own w =
            let same : w.m ≡ m = same_Some w.m m (sym w.is ∙ e) in
            let here : m.group ≡ length groups = ap (λ (x : Member). x.group) (sym same) ∙ w.of ∙ place in
            let back : a.done ≡ added.members = sym (is ∙ a.whole) in
            record {
              group = added;
              is = ap (slice_get (groups ++ added ∷ [])) here ∙ get_push groups added;
              least = subst (λ (x : Member). i ≤ x.last) same w.least;
              run = λ j from to. subst (λ (ns : List ℕ). Contains ns j) back (w.run j from (subst (λ (x : Member). j ≤ x.last) (sym same) to));
              ends = λ c. w.ends (subst (λ (ns : List ℕ). Contains ns (suc w.m.last)) (sym back) (subst (λ (x : Member). Contains added.members (suc x.last)) (sym same) c));
            }

        older : IsMemberOf groups i m → IsMemberOf (groups ++ added ∷ []) i m
        older w = record { group = w.group; is = get_left groups (added ∷ []) m.group w.group w.is; least = w.least; run = w.run; ends = w.ends }

    all : (p i : ℕ) (g : Group) → slice_get (groups ++ added ∷ []) p ≡ Some g → Contains g.members i → (m : Member) × (member_of new i ≡ Some m) × (m.group ≡ p)
    all p i g e c =
        elim (get_push_cases groups added p g e) [
          | inl old ↦ older old
          | inr last ↦ own last.0 (mine i (subst (λ (h : Group). Contains h.members i) (sym last.1) c))
        ]
      where
        older : slice_get groups p ≡ Some g → (m : Member) × (member_of new i ≡ Some m) × (m.group ≡ p)
        older f =
            let w = of.all p i g f c in
            (w.0, a.others i (λ d. apart g i (of_place groups p g f) c (subst (λ (ns : List ℕ). Contains ns i) (sym a.whole) d)) ∙ w.1, w.2)

        own : p ≡ length groups → IsAdded new group a.done i → (m : Member) × (member_of new i ≡ Some m) × (m.group ≡ p)
        own last w = (w.m, w.is, w.of ∙ place ∙ sym last)

-- a list and its last number
pub none_left_over : (xs : List ℕ) → length xs < 1 → xs ≡ []
none_left_over [] h = refl
none_left_over (x ∷ xs) h = absurd (omega (arith, h))

pub push_last : (xs : List ℕ) → 1 ≤ length xs → xs ≡ take (length xs - 1) xs ++ get_or xs (length xs - 1) 0 ∷ []
push_last xs h =
    let k = length xs - 1 in
    let long = length-drop (suc k) xs in
    let rest : drop (suc k) xs ≡ [] = none_left_over (drop (suc k) xs) (omega (arith, long, h)) in
    sym (take-append-drop k xs) ∙ ap (λ (ys : List ℕ). take k xs ++ ys) (drop-cons xs k 0 (omega (arith, h)) ∙ ap (λ (ys : List ℕ). get_or xs k 0 ∷ ys) rest)
