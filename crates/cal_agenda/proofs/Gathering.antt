-- Instances of several kinds in a span are gathered one list after another.
use Rattle.std.proofs.Common.{◌≡◌, ◌≢◌, ◌∙◌, ℕ, zero, ◌+◌, ◌<◌, List, [], ◌∷◌, ◌++◌, map, get_or, take, drop, length, refl, sym, ap, subst, inl, inr, ◌⊎◌, arith, ℤ, ◌≤ℤ◌, ◌<ℤ◌}
use Rattle.std.specs.Prelude.{Contains, AllPairs, ◌↔◌}
use Rattle.std.specs.Int.{int_max, int_min}
use Rattle.std.proofs.lemmas.Int.{ints}
use Rattle.std.proofs.lemmas.List.{append_assoc, take-append-drop, take_more, drop_more, length-map, get_or-map}
use Rattle.std.proofs.lemmas.List.Elements.{Contains-append_left, Contains-append_right, Contains-append_cases, Contains-push, Contains-push_cases}
use Rattle.profile.specs.checker.Instances.{Instance}
use Rattle.profile.specs.checker.Agendas.{IsInSpan}
use Rattle.profile.specs.events.Events.{Event}
use Rattle.profile.specs.events.Starts.{IsInstance}
use Rattle.profile.specs.events.Confirmed.{Confirmed, IsInSeries, IsOneOf}
use Rattle.cal_events.specs.Calendar.{HaveDifferentKeys, HaveOwnKeys}
use Rattle.cal_events.specs.Series.{series_said}
use Rattle.cal_events.specs.declared.series.Series.{Series}
use Rattle.cal_events.proofs.shared_lemmas.InOneOrder.{append_pairs, head_pairs, tail_pairs, first_or_later, none_in}
use Rattle.cal_events.proofs.shared_lemmas.Overlaps.{later_of, earlier_of}
use Rattle.cal_agenda.specs.InSpan.{AreAllInSpan, AddsInSpan}

-- what holds of each two in order holds of one and a later one
pub across : {X : Type 0} (R : X → X → Type 0) (xs ys : List X) (x y : X) → AllPairs R (xs ++ y ∷ ys) → Contains xs x → R x y
across R [] ys x y p c = absurd (none_in x c)
across R (z ∷ xs) ys x y p c =
    elim (first_or_later z x xs c) [
      | inl e ↦ subst (λ a. R a y) e (head_pairs R z y (xs ++ y ∷ ys) p (Contains-append_right xs (y ∷ ys) y (zero, omega arith, refl)))
      | inr l ↦ across R xs ys x y (tail_pairs R z (xs ++ y ∷ ys) p) l
    ]

-- of a list, what is before a place, that and the rest
pub parted : {X : Type 0} (xs : List X) (k : ℕ) (d : X) → k < length xs → xs ≡ take k xs ++ get_or xs k d ∷ drop (k + 1) xs
parted xs k d w = sym (take-append-drop k xs) ∙ ap (λ l. take k xs ++ l) (drop_more xs k d w)

-- ---- one instance

-- the later start is an instant of both, if it is before the earlier end
pub in_span_where : (from until start end : ℤ) (a : Instance) → start ≡ int_max a.start from → end ≡ int_min a.end until → (start <ℤ end) ↔ IsInSpan from until a
in_span_where from until start end a starts ends =
    let l = later_of a.start from start starts in
    let e = earlier_of a.end until end ends in
    let own_start = l.0 in
    let own_end = e.0 in
    let its_start = l.1 in
    let its_end = e.1 in (
      (λ some. (start, (its_start, omega (arith, ints, some, its_end)), (own_start, omega (arith, ints, some, own_end)))),
      λ within.
          let t = within.0 in
          let low : start ≤ℤ t = elim l.2 [ inl same ↦ (let w = within.2.0 in omega (arith, ints, same, w)) | inr same ↦ (let w = within.1.0 in omega (arith, ints, same, w)) ] in
          let high : t <ℤ end = elim e.2 [ inl same ↦ (let w = within.2.1 in omega (arith, ints, same, w)) | inr same ↦ (let w = within.1.1 in omega (arith, ints, same, w)) ] in
          omega (arith, ints, low, high),
    )

-- ---- several

module _ (from until : ℤ) where
  pub nothing : (P : Instance → Type 0) → ((a : Instance) → P a → IsInSpan from until a → ⊥) → AreAllInSpan P from until []
  nothing P none = record {
    all = λ a is within. absurd (none a is within);
    only = λ a among. absurd (none_in a among);
    differ = λ i j d less within. absurd (omega (arith, within));
  }

  -- an instance alone
  pub kept_one : (one : Instance) → IsInSpan from until one → AreAllInSpan (λ a. a ≡ one) from until (one ∷ [])
  kept_one one within = record {
    all = λ a is inside. (zero, omega arith, sym is);
    only = λ a among. elim (first_or_later one a [] among) [ inl e ↦ (sym e, subst (IsInSpan from until) e within) | inr c ↦ absurd (none_in a c) ];
    differ = λ i j d less below. absurd (omega (arith, less, below));
  }

  pub joined : (P Q R : Instance → Type 0) (xs ys : List Instance) → ((a : Instance) → R a → P a ⊎ Q a) → ((a : Instance) → P a → R a) → ((a : Instance) → Q a → R a)
      → ((a b : Instance) → P a → Q b → a.key ≢ b.key) → AreAllInSpan P from until xs → AreAllInSpan Q from until ys → AreAllInSpan R from until (xs ++ ys)
  joined P Q R xs ys either left right differ p q = record {
    all = λ a is within. elim (either a is) [ inl l ↦ Contains-append_left xs ys a (p.all a l within) | inr r ↦ Contains-append_right xs ys a (q.all a r within) ];
    only = λ a among. elim (Contains-append_cases xs ys a among) [
      | inl l ↦ (left a (p.only a l).0, (p.only a l).1)
      | inr r ↦ (right a (q.only a r).0, (q.only a r).1)
    ];
    differ = append_pairs (λ (a b : Instance). a.key ≢ b.key) xs ys p.differ q.differ (λ a b l r. differ a b (p.only a l).0 (q.only b r).0);
  }

  -- of the same kind under another name
  pub renamed : (P Q : Instance → Type 0) (xs : List Instance) → ((a : Instance) → Q a → P a) → ((a : Instance) → P a → Q a) → AreAllInSpan P from until xs → AreAllInSpan Q from until xs
  renamed P Q xs back to p = record {
    all = λ a is within. p.all a (back a is) within;
    only = λ a among. (to a (p.only a among).0, (p.only a among).1);
    differ = p.differ;
  }

  -- ---- singles

  -- those that came already are gathered, where these are left
  pub record AreSofar (all left found : List Instance) : Type 0 where
    pub done : List Instance
    pub is : all ≡ done ++ left
    pub gathered : AreAllInSpan (Contains done) from until found

  pub none_sofar : (all : List Instance) → AreSofar all all []
  none_sofar all = record { done = []; is = refl; gathered = nothing (Contains []) (λ a c within. none_in a c) }

  pub one_more : (all left rest found new : List Instance) (one : Instance) → HaveDifferentKeys all → left ≡ one ∷ rest → AreSofar all left found → AddsInSpan from until one found new → AreSofar all rest new
  one_more all left rest found new one differ e sofar (added, is, kept) =
      let done = sofar.done in
      let whole : all ≡ done ++ one ∷ rest = sofar.is ∙ ap (λ l. done ++ l) e in
      let keys = subst HaveDifferentKeys whole differ in
      record {
        done = done ++ one ∷ [];
        is = whole ∙ sym (append_assoc done (one ∷ []) rest);
        gathered = subst (AreAllInSpan (Contains (done ++ one ∷ [])) from until) (sym is)
            (joined (Contains done) (λ a. a ≡ one) (Contains (done ++ one ∷ [])) found added
            (λ a c. elim (Contains-push_cases done one a c) [ inl l ↦ inl l | inr same ↦ inr (sym same) ])
            (λ a c. Contains-append_left done (one ∷ []) a c)
            (λ a same. subst (Contains (done ++ one ∷ [])) (sym same) (Contains-push done one))
            (λ a b c same. subst (λ (x : Instance). a.key ≢ x.key) (sym same) (across (λ (x y : Instance). x.key ≢ y.key) done rest a one keys c))
            sofar.gathered kept);
      }

  -- ---- series

  pub none_yet : (all : List Event) → AreAllInSpan (IsInSeries (take 0 all)) from until []
  none_yet all = nothing (IsInSeries (take 0 all)) (λ a in_one within. none_in in_one.0 in_one.1)

  pub next_series : (all : List Event) (k : ℕ) (series : Event) (found own : List Instance) → k < length all → get_or all k series ≡ series
      → AllPairs (λ one other. (a b : Instance) → IsInstance one a → IsInstance other b → a.key ≢ b.key) all
      → AreAllInSpan (IsInSeries (take k all)) from until found → AreAllInSpan (IsInstance series) from until own → AreAllInSpan (IsInSeries (take (k + 1) all)) from until (found ++ own)
  next_series all k series found own w at differ sofar its =
      let more : take (k + 1) all ≡ take k all ++ series ∷ [] = take_more all k series w ∙ ap (λ s. take k all ++ s ∷ []) at in
      let whole : all ≡ take k all ++ series ∷ drop (k + 1) all = parted all k series w ∙ ap (λ s. take k all ++ s ∷ drop (k + 1) all) at in
      let keys = subst (AllPairs (λ one other. (a b : Instance) → IsInstance one a → IsInstance other b → a.key ≢ b.key)) whole differ in
      subst (λ l. AreAllInSpan (IsInSeries l) from until (found ++ own)) (sym more)
      (joined (IsInSeries (take k all)) (IsInstance series) (IsInSeries (take k all ++ series ∷ [])) found own
      (λ a in_one. elim (Contains-push_cases (take k all) series in_one.0 in_one.1) [
        | inl l ↦ inl (in_one.0, l, in_one.2)
        | inr same ↦ inr (subst (λ s. IsInstance s a) (sym same) in_one.2)
      ])
      (λ a in_one. (in_one.0, Contains-append_left (take k all) (series ∷ []) in_one.0 in_one.1, in_one.2))
      (λ a is. (series, Contains-push (take k all) series, is))
      (λ a b in_one is. across (λ one other. (x y : Instance) → IsInstance one x → IsInstance other y → x.key ≢ y.key) (take k all) (drop (k + 1) all) in_one.0 series keys in_one.1 a b in_one.2 is)
      sofar its)

  -- that at a place of what is kept
  pub next_kept : (kept : List Series) (all : List Event) (k : ℕ) (one : Series) (found own : List Instance) → map series_said kept ≡ all → k < length kept → one ≡ get_or kept k one
      → AllPairs (λ one other. (a b : Instance) → IsInstance one a → IsInstance other b → a.key ≢ b.key) all → AreAllInSpan (IsInSeries (take k all)) from until found
      → AreAllInSpan (IsInstance (series_said one)) from until own → AreAllInSpan (IsInSeries (take (k + 1) all)) from until (found ++ own)
  next_kept kept all k one found own are w is differ sofar its =
      let series = series_said one in
      let long = length-map kept series_said in
      let count = ap length are in
      let at = ap (λ l. get_or l k series) (sym are) ∙ get_or-map series_said kept k one series w ∙ ap series_said (sym is) in
      next_series all k series found own (omega (arith, w, long, count)) at differ sofar its

  -- ---- both

  pub both : (all : Confirmed) (xs ys : List Instance) → HaveOwnKeys all → AreAllInSpan (Contains all.singles) from until xs → AreAllInSpan (IsInSeries all.series) from until ys
      → AreAllInSpan (IsOneOf all) from until (xs ++ ys)
  both all xs ys own p q = joined (Contains all.singles) (IsInSeries all.series) (IsOneOf all) xs ys (λ a is. is) (λ a c. inl c) (λ a c. inr c) own.1 p q
