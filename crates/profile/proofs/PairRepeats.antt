-- A zone of each form does the same a cycle later: of two observances that follow each other, of one that begins once, and of none.
use Rattle.std.proofs.Common.{◌≡◌, ◌∙◌, refl, sym, subst, arith, ◌⊎◌, inl, inr, ℕ, ◌+◌, ◌≤◌, true, ℤ, pos, ◌+ℤ◌, ◌-ℤ◌, ◌≤ℤ◌, ◌<ℤ◌, unsigned_abs}
use Rattle.std.proofs.lemmas.Int.{ints}
use Rattle.std.specs.Prelude.{None, Some}
use Rattle.std.proofs.Common.{◌==◌}
use Rattle.std.proofs.lemmas.Bool.{eqb-true}
use Rattle.profile.specs.series.Rules.{Pattern, is_base}
use Rattle.profile.specs.series.Zones.{Observance, Single, Pair, Onset, IsZoneOnset, onset_at, IsFirstOf, begins_on, InForce, Since, Until, Means}
use Rattle.profile.specs.series.ZoneTexts.{AreMatched}
use Rattle.profile.proofs.ZoneRepeats.{int_same, onset_later, offset_later, offset_earlier, means_later, means_earlier, cycle, onset_up, onset_down}

-- one of the two offsets
abbrev pub IsEither : ℤ → ℤ → ℤ → Type 0
IsEither p q offset = (offset ≡ p) ⊎ (offset ≡ q)

apart : (x y : ℤ) → unsigned_abs (x -ℤ y) ≤ 43_200 → (x ≤ℤ (y +ℤ pos 43_200)) × (y ≤ℤ (x +ℤ pos 43_200))
apart x y h = (omega (arith, ints, h), omega (arith, ints, h))

either_near : (p q x y : ℤ) → unsigned_abs (p -ℤ q) ≤ 43_200 → IsEither p q x → IsEither p q y → x ≤ℤ (y +ℤ pos 43_200)
either_near p q x y h (inl e) (inl f) = omega (arith, ints, e, f)
either_near p q x y h (inl e) (inr f) = let n = (apart p q h).0 in omega (arith, ints, e, f, n)
either_near p q x y h (inr e) (inl f) = let n = (apart p q h).1 in omega (arith, ints, e, f, n)
either_near p q x y h (inr e) (inr f) = omega (arith, ints, e, f)

-- ---- two observances, each with a rule

module _ (a b : Observance) (pa pb : Pattern) (ra : a.rule ≡ Some pa) (rb : b.rule ≡ Some pb)
    (a_repeats : (n : ℕ) → is_base pa (n + 146_097) ≡ is_base pa n) (b_repeats : (n : ℕ) → is_base pb (n + 146_097) ≡ is_base pb n)
    (matched : AreMatched (Pair a b)) (fa fb from : ℤ) (first_a : IsFirstOf a fa) (first_b : IsFirstOf b fb) (after_a : fa ≤ℤ from) (after_b : fb ≤ℤ from) where
  abbrev Is : Onset → Type 0
  Is = IsZoneOnset (Pair a b)

  pub up : (x : Onset) → Is x → Is (onset_later cycle x)
  up x (inl is) = inl (onset_up a pa ra a_repeats x is)
  up x (inr is) = inr (onset_up b pb rb b_repeats x is)

  pub down : (x : Onset) → from ≤ℤ x.instant → Is (onset_later cycle x) → Is x
  down x l (inl is) = inl (onset_down a pa ra a_repeats fa first_a x (omega (arith, ints, l, after_a)) is)
  down x l (inr is) = inr (onset_down b pb rb b_repeats fb first_b x (omega (arith, ints, l, after_b)) is)

  pub before_either : (x : Onset) → Is x → IsEither a.offset_from b.offset_from x.before
  before_either x (inl is) = inl is.before
  before_either x (inr is) = inr is.before

  pub after_either : (x : Onset) → Is x → IsEither a.offset_from b.offset_from x.after
  after_either x (inl is) = inr (is.after ∙ matched.0)
  after_either x (inr is) = inl (is.after ∙ matched.1)

  pub offset_either : (t o : ℤ) → InForce Is t o → IsEither a.offset_from b.offset_from o
  offset_either t o (Since x latest e) = subst (IsEither a.offset_from b.offset_from) (sym e) (after_either x latest.listed)
  offset_either t o (Until x ahead e) = subst (IsEither a.offset_from b.offset_from) (sym e) (before_either x ahead.listed)

  gap : unsigned_abs (a.offset_from -ℤ b.offset_from) ≤ 43_200
  gap = subst (λ o. unsigned_abs (a.offset_from -ℤ o) ≤ 43_200) matched.0 matched.2

  -- the later of the first onsets is the instant from which on all repeats
  module _ (last : Onset) (listed : Is last) (at : last.instant ≡ from) where
    pub later : (t o : ℤ) → from ≤ℤ t → InForce Is t o → InForce Is (t +ℤ cycle) o
    later t o l i = offset_later Is cycle (omega (arith, ints)) last listed (λ x is _. up x is) (λ x m is. down x (omega (arith, ints, m, at)) is) t o (omega (arith, ints, l, at)) i

    pub earlier : (t o : ℤ) → from ≤ℤ t → InForce Is (t +ℤ cycle) o → InForce Is t o
    earlier t o l i = offset_earlier Is cycle (omega (arith, ints)) last listed (λ x is _. up x is) (λ x m is. down x (omega (arith, ints, m, at)) is) t o (omega (arith, ints, l, at)) i

    near : (t u p q : ℤ) → InForce Is t p → InForce Is u q → p ≤ℤ (q +ℤ pos 43_200)
    near t u p q i j = either_near a.offset_from b.offset_from p q gap (offset_either t p i) (offset_either u q j)

    before_near : (x : Onset) (t p : ℤ) → Is x → InForce Is t p → p ≤ℤ (x.before +ℤ pos 43_200)
    before_near x t p is i = either_near a.offset_from b.offset_from p x.before gap (offset_either t p i) (before_either x is)

    jump : (x : Onset) → Is x → x.after ≤ℤ (x.before +ℤ pos 43_200)
    jump x is = either_near a.offset_from b.offset_from x.after x.before gap (after_either x is) (before_either x is)

    pub pair_means_later : (local t : ℤ) → (from +ℤ pos 43_200) <ℤ t → Means (Pair a b) local t → Means (Pair a b) (local +ℤ cycle) (t +ℤ cycle)
    pair_means_later = means_later (Pair a b) cycle from (omega (arith, ints)) later earlier (λ x _ is. up x is) (λ x l is. down x (omega (arith, ints, l)) is) near before_near jump

    pub pair_means_earlier : (local t : ℤ) → (from +ℤ pos 43_200) <ℤ t → Means (Pair a b) (local +ℤ cycle) (t +ℤ cycle) → Means (Pair a b) local t
    pair_means_earlier = means_earlier (Pair a b) cycle from (omega (arith, ints)) later earlier (λ x _ is. up x is) (λ x l is. down x (omega (arith, ints, l)) is) near before_near jump

-- ---- one observance that begins once: after it nothing changes any more

module _ (a : Observance) (unruled : a.rule ≡ None) (from : ℤ) (first : IsFirstOf a from) where
  abbrev Once : Onset → Type 0
  Once = IsZoneOnset (Single a)

  begins_by : (day : ℕ) → begins_on a day ≡ true → day ≡ a.day
  begins_by day e = let b : begins_on a day ≡ (day == a.day) = rw unruled refl in eqb-true day a.day (sym b ∙ e)

  pub one_onset : (x : Onset) → Once x → x.instant ≡ from
  one_onset x is =
      let own = first.listed in
      let d : is.day ≡ own.day = begins_by is.day is.begins ∙ sym (begins_by own.day own.begins) in
      let r = is.read in
      let o = own.read in
      int_same (omega (arith, ints, r, o, d)) (omega (arith, ints, r, o, d))

  once_since : (t o : ℤ) → from ≤ℤ t → InForce Once t o → o ≡ a.offset_to
  once_since t o l (Since x latest e) = e ∙ latest.listed.after
  once_since t o l (Until x ahead e) = let m = one_onset x ahead.listed in let n = ahead.ahead in absurd (omega (arith, ints, m, n, l))

  once_in_force : (t : ℤ) → from ≤ℤ t → InForce Once t a.offset_to
  once_in_force t l = Since (onset_at a from) (record {
    listed = first.listed;
    begun = l;
    latest = λ other is _. let m = one_onset other is in omega (arith, ints, m);
  }) refl

  pub once_either : (t o : ℤ) → InForce Once t o → IsEither a.offset_from a.offset_to o
  once_either t o (Since x latest e) = inr (e ∙ latest.listed.after)
  once_either t o (Until x ahead e) = inl (e ∙ ahead.listed.before)

  module _ (matched : AreMatched (Single a)) (d : ℤ) (some : pos 0 ≤ℤ d) where
    pub once_later : (t o : ℤ) → from ≤ℤ t → InForce Once t o → InForce Once (t +ℤ d) o
    once_later t o l i = subst (InForce Once (t +ℤ d)) (sym (once_since t o l i)) (once_in_force (t +ℤ d) (omega (arith, ints, l, some)))

    pub once_earlier : (t o : ℤ) → from ≤ℤ t → InForce Once (t +ℤ d) o → InForce Once t o
    once_earlier t o l i = subst (InForce Once t) (sym (once_since (t +ℤ d) o (omega (arith, ints, l, some)) i)) (once_in_force t l)

    pub none_later : (x : Onset) → from <ℤ x.instant → Once x → ⊥
    none_later x l is = let m = one_onset x is in omega (arith, ints, m, l)

    once_near : (t u p q : ℤ) → InForce Once t p → InForce Once u q → p ≤ℤ (q +ℤ pos 43_200)
    once_near t u p q i j = either_near a.offset_from a.offset_to p q matched (once_either t p i) (once_either u q j)

    once_before_near : (x : Onset) (t p : ℤ) → Once x → InForce Once t p → p ≤ℤ (x.before +ℤ pos 43_200)
    once_before_near x t p is i = either_near a.offset_from a.offset_to p x.before matched (once_either t p i) (inl is.before)

    once_jump : (x : Onset) → Once x → x.after ≤ℤ (x.before +ℤ pos 43_200)
    once_jump x is = either_near a.offset_from a.offset_to x.after x.before matched (inr is.after) (inl is.before)

    pub once_means_later : (local t : ℤ) → (from +ℤ pos 43_200) <ℤ t → Means (Single a) local t → Means (Single a) (local +ℤ d) (t +ℤ d)
    once_means_later = means_later (Single a) d from some once_later once_earlier (λ x l is. absurd (none_later x l is)) (λ x l is. absurd (none_later (onset_later d x) (omega (arith, ints, l, some)) is)) once_near once_before_near once_jump

    pub once_means_earlier : (local t : ℤ) → (from +ℤ pos 43_200) <ℤ t → Means (Single a) (local +ℤ d) (t +ℤ d) → Means (Single a) local t
    once_means_earlier = means_earlier (Single a) d from some once_later once_earlier (λ x l is. absurd (none_later x l is)) (λ x l is. absurd (none_later (onset_later d x) (omega (arith, ints, l, some)) is)) once_near once_before_near once_jump
