-- A zone does the same a cycle later, once each of its observances has begun.
use Rattle.std.proofs.Common.{◌≡◌, refl, sym, subst, ap, ◌∙◌, arith, inl, inr, ℕ, ◌+◌, ◌-◌, ◌≤◌, true, ◌&&◌, nat_le, ℤ, pos, ◌+ℤ◌, ◌-ℤ◌, ◌≤ℤ◌, ◌<ℤ◌}
use Rattle.std.proofs.lemmas.Int.{ints, by_lt_z}
use Rattle.std.proofs.lemmas.Bool.{and_parts, leb-true, le-leb}
use Rattle.std.specs.Prelude.{Some}
use Rattle.profile.specs.series.Rules.{Pattern, is_base}
use Rattle.profile.specs.series.Zones.{Observance, IsOnset, IsFirstOf, begins_on, Zone, Onset, InForce, Since, Until, IsOffsetAt, IsZoneOnset, Shows, Means}

pub int_same : {a b : ℤ} → a ≤ℤ b → b ≤ℤ a → a ≡ b
int_same {a} {b} l m = omega (arith, ints, l, m)

-- an onset so many seconds later
abbrev pub onset_later : ℤ → Onset → Onset
onset_later d x = record { instant = x.instant +ℤ d; before = x.before; after = x.after }

-- ---- the offset in force, of any set of onsets that repeats from one of them on

module _ (Is : Onset → Type 0) (d : ℤ) (some : pos 0 ≤ℤ d) (first : Onset) (listed : Is first)
    (up : (x : Onset) → Is x → first.instant ≤ℤ x.instant → Is (onset_later d x))
    (down : (x : Onset) → first.instant ≤ℤ x.instant → Is (onset_later d x) → Is x) where
  abbrev back : (x : Onset) → Onset
  back x = record { instant = x.instant -ℤ d; before = x.before; after = x.after }

  there : (x : Onset) → onset_later d (back x) ≡ x
  there x = let e : (x.instant -ℤ d) +ℤ d ≡ x.instant = int_same (omega (arith, ints)) (omega (arith, ints)) in ap (λ i. record { instant = i; before = x.before; after = x.after }) e

  -- from the first one on an onset a cycle later was one
  was : (x : Onset) → Is x → (first.instant +ℤ d) ≤ℤ x.instant → Is (back x)
  was x is l = down (back x) (omega (arith, ints, l)) (subst Is (sym (there x)) is)

  pub offset_later : (t offset : ℤ) → first.instant ≤ℤ t → InForce Is t offset → InForce Is (t +ℤ d) offset
  offset_later t offset l (Since x latest e) =
      let begun = latest.begun in
      let least = latest.latest first listed l in
      Since (onset_later d x) (record {
        listed = up x latest.listed least;
        begun = omega (arith, ints, begun);
        latest = λ other is h. by_lt_z other.instant (first.instant +ℤ d) (λ less. omega (arith, ints, less, least))
            (λ most. let k = latest.latest (back other) (was other is most) (omega (arith, ints, h)) in omega (arith, ints, k));
      }) e
  offset_later t offset l (Until x after e) =
      let ahead = after.ahead in
      let least = after.least first listed in
      absurd (omega (arith, ints, ahead, least, l))

  pub offset_earlier : (t offset : ℤ) → first.instant ≤ℤ t → InForce Is (t +ℤ d) offset → InForce Is t offset
  offset_earlier t offset l (Since x latest e) =
      let begun = latest.begun in
      let most = latest.latest (onset_later d first) (up first listed (omega (arith, ints))) (omega (arith, ints, l)) in
      Since (back x) (record {
        listed = was x latest.listed most;
        begun = omega (arith, ints, begun);
        latest = λ other is h. by_lt_z other.instant first.instant (λ less. omega (arith, ints, less, most))
            (λ least. let k = latest.latest (onset_later d other) (up other is least) (omega (arith, ints, h)) in omega (arith, ints, k));
      }) e
  offset_earlier t offset l (Until x after e) =
      let ahead = after.ahead in
      let least = after.least first listed in
      absurd (omega (arith, ints, ahead, least, l, some))

-- ---- what a local time means

module _ (z : Zone) (d from : ℤ) (some : pos 0 ≤ℤ d)
    (offset_up : (t offset : ℤ) → from ≤ℤ t → IsOffsetAt z t offset → IsOffsetAt z (t +ℤ d) offset)
    (offset_down : (t offset : ℤ) → from ≤ℤ t → IsOffsetAt z (t +ℤ d) offset → IsOffsetAt z t offset)
    (onset_up : (x : Onset) → from <ℤ x.instant → IsZoneOnset z x → IsZoneOnset z (onset_later d x))
    (onset_down : (x : Onset) → from <ℤ x.instant → IsZoneOnset z (onset_later d x) → IsZoneOnset z x)
    (near : (t u p q : ℤ) → IsOffsetAt z t p → IsOffsetAt z u q → p ≤ℤ (q +ℤ pos 43_200))
    (before_near : (x : Onset) (t p : ℤ) → IsZoneOnset z x → IsOffsetAt z t p → p ≤ℤ (x.before +ℤ pos 43_200))
    (jump : (x : Onset) → IsZoneOnset z x → x.after ≤ℤ (x.before +ℤ pos 43_200)) where
  shows_up : (t local : ℤ) → from ≤ℤ t → Shows z t local → Shows z (t +ℤ d) (local +ℤ d)
  shows_up t local l (offset, at, e) = (offset, offset_up t offset l at, int_same (omega (arith, ints, e)) (omega (arith, ints, e)))

  -- an instant that shows a later local time is as late, where it isn't too early
  shows_down : (u local : ℤ) → (from +ℤ d) ≤ℤ u → Shows z u (local +ℤ d) → Shows z (u -ℤ d) local
  shows_down u local l (offset, at, e) =
      let there : (u -ℤ d) +ℤ d ≡ u = int_same (omega (arith, ints)) (omega (arith, ints)) in
      (offset, offset_down (u -ℤ d) offset (omega (arith, ints, l)) (subst (λ x. IsOffsetAt z x offset) (sym there) at), int_same (omega (arith, ints, e)) (omega (arith, ints, e)))

  pub means_later : (local t : ℤ) → (from +ℤ pos 43_200) <ℤ t → Means z local t → Means z (local +ℤ d) (t +ℤ d)
  means_later local t l (inl shown) =
      let at = shown.shown in
      inl (record {
        shown = shows_up t local (omega (arith, ints, l)) at;
        least = λ other is.
            let n = near other (t +ℤ d) is.0 at.0 is.1 (offset_up t at.0 (omega (arith, ints, l)) at.1) in
            let e = is.2 in
            let f = at.2 in
            let k = shown.least (other -ℤ d) (shows_down other local (omega (arith, ints, n, e, f, l)) is) in
            omega (arith, ints, k);
      })
  means_later local t l (inr skipped) =
      let x = skipped.onset in
      let r = skipped.read in
      let past = skipped.set_past in
      let begins = skipped.set_from in
      let j = jump x skipped.listed in
      inr (record {
        never = λ other is.
            let n = before_near x other is.0 skipped.listed is.1 in
            let e = is.2 in
            skipped.never (other -ℤ d) (shows_down other local (omega (arith, ints, n, e, r, l)) is);
        onset = onset_later d x;
        listed = onset_up x (omega (arith, ints, r, past, j, l)) skipped.listed;
        set_from = omega (arith, ints, begins);
        set_past = omega (arith, ints, past);
        read = int_same (omega (arith, ints, r)) (omega (arith, ints, r));
      })

  pub means_earlier : (local t : ℤ) → (from +ℤ pos 43_200) <ℤ t → Means z (local +ℤ d) (t +ℤ d) → Means z local t
  means_earlier local t l (inl shown) =
      let at = shown.shown in
      let here : ((t +ℤ d) -ℤ d) ≡ t = int_same (omega (arith, ints)) (omega (arith, ints)) in
      let now : Shows z t local = subst (λ x. Shows z x local) here (shows_down (t +ℤ d) local (omega (arith, ints, l)) at) in
      inl (record {
        shown = now;
        least = λ other is.
            let n = near other t is.0 now.0 is.1 now.1 in
            let e = is.2 in
            let f = now.2 in
            let k = shown.least (other +ℤ d) (shows_up other local (omega (arith, ints, n, e, f, l)) is) in
            omega (arith, ints, k);
      })
  means_earlier local t l (inr skipped) =
      let x = skipped.onset in
      let r = skipped.read in
      let past = skipped.set_past in
      let begins = skipped.set_from in
      let j = jump x skipped.listed in
      let own : Onset = record { instant = x.instant -ℤ d; before = x.before; after = x.after } in
      let same : onset_later d own ≡ x = ap (λ i. record { instant = i; before = x.before; after = x.after }) (int_same (omega (arith, ints)) (omega (arith, ints))) in
      let listed : IsZoneOnset z own = onset_down own (omega (arith, ints, r, past, j, l)) (subst (IsZoneOnset z) (sym same) skipped.listed) in
      inr (record {
        never = λ other is.
            let n = before_near own other is.0 listed is.1 in
            let e = is.2 in
            skipped.never (other +ℤ d) (shows_up other local (omega (arith, ints, n, e, r, l)) is);
        onset = own;
        listed = listed;
        set_from = omega (arith, ints, begins);
        set_past = omega (arith, ints, past);
        read = int_same (omega (arith, ints, r)) (omega (arith, ints, r));
      })

-- ---- onsets of an observance by its rule: 146,097 days are 12,622,780,800 seconds

abbrev pub cycle : ℤ
cycle = pos 12_622_780_800

module _ (o : Observance) (parts : Pattern) (ruled : o.rule ≡ Some parts) (repeats : (n : ℕ) → is_base parts (n + 146_097) ≡ is_base parts n) where
  begins_by : (day : ℕ) → begins_on o day ≡ (nat_le o.day day && is_base parts day)
  begins_by day = rw ruled refl

  pub onset_up : (x : Onset) → IsOnset o x → IsOnset o (onset_later cycle x)
  onset_up x is =
      let b = and_parts (nat_le o.day is.day) (is_base parts is.day) (sym (begins_by is.day) ∙ is.begins) in
      let l = leb-true o.day is.day b.0 in
      let r = is.read in
      record {
        day = is.day + 146_097;
        begins = begins_by (is.day + 146_097) ∙ rw (le-leb o.day (is.day + 146_097) (omega (arith, l)), repeats is.day, b.1) refl;
        read = int_same (omega (arith, ints, r)) (omega (arith, ints, r));
        before = is.before;
        after = is.after;
      }

  -- from the first one on
  pub onset_down : (f : ℤ) → IsFirstOf o f → (x : Onset) → f ≤ℤ x.instant → IsOnset o (onset_later cycle x) → IsOnset o x
  onset_down f first x l is =
      let own = first.listed in
      let b = and_parts (nat_le o.day own.day) (is_base parts own.day) (sym (begins_by own.day) ∙ own.begins) in
      let least = leb-true o.day own.day b.0 in
      let h = own.read in
      let r = is.read in
      let late : own.day + 146_097 ≤ is.day = omega (arith, ints, h, r, l) in
      let e : (is.day - 146_097) + 146_097 ≡ is.day = omega (arith, late) in
      let c = and_parts (nat_le o.day is.day) (is_base parts is.day) (sym (begins_by is.day) ∙ is.begins) in
      let base : is_base parts (is.day - 146_097) ≡ true = sym (repeats (is.day - 146_097)) ∙ (ap (is_base parts) e ∙ c.1) in
      record {
        day = is.day - 146_097;
        begins = begins_by (is.day - 146_097) ∙ rw (le-leb o.day (is.day - 146_097) (omega (arith, late, least)), base) refl;
        read = int_same (omega (arith, ints, r, e)) (omega (arith, ints, r, e));
        before = is.before;
        after = is.after;
      }
