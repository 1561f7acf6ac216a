-- A clash of two instances is found by their keys.
use Rattle.std.proofs.Common.{◌≡◌, ◌≢◌, ◌⊎◌, ◌<◌, ◌≤◌, ℕ, ◌+◌, ℤ, ◌<ℤ◌, ◌≤ℤ◌, Bool, false, List, length, map, get_or, subst, sym, refl, ap, ◌∙◌, inl, inr, arith, Ordering}
use Rattle.std.specs.Prelude.{Option, Some, None, option_map, Contains, ◌↔◌, IsTrue, IfNone}
use Rattle.std.specs.declared.cmp.Ordering.TheVariants.{Less, Equal, Greater}
use Rattle.std.specs.Ordering.{int_cmp}
use Rattle.std.specs.List.{slice_get}
use Rattle.std.proofs.lemmas.Bool.{cases_lt, cases_order, true≢false}
use Rattle.std.proofs.lemmas.Int.{ints}
use Rattle.std.proofs.lemmas.Option.{same_Some, slice_get-get_or, slice_get_within, get_or_from_slice_get}
use Rattle.std.proofs.lemmas.List.{get_or_default}
use Rattle.profile.specs.checker.Instances.{Key, Instance as SaidInstance}
use Rattle.profile.specs.events.Events.{Event}
use Rattle.profile.specs.events.Starts.{IsInstance}
use Rattle.profile.specs.events.Confirmed.{Confirmed, IsInSeries, IsOneOf}
use Rattle.cal_events.specs.declared.instance.Instance.{Instance}
use Rattle.cal_events.specs.declared.instances.Instances.{Instances}
use Rattle.cal_events.specs.declared.series.Series.{Series}
use Rattle.cal_events.specs.Calendar.{instance_of, owned_key_of, HaveDifferentKeys, HaveOwnKeys}
use Rattle.cal_events.specs.Left.{IsLeft, GivesFirst}
use Rattle.cal_events.specs.Series.{series_said, AreKnownByStart}
use Rattle.cal_events.proofs.shared_lemmas.InOneOrder.{of_mapped}
use Rattle.clash_cert.specs.declared.making.Clash.{Clash}
use Rattle.clash_cert.specs.Makings.{IsClashIn}
use Rattle.clash_check.specs.Verdicts.{HasThatKey, ShareInstant}

-- ---- by places

-- none so far has the key
abbrev pub NoneHas : List SaidInstance → Key → ℕ → Type 0
NoneHas all key n = (k : ℕ) (d : SaidInstance) → k < n → k < length all → (get_or all k d).key ≢ key

module _ (all : List SaidInstance) (key : Key) (place : ℕ) (o : Option Instance) (e : option_map instance_of o ≡ slice_get all place) where
  -- the single at a place is one of them
  pub there : (i : Instance) → o ≡ Some i → Contains all (instance_of i)
  there i is =
      let at : slice_get all place ≡ Some (instance_of i) = sym e ∙ ap (option_map instance_of) is in
      (place, slice_get_within all place (instance_of i) at, get_or_from_slice_get all place (instance_of i) (instance_of i) at)

  -- one more that hasn't it
  pub one_more : NoneHas all key place → (i : Instance) → o ≡ Some i → ((instance_of i).key ≡ key → ⊥) → NoneHas all key (place + 1)
  one_more none i is not k d w within same =
      let at : slice_get all place ≡ Some (instance_of i) = sym e ∙ ap (option_map instance_of) is in
      elim (cases_lt k place) [
        | inl before ↦ none k d before within same
        | inr from ↦
            let here : k ≡ place = omega (arith, w, from) in
            not (ap (λ (b : SaidInstance). b.key) (sym (ap (λ n. get_or all n d) here ∙ get_or_from_slice_get all place (instance_of i) d at)) ∙ same)
      ]

  -- no single is there
  pub none_there : NoneHas all key place → o ≡ None → NoneHas all key (place + 1)
  none_there none is k d w within same =
      elim (cases_lt k place) [
        | inl before ↦ none k d before within same
        | inr from ↦
            let here : k ≡ place = omega (arith, w, from) in
            nothing (sym (ap (option_map instance_of) is) ∙ e ∙ slice_get-get_or all place d (omega (arith, within, here)))
      ]
    where
      nothing : {x : SaidInstance} → None ≡ Some x → ⊥
      nothing e = cc

pub none_has : (all : List SaidInstance) (key : Key) (n : ℕ) → NoneHas all key n → (length all < n + 1) → (b : SaidInstance) → Contains all b → b.key ≡ key → ⊥
none_has all key n none le b (k, w, e) same = none k b (omega (arith, w, le)) w (ap (λ (x : SaidInstance). x.key) e ∙ same)

-- ---- clashes

-- instances of one key are one
one_of_key : (all : List SaidInstance) → HaveDifferentKeys all → (a b : SaidInstance) → Contains all a → Contains all b → a.key ≡ b.key → a ≡ b
one_of_key all keys a b h k e =
    elim (cases_order h.0 k.0) [
      | inl same ↦ sym h.2 ∙ get_or_default all h.0 a b h.1 ∙ ap (λ i. get_or all i b) same ∙ k.2
      | inr w ↦ elim w [
        | inl lt ↦ absurd (keys h.0 k.0 a lt k.1 (ap (λ (x : SaidInstance). x.key) h.2 ∙ e ∙ sym (ap (λ (x : SaidInstance). x.key) (get_or_default all k.0 a b k.1 ∙ k.2))))
        | inr lt ↦ absurd (keys k.0 h.0 b lt h.1 (ap (λ (x : SaidInstance). x.key) k.2 ∙ sym e ∙ sym (ap (λ (x : SaidInstance). x.key) (get_or_default all h.0 b a h.1 ∙ h.2))))
      ]
    ]

-- and so are confirmed instances
same_instance : (all : Confirmed) → HaveDifferentKeys all.singles → HaveOwnKeys all → ((m : Event) → Contains all.series m → AreKnownByStart m)
    → (a b : SaidInstance) → IsOneOf all a → IsOneOf all b → a.key ≡ b.key → a ≡ b
same_instance all keys own known a b (inl x) (inl y) e = one_of_key all.singles keys a b x y e
same_instance all keys own known a b (inl x) (inr y) e = absurd (own.1 a b x y e)
same_instance all keys own known a b (inr x) (inl y) e = absurd (own.1 b a y x (sym e))
same_instance all keys own known a b (inr (m, (i, w, p), h)) (inr (n, (j, v, q), k)) e =
    elim (cases_order i j) [
      | inl same ↦
          let one : n ≡ m = sym q ∙ get_or_default all.series j n m v ∙ ap (λ place. get_or all.series place m) (sym same) ∙ p in
          let at = known m (i, w, p) in
          let there = subst (λ (s : Event). IsInstance s b) one k in
          at.one a b h there (sym (at.slots a h) ∙ ap (λ (key : Key). key.slot) e ∙ at.slots b there)
      | inr o ↦ elim o [
        | inl lt ↦ absurd (own.0 i j n lt v a b (subst (λ (s : Event). IsInstance s a) (sym (get_or_default all.series i n m w ∙ p)) h) (subst (λ (s : Event). IsInstance s b) (sym q) k) e)
        | inr lt ↦ absurd (own.0 j i m lt w b a (subst (λ (s : Event). IsInstance s b) (sym (get_or_default all.series j m n v ∙ q)) k) (subst (λ (s : Event). IsInstance s a) (sym p) h) (sym e))
      ]
    ]

-- series of a slice are known by their starts
pub known_of : (xs : List Series) (all : List Event) → map series_said xs ≡ all → ((s : Series) → AreKnownByStart (series_said s)) → (m : Event) → Contains all m → AreKnownByStart m
known_of xs all e known m c =
    let r = of_mapped series_said xs m (subst (λ (l : List Event). Contains l m) (sym e) c) in
    subst AreKnownByStart r.2 (known r.0)

-- what holds anyway holds where there is none
pub any_none : {X : Type 0} (o : Option X) (P : Type 0) → P → IfNone o P
any_none None P p = p
any_none (Some x) P p = tt

-- ---- by the slot

before_or_from : (x y : ℤ) → (x <ℤ y) ⊎ (y ≤ℤ x)
before_or_from x y = go (int_cmp x y) refl
  where
    go : (r : Ordering) → int_cmp x y ≡ r → (x <ℤ y) ⊎ (y ≤ℤ x)
    go Less e = inl (grind (arith, ints))
    go Equal e = inr (grind (arith, ints))
    go Greater e = inr (grind (arith, ints))

module _ (series : Event) (known : AreKnownByStart series) (key : Key) (old : Instances) (left : (b : SaidInstance) → IsLeft old b ↔ (IsInstance series b × (key.slot ≤ℤ b.start))) where
  starts_there : (b : SaidInstance) → IsInstance series b → b.key ≡ key → b.start ≡ key.slot
  starts_there b h e = sym (known.slots b h) ∙ ap (λ (k : Key). k.slot) e

  is_left : (b : SaidInstance) → IsInstance series b → b.key ≡ key → IsLeft old b
  is_left b h e = let at = starts_there b h e in (left b).1 (h, omega (arith, ints, at))

  -- none is left
  pub none_at : (o : Option Instance) (new : Instances) → GivesFirst old o new → o ≡ None → (b : SaidInstance) → IsInstance series b → b.key ≡ key → ⊥
  none_at None new g n b h e = g.1.0 b (is_left b h e)
  none_at (Some i) new g n b h e = absurd (never n)
    where
      never : Some i ≡ None → ⊥
      never e = cc

  -- the first that is left isn't it
  pub other_at : (o : Option Instance) (i : Instance) (new : Instances) → GivesFirst old o new → o ≡ Some i → ((instance_of i).key ≡ key → ⊥) → (b : SaidInstance) → IsInstance series b → b.key ≡ key → ⊥
  other_at o i new g is not b h e =
      let f = (subst (λ (x : Option Instance). GivesFirst old x new) is g).1 in
      let own = (left (instance_of i)).0 f.0 in
      let at = starts_there b h e in
      elim (before_or_from b.start i.start) [
        | inl less ↦ f.1 b (is_left b h e) (inl less)
        | inr from ↦ not (ap (λ (x : SaidInstance). x.key) (known.one (instance_of i) b own.0 h (omega (arith, ints, at, own.1, from))) ∙ e)
      ]

  -- it is
  pub it_is : (o : Option Instance) (i : Instance) (new : Instances) → GivesFirst old o new → o ≡ Some i → IsInstance series (instance_of i)
  it_is o i new g is = ((left (instance_of i)).0 (subst (λ (x : Option Instance). GivesFirst old x new) is g).1.0).0

-- ---- the series one after another

-- none before a place has the key
abbrev pub NoSeriesHas : List Event → Key → ℕ → Type 0
NoSeriesHas all key place = (k : ℕ) (m : Event) → k < place → slice_get all k ≡ Some m → (b : SaidInstance) → IsInstance m b → b.key ≡ key → ⊥

pub no_more : (all : List Event) (key : Key) (place : ℕ) (m : Event) → slice_get all place ≡ Some m → NoSeriesHas all key place → ((b : SaidInstance) → IsInstance m b → b.key ≡ key → ⊥)
    → NoSeriesHas all key (place + 1)
no_more all key place m at none here k n w is b h e =
    elim (cases_lt k place) [
      | inl before ↦ none k n before is b h e
      | inr from ↦
          let same : k ≡ place = omega (arith, w, from) in
          let one : n ≡ m = same_Some n m (sym is ∙ ap (slice_get all) same ∙ at) in
          here b (subst (λ (s : Event). IsInstance s b) one h) e
    ]

pub none_of_series : (all : List Event) (key : Key) (place : ℕ) → length all ≤ place → NoSeriesHas all key place → (b : SaidInstance) → IsInSeries all b → b.key ≡ key → ⊥
none_of_series all key place past none b (m, (k, w, e), h) same = none k m (omega (arith, w, past)) (slice_get-get_or all k m w ∙ ap Some e) b h same

pub in_series : (all : List Event) (place : ℕ) (m : Event) (b : SaidInstance) → slice_get all place ≡ Some m → IsInstance m b → IsInSeries all b
in_series all place m b at h = (m, (place, slice_get_within all place m at, get_or_from_slice_get all place m m at), h)

-- neither a single nor one of a series has the key
pub none_of_both : (all : Confirmed) (key : Key) (o : Option Instance) → ((b : SaidInstance) → Contains all.singles b → b.key ≡ key → ⊥)
    → IfNone o ((b : SaidInstance) → IsInSeries all.series b → b.key ≡ key → ⊥) → IfNone o ((b : SaidInstance) → IsOneOf all b → b.key ≡ key → ⊥)
none_of_both all key None singles series = go
  where
    go : (b : SaidInstance) → IsOneOf all b → b.key ≡ key → ⊥
    go b (inl x) e = singles b x e
    go b (inr x) e = series b x e
none_of_both all key (Some i) singles series = tt

-- ---- two instances

-- no instance has the key
pub no_first : (all : Confirmed) (clash : Clash) → ((b : SaidInstance) → IsOneOf all b → b.key ≡ owned_key_of clash.first → ⊥) → IsClashIn all clash → ⊥
no_first all clash none h = none h.a h.first (sym h.keys.first)

pub no_second : (all : Confirmed) (clash : Clash) → ((b : SaidInstance) → IsOneOf all b → b.key ≡ owned_key_of clash.second → ⊥) → IsClashIn all clash → ⊥
no_second all clash none h = none h.b h.second (sym h.keys.second)

shared : (all : Confirmed) (clash : Clash) (first second : Instance) → IsOneOf all (instance_of first) × HasThatKey clash.first first → IsOneOf all (instance_of second) × HasThatKey clash.second second
    → (HasThatKey clash.second first → ⊥) → ShareInstant (instance_of first) (instance_of second) clash.instant → IsClashIn all clash
shared all clash first second f s other h = record {
  a = instance_of first;
  b = instance_of second;
  keys = record { first = sym f.1; second = sym s.1; instant = refl };
  first = f.0;
  second = s.0;
  is = record { differ = λ k. other (k ∙ s.1); before = h.0; in_first = h.1; in_second = h.2 };
}

-- the answer says whether it is a clash
pub never : (all : Confirmed) (clash : Clash) → (IsClashIn all clash → ⊥) → IsTrue false ↔ IsClashIn all clash
never all clash h = (λ t. absurd (true≢false (sym t)), λ c. absurd (h c))

module _ (all : Confirmed) (keys : HaveDifferentKeys all.singles) (own : HaveOwnKeys all) (known : (m : Event) → Contains all.series m → AreKnownByStart m) (clash : Clash) where
  shares : (first second : Instance) → IsOneOf all (instance_of first) × HasThatKey clash.first first → IsOneOf all (instance_of second) × HasThatKey clash.second second → IsClashIn all clash
      → ShareInstant (instance_of first) (instance_of second) clash.instant
  shares first second f s c =
      let a : c.a ≡ instance_of first = same_instance all keys own known c.a (instance_of first) c.first f.0 (sym c.keys.first ∙ sym f.1) in
      let b : c.b ≡ instance_of second = same_instance all keys own known c.b (instance_of second) c.second s.0 (sym c.keys.second ∙ sym s.1) in
      let h : ShareInstant c.a c.b clash.instant = (c.is.before, c.is.in_first, c.is.in_second) in
      subst (λ (x : SaidInstance). ShareInstant x (instance_of second) clash.instant) a (subst (λ (y : SaidInstance). ShareInstant c.a y clash.instant) b h)

  -- the two keys are one
  pub one_key : (first : Instance) → HasThatKey clash.first first → HasThatKey clash.second first → IsClashIn all clash → ⊥
  one_key first h k c = c.is.differ (sym c.keys.first ∙ sym h ∙ k ∙ c.keys.second)

  pub decided : (first second : Instance) (r b : Bool) (t : ℤ) → IsOneOf all (instance_of first) × HasThatKey clash.first first → IsOneOf all (instance_of second) × HasThatKey clash.second second
      → IsTrue b ↔ HasThatKey clash.second first → b ≡ false → t ≡ clash.instant → IsTrue r ↔ ShareInstant (instance_of first) (instance_of second) t → IsTrue r ↔ IsClashIn all clash
  decided first second r b t f s same other at iff = (
    λ h. shared all clash first second f s (λ k. true≢false (sym (same.1 k) ∙ other)) (subst (λ i. ShareInstant (instance_of first) (instance_of second) i) at (iff.0 h)),
    λ c. iff.1 (subst (λ i. ShareInstant (instance_of first) (instance_of second) i) (sym at) (shares first second f s c)),
  )
