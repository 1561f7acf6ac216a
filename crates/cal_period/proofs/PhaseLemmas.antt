-- Some phases by their numbers stand for all.
use Rattle.std.proofs.Common.{◌≡◌, ◌∙◌, ap, sym, refl, subst, inl, inr, ◌⊎◌, ℕ, zero, suc, ◌+◌, ◌-◌, ◌*◌, ◌/◌, ◌%◌, ◌<◌, ◌≤◌, ◌==◌, Bool, true, false, Some, None, List, [], ◌∷◌, ◌++◌, Contains, if◌then◌else◌, ℤ, pos, ◌+ℤ◌, ◌-ℤ◌, ◌≤ℤ◌, arith}
use Rattle.std.proofs.lemmas.Int.{ints}
use Rattle.std.proofs.Math.Nat.{add-mul, mul_assoc, mul_comm, mod-lt, mod-eq_of_lt, add-mul-mod_self_right}
use Rattle.std.proofs.lemmas.Nat.{div-add-mod'}
use Rattle.std.proofs.lemmas.Bool.{cases_lt}
use Rattle.std.proofs.lemmas.List.Elements.{Contains-append_cases, Contains-append_left, Contains-append_right}
use Rattle.std.proofs.lemmas.Option.{same_Some, cond_some, none-some}
use Rattle.profile.specs.series.Rules.{Pattern}
use Rattle.profile.specs.series.Zones.{local_time}
use Rattle.profile.specs.series.Repeating.{IsCongruent}
use Rattle.profile.specs.series.Residues.{is_in_form}
use Rattle.cal_rules.specs.Forms.{AreApartBy, IsCovered, form_cycle, form_day, is_listed, listed_day}
use Rattle.cal_rules.proofs.Forms.{form_shift, stride_times}
use Rattle.cal_rules.proofs.Covers.{cover, cycle_stride, listed_form}
use Rattle.cal_period.specs.Phases.{AreTurns, IsNth, IsPhase, nth_phase_number, nth_offset, turned}

-- ---- congruent instants

int_eq_by : {a b : ℤ} → a ≤ℤ b → b ≤ℤ a → a ≡ b
int_eq_by {a} {b} l m = omega (arith, ints, l, m)

pub congruent_sym : (m : ℕ) (x y : ℤ) → IsCongruent m x y → IsCongruent m y x
congruent_sym m x y (k, l, e) = (l, k, sym e)

pub congruent_trans : (m : ℕ) (x y z : ℤ) → IsCongruent m x y → IsCongruent m y z → IsCongruent m x z
congruent_trans m x y z (k, l, e) (n, o, f) =
    let a = add-mul k n m in
    let b = add-mul o l m in
    (k + n, o + l, int_eq_by (omega (arith, ints, a, b, e, f)) (omega (arith, ints, a, b, e, f)))

pub congruent_same : (m : ℕ) (x y : ℤ) → x ≡ y → IsCongruent m x y
congruent_same m x y e = (0, 0, ap (λ z. z +ℤ pos (0 * m)) e)

-- two residues of one class are one
pub same_residue : (m r s : ℕ) → r < m → s < m → IsCongruent m (pos r) (pos s) → r ≡ s
same_residue m r s small low (k, l, e) =
    let f : r + k * m ≡ s + l * m = omega (arith, ints, e) in
    sym (mod-eq_of_lt small) ∙ (sym (add-mul-mod_self_right r k m) ∙ (ap (λ x. x % m) f ∙ (add-mul-mod_self_right s l m ∙ mod-eq_of_lt low)))

pub one_residue : (m r s : ℕ) (x : ℤ) → r < m → s < m → IsCongruent m x (pos r) → IsCongruent m x (pos s) → r ≡ s
one_residue m r s x small low p q = same_residue m r s small low (congruent_trans m (pos r) x (pos s) (congruent_sym m x (pos r) p) q)

-- ---- turns

-- what is a multiple of a cycle apart from a day is some turns of it later, modulo all turns
in_turns : (n d c k l t : ℕ) → n + k * c ≡ d + l * c
    → n + k * (c * suc t) ≡ (d + c * ((l + t * k) % suc t)) + (l + t * k) / suc t * (c * suc t)
in_turns n d c k l t e =
    let z = (l + t * k) % suc t in
    let q = (l + t * k) / suc t in
    let whole = div-add-mod' (l + t * k) (suc t) in
    let times : (q * suc t + z) * c ≡ (l + t * k) * c = ap (λ x. x * c) whole in
    let a = add-mul (q * suc t) z c in
    let b = add-mul l (t * k) c in
    let f : k * (c * suc t) ≡ k * c + t * k * c = more in
    let g : q * (c * suc t) ≡ q * suc t * c = ap (λ x. q * x) (mul_comm c (suc t)) ∙ sym (mul_assoc q (suc t) c) in
    let h = mul_comm c z in
    omega (arith, e, times, a, b, f, g, h)
  where
    more : k * (c * suc t) ≡ k * c + t * k * c
    more =
        let u = mul_comm (c * suc t) k in
        let v : c * suc t ≡ c + t * c = mul_comm c (suc t) ∙ (omega arith) in
        let w : (c + t * c) * k ≡ c * k + t * c * k = add-mul c (t * c) k in
        let x : c * suc t * k ≡ (c + t * c) * k = ap (λ y. y * k) v in
        let y : t * c * k ≡ t * k * c = mul_assoc t c k ∙ (ap (λ i. t * i) (mul_comm c k) ∙ sym (mul_assoc t k c)) in
        let i = mul_comm c k in
        omega (arith, u, w, x, y, i)

-- local times that are so many turns apart
turned_seconds : (n later c t k q m s second : ℕ) (offset : ℤ) → n + k * (c * t) ≡ later + q * (c * t) → 86_400 * (c * t) ≡ s * m
    → IsCongruent m (local_time n second -ℤ offset) (local_time later second -ℤ offset)
turned_seconds n later c t k q m s second offset e f =
    let a : k * s * m ≡ k * (86_400 * (c * t)) = mul_assoc k s m ∙ ap (λ x. k * x) (sym f) in
    let b : q * s * m ≡ q * (86_400 * (c * t)) = mul_assoc q s m ∙ ap (λ x. q * x) (sym f) in
    let g : k * (86_400 * (c * t)) ≡ 86_400 * (k * (c * t)) = swap k (c * t) in
    let h : q * (86_400 * (c * t)) ≡ 86_400 * (q * (c * t)) = swap q (c * t) in
    (k * s, q * s, int_eq_by (omega (arith, ints, e, a, b, g, h)) (omega (arith, ints, e, a, b, g, h)))
  where
    swap : (x y : ℕ) → x * (86_400 * y) ≡ 86_400 * (x * y)
    swap x y = sym (mul_assoc x 86_400 y) ∙ (ap (λ z. z * y) (mul_comm x 86_400) ∙ mul_assoc 86_400 x y)

-- ---- numbers

abbrev number_at : ℕ → ℕ → ℕ → ℕ
number_at turn i place = 14 * turn + 2 * i + place

number_parts : (turn i place : ℕ) → i < 7 → place < 2 → (nth_phase_number (number_at turn i place) ≡ i) × (number_at turn i place / 14 ≡ turn) × (number_at turn i place % 2 ≡ place)
number_parts turn i place few two = (omega (arith, few, two), omega (arith, few, two), omega (arith, few, two))

number_below : (turn i place turns : ℕ) → turn < turns → i < 7 → place < 2 → number_at turn i place < 14 * turns
number_below turn i place turns less few two = omega (arith, less, few, two)

-- ---- lists of none and of one

none_in : (x : ℕ) → Contains [] x → ⊥
none_in x (k, less, e) = absurd (omega (arith, less))

one_in : (first x : ℕ) → Contains (first ∷ []) x → first ≡ x
one_in first x (zero, less, e) = e
one_in first x (suc k, less, e) = absurd (omega (arith, less))

-- ---- a phase has a number, and what has a number is a phase

module _ (p : Pattern) (second : ℕ) (least greatest : ℤ) (m : ℕ) where
  listed_some : (i day : ℕ) → is_listed p i ≡ true → form_day p i ≡ day → listed_day p i ≡ Some day
  listed_some i day e f = rw e (ap Some f)

  nth_at : (turn i place residue : ℕ) (offset : ℤ) → i < 7 → place < 2 → nth_offset least greatest place ≡ offset → residue < m → is_listed p i ≡ true
      → IsCongruent m (local_time (form_day p i + form_cycle p * turn) second -ℤ offset) (pos residue) → IsNth p second least greatest m (number_at turn i place) residue
  nth_at turn i place residue offset few two by below listed same = record {
    below = below;
    day = form_day p i;
    listed = subst (λ j. listed_day p j ≡ Some (form_day p i)) (sym parts.0) (listed_some i (form_day p i) listed refl);
    same = subst (λ o. IsCongruent m (local_time (turned p (form_day p i) number) second -ℤ o) (pos residue)) (sym at)
        (subst (λ n. IsCongruent m (local_time (form_day p i + form_cycle p * n) second -ℤ offset) (pos residue)) (sym parts.1) same);
  }
    where
      number : ℕ
      number = number_at turn i place

      parts : (nth_phase_number number ≡ i) × (number / 14 ≡ turn) × (number % 2 ≡ place)
      parts = number_parts turn i place few two

      half : place % 2 ≡ place
      half = mod-eq_of_lt two

      at : nth_offset least greatest number ≡ offset
      at = ap (λ n. if n == 0 then least else greatest) (parts.2 ∙ sym half) ∙ by

  place_of : (offset : ℤ) → (offset ≡ least) ⊎ (offset ≡ greatest) → (place : ℕ) × (place < 2) × (nth_offset least greatest place ≡ offset)
  place_of offset (inl e) = (0, omega arith, sym e)
  place_of offset (inr e) = (1, omega arith, sym e)

  covered : (turns : ℕ) → AreTurns p m turns → (residue : ℕ) (phase : IsPhase p second least greatest m residue) → IsCovered p phase.day
      → (number : ℕ) × (number < 14 * turns) × IsNth p second least greatest m number residue
  covered turns (some, (s, f)) residue phase c = by c.same (place_of phase.offset phase.of_zone)
    where
      t : ℕ
      t = turns - 1

      whole : suc t ≡ turns
      whole = omega (arith, some)

      by : AreApartBy (form_cycle p) phase.day (form_day p c.i) → (place : ℕ) × (place < 2) × (nth_offset least greatest place ≡ phase.offset)
          → (number : ℕ) × (number < 14 * turns) × IsNth p second least greatest m number residue
      by (k, l, e) (place, two, at) =
          let turn = (l + t * k) % suc t in
          let less : turn < suc t = mod-lt (l + t * k) (omega arith) in
          let g : 86_400 * (form_cycle p * suc t) ≡ s * m = subst (λ x. 86_400 * (form_cycle p * x) ≡ s * m) (sym whole) f in
          let same = turned_seconds phase.day (form_day p c.i + form_cycle p * turn) (form_cycle p) (suc t) k ((l + t * k) / suc t) m s second phase.offset (in_turns phase.day (form_day p c.i) (form_cycle p) k l t e) g in
          let there = congruent_trans m _ _ (pos residue) (congruent_sym m _ _ same) phase.same in
          (number_at turn c.i place, number_below turn c.i place turns (omega (arith, less, whole)) c.few two, nth_at turn c.i place residue phase.offset c.few two at phase.below c.listed there)

  pub numbered : (turns : ℕ) → 1 ≤ p.interval → p.week_start < 7 → AreTurns p m turns → (residue : ℕ) → IsPhase p second least greatest m residue
      → (number : ℕ) × (number < 14 * turns) × IsNth p second least greatest m number residue
  numbered turns some week are residue phase = covered turns are residue phase (cover p phase.day some week phase.in_form)

  listed_is : (i day : ℕ) → listed_day p i ≡ Some day → (is_listed p i ≡ true) × (form_day p i ≡ day)
  listed_is i day e = cond_some (is_listed p i) (form_day p i) day e

  offset_of : (number : ℕ) → (nth_offset least greatest number ≡ least) ⊎ (nth_offset least greatest number ≡ greatest)
  offset_of number = by ((number % 2) == 0)
    where
      by : (b : Bool) → ((if b then least else greatest) ≡ least) ⊎ ((if b then least else greatest) ≡ greatest)
      by true = inl refl
      by false = inr refl

  pub is_phase : (number residue : ℕ) → 1 ≤ p.interval → p.week_start < 7 → IsNth p second least greatest m number residue → IsPhase p second least greatest m residue
  is_phase number residue some week n =
      let l = listed_is (nth_phase_number number) n.day n.listed in
      let d = n.day in
      let turns = number / 14 in
      let shift = form_shift p (turns * form_cycle p) n.day (stride_times p turns (form_cycle p) (cycle_stride p)) some week in
      let at : d + turns * form_cycle p ≡ turned p d number = ap (λ x. d + x) (mul_comm turns (form_cycle p)) in
      let form : is_in_form p n.day ≡ true = subst (λ x. is_in_form p x ≡ true) l.1 (listed_form p (nth_phase_number number) l.0) in
      record {
        below = n.below;
        day = turned p d number;
        in_form = subst (λ x. is_in_form p x ≡ true) at (shift ∙ form);
        offset = nth_offset least greatest number;
        of_zone = offset_of number;
        same = n.same;
      }

  pub one_nth : (number r s : ℕ) → IsNth p second least greatest m number r → IsNth p second least greatest m number s → r ≡ s
  one_nth number r s n o =
      let d : o.day ≡ n.day = same_Some o.day n.day (sym o.listed ∙ n.listed) in
      one_residue m r s _ n.below o.below n.same (subst (λ d. IsCongruent m (local_time (turned p d number) second -ℤ nth_offset least greatest number) (pos s)) d o.same)

  -- ---- the first numbers

  pub unlisted : (number residue : ℕ) → listed_day p (nth_phase_number number) ≡ None → IsNth p second least greatest m number residue → ⊥
  unlisted number residue none n = none-some n.day (sym none ∙ n.listed)

  pub holds_none : (holds : ℕ → Type 0) (number residue : ℕ) → number < 0 → IsNth p second least greatest m number residue → holds residue
  holds_none holds number residue less n = absurd (omega (arith, less))

  pub holds_more : (count first : ℕ) (holds : ℕ → Type 0) → ((number residue : ℕ) → number < count → IsNth p second least greatest m number residue → holds residue)
      → IsNth p second least greatest m count first → holds first
      → (number residue : ℕ) → number < count + 1 → IsNth p second least greatest m number residue → holds residue
  holds_more count first holds before n this number residue less k = elim (cases_lt number count) [
    | inl low ↦ before number residue low k
    | inr high ↦
        let e : number ≡ count = omega (arith, less, high) in
        subst holds (one_nth count first residue n (subst (λ x. IsNth p second least greatest m x residue) e k)) this
  ]

  pub holds_still : (count : ℕ) (holds : ℕ → Type 0) → ((number residue : ℕ) → number < count → IsNth p second least greatest m number residue → holds residue)
      → listed_day p (nth_phase_number count) ≡ None
      → (number residue : ℕ) → number < count + 1 → IsNth p second least greatest m number residue → holds residue
  holds_still count holds before none number residue less k = elim (cases_lt number count) [
    | inl low ↦ before number residue low k
    | inr high ↦
        let e : number ≡ count = omega (arith, less, high) in
        absurd (unlisted count residue none (subst (λ x. IsNth p second least greatest m x residue) e k))
  ]

  abbrev First : ℕ → ℕ → Type 0
  First count residue = (number : ℕ) × (number < count) × IsNth p second least greatest m number residue

  pub first_none : (residue : ℕ) → (Contains [] residue → First 0 residue) × (First 0 residue → Contains [] residue)
  first_none residue = (λ c. absurd (none_in residue c), λ f. absurd (omega (arith, f.1)))

  later : (count residue : ℕ) → First count residue → First (count + 1) residue
  later count residue (number, less, n) = (number, omega (arith, less), n)

  pub first_more : (count : ℕ) (old new : List ℕ) (first : ℕ) → ((residue : ℕ) → (Contains old residue → First count residue) × (First count residue → Contains old residue))
      → IsNth p second least greatest m count first → new ≡ old ++ first ∷ []
      → (residue : ℕ) → (Contains new residue → First (count + 1) residue) × (First (count + 1) residue → Contains new residue)
  first_more count old new first before n e residue = (λ c. to (Contains-append_cases old (first ∷ []) residue (subst (λ xs. Contains xs residue) e c)), λ f. subst (λ xs. Contains xs residue) (sym e) (from f (cases_lt f.0 count)))
    where
      to : Contains old residue ⊎ Contains (first ∷ []) residue → First (count + 1) residue
      to (inl c) = later count residue ((before residue).0 c)
      to (inr c) = (count, omega arith, subst (λ r. IsNth p second least greatest m count r) (one_in first residue c) n)

      from : (f : First (count + 1) residue) → (f.0 < count) ⊎ (count ≤ f.0) → Contains (old ++ first ∷ []) residue
      from f (inl low) = Contains-append_left old (first ∷ []) residue ((before residue).1 (f.0, low, f.2))
      from f (inr high) =
          let same : f.0 ≡ count = omega (arith, f.1, high) in
          Contains-append_right old (first ∷ []) residue ((0, omega arith, one_nth count first residue n (subst (λ x. IsNth p second least greatest m x residue) same f.2)))

  pub first_still : (count : ℕ) (old : List ℕ) → ((residue : ℕ) → (Contains old residue → First count residue) × (First count residue → Contains old residue))
      → listed_day p (nth_phase_number count) ≡ None
      → (residue : ℕ) → (Contains old residue → First (count + 1) residue) × (First (count + 1) residue → Contains old residue)
  first_still count old before none residue = (λ c. later count residue ((before residue).0 c), λ f. from f (cases_lt f.0 count))
    where
      from : (f : First (count + 1) residue) → (f.0 < count) ⊎ (count ≤ f.0) → Contains old residue
      from f (inl low) = (before residue).1 (f.0, low, f.2)
      from f (inr high) =
          let same : f.0 ≡ count = omega (arith, f.1, high) in
          absurd (unlisted count residue none (subst (λ x. IsNth p second least greatest m x residue) same f.2))

  -- ---- all numbers

  pub holds_of_all : (count : ℕ) (holds : ℕ → Type 0) → 1 ≤ p.interval → p.week_start < 7 → AreTurns p m 1 → 14 ≤ count
      → ((number residue : ℕ) → number < count → IsNth p second least greatest m number residue → holds residue) → (residue : ℕ) → IsPhase p second least greatest m residue → holds residue
  holds_of_all count holds some week turn all before residue phase =
      let n = numbered 1 some week turn residue phase in
      let less = n.1 in
      before n.0 residue (omega (arith, less, all)) n.2

  pub all_first : (turns count : ℕ) (residues : List ℕ) → 1 ≤ p.interval → p.week_start < 7 → AreTurns p m turns → 14 * turns ≤ count
      → ((residue : ℕ) → (Contains residues residue → First count residue) × (First count residue → Contains residues residue))
      → (residue : ℕ) → (Contains residues residue → IsPhase p second least greatest m residue) × (IsPhase p second least greatest m residue → Contains residues residue)
  all_first turns count residues some week are all before residue = (
    λ c. let f = (before residue).0 c in is_phase f.0 residue some week f.2,
    λ phase.
        let n = numbered turns some week are residue phase in
        let less = n.1 in
        (before residue).1 (n.0, omega (arith, less, all), n.2),
  )
