-- A text spells one duration, and what is written of a duration spells it.
use Rattle.std.proofs.Common.{◌≡◌, ◌≢◌, ◌∙◌, ℕ, ◌^◌, ◌<◌, ◌⊎◌, inl, inr, Bool, true, false, cond, nat_eq, List, [], ◌∷◌, ◌++◌, length, get_or, drop, codes, decimal, refl, sym, ap, arith, append_assoc, length-append}
use Rattle.std.proofs.lemmas.List.{append-nil}
use Rattle.std.proofs.lemmas.Bool.Decides.{nat_tests}
use Rattle.std.proofs.lemmas.Fmt.{decimal_is_IsNumeral}
use Rattle.profile.specs.text.Values.{IsNumber, SpellsPart, SpellsExact, SpellsDays, SpellsCounts, SpellsUnsigned, SpellsDuration, SpellsNegative, duration_text}
use Rattle.ical_values.specs.Counts.{BeginsNumber}
use Rattle.ical_values.proofs.Parts.{begins_same, begins_nothing, begins_later, part_begins, exact_begins, days_begin}

part_same : (l : ℕ) (p q r s : List ℕ) (m n : ℕ) → 57 < l → SpellsPart l p m → SpellsPart l q n → p ++ r ≡ q ++ s → ((k : ℕ) (end : List ℕ) → BeginsNumber l r k end → ⊥) → ((k : ℕ) (end : List ℕ) → BeginsNumber l s k end → ⊥) → (m ≡ n) × (r ≡ s)
part_same l p q r s m n low (inl (x, a)) (inl (y, b)) e f g =
    let bare : r ≡ s = ap (λ w. w ++ r) (sym x) ∙ e ∙ ap (λ w. w ++ s) y in
    (a ∙ sym b, bare)
part_same l p q r s m n low (inl (x, a)) (inr (d, number, y)) e f g =
    let here : r ≡ (d ++ l ∷ []) ++ s = ap (λ w. w ++ r) (sym x) ∙ e ∙ ap (λ w. w ++ s) y in
    absurd (f n s (rw here (part_begins l d s n number)))
part_same l p q r s m n low (inr (d, number, x)) (inl (y, b)) e f g =
    let here : s ≡ (d ++ l ∷ []) ++ r = ap (λ w. w ++ s) (sym y) ∙ sym e ∙ ap (λ w. w ++ r) x in
    absurd (g m r (rw here (part_begins l d r m number)))
part_same l p q r s m n low (inr (d, number, x)) (inr (c, other, y)) e f g =
    let here : (d ++ l ∷ []) ++ r ≡ (c ++ l ∷ []) ++ s = ap (λ w. w ++ r) (sym x) ∙ e ∙ ap (λ w. w ++ s) y in
    let same = begins_same l l ((c ++ l ∷ []) ++ s) m n r s low low (rw here at (part_begins l d r m number)) (part_begins l c s n other) in
    (same.1, same.2)

exact_same : (text : List ℕ) (a b : ℕ) → SpellsExact text a → SpellsExact text b → a ≡ b
exact_same text a b s t =
    let body = ap (drop 1) (sym s.spelled ∙ t.spelled) in
    let left : (s.hour_part ++ s.minute_part) ++ s.second_part ≡ s.hour_part ++ (s.minute_part ++ (s.second_part ++ [])) = simp (append_assoc, append-nil) refl in
    let right : (t.hour_part ++ t.minute_part) ++ t.second_part ≡ t.hour_part ++ (t.minute_part ++ (t.second_part ++ [])) = simp (append_assoc, append-nil) refl in
    let whole = sym left ∙ body ∙ right in
    let sm = begins_later 77 83 s.second_part [] s.seconds (omega arith) (omega arith) (λ x. omega arith) s.second (begins_nothing 77) in
    let tm = begins_later 77 83 t.second_part [] t.seconds (omega arith) (omega arith) (λ x. omega arith) t.second (begins_nothing 77) in
    let sh = begins_later 72 77 s.minute_part (s.second_part ++ []) s.minutes (omega arith) (omega arith) (λ x. omega arith) s.minute (begins_later 72 83 s.second_part [] s.seconds (omega arith) (omega arith) (λ x. omega arith) s.second (begins_nothing 72)) in
    let th = begins_later 72 77 t.minute_part (t.second_part ++ []) t.minutes (omega arith) (omega arith) (λ x. omega arith) t.minute (begins_later 72 83 t.second_part [] t.seconds (omega arith) (omega arith) (λ x. omega arith) t.second (begins_nothing 72)) in
    let h = part_same 72 s.hour_part t.hour_part _ _ s.hours t.hours (omega arith) s.hour t.hour whole sh th in
    let m = part_same 77 s.minute_part t.minute_part _ _ s.minutes t.minutes (omega arith) s.minute t.minute h.1 sm tm in
    let e = part_same 83 s.second_part t.second_part [] [] s.seconds t.seconds (omega arith) s.second t.second m.1 (begins_nothing 83) (begins_nothing 83) in
    omega (arith, s.counted, t.counted, h.0, m.0, e.0)

-- what follows the days, if there are any
abbrev Rest : List ℕ → ℕ → Type 0
Rest rest seconds = ((rest ≡ []) × (seconds ≡ 0)) ⊎ SpellsExact rest seconds

abbrev Shape : List ℕ → ℕ → ℕ → Type 0
Shape text days seconds = ((rest : List ℕ) × BeginsNumber 68 text days rest × Rest rest seconds) ⊎ (SpellsExact text seconds × (days ≡ 0))

shape : (text : List ℕ) (days seconds : ℕ) → SpellsDays text days seconds → Shape text days seconds
shape text days seconds (inl (digits, number, e, z)) = inl ([], record { digits = digits; number = number; spelled = e }, inl (refl, z))
shape text days seconds (inr (inl h)) = inr h
shape text days seconds (inr (inr (digits, exact, number, s, e))) = inl (exact, record { digits = digits; number = number; spelled = e }, inr s)

exact_some : (total : ℕ) → SpellsExact [] total → ⊥
exact_some total s = absurd (omega (arith, ap length s.spelled))

rest_same : (rest : List ℕ) (a b : ℕ) → Rest rest a → Rest rest b → a ≡ b
rest_same rest a b (inl x) (inl y) = x.1 ∙ sym y.1
rest_same rest a b (inl x) (inr t) = absurd (exact_some b (rw x.0 at t))
rest_same rest a b (inr s) (inl y) = absurd (exact_some a (rw y.0 at s))
rest_same rest a b (inr s) (inr t) = exact_same rest a b s t

shape_same : (text : List ℕ) (d s e t : ℕ) → Shape text d s → Shape text e t → (d ≡ e) × (s ≡ t)
shape_same text d s e t (inl (x, b, p)) (inl (y, c, q)) =
    let same = begins_same 68 68 text d e x y (omega arith) (omega arith) b c in
    (same.1, rest_same y s t (rw same.2 at p) q)
shape_same text d s e t (inl (x, b, p)) (inr h) = absurd (exact_begins 68 text x d t h.0 b)
shape_same text d s e t (inr h) (inl (y, c, q)) = absurd (exact_begins 68 text y e s h.0 c)
shape_same text d s e t (inr h) (inr k) = (h.1 ∙ sym k.1, exact_same text s t h.0 k.0)

counts_same : (text : List ℕ) (d s e t : ℕ) → SpellsCounts text d s → SpellsCounts text e t → (d ≡ e) × (s ≡ t)
counts_same text d s e t (inl (x, m, number, p, a, b)) (inl (y, n, other, q, f, g)) =
    let same = begins_same 87 87 text m n [] [] (omega arith) (omega arith) (record { digits = x; number = number; spelled = p }) (record { digits = y; number = other; spelled = q }) in
    (omega (arith, a, f, same.1), b ∙ sym g)
counts_same text d s e t (inl (x, m, number, p, a, b)) (inr k) =
    absurd (days_begin text [] m e t (record { digits = x; number = number; spelled = p }) k)
counts_same text d s e t (inr h) (inl (y, n, other, q, f, g)) =
    absurd (days_begin text [] n d s (record { digits = y; number = other; spelled = q }) h)
counts_same text d s e t (inr h) (inr k) = shape_same text d s e t (shape text d s h) (shape text e t k)

unsigned_same : (text : List ℕ) (d s e t : ℕ) → SpellsUnsigned text d s → SpellsUnsigned text e t → (d ≡ e) × (s ≡ t)
unsigned_same text d s e t (x, h, p) (y, k, q) =
    let same = ap (drop 1) (sym p ∙ q) in
    counts_same y d s e t (rw same at h) k

first_differs : (a b : ℕ) (xs ys text : List ℕ) → a ≢ b → text ≡ a ∷ xs → text ≡ b ∷ ys → ⊥
first_differs a b xs ys text other e f = other (ap (λ x. get_or x 0 0) (sym e ∙ f))

pub duration_same : (text : List ℕ) (d s e t : ℕ) → SpellsDuration text d s → SpellsDuration text e t → (d ≡ e) × (s ≡ t)
duration_same text d s e t (x, u, inl p) (y, v, inl q) = unsigned_same y d s e t (rw (sym p ∙ q) at u) v
duration_same text d s e t (x, u, inr p) (y, v, inr q) = unsigned_same y d s e t (rw (ap (drop 1) (sym p ∙ q)) at u) v
duration_same text d s e t (x, u, inl p) (y, v, inr q) =
    absurd (first_differs 80 43 u.0 y text (λ z. omega arith) (p ∙ u.2) q)
duration_same text d s e t (x, u, inr p) (y, v, inl q) =
    absurd (first_differs 43 80 x v.0 text (λ z. omega arith) p (q ∙ v.2))

-- no text spells a negative duration and another one
pub negative_apart : (text : List ℕ) (d s : ℕ) → SpellsDuration text d s → SpellsNegative text → ⊥
negative_apart text d s (x, u, inl p) (y, e, t, v, q) = first_differs 80 45 u.0 y text (λ z. omega arith) (p ∙ u.2) q
negative_apart text d s (x, u, inr p) (y, e, t, v, q) = first_differs 43 45 x y text (λ z. omega arith) p q

-- WRITING

number_of_decimal : (n : ℕ) → n < 2 ^ 32 → IsNumber (decimal n) n
number_of_decimal n h = let d = decimal_is_IsNumeral n (omega arith) in (d.0.0, d.0.1, d.1)

exact_written : (n : ℕ) → n < 2 ^ 32 → SpellsExact (codes "T" ++ decimal n ++ codes "S") n
exact_written n h = record {
  hour_part = [];
  minute_part = [];
  second_part = decimal n ++ codes "S";
  hours = 0;
  minutes = 0;
  seconds = n;
  hour = inl (refl, refl);
  minute = inl (refl, refl);
  second = inr (decimal n, number_of_decimal n h, refl);
  some = omega (arith, length-append (decimal n) (codes "S"));
  spelled = refl;
  counted = omega arith;
}

written_by_tests : (b c : Bool) (days seconds : ℕ) → days < 2 ^ 32 → seconds < 2 ^ 32 → b ≡ nat_eq days 0 → c ≡ nat_eq seconds 0 → SpellsUnsigned (cond b (codes "PT" ++ decimal seconds ++ codes "S") (cond c (codes "P" ++ decimal days ++ codes "D") (codes "P" ++ decimal days ++ codes "DT" ++ decimal seconds ++ codes "S"))) days seconds
written_by_tests true c days seconds d s e f =
    let none : days ≡ 0 = grind (arith, nat_tests) in
    (codes "T" ++ decimal seconds ++ codes "S", inr (inr (inl (exact_written seconds s, none))), refl)
written_by_tests false true days seconds d s e f =
    let none : seconds ≡ 0 = grind (arith, nat_tests) in
    (decimal days ++ codes "D", inr (inl (decimal days, number_of_decimal days d, refl, none)), refl)
written_by_tests false false days seconds d s e f = (
  decimal days ++ (codes "D" ++ (codes "T" ++ decimal seconds ++ codes "S")),
  inr (inr (inr (decimal days, codes "T" ++ decimal seconds ++ codes "S", number_of_decimal days d, exact_written seconds s, refl))),
  simp append_assoc refl,
)

pub duration_written : (days seconds : ℕ) → days < 2 ^ 32 → seconds < 2 ^ 32 → SpellsDuration (duration_text days seconds) days seconds
duration_written days seconds d s =
    (duration_text days seconds, written_by_tests (nat_eq days 0) (nat_eq seconds 0) days seconds d s refl refl, inl refl)
