-- Digits of an offset, and its sign.
use Rattle.std.proofs.Common.{◌≡◌, ◌≢◌, ◌∙◌, ℕ, ◌≤◌, inl, inr, List, [], ◌∷◌, ◌++◌, length, get_or, drop, codes, Option, Some, None, IfNone, sym, ap, arith, length-append, ℤ}
use Rattle.profile.specs.text.Values.{SpellsTime, SpellsSize, SpellsOffset}
use Rattle.ical_values.proofs.Spelled.{list_of_4, time_length}

pub if_none_weaker : {A : Type 0} (r : Option A) {P Q : Type 0} → (P → Q) → IfNone r P → IfNone r Q
if_none_weaker (Some x) f h = tt
if_none_weaker None f h = f h

-- one text spells one second of the day
pub time_same : (limit : ℕ) (text : List ℕ) (a b : ℕ) → limit ≤ 60 → SpellsTime limit text a → SpellsTime limit text b → a ≡ b
time_same limit text a b bound s t =
    let e = sym s.spelled ∙ t.spelled in
    let h1 = ap (λ x. get_or x 0 0) e in
    let h2 = ap (λ x. get_or x 1 0) e in
    let m1 = ap (λ x. get_or x 2 0) e in
    let m2 = ap (λ x. get_or x 3 0) e in
    let s1 = ap (λ x. get_or x 4 0) e in
    let s2 = ap (λ x. get_or x 5 0) e in
    let hour : s.hour ≡ t.hour = omega (arith, h1, h2, s.hours, t.hours) in
    let minute : s.minute ≡ t.minute = omega (arith, m1, m2, s.minutes, t.minutes) in
    let second : s.second ≡ t.second = omega (arith, s1, s2, s.seconds, t.seconds) in
    omega (arith, hour, minute, second, s.counted, t.counted)

pub size_same : (digits : List ℕ) (a b : ℕ) → SpellsSize digits a → SpellsSize digits b → a ≡ b
size_same digits a b (inl s) (inl t) = time_same 59 digits a b (omega arith) s t
size_same digits a b (inr s) (inr t) = time_same 59 _ a b (omega arith) s t
size_same digits a b (inl s) (inr t) =
    absurd (omega (arith, time_length 59 digits a s, time_length 59 _ b t, length-append digits (codes "00")))
size_same digits a b (inr s) (inl t) =
    absurd (omega (arith, time_length 59 digits b t, time_length 59 _ a s, length-append digits (codes "00")))

-- four digits are read with two zeros after them
pub size_of_four : (digits : List ℕ) → length digits ≡ 4 → ((total : ℕ) → SpellsTime 59 (get_or digits 0 0 ∷ get_or digits 1 0 ∷ get_or digits 2 0 ∷ get_or digits 3 0 ∷ 48 ∷ 48 ∷ []) total → ⊥) → (size : ℕ) → SpellsSize digits size → ⊥
size_of_four digits long f size (inl s) = absurd (omega (arith, time_length 59 digits size s))
size_of_four digits long f size (inr s) =
    let e = ap (λ d. d ++ codes "00") (list_of_4 digits long) in
    f size (rw e at s)

-- and others as they are
pub size_of_others : (digits : List ℕ) → length digits ≢ 4 → ((total : ℕ) → SpellsTime 59 digits total → ⊥) → (size : ℕ) → SpellsSize digits size → ⊥
size_of_others digits other f size (inl s) = f size s
size_of_others digits other f size (inr s) =
    other (omega (arith, time_length 59 _ size s, length-append digits (codes "00")))

tail : (a b : ℕ) (xs ys text : List ℕ) → text ≡ a ∷ xs → text ≡ b ∷ ys → ys ≡ xs
tail a b xs ys text d e = ap (drop 1) (sym e ∙ d)

head : (a b : ℕ) (xs ys text : List ℕ) → text ≡ a ∷ xs → text ≡ b ∷ ys → a ≡ b
head a b xs ys text d e = ap (λ x. get_or x 0 0) (sym d ∙ e)

pub plus_none : (text digits : List ℕ) → text ≡ 43 ∷ digits → ((size : ℕ) → SpellsSize digits size → ⊥) → (offset : ℤ) → SpellsOffset text offset → ⊥
plus_none text digits e f offset (d, size, s, inl h) = f size (rw (tail 43 43 digits d text e h.0) at s)
plus_none text digits e f offset (d, size, s, inr h) = absurd (omega (arith, head 43 45 digits d text e h.0))

pub minus_none : (text digits : List ℕ) → text ≡ 45 ∷ digits → ((size : ℕ) → SpellsSize digits size → ⊥) → (offset : ℤ) → SpellsOffset text offset → ⊥
minus_none text digits e f offset (d, size, s, inl h) = absurd (omega (arith, head 45 43 digits d text e h.0))
minus_none text digits e f offset (d, size, s, inr h) = f size (rw (tail 45 45 digits d text e h.0) at s)

pub sign_none : (text : List ℕ) → ((rest : List ℕ) → text ≢ 43 ∷ rest) → ((rest : List ℕ) → text ≢ 45 ∷ rest) → (offset : ℤ) → SpellsOffset text offset → ⊥
sign_none text plus minus offset (d, size, s, inl h) = plus d h.0
sign_none text plus minus offset (d, size, s, inr h) = minus d h.0
