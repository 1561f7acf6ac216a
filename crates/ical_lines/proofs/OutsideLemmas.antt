-- The first quote or stop of a text: where it isn't a quote it is the first stop outside quotes.
use Rattle.std.proofs.Common.{◌≡◌, ◌∙◌, ℕ, zero, suc, ◌+◌, ◌<◌, true, false, nat_eq, List, [], ◌∷◌, length, get_or, refl, ap, arith, Some, None}
use Rattle.std.proofs.lemmas.Bool.{false_from_ne_true}
use Rattle.std.proofs.lemmas.Bool.Decides.{nat_tests}
use Rattle.memchr.specs.Find.{IsFirstByte, is_byte2}
use Rattle.profile.specs.text.Lines.{outside_from, outside}

-- an octet that is neither a quote nor a stop comes before
passed : (stop : ℕ) (c : ℕ) (cs : List ℕ) → is_byte2 34 stop c ≡ false → outside_from stop false (c ∷ cs) ≡ 1 + outside_from stop false cs
passed stop c cs h =
    let quote : nat_eq c 34 ≡ false = grind (arith, nat_tests, h) in
    let other : nat_eq c stop ≡ false = grind (arith, nat_tests, h) in
    rw (quote, other) refl

none_before : (stop : ℕ) (text : List ℕ) → ((k : ℕ) → k < length text → is_byte2 34 stop (get_or text k 0) ≡ false) → outside_from stop false text ≡ length text
none_before stop [] h = refl
none_before stop (c ∷ cs) h =
    let more = none_before stop cs (λ k l. h (suc k) (omega arith)) in
    passed stop c cs (h 0 (omega arith)) ∙ ap (λ n. 1 + n) more ∙ omega arith

stops_at : (stop : ℕ) (text : List ℕ) (i : ℕ) → i < length text → ((k : ℕ) → k < i → is_byte2 34 stop (get_or text k 0) ≡ false)
    → is_byte2 34 stop (get_or text i 0) ≡ true → nat_eq (get_or text i 0) 34 ≡ false → outside_from stop false text ≡ i
stops_at stop [] i l before here plain = absurd (omega arith)
stops_at stop (c ∷ cs) zero l before here plain =
    let is : nat_eq c stop ≡ true = grind (arith, nat_tests, here, plain) in
    rw (plain, is) refl
stops_at stop (c ∷ cs) (suc i) l before here plain =
    let more = stops_at stop cs i (omega arith) (λ k m. before (suc k) (omega arith)) here plain in
    passed stop c cs (before 0 (omega arith)) ∙ ap (λ n. 1 + n) more ∙ omega arith

-- neither of the two is there
pub no_stop : (stop : ℕ) (text : List ℕ) → IsFirstByte (is_byte2 34 stop) text None → outside stop text ≡ length text
no_stop stop text h = none_before stop text (λ k l. false_from_ne_true (is_byte2 34 stop (get_or text k 0)) (h k (omega arith) l))

-- the first of the two isn't a quote
pub plain_stop : (stop : ℕ) (text : List ℕ) (i : ℕ) → IsFirstByte (is_byte2 34 stop) text (Some i) → (get_or text i 0 ≡ 34 → ⊥) → outside stop text ≡ i
plain_stop stop text i h plain =
    stops_at stop text i h.0.high (λ k l. false_from_ne_true (is_byte2 34 stop (get_or text k 0)) (h.0.before k (omega arith) l)) h.1
    (false_from_ne_true (nat_eq (get_or text i 0) 34) (λ e. plain (grind (arith, nat_tests, e))))
