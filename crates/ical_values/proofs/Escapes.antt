-- Escapes of text.
use Rattle.std.proofs.Common.{◌≡◌, ◌≢◌, ◌∙◌, ℕ, suc, ◌<◌, true, false, cond, List, [], ◌∷◌, ◌++◌, length, get_or, refl, sym, ap, arith, append_assoc, ◌⊎◌, inl, inr}
use Rattle.std.proofs.lemmas.List.{append-nil}
use Rattle.std.proofs.lemmas.Bool.{cases_order}
use Rattle.std.proofs.lemmas.Bool.Decides.{nat_tests}
use Rattle.profile.specs.text.Values.{unescaped, escaped, escaped_octet, is_escape, meant}

-- an octet that isn't a backslash represents itself
pub unescaped_plain : (c : ℕ) (cs : List ℕ) → c ≢ 92 → unescaped (c ∷ cs) ≡ c ∷ unescaped cs
unfolding unescaped
unescaped_plain c [] h = refl
unescaped_plain c (d ∷ ds) h = grind (arith, nat_tests)

pub unescaped_front : (front rest : List ℕ) → ((i : ℕ) → i < length front → get_or front i 0 ≢ 92) → unescaped (front ++ rest) ≡ front ++ unescaped rest
unescaped_front [] rest h = refl
unescaped_front (c ∷ cs) rest h =
    unescaped_plain c (cs ++ rest) (h 0 (omega arith))
    ∙ ap (λ x. c ∷ x) (unescaped_front cs rest (λ i k. h (suc i) (omega arith)))

pub unescaped_pair : (c : ℕ) (cs : List ℕ) → is_escape c ≡ true → unescaped (92 ∷ c ∷ cs) ≡ meant c ∷ unescaped cs
unfolding unescaped
unescaped_pair c cs h = rw h refl

pub unescaped_lone : (cs : List ℕ) → ((c : ℕ) (rest : List ℕ) → is_escape c ≡ true → cs ≢ c ∷ rest) → unescaped (92 ∷ cs) ≡ 92 ∷ unescaped cs
unfolding unescaped
unescaped_lone [] h = refl
unescaped_lone (d ∷ ds) h = elim (is_escape d) as (λ b. is_escape d ≡ b → cond b (meant d ∷ unescaped ds) (92 ∷ unescaped (d ∷ ds)) ≡ 92 ∷ unescaped (d ∷ ds)) [
  | true ↦ λ e. absurd (h d ds e refl)
  | false ↦ λ e. refl
] refl

-- what is read of a text up to a backslash, and from it on
pub unescaped_step : (front after meaning following : List ℕ) → ((i : ℕ) → i < length front → get_or front i 0 ≢ 92) → meaning ++ unescaped following ≡ unescaped (92 ∷ after) → front ++ (meaning ++ unescaped following) ≡ unescaped (front ++ 92 ∷ after)
unescaped_step front after meaning following plain h =
    ap (λ x. front ++ x) h ∙ sym (unescaped_front front (92 ∷ after) plain)

-- one turn of the reading: what was read before it, and what is left after it
pub unescaped_turn : (out front after meaning following rest text : List ℕ) → rest ≡ front ++ 92 ∷ after → ((i : ℕ) → i < length front → get_or front i 0 ≢ 92) → meaning ++ unescaped following ≡ unescaped (92 ∷ after) → out ++ unescaped rest ≡ unescaped text → ((out ++ front) ++ meaning) ++ unescaped following ≡ unescaped text
unescaped_turn out front after meaning following rest text e plain h before =
    append_assoc (out ++ front) meaning (unescaped following)
    ∙ append_assoc out front (meaning ++ unescaped following)
    ∙ ap (λ x. out ++ x) (unescaped_step front after meaning following plain h ∙ ap unescaped (sym e))
    ∙ before

-- what is read of a text without a backslash
pub unescaped_all : (text : List ℕ) → ((i : ℕ) → i < length text → get_or text i 0 ≢ 92) → unescaped text ≡ text
unfolding unescaped
unescaped_all text plain =
    let at_end = unescaped_front text [] plain in
    ap unescaped (sym (append-nil text)) ∙ at_end ∙ append-nil text

-- a text that begins with none of the five
pub no_escape : (text : List ℕ) → ((rest : List ℕ) → text ≢ 92 ∷ rest) → ((rest : List ℕ) → text ≢ 59 ∷ rest) → ((rest : List ℕ) → text ≢ 44 ∷ rest) → ((rest : List ℕ) → text ≢ 110 ∷ rest) → ((rest : List ℕ) → text ≢ 78 ∷ rest) → (c : ℕ) (rest : List ℕ) → is_escape c ≡ true → text ≢ c ∷ rest
no_escape text a b d e f c rest h same =
    let is : (c ≡ 92) ⊎ ((c ≡ 59) ⊎ ((c ≡ 44) ⊎ ((c ≡ 110) ⊎ (c ≡ 78)))) = grind (arith, nat_tests) in
    elim is [
      | inl x ↦ a rest (same ∙ ap (λ y. y ∷ rest) x)
      | inr (inl x) ↦ b rest (same ∙ ap (λ y. y ∷ rest) x)
      | inr (inr (inl x)) ↦ d rest (same ∙ ap (λ y. y ∷ rest) x)
      | inr (inr (inr (inl x))) ↦ e rest (same ∙ ap (λ y. y ∷ rest) x)
      | inr (inr (inr (inr x))) ↦ f rest (same ∙ ap (λ y. y ∷ rest) x)
    ]

is_or_not : (a b : ℕ) → (a ≡ b) ⊎ (a ≢ b)
is_or_not a b = elim (cases_order a b) [ inl e ↦ inl e | inr (inl lt) ↦ inr (λ e. omega arith) | inr (inr gt) ↦ inr (λ e. omega arith) ]

octet_back : (c : ℕ) (rest : List ℕ) → unescaped (escaped_octet c ++ rest) ≡ c ∷ unescaped rest
octet_back c rest =
    let pair : c ≢ 10 → is_escape c ≡ true → c ≢ 110 → c ≢ 78 → unescaped (escaped_octet c ++ rest) ≡ c ∷ unescaped rest = λ n e a b.
    let form : escaped_octet c ≡ 92 ∷ c ∷ [] = grind (arith, nat_tests) in
    let same : meant c ≡ c = grind (arith, nat_tests) in
    rw form (unescaped_pair c rest e ∙ ap (λ x. x ∷ unescaped rest) same) in
    let plain : c ≢ 10 → c ≢ 92 → c ≢ 59 → c ≢ 44 → unescaped (escaped_octet c ++ rest) ≡ c ∷ unescaped rest = λ n a b d.
    let form : escaped_octet c ≡ c ∷ [] = grind (arith, nat_tests) in
    rw form (unescaped_plain c rest a) in
    elim (is_or_not c 10) [
      | inl e ↦ rw e (unescaped_pair 110 rest refl)
      | inr n ↦ elim (is_or_not c 92) [
        | inl e ↦ pair n (rw e refl) (omega arith) (omega arith)
        | inr a ↦ elim (is_or_not c 59) [
          | inl e ↦ pair n (rw e refl) (omega arith) (omega arith)
          | inr b ↦ elim (is_or_not c 44) [
            | inl e ↦ pair n (rw e refl) (omega arith) (omega arith)
            | inr d ↦ plain n a b d
          ]
        ]
      ]
    ]

-- what is written of a text is read as that text
pub read_back : (text : List ℕ) → unescaped (escaped text) ≡ text
unfolding unescaped
read_back [] = refl
read_back (c ∷ cs) = octet_back c (escaped cs) ∙ ap (λ x. c ∷ x) (read_back cs)
