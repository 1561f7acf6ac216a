-- The lists of a rule as they are written.
use Rattle.std.proofs.Common.{to_z, of_z, w16, ◌≡◌, ◌∙◌, ap, ℕ, ◌<◌, List, [], ◌∷◌, ◌++◌, codes, append_assoc, append-nil, pos, ◌-ℤ◌, arith}
use Rattle.std.proofs.lemmas.Int.{ints}
use Rattle.profile.specs.series.RuleTexts.{listed, nth_number}

joined : (b lead entry rest : List ℕ) → ((b ++ lead) ++ entry) ++ rest ≡ b ++ (lead ++ entry ++ rest)
joined b lead entry rest = simp append_assoc

-- one more entry was appended
pub listed_hit : (b b1 b2 lead entry : List ℕ) (rest : List (List ℕ)) → b1 ≡ b ++ lead → b2 ≡ b1 ++ entry → b2 ++ listed (codes ",") rest ≡ b ++ listed lead (entry ∷ rest)
listed_hit b b1 b2 lead entry rest e f =
    ap (λ x. x ++ listed (codes ",") rest) (f ∙ ap (λ x. x ++ entry) e) ∙ joined b lead entry (listed (codes ",") rest)

-- no entry is left
pub listed_end : (b lead : List ℕ) (entries : List (List ℕ)) → entries ≡ [] → b ++ listed lead entries ≡ b
listed_end b lead entries e = rw e (append-nil b)

-- ---- places

pub number_cast : (k : ℕ) → k < 733 → to_z w16 (of_z w16 (to_z w16 k -ℤ pos 366)) ≡ nth_number k
number_cast k h = omega (arith, ints)
