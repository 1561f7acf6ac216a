-- Lines one after another.
use Rattle.std.proofs.Common.{◌≡◌, ◌∙◌, ℕ, ◌+◌, ◌<◌, ◌≤◌, List, [], ◌∷◌, ◌++◌, map, take, get_or, refl, sym, ap, subst, length, append_assoc, append-nil}
use Rattle.std.proofs.lemmas.List.{take_more, take_all, map-append}
use Rattle.cal_agenda.specs.Printing.{LinesOf}

module _ {X : Type 0} (IsLine : X → List ℕ → Type 0) where
  one_more_line : (xs : List X) (x : X) (text line : List ℕ) → LinesOf IsLine xs text → IsLine x line → LinesOf IsLine (xs ++ x ∷ []) (text ++ line)
  one_more_line [] x text line are is = (line, [], is, refl, ap (λ t. t ++ line) are ∙ sym (append-nil line))
  one_more_line (y ∷ ys) x text line (first, rest, its, others, e) is =
      (first, rest ++ line, its, one_more_line ys x rest line others is, ap (λ t. t ++ line) e ∙ append_assoc first rest line)

  -- the line of that at a place, behind those of the ones before
  pub next_line : {A : Type 0} (view : A → X) (all : List A) (k : ℕ) (d : A) (old now new line : List ℕ) → k < length all → IsLine (view (get_or all k d)) line → new ≡ now ++ line
      → (text : List ℕ) × LinesOf IsLine (map view (take k all)) text × (now ≡ old ++ text)
      → (text : List ℕ) × LinesOf IsLine (map view (take (k + 1) all)) text × (new ≡ old ++ text)
  next_line view all k d old now new line w is e (text, are, f) =
      let more : map view (take (k + 1) all) ≡ map view (take k all) ++ view (get_or all k d) ∷ [] = ap (map view) (take_more all k d w) ∙ map-append view (take k all) (get_or all k d ∷ []) in (
        text ++ line,
        subst (λ l. LinesOf IsLine l (text ++ line)) (sym more) (one_more_line (map view (take k all)) (view (get_or all k d)) text line are is),
        e ∙ ap (λ t. t ++ line) f ∙ append_assoc old text line,
      )

  -- the lines of all of them
  pub all_lines : {A : Type 0} (view : A → X) (all : List A) (k : ℕ) (old now : List ℕ) → length all ≤ k
      → (text : List ℕ) × LinesOf IsLine (map view (take k all)) text × (now ≡ old ++ text)
      → (text : List ℕ) × LinesOf IsLine (map view all) text × (now ≡ old ++ text)
  all_lines view all k old now w (text, are, f) = (text, subst (λ l. LinesOf IsLine (map view l) text) (take_all k all w) are, f)

-- ---- pieces, as a text is made of them and as it is said

pub four_pieces : (a b c d : List ℕ) → a ++ (b ++ (c ++ d)) ≡ ((a ++ b) ++ c) ++ d
four_pieces a b c d = simp append_assoc

pub five_pieces : (a b c d e : List ℕ) → a ++ (b ++ (c ++ (d ++ e))) ≡ (((a ++ b) ++ c) ++ d) ++ e
five_pieces a b c d e = simp append_assoc

pub six_pieces : (a b c d e f : List ℕ) → a ++ (b ++ (c ++ (d ++ (e ++ f)))) ≡ ((((a ++ b) ++ c) ++ d) ++ e) ++ f
six_pieces a b c d e f = simp append_assoc
