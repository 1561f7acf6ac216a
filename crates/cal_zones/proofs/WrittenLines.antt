-- Lines that are appended one after another are the lines of a whole.
use Rattle.std.proofs.Common.{◌≡◌, ◌∙◌, ap, sym, ℕ, List, [], ◌∷◌, ◌++◌, append_assoc, append-nil}
use Rattle.std.proofs.lemmas.Grind.{flat_map-append}
use Rattle.profile.specs.text.Lines.{folded, written}

abbrev Lines : Type 0
Lines = List (List ℕ)

four : (a b n p e : List ℕ) → a ++ b ++ n ++ p ++ e ≡ a ++ (b ++ (n ++ (p ++ (e ++ []))))
four a b n p e = simp (append_assoc, append-nil)

six : (a b s r f t e : List ℕ) → a ++ b ++ s ++ r ++ f ++ t ++ e ≡ a ++ (b ++ (s ++ (r ++ (f ++ (t ++ [])) ++ (e ++ []))))
six a b s r f t e = simp (append_assoc, append-nil)

-- a first line, a name, the lines of parts, a last line
pub zone_written : (a b c d e begin name end : List ℕ) (parts : Lines) → b ≡ a ++ folded begin → c ≡ b ++ folded name → d ≡ c ++ written parts → e ≡ d ++ folded end
    → e ≡ a ++ written (begin ∷ ((name ∷ parts) ++ end ∷ []))
zone_written a b c d e begin name end parts p q r s =
    s ∙ ap (λ x. x ++ folded end) (r ∙ ap (λ x. x ++ written parts) (q ∙ ap (λ x. x ++ folded name) p)) ∙ four a (folded begin) (folded name) (written parts) (folded end)
    ∙ ap (λ x. a ++ (folded begin ++ (folded name ++ x))) (sym (flat_map-append folded parts (end ∷ [])))

-- a first line, the lines of a part, a last line
pub part_written : (a b c d e f g begin start from to end : List ℕ) (rule : Lines) → b ≡ a ++ folded begin → c ≡ b ++ folded start → d ≡ c ++ written rule → e ≡ d ++ folded from → f ≡ e ++ folded to → g ≡ f ++ folded end
    → g ≡ a ++ written (begin ∷ ((start ∷ (rule ++ (from ∷ to ∷ []))) ++ end ∷ []))
part_written a b c d e f g begin start from to end rule p q r s t u =
    u ∙ ap (λ x. x ++ folded end) (t ∙ ap (λ x. x ++ folded to) (s ∙ ap (λ x. x ++ folded from) (r ∙ ap (λ x. x ++ written rule) (q ∙ ap (λ x. x ++ folded start) p))))
    ∙ six a (folded begin) (folded start) (written rule) (folded from) (folded to) (folded end)
    ∙ ap (λ x. a ++ (folded begin ++ (folded start ++ x))) (sym (flat_map-append folded (rule ++ (from ∷ to ∷ [])) (end ∷ []) ∙ ap (λ x. x ++ written (end ∷ [])) (flat_map-append folded rule (from ∷ to ∷ []))))

pub both_written : (a b c : List ℕ) (one other : Lines) → b ≡ a ++ written one → c ≡ b ++ written other → c ≡ a ++ written (one ++ other)
both_written a b c one other p q =
    q ∙ ap (λ x. x ++ written other) p ∙ append_assoc a (written one) (written other) ∙ ap (λ x. a ++ x) (sym (flat_map-append folded one other))

-- a line with a value of some kind
pub line_written : (old new text line : List ℕ) → new ≡ old ++ text → text ≡ folded line → new ≡ old ++ folded line
line_written old new text line e is = e ∙ ap (λ x. old ++ x) is
