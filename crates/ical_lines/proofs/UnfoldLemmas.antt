-- What the lines of a text are, as it is and unfolded.
use Rattle.std.proofs.Common.{◌≡◌, filter, ℕ, ◌<◌, Bool, true, false, cond, List, [], ◌∷◌, ◌++◌, length, take, drop, refl, ap, sym, ◌∙◌, arith}
use Rattle.std.specs.List.{list_any, list_all}
use Rattle.std.proofs.lemmas.List.{append_assoc, append-nil, length-drop, take-append-drop}
use Rattle.std.proofs.lemmas.Bool.{or_parts, and_parts, not-true}
use Rattle.std.proofs.lemmas.Bool.Decides.{nat_tests}
use Rattle.profile.specs.text.Lines.{physical_lines, is_continuation, gather, unfolded, is_filled, logical_lines, without_mark}
use Rattle.ical_lines.specs.Breaks.{is_break, is_one_line, lines_of}
use Rattle.ical_lines.specs.Unfold.{with_breaks, broken_if_filled}
use Rattle.ical_lines.proofs.BreakLemmas.{unfolded_lines_whole}
use Rattle.ical_lines.proofs.ReadBackLemmas.{ends_line}

-- ---- a text in which nothing is folded

none_gathered : (begun : List ℕ) (lines : List (List ℕ)) → list_any is_continuation lines ≡ false → gather begun lines ≡ begun ∷ lines
none_gathered begun [] h = refl
none_gathered begun (line ∷ lines) h =
    let p = or_parts (is_continuation line) (list_any is_continuation lines) h in
    ap (λ t. cond t (gather (begun ++ drop 1 line) lines) (begun ∷ gather line lines)) p.0 ∙ ap (λ z. begun ∷ z) (none_gathered line lines p.1)

none_folded : (lines : List (List ℕ)) → list_any is_continuation (drop 1 lines) ≡ false → unfolded lines ≡ lines
none_folded [] h = refl
none_folded (line ∷ lines) h = none_gathered line lines h

pub lines_of-lent : (octets text : List ℕ) → text ≡ without_mark octets → list_any is_continuation (drop 1 (physical_lines text)) ≡ false → lines_of text ≡ logical_lines octets
lines_of-lent octets text e h =
    ap (filter is_filled) (sym (none_folded (physical_lines text) h)) ∙ ap (λ z. filter is_filled (unfolded (physical_lines z))) e

-- ---- a text of the logical lines

filled_by : (b : Bool) (x : List ℕ) (s : List (List ℕ)) → is_filled x ≡ b → list_all is_filled s ≡ true → list_all is_filled (cond b (x ∷ s) s) ≡ true
filled_by true x s e h = rw (e, h) refl
filled_by false x s e h = h

filled_all : (s : List (List ℕ)) → list_all is_filled (filter is_filled s) ≡ true
filled_all [] = refl
filled_all (x ∷ s) = filled_by (is_filled x) x (filter is_filled s) refl (filled_all s)

lines_of-with_breaks : (lines : List (List ℕ)) → list_all is_one_line lines ≡ true → list_all is_filled lines ≡ true → lines_of (with_breaks lines) ≡ lines
lines_of-with_breaks [] h k = refl
lines_of-with_breaks (x ∷ ls) h k =
    let whole = and_parts (is_one_line x) (list_all is_one_line ls) h in
    let filled = and_parts (is_filled x) (list_all is_filled ls) k in
    let split : physical_lines (with_breaks (x ∷ ls)) ≡ x ∷ physical_lines (with_breaks ls) = ap physical_lines (append_assoc x (13 ∷ 10 ∷ []) (with_breaks ls)) ∙ ends_line x (with_breaks ls) (not-true (list_any is_break x) whole.0) in
    ap (filter is_filled) split ∙ (ap (λ t. cond t (x ∷ lines_of (with_breaks ls)) (lines_of (with_breaks ls))) filled.0 ∙ ap (λ z. x ∷ z) (lines_of-with_breaks ls whole.1 filled.1))

pub lines_of-owned : (octets unmarked text : List ℕ) → unmarked ≡ without_mark octets → text ≡ with_breaks (filter is_filled (unfolded (physical_lines unmarked))) → lines_of text ≡ logical_lines octets
lines_of-owned octets unmarked text e t =
    ap lines_of t ∙ (lines_of-with_breaks (filter is_filled (unfolded (physical_lines unmarked))) (unfolded_lines_whole unmarked) (filled_all (unfolded (physical_lines unmarked))) ∙ ap (λ z. filter is_filled (unfolded (physical_lines z))) e)

-- ---- a line that is ended

pub end_filled : (begun : ℕ) (old new : List ℕ) → begun < length old → new ≡ old ++ 13 ∷ 10 ∷ [] → new ≡ take begun old ++ broken_if_filled (drop begun old)
end_filled begun old new l e =
    let some : 0 < length (drop begun old) = omega (arith, length-drop begun old) in
    let filled : is_filled (drop begun old) ≡ true = grind (arith, nat_tests) in
    let line : broken_if_filled (drop begun old) ≡ drop begun old ++ 13 ∷ 10 ∷ [] = ap (λ t. with_breaks (cond t (drop begun old ∷ []) [])) filled ∙ append-nil (drop begun old ++ 13 ∷ 10 ∷ []) in
    e ∙ (ap (λ z. z ++ 13 ∷ 10 ∷ []) (sym (take-append-drop begun old)) ∙ (append_assoc (take begun old) (drop begun old) (13 ∷ 10 ∷ []) ∙ ap (λ z. take begun old ++ z) (sym line)))
