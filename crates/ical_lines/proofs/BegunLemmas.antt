-- The octet steps of a cutter tell whether more than empty lines came.
use Rattle.std.proofs.Common.{◌≡◌, inl, inr, map, ℕ, ◌+◌, ◌<◌, ◌≤◌, Bool, true, false, not, ◌&&◌, ◌||◌, cond, eqb, List, [], ◌∷◌, ◌++◌, length, take, drop, get_or, refl, ap, sym, subst, ◌∙◌}
use Rattle.std.specs.List.{slice_split, onto_first, list_any}
use Rattle.std.specs.Str.{bytes_eq}
use Rattle.std.proofs.lemmas.Bool.Decides.{eqb_tells}
use Rattle.std.proofs.lemmas.List.{drop_more, drop_all}
use Rattle.profile.specs.text.Lines.{is_filled, is_continuation, without_return, physical_lines, gather, unfolded}
use Rattle.profile.specs.text.Objects.{is_begun}
use Rattle.ical_lines.specs.declared.object_end.Cutter.{Cutter}
use Rattle.ical_lines.specs.declared.object_end.CutPlace.{CutPlace}
use Rattle.ical_lines.specs.declared.object_end.CutPlace.TheVariants.{Mark, Line, Return, Break}
use Rattle.ical_lines.specs.declared.object_end.Seen.{Seen}
use Rattle.ical_lines.specs.declared.object_end.Seen.TheVariants.{First, Other}
use Rattle.ical_lines.specs.Breaks.{is_break}
use Rattle.ical_lines.specs.Cut.{next_seen, is_whole, is_blank, begun_after, fresh, added, after_line, step, step_from, ends_before}
use Rattle.ical_lines.proofs.BreakLemmas.{filled_cons}
use Rattle.ical_lines.proofs.ReadBackLemmas.{next_starts}
use Rattle.ical_lines.proofs.CutLemmas.{SeenOf, mk, seen_none, seen_whole, blank_other, without_return-cons, without_return-other}

-- ---- once begun, always begun

cond_begun : (c : Bool) (x y : Cutter) → x.begun ≡ true → y.begun ≡ true → (cond c x y).begun ≡ true
cond_begun true x y h k = h
cond_begun false x y h k = k

line_begun : (t : Cutter) (b : ℕ) → t.begun ≡ true → (after_line t b).begun ≡ true
line_begun t b h = cond_begun (eqb b 10) (mk Break t.seen t.begun) (cond (eqb b 13) (mk Return t.seen t.begun) (mk Line (next_seen t.seen b) true)) h (cond_begun (eqb b 13) (mk Return t.seen t.begun) (mk Line (next_seen t.seen b) true) h refl)

from_begun : (p : CutPlace) (t : Cutter) (b : ℕ) → t.begun ≡ true → (step_from p t b).begun ≡ true
from_begun (Mark k) t b h =
    cond_begun (eqb k 0 && eqb b 0xEF) (mk (Mark 1) (next_seen t.seen b) true) (cond (eqb k 1 && eqb b 0xBB) (mk (Mark 2) (next_seen t.seen b) true) (cond (eqb k 2 && eqb b 0xBF) (mk Line (First 0) t.begun) (after_line t b))) refl (cond_begun (eqb k 1 && eqb b 0xBB) (mk (Mark 2) (next_seen t.seen b) true) (cond (eqb k 2 && eqb b 0xBF) (mk Line (First 0) t.begun) (after_line t b)) refl (cond_begun (eqb k 2 && eqb b 0xBF) (mk Line (First 0) t.begun) (after_line t b) h (line_begun t b h)))
from_begun Line t b h = line_begun t b h
from_begun Return t b h = cond_begun (eqb b 10) (after_line t b) (after_line (added t 13) b) (line_begun t b h) (line_begun (added t 13) b refl)
from_begun Break t b h = cond_begun (is_blank b) (mk Line t.seen t.begun) (after_line (mk t.place (First 0) t.begun) b) h (line_begun (mk t.place (First 0) t.begun) b h)

cond_true : (c x : Bool) → x ≡ true → cond c true x ≡ true
cond_true true x h = refl
cond_true false x h = h

kept : (t : Cutter) (rest : List ℕ) → t.begun ≡ true → begun_after t rest ≡ true
kept t [] h = h
kept t (b ∷ rest) h = cond_true (ends_before t b) (begun_after (step t b) rest) (kept (step t b) rest (from_begun t.place t b h))

-- ---- a line that isn't empty

any_cond : (t : Bool) (xs ys : List (List ℕ)) → list_any is_filled xs ≡ true → list_any is_filled ys ≡ true → list_any is_filled (cond t xs ys) ≡ true
any_cond true xs ys h k = h
any_cond false xs ys h k = k

gather_filled : (c : ℕ) (w : List ℕ) (lines : List (List ℕ)) → list_any is_filled (gather (c ∷ w) lines) ≡ true
gather_filled c w [] = rw (filled_cons c w) refl
gather_filled c w (l ∷ lines) =
    any_cond (is_continuation l) (gather (c ∷ (w ++ drop 1 l)) lines) ((c ∷ w) ∷ gather l lines) (gather_filled c (w ++ drop 1 l) lines) (rw (filled_cons c w) refl)

abbrev lines_filled : List (List ℕ) → Bool
lines_filled parts = list_any is_filled (unfolded (map without_return parts))

onto_filled : (b : ℕ) (parts : List (List ℕ)) → eqb b 13 ≡ false → lines_filled (onto_first b parts) ≡ true
onto_filled b [] h = ap (λ w. list_any is_filled (gather w [])) (without_return-other b [] h) ∙ gather_filled b [] []
onto_filled b (p ∷ ps) h = ap (λ w. list_any is_filled (gather w (map without_return ps))) (without_return-other b p h) ∙ gather_filled b (without_return p) (map without_return ps)

return_filled : (b : ℕ) (parts : List (List ℕ)) → lines_filled (onto_first 13 (onto_first b parts)) ≡ true
return_filled b [] = ap (λ w. list_any is_filled (gather w [])) (without_return-cons 13 b []) ∙ gather_filled 13 (without_return (b ∷ [])) []
return_filled b (p ∷ ps) = ap (λ w. list_any is_filled (gather w (map without_return ps))) (without_return-cons 13 b p) ∙ gather_filled 13 (without_return (b ∷ p)) (map without_return ps)

first_filled : (b : ℕ) (rest : List ℕ) → eqb b 10 ≡ false → eqb b 13 ≡ false → list_any is_filled (unfolded (physical_lines (b ∷ rest))) ≡ true
first_filled b rest n r = ap (λ t. lines_filled (cond t ([] ∷ slice_split is_break rest) (onto_first b (slice_split is_break rest)))) n ∙ onto_filled b (slice_split is_break rest) r

second_filled : (b : ℕ) (rest : List ℕ) → eqb b 10 ≡ false → list_any is_filled (unfolded (physical_lines (13 ∷ b ∷ rest))) ≡ true
second_filled b rest n = ap (λ t. lines_filled (onto_first 13 (cond t ([] ∷ slice_split is_break rest) (onto_first b (slice_split is_break rest))))) n ∙ return_filled b (slice_split is_break rest)

-- ---- one more octet, where nothing has begun

record Begins (rest : List ℕ) : Type 0 where
  in_line : (s : Seen) → SeenOf s [] → begun_after (mk Line s false) rest ≡ list_any is_filled (unfolded (physical_lines rest))
  in_return : (s : Seen) → SeenOf s [] → begun_after (mk Return s false) rest ≡ list_any is_filled (unfolded (physical_lines (13 ∷ rest)))
  in_break : (s : Seen) → SeenOf s [] → begun_after (mk Break s false) rest ≡ list_any is_filled (gather [] (physical_lines rest))

line_more : (b : ℕ) (rest : List ℕ) (ih : Begins rest) (s : Seen) → SeenOf s [] → begun_after (mk Line s false) (b ∷ rest) ≡ list_any is_filled (unfolded (physical_lines (b ∷ rest)))
line_more b rest ih s h =
    elim (eqb_tells b 10) [ inl e ↦ (let P : ℕ → Type 0 = λ x. begun_after (mk Line s false) (x ∷ rest) ≡ list_any is_filled (unfolded (physical_lines (x ∷ rest))) in subst P (sym e.1) (ih.in_break s h)) | inr e ↦ elim (eqb_tells b 13) [ inl f ↦ (let P : ℕ → Type 0 = λ x. begun_after (mk Line s false) (x ∷ rest) ≡ list_any is_filled (unfolded (physical_lines (x ∷ rest))) in subst P (sym f.1) (ih.in_return s h)) | inr f ↦ (ap (λ t. begun_after (cond t (mk Break s false) (cond (eqb b 13) (mk Return s false) (mk Line (next_seen s b) true))) rest) e.0 ∙ (ap (λ t. begun_after (cond t (mk Return s false) (mk Line (next_seen s b) true)) rest) f.0 ∙ (kept (mk Line (next_seen s b) true) rest refl ∙ sym (first_filled b rest e.0 f.0)))) ] ]

return_more : (b : ℕ) (rest : List ℕ) (ih : Begins rest) (s : Seen) → SeenOf s [] → begun_after (mk Return s false) (b ∷ rest) ≡ list_any is_filled (unfolded (physical_lines (13 ∷ b ∷ rest)))
return_more b rest ih s h =
    elim (eqb_tells b 10) [ inl e ↦ (let P : ℕ → Type 0 = λ x. begun_after (mk Return s false) (x ∷ rest) ≡ list_any is_filled (unfolded (physical_lines (13 ∷ x ∷ rest))) in subst P (sym e.1) (ih.in_break s h)) | inr e ↦ (ap (λ t. begun_after (cond t (after_line (mk Return s false) b) (after_line (mk Return (next_seen s 13) true) b)) rest) e.0 ∙ (kept (after_line (mk Return (next_seen s 13) true) b) rest (line_begun (mk Return (next_seen s 13) true) b refl) ∙ sym (second_filled b rest e.0))) ]

blank_parts : (b : ℕ) (parts : List (List ℕ)) → is_blank b ≡ true → eqb b 13 ≡ false → list_any is_filled (gather [] (map without_return (onto_first b parts))) ≡ lines_filled parts
blank_parts b [] h r =
    ap (λ w. list_any is_filled (cond (is_continuation w) (drop 1 w ∷ []) ([] ∷ w ∷ []))) (without_return-other b [] r) ∙ ap (λ t. list_any is_filled (cond t ([] ∷ []) ([] ∷ (b ∷ []) ∷ []))) h
blank_parts b (p ∷ ps) h r =
    ap (λ w. list_any is_filled (cond (is_continuation w) (gather (drop 1 w) (map without_return ps)) ([] ∷ gather w (map without_return ps)))) (without_return-other b p r) ∙ ap (λ t. list_any is_filled (cond t (gather (without_return p) (map without_return ps)) ([] ∷ gather (b ∷ without_return p) (map without_return ps)))) h

break_blank : (b : ℕ) (rest : List ℕ) → is_blank b ≡ true → list_any is_filled (gather [] (physical_lines (b ∷ rest))) ≡ list_any is_filled (unfolded (physical_lines rest))
break_blank b rest h =
    let o = blank_other b h in
    ap (λ t. list_any is_filled (gather [] (map without_return (cond t ([] ∷ slice_split is_break rest) (onto_first b (slice_split is_break rest)))))) o.0 ∙ blank_parts b (slice_split is_break rest) h o.1

blank_by : (t : Bool) (b : ℕ) (rest : List ℕ) (ih : Begins rest) (s : Seen) → is_blank b ≡ t → is_whole s ≡ false → SeenOf s [] → begun_after (mk Break s false) (b ∷ rest) ≡ list_any is_filled (gather [] (physical_lines (b ∷ rest)))
blank_by true b rest ih s e f h =
    ap (λ t. cond (not t && is_whole s) true (begun_after (cond t (mk Line s false) (after_line (mk Break (First 0) false) b)) rest)) e ∙ (ih.in_line s h ∙ sym (break_blank b rest e))
blank_by false b rest ih s e f h =
    ap (λ t. cond (not t && is_whole s) true (begun_after (cond t (mk Line s false) (after_line (mk Break (First 0) false) b)) rest)) e ∙ (ap (λ w. cond w true (begun_after (after_line (mk Break (First 0) false) b) rest)) f ∙ (line_more b rest ih (First 0) seen_none ∙ sym (ap (list_any is_filled) (next_starts (b ∷ rest) e []))))

begins : (rest : List ℕ) → Begins rest
begins [] = record {
  in_line = λ s h. refl;
  in_return = λ s h. refl;
  in_break = λ s h. refl;
}
begins (b ∷ rest) =
    let ih = begins rest in record {
      in_line = line_more b rest ih;
      in_return = return_more b rest ih;
      in_break = λ s h. blank_by (is_blank b) b rest ih s refl (sym (seen_whole s [] h)) h;
    }

-- ---- the start of an object, and its mark

mark_by : (t : Bool) (octets tail : List ℕ) → list_any is_filled (unfolded (physical_lines octets)) ≡ true → (t || list_any is_filled (unfolded (physical_lines (cond t tail octets)))) ≡ true
mark_by true octets tail h = refl
mark_by false octets tail h = h

pub cutter_begins : (octets : List ℕ) → begun_after fresh octets ≡ is_begun octets
cutter_begins [] = refl
cutter_begins (b ∷ rest) =
    elim (eqb_tells b 0xEF) [ inl e ↦ (let P : ℕ → Type 0 = λ x. begun_after fresh (x ∷ rest) ≡ is_begun (x ∷ rest) in subst P (sym e.1) (kept (mk (Mark 1) Other true) rest refl ∙ sym (mark_by (bytes_eq (take 2 rest) (0xBB ∷ 0xBF ∷ [])) (0xEF ∷ rest) (drop 2 rest) (first_filled 0xEF rest refl refl)))) | inr e ↦ (ap (λ t. begun_after (cond t (mk (Mark 1) (next_seen (First 0) b) true) (after_line fresh b)) rest) e.0 ∙ (line_more b rest (begins rest) (First 0) seen_none ∙ ap (λ t. (t && bytes_eq (take 2 rest) (0xBB ∷ 0xBF ∷ [])) || list_any is_filled (unfolded (physical_lines (cond (t && bytes_eq (take 2 rest) (0xBB ∷ 0xBF ∷ [])) (drop 2 rest) (b ∷ rest))))) (sym e.0))) ]

-- ---- the loop over the octets

pub begun_here : (s : Cutter) (octets : List ℕ) (i b : ℕ) → i < length octets → b ≡ get_or octets i 0 → ends_before s b ≡ true → begun_after s (drop i octets) ≡ begun_after fresh octets → is_begun octets ≡ true
begun_here s octets i b l e t h =
    let d : drop i octets ≡ b ∷ drop (i + 1) octets = drop_more octets i 0 l ∙ ap (λ z. z ∷ drop (i + 1) octets) (sym e) in
    let here : begun_after s (b ∷ drop (i + 1) octets) ≡ true = ap (λ z. cond z true (begun_after (step s b) (drop (i + 1) octets))) t in
    sym (cutter_begins octets) ∙ (sym h ∙ (ap (begun_after s) d ∙ here))

pub begun_all : (s : Cutter) (octets : List ℕ) (i : ℕ) → length octets ≤ i → begun_after s (drop i octets) ≡ begun_after fresh octets → is_begun octets ≡ s.begun
begun_all s octets i l h = sym (cutter_begins octets) ∙ (sym h ∙ ap (begun_after s) (drop_all i octets l))
