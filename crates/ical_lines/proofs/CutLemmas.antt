-- The octet steps of a cutter find the end that the definition names.
use Rattle.std.proofs.Common.{◌≡◌, inl, inr, ℕ, suc, ◌+◌, ◌-◌, ◌<◌, ◌≤◌, Bool, true, false, not, ◌&&◌, cond, eqb, ltb, List, [], ◌∷◌, ◌++◌, length, take, drop, get_or, codes, refl, ap, sym, subst, ◌∙◌, arith}
use Rattle.std.specs.Char.{to_ascii_lowercase}
use Rattle.std.specs.List.{slice_split, onto_first, join_with_byte}
use Rattle.std.specs.Str.{bytes_eq, str_to_ascii_lowercase}
use Rattle.std.proofs.lemmas.Bool.{cases_lt}
use Rattle.std.proofs.lemmas.Bool.Decides.{nat_tests, eqb_tells}
use Rattle.std.proofs.lemmas.List.{append_assoc, append-nil, drop_more, drop_all}
use Rattle.std.proofs.lemmas.List.Splits.{join_with_byte-slice_split}
use Rattle.profile.specs.text.Lines.{is_continuation, without_return}
use Rattle.profile.specs.text.Objects.{is_last, parts_after, octets_after, after_object}
use Rattle.ical_lines.specs.declared.object_end.Cutter.{Cutter}
use Rattle.ical_lines.specs.declared.object_end.CutPlace.{CutPlace}
use Rattle.ical_lines.specs.declared.object_end.CutPlace.TheVariants.{Mark, Line, Return, Break}
use Rattle.ical_lines.specs.declared.object_end.Seen.{Seen}
use Rattle.ical_lines.specs.declared.object_end.Seen.TheVariants.{First, Other}
use Rattle.ical_lines.specs.Breaks.{is_break}
use Rattle.ical_lines.specs.Cut.{next_seen, is_whole, is_blank, rest_after, fresh, after_line, step, ends_before}

-- ---- how much of the last line is seen

abbrev pub last_line : List ℕ
last_line = codes "end:vcalendar"

abbrev pub follows : Seen → List ℕ → Bool
follows (First k) rest = bytes_eq (str_to_ascii_lowercase rest) (drop k last_line)
follows Other rest = false

abbrev pub IsWithin : Seen → Type 0
IsWithin (First k) = k ≤ 13
IsWithin Other = Unit {0}

-- the line so far is the last line, whatever follows, where what follows is what is left of it
pub record SeenOf (s : Seen) (line : List ℕ) : Type 0 where
  small : IsWithin s
  tells : (rest : List ℕ) → is_last (line ++ rest) ≡ follows s rest

pub seen_none : SeenOf (First 0) []
seen_none = record { small = omega arith; tells = λ rest. refl }

follows_by : (c : Bool) (k : ℕ) (rest : List ℕ) → (c && bytes_eq (str_to_ascii_lowercase rest) (drop (k + 1) last_line)) ≡ follows (cond c (First (k + 1)) Other) rest
follows_by true k rest = refl
follows_by false k rest = refl

follows_first : (k b : ℕ) (rest : List ℕ) → k < 13 → follows (First k) (b ∷ rest) ≡ follows (next_seen (First k) b) rest
follows_first k b rest l =
    let t : ltb k 13 ≡ true = grind (arith, nat_tests) in
    let d : drop k last_line ≡ get_or last_line k 0 ∷ drop (k + 1) last_line = drop_more last_line k 0 l in
    ap (bytes_eq (str_to_ascii_lowercase (b ∷ rest))) d ∙ (follows_by (eqb (to_ascii_lowercase b) (get_or last_line k 0)) k rest ∙ ap (λ c. follows (cond (c && eqb (to_ascii_lowercase b) (get_or last_line k 0)) (First (k + 1)) Other) rest) (sym t))

follows_next : (s : Seen) (b : ℕ) (rest : List ℕ) → IsWithin s → follows s (b ∷ rest) ≡ follows (next_seen s b) rest
follows_next (First k) b rest w =
    elim (cases_lt k 13) [ inl l ↦ follows_first k b rest l | inr g ↦ (let P : ℕ → Type 0 = λ n. follows (First n) (b ∷ rest) ≡ follows (next_seen (First n) b) rest in let e : 13 ≡ k = omega arith in subst P e refl) ]
follows_next Other b rest w = refl

within_by : (t c : Bool) (k : ℕ) → (t ≡ true → k < 13) → IsWithin (cond (t && c) (First (k + 1)) Other)
within_by true true k h = let l = h refl in omega arith
within_by true false k h = tt
within_by false c k h = tt

below_last : (k : ℕ) → ltb k 13 ≡ true → k < 13
below_last k h = grind (arith, nat_tests)

within_next : (s : Seen) (b : ℕ) → IsWithin s → IsWithin (next_seen s b)
within_next (First k) b w = within_by (ltb k 13) (eqb (to_ascii_lowercase b) (get_or last_line k 0)) k (below_last k)
within_next Other b w = tt

seen_next : (s : Seen) (line : List ℕ) (b : ℕ) → SeenOf s line → SeenOf (next_seen s b) (line ++ b ∷ [])
seen_next s line b h = record {
  small = within_next s b h.small;
  tells = λ rest. ap is_last (append_assoc line (b ∷ []) rest) ∙ (h.tells (b ∷ rest) ∙ follows_next s b rest h.small);
}

whole_follows : (s : Seen) → IsWithin s → follows s [] ≡ is_whole s
whole_follows (First k) w =
    elim (cases_lt k 13) [ inl l ↦ (let d : drop k last_line ≡ get_or last_line k 0 ∷ drop (k + 1) last_line = drop_more last_line k 0 l in let e : eqb k 13 ≡ false = grind (arith, nat_tests) in ap (bytes_eq []) d ∙ sym e) | inr g ↦ (let P : ℕ → Type 0 = λ n. bytes_eq [] (drop n last_line) ≡ eqb n 13 in let e : 13 ≡ k = omega arith in subst P e refl) ]
whole_follows Other w = refl

pub seen_whole : (s : Seen) (line : List ℕ) → SeenOf s line → is_last line ≡ is_whole s
seen_whole s line h = ap is_last (sym (append-nil line)) ∙ (h.tells [] ∙ whole_follows s h.small)

-- ---- what follows, from a place inside a line, and from a line break

abbrev inside : List ℕ → List ℕ → List ℕ
inside line rest = octets_after line (slice_split is_break rest)

abbrev broken : List ℕ → List ℕ → List ℕ
broken line rest = join_with_byte 10 (parts_after line (slice_split is_break rest))

abbrev pub mk : CutPlace → Seen → Bool → Cutter
mk p s b = record { place = p; seen = s; begun = b }

record Claims (rest : List ℕ) : Type 0 where
  in_line : (s : Seen) (b : Bool) (line : List ℕ) → SeenOf s line → rest_after (mk Line s b) rest ≡ inside line rest
  in_return : (s : Seen) (b : Bool) (line : List ℕ) → SeenOf s line → rest_after (mk Return s b) rest ≡ inside line (13 ∷ rest)
  in_break : (s : Seen) (b : Bool) (line : List ℕ) → SeenOf s line → rest_after (mk Break s b) rest ≡ broken line rest

-- ---- a part one octet longer

cond_cons : (t : Bool) (b : ℕ) (xs ys : List ℕ) → cond t (b ∷ xs) (b ∷ ys) ≡ b ∷ cond t xs ys
cond_cons true b xs ys = refl
cond_cons false b xs ys = refl

pub without_return-cons : (b : ℕ) (c : ℕ) (p : List ℕ) → without_return (b ∷ c ∷ p) ≡ b ∷ without_return (c ∷ p)
without_return-cons b c p =
    let n : length (b ∷ c ∷ p) - 1 ≡ suc (length p) = omega arith in
    let m : length (c ∷ p) - 1 ≡ length p = omega arith in
    rw (n, m) (cond_cons (eqb (get_or (c ∷ p) (length p) 0) 13) b (take (length p) (c ∷ p)) (c ∷ p))

pub without_return-other : (b : ℕ) (p : List ℕ) → eqb b 13 ≡ false → without_return (b ∷ p) ≡ b ∷ without_return p
without_return-other b [] h = ap (λ t. cond t [] (b ∷ [])) h
without_return-other b (c ∷ p) h = without_return-cons b c p

longer : (b : ℕ) (line : List ℕ) (parts : List (List ℕ)) → eqb b 13 ≡ false → octets_after line (onto_first b parts) ≡ octets_after (line ++ b ∷ []) parts
longer b line [] h = refl
longer b line (p ∷ ps) h =
    ap (λ z. join_with_byte 10 (parts_after z ps)) (ap (λ z. line ++ z) (without_return-other b p h) ∙ sym (append_assoc line (b ∷ []) (without_return p)))

longer_return : (b : ℕ) (line : List ℕ) (parts : List (List ℕ)) → octets_after line (onto_first 13 (onto_first b parts)) ≡ octets_after (line ++ 13 ∷ []) (onto_first b parts)
longer_return b line [] = refl
longer_return b line (p ∷ ps) =
    ap (λ z. join_with_byte 10 (parts_after z ps)) (ap (λ z. line ++ z) (without_return-cons 13 b p) ∙ sym (append_assoc line (13 ∷ []) (without_return (b ∷ p))))

inside_other : (b : ℕ) (line rest : List ℕ) → eqb b 10 ≡ false → eqb b 13 ≡ false → inside line (b ∷ rest) ≡ inside (line ++ b ∷ []) rest
inside_other b line rest n r =
    ap (λ t. octets_after line (cond t ([] ∷ slice_split is_break rest) (onto_first b (slice_split is_break rest)))) n ∙ longer b line (slice_split is_break rest) r

inside_return : (b : ℕ) (line rest : List ℕ) → eqb b 10 ≡ false → inside line (13 ∷ b ∷ rest) ≡ inside (line ++ 13 ∷ []) (b ∷ rest)
inside_return b line rest n =
    ap (λ t. octets_after line (onto_first 13 (cond t ([] ∷ slice_split is_break rest) (onto_first b (slice_split is_break rest))))) n ∙ (longer_return b line (slice_split is_break rest) ∙ ap (λ t. octets_after (line ++ 13 ∷ []) (cond t ([] ∷ slice_split is_break rest) (onto_first b (slice_split is_break rest)))) (sym n))

inside_break : (line rest : List ℕ) → broken line rest ≡ inside line (10 ∷ rest)
inside_break line rest = ap (λ z. broken z rest) (sym (append-nil line))

-- ---- one more octet

line_more : (b : ℕ) (rest : List ℕ) (ih : Claims rest) (s : Seen) (g : Bool) (line : List ℕ) → SeenOf s line → rest_after (mk Line s g) (b ∷ rest) ≡ inside line (b ∷ rest)
line_more b rest ih s g line h =
    elim (eqb_tells b 10) [ inl e ↦ (let P : ℕ → Type 0 = λ x. rest_after (mk Line s g) (x ∷ rest) ≡ inside line (x ∷ rest) in subst P (sym e.1) (ih.in_break s g line h ∙ inside_break line rest)) | inr e ↦ elim (eqb_tells b 13) [ inl f ↦ (let P : ℕ → Type 0 = λ x. rest_after (mk Line s g) (x ∷ rest) ≡ inside line (x ∷ rest) in subst P (sym f.1) (ih.in_return s g line h)) | inr f ↦ (ap (λ t. rest_after (cond t (mk Break s g) (cond (eqb b 13) (mk Return s g) (mk Line (next_seen s b) true))) rest) e.0 ∙ (ap (λ t. rest_after (cond t (mk Return s g) (mk Line (next_seen s b) true)) rest) f.0 ∙ (ih.in_line (next_seen s b) true (line ++ b ∷ []) (seen_next s line b h) ∙ sym (inside_other b line rest e.0 f.0)))) ] ]

return_more : (b : ℕ) (rest : List ℕ) (ih : Claims rest) (s : Seen) (g : Bool) (line : List ℕ) → SeenOf s line → rest_after (mk Return s g) (b ∷ rest) ≡ inside line (13 ∷ b ∷ rest)
return_more b rest ih s g line h =
    elim (eqb_tells b 10) [ inl e ↦ (let P : ℕ → Type 0 = λ x. rest_after (mk Return s g) (x ∷ rest) ≡ inside line (13 ∷ x ∷ rest) in subst P (sym e.1) (ih.in_break s g line h ∙ inside_break line rest)) | inr e ↦ (ap (λ t. rest_after (cond t (after_line (mk Return s g) b) (after_line (mk Return (next_seen s 13) true) b)) rest) e.0 ∙ (line_more b rest ih (next_seen s 13) true (line ++ 13 ∷ []) (seen_next s line 13 h) ∙ sym (inside_return b line rest e.0))) ]

-- a part that begins with a blank continues the line
broken_blank : (b : ℕ) (line : List ℕ) (parts : List (List ℕ)) → is_blank b ≡ true → eqb b 13 ≡ false → join_with_byte 10 (parts_after line (onto_first b parts)) ≡ octets_after line parts
broken_blank b line [] h r = ap (λ t. join_with_byte 10 (cond t [] (cond (is_last line) ((b ∷ []) ∷ []) []))) h
broken_blank b line (p ∷ ps) h r =
    ap (λ t. join_with_byte 10 (cond t (parts_after (line ++ drop 1 (without_return (b ∷ p))) ps) (cond (is_last line) ((b ∷ p) ∷ ps) (parts_after (without_return (b ∷ p)) ps)))) h ∙ ap (λ z. join_with_byte 10 (parts_after (line ++ drop 1 z) ps)) (without_return-other b p r)

break_blank : (b : ℕ) (line rest : List ℕ) → is_blank b ≡ true → eqb b 10 ≡ false → eqb b 13 ≡ false → broken line (b ∷ rest) ≡ inside line rest
break_blank b line rest h n r =
    ap (λ t. join_with_byte 10 (parts_after line (cond t ([] ∷ slice_split is_break rest) (onto_first b (slice_split is_break rest))))) n ∙ broken_blank b line (slice_split is_break rest) h r

-- a part that doesn't begin with a blank begins a line, or what follows the object
starts_fresh : (part line : List ℕ) (ps : List (List ℕ)) → is_continuation part ≡ false → parts_after line (part ∷ ps) ≡ cond (is_last line) (part ∷ ps) (parts_after (without_return part) ps)
starts_fresh part line ps h = ap (λ t. cond t (parts_after (line ++ drop 1 (without_return part)) ps) (cond (is_last line) (part ∷ ps) (parts_after (without_return part) ps))) h

pub last_by : (t : Bool) (b : ℕ) (line : List ℕ) (parts : List (List ℕ)) → is_blank b ≡ false → is_last line ≡ true → parts_after line (cond t ([] ∷ parts) (onto_first b parts)) ≡ cond t ([] ∷ parts) (onto_first b parts)
last_by true b line parts h l = ap (λ z. cond z ([] ∷ parts) (parts_after [] parts)) l
last_by false b line [] h l = starts_fresh (b ∷ []) line [] h ∙ ap (λ z. cond z ((b ∷ []) ∷ []) []) l
last_by false b line (p ∷ ps) h l = starts_fresh (b ∷ p) line ps h ∙ ap (λ z. cond z ((b ∷ p) ∷ ps) (parts_after (without_return (b ∷ p)) ps)) l

other_by : (t : Bool) (b : ℕ) (line : List ℕ) (parts : List (List ℕ)) → is_blank b ≡ false → is_last line ≡ false → join_with_byte 10 (parts_after line (cond t ([] ∷ parts) (onto_first b parts))) ≡ octets_after [] (cond t ([] ∷ parts) (onto_first b parts))
other_by true b line parts h l = ap (λ z. join_with_byte 10 (cond z ([] ∷ parts) (parts_after [] parts))) l
other_by false b line [] h l = ap (join_with_byte 10) (starts_fresh (b ∷ []) line [] h ∙ ap (λ z. cond z ((b ∷ []) ∷ []) []) l)
other_by false b line (p ∷ ps) h l = ap (join_with_byte 10) (starts_fresh (b ∷ p) line ps h ∙ ap (λ z. cond z ((b ∷ p) ∷ ps) (parts_after (without_return (b ∷ p)) ps)) l)

break_last : (b : ℕ) (line rest : List ℕ) → is_blank b ≡ false → is_last line ≡ true → broken line (b ∷ rest) ≡ b ∷ rest
break_last b line rest h l =
    ap (join_with_byte 10) (last_by (eqb b 10) b line (slice_split is_break rest) h l) ∙ join_with_byte-slice_split 10 (b ∷ rest)

break_other : (b : ℕ) (line rest : List ℕ) → is_blank b ≡ false → is_last line ≡ false → broken line (b ∷ rest) ≡ inside [] (b ∷ rest)
break_other b line rest h l = other_by (eqb b 10) b line (slice_split is_break rest) h l

pub blank_other : (b : ℕ) → is_blank b ≡ true → (eqb b 10 ≡ false) × (eqb b 13 ≡ false)
blank_other b h = (grind (arith, nat_tests), grind (arith, nat_tests))

blank_by : (t w : Bool) (b : ℕ) (rest : List ℕ) (ih : Claims rest) (s : Seen) (g : Bool) (line : List ℕ) → is_blank b ≡ t → is_whole s ≡ w → SeenOf s line → rest_after (mk Break s g) (b ∷ rest) ≡ broken line (b ∷ rest)
blank_by true w b rest ih s g line e f h =
    ap (λ t. cond (not t && is_whole s) (b ∷ rest) (rest_after (cond t (mk Line s g) (after_line (mk Break (First 0) g) b)) rest)) e ∙ (ih.in_line s g line h ∙ sym (break_blank b line rest e (blank_other b e).0 (blank_other b e).1))
blank_by false true b rest ih s g line e f h =
    ap (λ t. cond (not t && is_whole s) (b ∷ rest) (rest_after (cond t (mk Line s g) (after_line (mk Break (First 0) g) b)) rest)) e ∙ (ap (λ w. cond w (b ∷ rest) (rest_after (after_line (mk Break (First 0) g) b) rest)) f ∙ sym (break_last b line rest e (seen_whole s line h ∙ f)))
blank_by false false b rest ih s g line e f h =
    ap (λ t. cond (not t && is_whole s) (b ∷ rest) (rest_after (cond t (mk Line s g) (after_line (mk Break (First 0) g) b)) rest)) e ∙ (ap (λ w. cond w (b ∷ rest) (rest_after (after_line (mk Break (First 0) g) b) rest)) f ∙ (line_more b rest ih (First 0) g [] seen_none ∙ sym (break_other b line rest e (seen_whole s line h ∙ f))))

break_more : (b : ℕ) (rest : List ℕ) (ih : Claims rest) (s : Seen) (g : Bool) (line : List ℕ) → SeenOf s line → rest_after (mk Break s g) (b ∷ rest) ≡ broken line (b ∷ rest)
break_more b rest ih s g line h = blank_by (is_blank b) (is_whole s) b rest ih s g line refl refl h

none_last : (t : Bool) → join_with_byte 10 (cond t ([] ∷ []) []) ≡ []
none_last true = refl
none_last false = refl

claims : (rest : List ℕ) → Claims rest
claims [] = record {
  in_line = λ s b line h. refl;
  in_return = λ s b line h. refl;
  in_break = λ s b line h. sym (none_last (is_last line));
}
claims (b ∷ rest) =
    let ih = claims rest in record {
      in_line = line_more b rest ih;
      in_return = return_more b rest ih;
      in_break = break_more b rest ih;
    }

-- ---- the start of an object, and its mark

seen_one : SeenOf Other (0xEF ∷ [])
seen_one = seen_next (First 0) [] 0xEF seen_none

seen_two : SeenOf Other (0xEF ∷ 0xBB ∷ [])
seen_two = seen_next Other (0xEF ∷ []) 0xBB seen_one

abbrev third_of : Bool → ℕ → List ℕ → List ℕ
third_of t d rest = cond (t && true) rest (0xEF ∷ 0xBB ∷ d ∷ rest)

third : (rest : List ℕ) → rest_after (mk (Mark 2) Other true) rest ≡ after_object (0xEF ∷ 0xBB ∷ rest)
third [] = refl
third (d ∷ rest) =
    elim (eqb_tells d 0xBF) [ inl e ↦ (let P : ℕ → Type 0 = λ x. rest_after (mk (Mark 2) Other true) (x ∷ rest) ≡ after_object (0xEF ∷ 0xBB ∷ x ∷ rest) in subst P (sym e.1) ((claims rest).in_line (First 0) true [] seen_none)) | inr e ↦ (ap (λ t. rest_after (cond t (mk Line (First 0) true) (after_line (mk (Mark 2) Other true) d)) rest) e.0 ∙ (line_more d rest (claims rest) Other true (0xEF ∷ 0xBB ∷ []) seen_two ∙ (sym (inside_other 0xBB (0xEF ∷ []) (d ∷ rest) refl refl) ∙ (sym (inside_other 0xEF [] (0xBB ∷ d ∷ rest) refl refl) ∙ ap (λ t. inside [] (third_of t d rest)) (sym e.0))))) ]

abbrev second_of : Bool → ℕ → List ℕ → List ℕ
second_of t c rest = cond (t && bytes_eq (take 1 rest) (0xBF ∷ [])) (drop 1 rest) (0xEF ∷ c ∷ rest)

second : (rest : List ℕ) → rest_after (mk (Mark 1) Other true) rest ≡ after_object (0xEF ∷ rest)
second [] = refl
second (c ∷ rest) =
    elim (eqb_tells c 0xBB) [ inl e ↦ (let P : ℕ → Type 0 = λ x. rest_after (mk (Mark 1) Other true) (x ∷ rest) ≡ after_object (0xEF ∷ x ∷ rest) in subst P (sym e.1) (third rest)) | inr e ↦ (ap (λ t. rest_after (cond t (mk (Mark 2) (next_seen Other c) true) (after_line (mk (Mark 1) Other true) c)) rest) e.0 ∙ (line_more c rest (claims rest) Other true (0xEF ∷ []) seen_one ∙ (sym (inside_other 0xEF [] (c ∷ rest) refl refl) ∙ ap (λ t. inside [] (second_of t c rest)) (sym e.0)))) ]

abbrev first_of_mark : Bool → ℕ → List ℕ → List ℕ
first_of_mark t b rest = cond (t && bytes_eq (take 2 rest) (0xBB ∷ 0xBF ∷ [])) (drop 2 rest) (b ∷ rest)

pub cutter_ends : (octets : List ℕ) → rest_after fresh octets ≡ after_object octets
cutter_ends [] = refl
cutter_ends (b ∷ rest) =
    elim (eqb_tells b 0xEF) [ inl e ↦ (let P : ℕ → Type 0 = λ x. rest_after fresh (x ∷ rest) ≡ after_object (x ∷ rest) in subst P (sym e.1) (second rest)) | inr e ↦ (ap (λ t. rest_after (cond t (mk (Mark 1) (next_seen (First 0) b) true) (after_line fresh b)) rest) e.0 ∙ (line_more b rest (claims rest) (First 0) false [] seen_none ∙ ap (λ t. inside [] (first_of_mark t b rest)) (sym e.0))) ]

-- ---- the loop over the octets

pub cut_here : (s : Cutter) (octets : List ℕ) (i b : ℕ) → i < length octets → b ≡ get_or octets i 0 → ends_before s b ≡ true → rest_after s (drop i octets) ≡ rest_after fresh octets → drop i octets ≡ after_object octets
cut_here s octets i b l e t h =
    let d : drop i octets ≡ b ∷ drop (i + 1) octets = drop_more octets i 0 l ∙ ap (λ z. z ∷ drop (i + 1) octets) (sym e) in
    let here : rest_after s (b ∷ drop (i + 1) octets) ≡ b ∷ drop (i + 1) octets = ap (λ z. cond z (b ∷ drop (i + 1) octets) (rest_after (step s b) (drop (i + 1) octets))) t in
    d ∙ (sym here ∙ (ap (rest_after s) (sym d) ∙ (h ∙ cutter_ends octets)))

pub cut_none : (s : Cutter) (octets : List ℕ) (i : ℕ) → length octets ≤ i → rest_after s (drop i octets) ≡ rest_after fresh octets → after_object octets ≡ []
cut_none s octets i l h = sym (cutter_ends octets) ∙ (sym h ∙ ap (rest_after s) (drop_all i octets l))

pub cut_all : (s : Cutter) (octets : List ℕ) (i : ℕ) → length octets ≤ i → rest_after s (drop i octets) ≡ rest_after fresh octets → drop (length octets) octets ≡ after_object octets
cut_all s octets i l h = drop_all (length octets) octets (omega arith) ∙ sym (cut_none s octets i l h)
