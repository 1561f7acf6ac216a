-- Which number lines are refused with.
use Rattle.std.proofs.Common.{◌≡◌, ℕ, suc, ◌+◌, ◌-◌, Bool, true, false, not, ◌&&◌, ◌||◌, cond, eqb, ltb, Option, None, Some, List, [], ◌∷◌, length, take, refl, ap, subst, ◌∙◌, arith}
use Rattle.std.specs.List.{find, list_any, prefix_len}
use Rattle.std.proofs.Math.Bool.{or-true}
use Rattle.std.proofs.lemmas.Bool.{ltb-false, ltb-true, lt-ltb}
use Rattle.std.proofs.lemmas.Bool.Decides.{Decides-eqb}
use Rattle.std.specs.Str.{is_utf8}
use Rattle.profile.specs.text.Lines.{ended, logical_lines, line_has, is_faulty, lacks_colon, has_bad_name, has_bad_quote, has_control}
use Rattle.profile.specs.faults.First.{least_fault, judged, fault_of, lines_fault, lines_place, text_fault, text_place, is_number}

-- the lines that are judged, after this many
abbrev pub judged_after : Bool → ℕ → List (List ℕ) → List (List ℕ)
judged_after bounded count lines = cond bounded (take (65536 - count) lines) lines

some_by : (a b c d : Bool) (n : ℕ) → find (λ k. (eqb k 1 && a) || (eqb k 2 && b) || (eqb k 3 && c) || (eqb k 4 && d)) (1 ∷ 2 ∷ 3 ∷ 4 ∷ []) ≡ Some n → (a || b || c || d) ≡ true
some_by true b c d n h = refl
some_by false true c d n h = refl
some_by false false true d n h = refl
some_by false false false true n h = refl
some_by false false false false n h = cc

-- a line that has a least fault is faulty
pub faulty_by : (line : List ℕ) (n : ℕ) → least_fault line ≡ Some n → is_faulty line ≡ true
faulty_by line n h = some_by (lacks_colon line) (has_bad_name line) (has_bad_quote line) (has_control line) n h

within : (count : ℕ) → ltb 65536 (count + 1) ≡ false → 65536 - count ≡ suc (65536 - (count + 1))
within count h = omega (arith, ltb-false 65536 (count + 1) h)

-- a line without a fault is passed over
pub next_judged : (b : Bool) (count : ℕ) (line : List ℕ) (rest lines : List (List ℕ)) → lines ≡ line ∷ rest → (b && ltb 65536 (count + 1)) ≡ false → is_faulty line ≡ false → find is_faulty (judged_after b count lines) ≡ find is_faulty (judged_after b (count + 1) rest)
next_judged false count line rest lines e w f = rw (e, f) refl
next_judged true count line rest lines e w f = rw (e, within count w, f) refl

-- a line with a fault is the first
found_by : (b : Bool) (count : ℕ) (line : List ℕ) (rest lines : List (List ℕ)) → lines ≡ line ∷ rest → (b && ltb 65536 (count + 1)) ≡ false → is_faulty line ≡ true → find is_faulty (judged_after b count lines) ≡ Some line
found_by false count line rest lines e w f = rw (e, f) refl
found_by true count line rest lines e w f = rw (e, within count w, f) refl

is_itself : (o : Option ℕ) (n : ℕ) → o ≡ Some n → is_number o n ≡ true
is_itself o n e = rw e ((Decides-eqb n n).1 refl)

pub first_found : (b : Bool) (count n : ℕ) (line : List ℕ) (rest lines all : List (List ℕ)) → lines ≡ line ∷ rest → (b && ltb 65536 (count + 1)) ≡ false → least_fault line ≡ Some n → find is_faulty (judged b all) ≡ find is_faulty (judged_after b count lines) → is_number (lines_fault b all) n ≡ true
first_found b count n line rest lines all e w f s =
    let found : find is_faulty (judged b all) ≡ Some line = s ∙ found_by b count line rest lines e w (faulty_by line n f) in
    is_itself (lines_fault b all) n (ap (λ o. fault_of o (b && ltb 65536 (length all))) found ∙ f)

-- where there is a line after the last that is judged, none before it is faulty
pub too_many : (b : Bool) (count : ℕ) (line : List ℕ) (rest lines all : List (List ℕ)) → lines ≡ line ∷ rest → (b && ltb 65536 count) ≡ false → (b && ltb 65536 (count + 1)) ≡ true → count + length lines ≡ length all → find is_faulty (judged b all) ≡ find is_faulty (judged_after b count lines) → is_number (lines_fault b all) 6 ≡ true
too_many false count line rest lines all e w m l s = cc
too_many true count line rest lines all e w m l s =
    let none : 65536 - count ≡ 0 = omega (arith, ltb-true 65536 (count + 1) m) in
    let more : ltb 65536 (length all) ≡ true = lt-ltb 65536 (length all) (omega (arith, ltb-false 65536 count w, ltb-true 65536 (count + 1) m, ap length e, l)) in
    let found : find is_faulty (judged true all) ≡ None = s ∙ ap (λ k. find is_faulty (take k lines)) none in
    rw (found, more) refl

-- and the lines have fault 6
pub bound_refuses : (b : Bool) (count : ℕ) (line : List ℕ) (rest lines all : List (List ℕ)) → lines ≡ line ∷ rest → (b && ltb 65536 (count + 1)) ≡ true → count + length lines ≡ length all → (list_any (line_has 6) all || (eqb 6 6 && (b && ltb 65536 (length all)))) ≡ true
bound_refuses false count line rest lines all e m l = cc
bound_refuses true count line rest lines all e m l =
    let more : ltb 65536 (length all) ≡ true = lt-ltb 65536 (length all) (omega (arith, ltb-true 65536 (count + 1) m, ap length e, l)) in
    rw more (or-true (list_any (line_has 6) all))

pub lines_first : (b : Bool) (n : ℕ) (octets : List ℕ) (lines : List (List ℕ)) → lines ≡ logical_lines octets → is_utf8 (ended (logical_lines octets)) ≡ true → (b && ltb 1048576 (length octets)) ≡ false → is_number (lines_fault b lines) n ≡ true → is_number (text_fault b octets) n ≡ true
lines_first b n octets lines e u o h =
    let k : is_number (lines_fault b (logical_lines octets)) n ≡ true = (let P : List (List ℕ) → Type 0 = λ ls. is_number (lines_fault b ls) n ≡ true in subst P e h) in
    rw (o, u) k

-- ---- at which line

abbrev pub is_right : List ℕ → Bool
is_right line = not (is_faulty line)

-- a line without a fault is passed
pub next_place : (b : Bool) (count : ℕ) (line : List ℕ) (rest lines : List (List ℕ)) → lines ≡ line ∷ rest → (b && ltb 65536 (count + 1)) ≡ false → is_faulty line ≡ false → prefix_len is_right (judged_after b count lines) ≡ 1 + prefix_len is_right (judged_after b (count + 1) rest)
next_place false count line rest lines e w f = rw (e, f) refl
next_place true count line rest lines e w f = rw (e, within count w, f) refl

-- one with a fault isn't
pub fault_place : (b : Bool) (count : ℕ) (line : List ℕ) (rest lines : List (List ℕ)) → lines ≡ line ∷ rest → (b && ltb 65536 (count + 1)) ≡ false → is_faulty line ≡ true → prefix_len is_right (judged_after b count lines) ≡ 0
fault_place false count line rest lines e w f = rw (e, f) refl
fault_place true count line rest lines e w f = rw (e, within count w, f) refl

-- nor is one that is too many
pub bound_place : (b : Bool) (count : ℕ) (lines : List (List ℕ)) → (b && ltb 65536 (count + 1)) ≡ true → prefix_len is_right (judged_after b count lines) ≡ 0
bound_place false count lines m = cc
bound_place true count lines m =
    let none : 65536 - count ≡ 0 = omega (arith, ltb-true 65536 (count + 1) m) in
    rw none refl

pub lines_at : (b : Bool) (at : ℕ) (octets : List ℕ) (lines : List (List ℕ)) → lines ≡ logical_lines octets → is_utf8 (ended (logical_lines octets)) ≡ true → (b && ltb 1048576 (length octets)) ≡ false → at ≡ lines_place b lines → at ≡ text_place b octets
lines_at b at octets lines e u o h = rw (o, u) (h ∙ ap (lines_place b) e)
