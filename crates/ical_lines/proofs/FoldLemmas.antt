-- Folding, character by character.
use Rattle.std.proofs.Common.{◌≡◌, ℕ, ◌+◌, ◌<◌, ◌≤◌, nat_lt, Bool, true, false, cond, Result, Ok, Err, OnOk, is_ok, List, [], ◌∷◌, ◌++◌, length, take, drop, get_or, refl, ap, sym, ◌∙◌, arith}
use Rattle.std.specs.Char.{encode_utf8}
use Rattle.std.specs.Str.{IsUtf8, chars}
use Rattle.std.proofs.lemmas.Bool.Decides.{nat_tests}
use Rattle.std.proofs.lemmas.List.{append_assoc, append-nil, drop_more, drop_all, length-append, length_push, take_all, length-take, take-append-le, take-take}
use Rattle.std.proofs.lemmas.Str.{chars-append, encodes-chars}
use lib.Utf8.{encodes}
use Rattle.profile.specs.text.Lines.{fold_break, fold_from, next_column, column_after, folded}

pub chars_left : (cs ys : List ℕ) (c : ℕ) → (length ys < length cs) × (c ≡ get_or cs (length ys) c) → drop (length ys) cs ≡ c ∷ drop (length (ys ++ c ∷ [])) cs
chars_left cs ys c h =
    drop_more cs (length ys) c h.0 ∙ (ap (λ z. z ∷ drop (length ys + 1) cs) (sym h.1) ∙ ap (λ n. c ∷ drop n cs) (sym (length_push ys c)))

-- one character that would pass the last column, and one that doesn't
far : (column c : ℕ) (octets : List ℕ) → octets ≡ encode_utf8 c → 75 < column + length octets → nat_lt 75 (column + length (encode_utf8 c)) ≡ true
far column c octets e l =
    let n : length octets ≡ length (encode_utf8 c) = ap length e in
    let over : 75 < column + length (encode_utf8 c) = omega (arith, n, l) in
    grind (arith, nat_tests, over)

near : (column c : ℕ) (octets : List ℕ) → octets ≡ encode_utf8 c → column + length octets ≤ 75 → nat_lt 75 (column + length (encode_utf8 c)) ≡ false
near column c octets e l =
    let n : length octets ≡ length (encode_utf8 c) = ap length e in
    let within : column + length (encode_utf8 c) ≤ 75 = omega (arith, n, l) in
    grind (arith, nat_tests, within)

pub far_written : (out broken new octets : List ℕ) (column c : ℕ) → octets ≡ encode_utf8 c → 75 < column + length octets → broken ≡ out ++ 13 ∷ 10 ∷ 32 ∷ [] → new ≡ broken ++ octets → new ≡ out ++ (fold_break column c ++ encode_utf8 c)
far_written out broken new octets column c e l f g =
    let m : List ℕ = 13 ∷ 10 ∷ 32 ∷ [] in
    let joined : broken ++ octets ≡ out ++ (m ++ encode_utf8 c) = ap (λ z. z ++ octets) f ∙ (append_assoc out m octets ∙ ap (λ z. out ++ (m ++ z)) e) in
    g ∙ (joined ∙ ap (λ b. out ++ (cond b m [] ++ encode_utf8 c)) (sym (far column c octets e l)))

pub far_column : (column c : ℕ) (octets : List ℕ) → octets ≡ encode_utf8 c → 75 < column + length octets → 1 + length octets ≡ next_column column c
far_column column c octets e l =
    ap (λ z. 1 + length z) e ∙ ap (λ b. cond b 1 column + length (encode_utf8 c)) (sym (far column c octets e l))

pub near_written : (out new octets : List ℕ) (column c : ℕ) → octets ≡ encode_utf8 c → column + length octets ≤ 75 → new ≡ out ++ octets → new ≡ out ++ (fold_break column c ++ encode_utf8 c)
near_written out new octets column c e l g =
    g ∙ (ap (λ z. out ++ z) e ∙ ap (λ b. out ++ (cond b (13 ∷ 10 ∷ 32 ∷ []) [] ++ encode_utf8 c)) (sym (near column c octets e l)))

pub near_column : (column c : ℕ) (octets : List ℕ) → octets ≡ encode_utf8 c → column + length octets ≤ 75 → column + length octets ≡ next_column column c
near_column column c octets e l =
    ap (λ z. column + length z) e ∙ ap (λ b. cond b 1 column + length (encode_utf8 c)) (sym (near column c octets e l))

pub add_character : (out new all rest left : List ℕ) (at after c : ℕ) → new ≡ out ++ (fold_break at c ++ encode_utf8 c) → after ≡ next_column at c → left ≡ c ∷ rest → out ++ fold_from at left ≡ all → new ++ fold_from after rest ≡ all
add_character out new all rest left at after c e f g h =
    rw (e, f) (append_assoc out (fold_break at c ++ encode_utf8 c) (fold_from (next_column at c) rest) ∙ (ap (λ z. out ++ fold_from at z) (sym g) ∙ h))

pub add_column : (all : ℕ) (rest left : List ℕ) (at after c : ℕ) → after ≡ next_column at c → left ≡ c ∷ rest → column_after at left ≡ all → column_after after rest ≡ all
add_column all rest left at after c f g h = ap (λ z. column_after z rest) f ∙ (ap (column_after at) (sym g) ∙ h)

pub fold_ends : (out all cs : List ℕ) (at n : ℕ) → length cs ≤ n → out ++ fold_from at (drop n cs) ≡ all → out ≡ all
fold_ends out all cs at n l h = sym (append-nil out) ∙ (ap (λ z. out ++ fold_from at z) (sym (drop_all n cs l)) ∙ h)

pub column_ends : (all : ℕ) (cs : List ℕ) (at n : ℕ) → length cs ≤ n → column_after at (drop n cs) ≡ all → at ≡ all
column_ends all cs at n l h = ap (column_after at) (sym (drop_all n cs l)) ∙ h

pub fold_from-append : (at : ℕ) (xs ys : List ℕ) → fold_from at (xs ++ ys) ≡ fold_from at xs ++ fold_from (column_after at xs) ys
fold_from-append at [] ys = refl
fold_from-append at (x ∷ xs) ys =
    ap (λ z. fold_break at x ++ encode_utf8 x ++ z) (fold_from-append (next_column at x) xs ys) ∙ sym (append_assoc (fold_break at x ++ encode_utf8 x) (fold_from (next_column at x) xs) (fold_from (column_after (next_column at x) xs) ys))

pub keeps_on : (a y z : List ℕ) → take (length a) y ≡ a → take (length y) z ≡ y → take (length a) z ≡ a
keeps_on a y z e f =
    let l : length a ≤ length y = omega (arith, ap length e, length-take (length a) y) in
    sym (take-take (length a) (length y) z l) ∙ (ap (take (length a)) f ∙ e)

pub keeps_itself : (a : List ℕ) → take (length a) a ≡ a
keeps_itself a = take_all (length a) a (omega arith)

-- what a call that may fail appended at the end
pub keeps_appended : (a y z more : List ℕ) (b : Bool) → take (length a) y ≡ a → z ≡ cond b (y ++ more) y → take (length a) z ≡ a
keeps_appended a y z more true e f =
    let l : length a ≤ length y = omega (arith, ap length e, length-take (length a) y) in
    ap (take (length a)) f ∙ (take-append-le (length a) y more l ∙ e)
keeps_appended a y z more false e f = ap (take (length a)) f ∙ e

parts_joined : (column : ℕ) (cs ds es : List ℕ) → (fold_from column cs ++ fold_from (column_after column cs) ds) ++ fold_from (column_after (column_after column cs) ds) es ≡ fold_from column (cs ++ (ds ++ es))
parts_joined column cs ds es =
    let a = column_after column cs in
    append_assoc (fold_from column cs) (fold_from a ds) (fold_from (column_after a ds) es) ∙ (ap (λ z. fold_from column cs ++ z) (sym (fold_from-append a ds es)) ∙ sym (fold_from-append column cs (ds ++ es)))

chars_joined : (xs ys zs : List ℕ) → IsUtf8 xs → IsUtf8 ys → chars (xs ++ (ys ++ zs)) ≡ chars xs ++ (chars ys ++ chars zs)
chars_joined xs ys zs u v = chars-append xs (ys ++ zs) u ∙ ap (λ l. chars xs ++ l) (chars-append ys zs v)

-- a line of three pieces
pub pieces_written : {T E : Type 0} (r : Result T E) (old one two three new first second third : List ℕ) (a b : ℕ) → IsUtf8 first → IsUtf8 second → one ≡ old ++ fold_from 0 (chars first) → a ≡ column_after 0 (chars first)
    → two ≡ one ++ fold_from a (chars second) → b ≡ column_after a (chars second) → three ≡ two ++ fold_from b (chars third) → new ≡ cond (is_ok r) (three ++ 13 ∷ 10 ∷ []) three → OnOk r (new ≡ old ++ folded (first ++ (second ++ third)))
pieces_written (Err x) old one two three new first second third a b u v e f g h k n = tt
pieces_written (Ok x) old one two three new first second third a b u v e f g h k n =
    let cs = chars first in
    let ds = chars second in
    let es = chars third in
    let m = fold_from (column_after 0 cs) ds in
    let two_is : two ≡ (old ++ fold_from 0 cs) ++ m = g ∙ (ap (λ z. z ++ fold_from a ds) e ∙ ap (λ z. (old ++ fold_from 0 cs) ++ fold_from z ds) f) in
    let column_is : b ≡ column_after (column_after 0 cs) ds = h ∙ ap (λ z. column_after z ds) f in
    let last = fold_from (column_after (column_after 0 cs) ds) es in
    let three_is : three ≡ ((old ++ fold_from 0 cs) ++ m) ++ last = k ∙ (ap (λ z. z ++ fold_from b es) two_is ∙ ap (λ z. ((old ++ fold_from 0 cs) ++ m) ++ fold_from z es) column_is) in
    let apart : ((old ++ fold_from 0 cs) ++ m) ++ last ≡ old ++ ((fold_from 0 cs ++ m) ++ last) = ap (λ z. z ++ last) (append_assoc old (fold_from 0 cs) m) ∙ append_assoc old (fold_from 0 cs ++ m) last in
    let all : three ≡ old ++ fold_from 0 (chars (first ++ (second ++ third))) = three_is ∙ (apart ∙ ap (λ z. old ++ z) (parts_joined 0 cs ds es ∙ ap (fold_from 0) (sym (chars_joined first second third u v)))) in
    n ∙ (ap (λ z. z ++ 13 ∷ 10 ∷ []) all ∙ append_assoc old (fold_from 0 (chars (first ++ (second ++ third)))) (13 ∷ 10 ∷ []))

-- ---- what fits on the physical line

pub fits : (column : ℕ) (cs : List ℕ) → column + length (encodes cs) ≤ 75 → (fold_from column cs ≡ encodes cs) × (column_after column cs ≡ column + length (encodes cs))
fits column [] h = (refl, omega arith)
fits column (c ∷ cs) h =
    let n = length (encode_utf8 c) in
    let sizes : length (encode_utf8 c ++ encodes cs) ≡ n + length (encodes cs) = length-append (encode_utf8 c) (encodes cs) in
    let near : column + n ≤ 75 = omega (arith, sizes, h) in
    let short : nat_lt 75 (column + n) ≡ false = grind (arith, nat_tests, near) in
    let rest = fits (column + n) cs (omega (arith, sizes, h)) in
    (rw short (ap (λ z. encode_utf8 c ++ z) rest.0), rw short (rest.1 ∙ omega (arith, sizes)))

-- a part that fits is written as it is
pub part_written : (old new text : List ℕ) (column : ℕ) → IsUtf8 text → column + length text ≤ 75 → new ≡ old ++ text → new ≡ old ++ fold_from column (chars text)
part_written old new text column u h n =
    let same = encodes-chars text u in
    let short : column + length (encodes (chars text)) ≤ 75 = rw same h in
    n ∙ ap (λ z. old ++ z) (sym ((fits column (chars text) short).0 ∙ same))

pub column_written : (text : List ℕ) (column : ℕ) → IsUtf8 text → column + length text ≤ 75 → column + length text ≡ column_after column (chars text)
column_written text column u h =
    let same = encodes-chars text u in
    let short : column + length (encodes (chars text)) ≤ 75 = rw same h in
    sym ((fits column (chars text) short).1 ∙ ap (λ z. column + length z) same)
