-- Lines: where they end, and that a text has one way to be cut into lines.
use Rattle.std.proofs.Common.{◌≡◌, ◌≢◌, ◌==◌, ℕ, zero, suc, ◌+◌, ◌-◌, ◌^◌, ◌<◌, Bool, true, false, cond, not, ◌&&◌, List, [], ◌∷◌, ◌++◌, length, get_or, take, drop, subst, sym, refl, ap, ◌∙◌, append_assoc, lit<, arith}
use Rattle.std.specs.Prelude.{Option, Some, None, MatchOption, position, decimal}
use Rattle.std.specs.Prelude.{Result, Ok, Err, ltb, MatchResult}
use Rattle.std.specs.Result.{result_ok}
use Rattle.std.specs.List.{position_or_len, count_by}
use Rattle.std.specs.Char.{is_ascii_digit}
use Rattle.std.specs.Str.{all_ascii_digits, IsUtf8, bytes_eq}
use Rattle.std.specs.Str.Parse.{digits_value, ParsesUnsigned}
use Rattle.std.proofs.lemmas.Bool.{and_parts, and_from, true≢false, cond-true}
use Rattle.std.proofs.lemmas.Bool.Decides.{nat_tests}
use Rattle.std.proofs.lemmas.Fmt.{digits_decimal, parse-decimal, IsAscii-decimal}
use Rattle.std.proofs.lemmas.Str.Parse.{IsNumeralModel, numerals_by_value, tells_all_ascii_digits}
use Rattle.std.proofs.lemmas.Str.{IsUtf8-from_ascii}
use Rattle.std.proofs.lemmas.Option.{same_Some, none-some}
use Rattle.std.proofs.lemmas.List.{length-append, length-take-le, length-drop, take_all, take-append-drop}
use Rattle.std.proofs.Math.Seq.{drop-cons, take-append_seam}
use Rattle.std.proofs.lemmas.List.Sums.{sum_by-cons, sum_by-append}
use Rattle.std.proofs.lemmas.Slice.Eq.{bytes_eq-Decides}
use Rattle.std.proofs.lemmas.List.Quantifiers.{position-Some}
use denote.Ref.{Bor}
use Rattle.profile.specs.checker.Certificates.{spelled}
use Rattle.clash_cert.specs.Texts.{Lacks, LacksLine, LacksCount, LacksLf, IsCutAtLf, IsNoNumber}

pub cancel : (a x y : List ℕ) → a ++ x ≡ a ++ y → x ≡ y
cancel [] x y e = e
cancel (c ∷ a) x y e = let h : a ++ x ≡ a ++ y = cc in cancel a x y h

-- a line is its octets and an LF
pub line_from_parts : (bytes line rest : List ℕ) (r : Option (Bor (List ℕ))) → bytes ≡ line ++ rest
    → MatchOption r (Lacks (10 ∷ []) rest) (λ x. rest ≡ (10 ∷ []) ++ x.now) → MatchOption r (LacksLine line bytes) (λ x. bytes ≡ line ++ 10 ∷ x.now)
line_from_parts bytes line rest None e h = λ tail f. h tail (cancel line rest (10 ∷ tail) (sym e ∙ f))
line_from_parts bytes line rest (Some x) e h = e ∙ ap (λ l. line ++ l) h

-- one piece after another
pub both : (a b bytes rest : List ℕ) (r : Option (Bor (List ℕ))) → bytes ≡ a ++ rest → MatchOption r (Lacks b rest) (λ x. rest ≡ b ++ x.now)
    → MatchOption r (Lacks (a ++ b) bytes) (λ x. bytes ≡ (a ++ b) ++ x.now)
both a b bytes rest None e h = λ tail f. h tail (cancel a rest (b ++ tail) (sym e ∙ f ∙ append_assoc a b tail))
both a b bytes rest (Some x) e h = e ∙ ap (λ l. a ++ l) h ∙ sym (append_assoc a b x.now)

-- no octet is this one
abbrev pub free_of : ℕ → List ℕ → Bool
free_of d [] = true
free_of d (c ∷ cs) = not (c == d) && free_of d cs

-- no octet is an LF
abbrev pub lf_free : List ℕ → Bool
lf_free = free_of 10

pub free_of-append : (d : ℕ) (a b : List ℕ) → free_of d a ≡ true → free_of d b ≡ true → free_of d (a ++ b) ≡ true
free_of-append d [] b h k = k
free_of-append d (c ∷ a) b h k =
    let p = and_parts (not (c == d)) (free_of d a) h in
    and_from (not (c == d)) (free_of d (a ++ b)) p.0 (free_of-append d a b p.1 k)

pub lf_free-append : (a b : List ℕ) → lf_free a ≡ true → lf_free b ≡ true → lf_free (a ++ b) ≡ true
lf_free-append = free_of-append 10

other_octet : (c d : ℕ) → not (c == d) ≡ true → c ≢ d
other_octet c d h e = grind (arith, nat_tests)

-- a text is cut in one way at the first octet that is this one
pub cut_rest : (d : ℕ) (a b x y : List ℕ) → free_of d a ≡ true → free_of d b ≡ true → a ++ d ∷ x ≡ b ++ d ∷ y → x ≡ y
cut_rest d [] [] x y h k e = cc
cut_rest d [] (c ∷ b) x y h k e =
    let p = and_parts (not (c == d)) (free_of d b) k in
    let f : d ≡ c = cc in
    absurd (other_octet c d p.0 (sym f))
cut_rest d (c ∷ a) [] x y h k e =
    let p = and_parts (not (c == d)) (free_of d a) h in
    let f : c ≡ d = cc in
    absurd (other_octet c d p.0 f)
cut_rest d (c ∷ a) (c' ∷ b) x y h k e =
    let p = and_parts (not (c == d)) (free_of d a) h in
    let q = and_parts (not (c' == d)) (free_of d b) k in
    let f : a ++ d ∷ x ≡ b ++ d ∷ y = cc in
    cut_rest d a b x y p.1 q.1 f

-- and the same comes before it
pub cut_front : (d : ℕ) (a b x y : List ℕ) → free_of d a ≡ true → free_of d b ≡ true → a ++ d ∷ x ≡ b ++ d ∷ y → a ≡ b
cut_front d [] [] x y h k e = refl
cut_front d [] (c ∷ b) x y h k e =
    let p = and_parts (not (c == d)) (free_of d b) k in
    let f : d ≡ c = cc in
    absurd (other_octet c d p.0 (sym f))
cut_front d (c ∷ a) [] x y h k e =
    let p = and_parts (not (c == d)) (free_of d a) h in
    let f : c ≡ d = cc in
    absurd (other_octet c d p.0 f)
cut_front d (c ∷ a) (c' ∷ b) x y h k e =
    let p = and_parts (not (c == d)) (free_of d a) h in
    let q = and_parts (not (c' == d)) (free_of d b) k in
    let f : a ++ d ∷ x ≡ b ++ d ∷ y = cc in
    let g : c ≡ c' = cc in
    let r : a ≡ b = cut_front d a b x y p.1 q.1 f in
    cc

-- the same of lines
pub one_cut : (a b x y : List ℕ) → lf_free a ≡ true → lf_free b ≡ true → a ++ 10 ∷ x ≡ b ++ 10 ∷ y → x ≡ y
one_cut = cut_rest 10

pub one_line : (a b x y : List ℕ) → lf_free a ≡ true → lf_free b ≡ true → a ++ 10 ∷ x ≡ b ++ 10 ∷ y → a ≡ b
one_line = cut_front 10

-- digits are none of the octets below theirs
digit_free : (d c : ℕ) → d < 48 → is_ascii_digit c ≡ true → not (c == d) ≡ true
digit_free d c low h = grind (arith, nat_tests)

digits_free : (d : ℕ) → d < 48 → (ds : List ℕ) → all_ascii_digits ds ≡ true → free_of d ds ≡ true
digits_free d low [] h = refl
digits_free d low (c ∷ ds) h =
    let p = and_parts (is_ascii_digit c) (all_ascii_digits ds) h in
    and_from (not (c == d)) (free_of d ds) (digit_free d c low p.0) (digits_free d low ds p.1)

pub digits_model : IsNumeralModel (λ ds. all_ascii_digits ds ≡ true) (digits_value 10)
digits_model = numerals_by_value (λ ds. all_ascii_digits ds ≡ true) tells_all_ascii_digits

pub number_free : (d : ℕ) → d < 48 → (n : ℕ) → n < 2 ^ 64 → free_of d (decimal n) ≡ true
number_free d low n h = digits_free d low (decimal n) (digits_decimal digits_model n h)

pub decimal_free : (n : ℕ) → n < 2 ^ 64 → lf_free (decimal n) ≡ true
decimal_free = number_free 10 (lit< tt)

len_at : (a rest : List ℕ) → lf_free a ≡ true → position_or_len (λ octet. octet == 10) (a ++ 10 ∷ rest) ≡ length a
len_at [] rest h = refl
len_at (c ∷ a) rest h =
    let p = and_parts (not (c == 10)) (lf_free a) h in
    rw (p.0) (omega (arith, len_at a rest p.1))

-- the first LF comes after what has none
pub position_at : (a rest : List ℕ) → lf_free a ≡ true → position (λ octet. octet == 10) (a ++ 10 ∷ rest) ≡ Some (length a)
position_at a rest h =
    let e = len_at a rest h in
    let n : length (a ++ 10 ∷ rest) ≡ length a + length (10 ∷ rest) = length-append a (10 ∷ rest) in
    let t : ltb (position_or_len (λ octet. octet == 10) (a ++ 10 ∷ rest)) (length (a ++ 10 ∷ rest)) ≡ true = grind (arith, nat_tests) in
    cond-true _ _ _ t ∙ ap Some e

-- lines without LF inside
abbrev pub AreFree : List (List ℕ) → Type 0
AreFree [] = Unit {0}
AreFree (l ∷ ls) = (lf_free l ≡ true) × AreFree ls

pub AreFree-take : (n : ℕ) (ls : List (List ℕ)) → AreFree ls → AreFree (take n ls)
AreFree-take zero ls h = tt
AreFree-take (suc n) [] h = tt
AreFree-take (suc n) (l ∷ ls) h = (h.0, AreFree-take n ls h.1)

pub AreFree-append : (ls ms : List (List ℕ)) → AreFree ls → AreFree ms → AreFree (ls ++ ms)
AreFree-append [] ms h k = k
AreFree-append (l ∷ ls) ms h k = (h.0, AreFree-append ls ms h.1 k)

-- and those of which it is the front
pub AreFree-front : (ls ms : List (List ℕ)) → AreFree (ls ++ ms) → AreFree ls
AreFree-front [] ms h = tt
AreFree-front (l ∷ ls) ms h = (h.0, AreFree-front ls ms h.1)

-- as many lines before, the same rest
pub one_rest : (ls ms : List (List ℕ)) (x y : List ℕ) → AreFree ls → AreFree ms → length ls ≡ length ms → spelled ls x ≡ spelled ms y → x ≡ y
one_rest [] [] x y h k n e = e
one_rest [] (m ∷ ms) x y h k n e = absurd (omega (arith, n))
one_rest (l ∷ ls) [] x y h k n e = absurd (omega (arith, n))
one_rest (l ∷ ls) (m ∷ ms) x y h k n e =
    one_rest ls ms x y h.1 k.1 (omega (arith, n)) (one_cut l m (spelled ls x) (spelled ms y) h.0 k.0 e)

-- lines cut at their ends are the same lines
pub same_lines : (ls ms : List (List ℕ)) (x y : List ℕ) → AreFree ls → AreFree ms → length ls ≡ length ms → spelled ls x ≡ spelled ms y → ls ≡ ms
same_lines [] [] x y h k n e = refl
same_lines [] (m ∷ ms) x y h k n e = absurd (omega (arith, n))
same_lines (l ∷ ls) [] x y h k n e = absurd (omega (arith, n))
same_lines (l ∷ ls) (m ∷ ms) x y h k n e =
    let rest = one_cut l m (spelled ls x) (spelled ms y) h.0 k.0 e in
    let first : l ≡ m = one_line l m (spelled ls x) (spelled ms y) h.0 k.0 e in
    let others : ls ≡ ms = same_lines ls ms x y h.1 k.1 (omega (arith, n)) rest in
    ap (λ (z : List ℕ). z ∷ ls) first ∙ ap (λ (zs : List (List ℕ)). m ∷ zs) others

-- and so are all lines of a text
pub all_lines : (ls ms : List (List ℕ)) → AreFree ls → AreFree ms → spelled ls [] ≡ spelled ms [] → ls ≡ ms
all_lines [] [] h k e = refl
all_lines [] (m ∷ ms) h k e = absurd (let n = ap length e in let long = length-append m (10 ∷ spelled ms []) in omega (arith, n, long))
all_lines (l ∷ ls) [] h k e = absurd (let n = ap length e in let long = length-append l (10 ∷ spelled ls []) in omega (arith, n, long))
all_lines (l ∷ ls) (m ∷ ms) h k e =
    let rest = one_cut l m (spelled ls []) (spelled ms []) h.0 k.0 e in
    let first : l ≡ m = one_line l m (spelled ls []) (spelled ms []) h.0 k.0 e in
    let others : ls ≡ ms = all_lines ls ms h.1 k.1 rest in
    ap (λ (z : List ℕ). z ∷ ls) first ∙ ap (λ (zs : List (List ℕ)). m ∷ zs) others

pub spelled-take : (n : ℕ) (ls : List (List ℕ)) (rest : List ℕ) → spelled ls rest ≡ spelled (take n ls) (spelled (drop n ls) rest)
spelled-take zero ls rest = refl
spelled-take (suc n) [] rest = refl
spelled-take (suc n) (l ∷ ls) rest = ap (λ t. l ++ 10 ∷ t) (spelled-take n ls rest)

pub spelled-append : (ls ms : List (List ℕ)) (rest : List ℕ) → spelled (ls ++ ms) rest ≡ spelled ls (spelled ms rest)
spelled-append [] ms rest = refl
spelled-append (l ∷ ls) ms rest = ap (λ t. l ++ 10 ∷ t) (spelled-append ls ms rest)

-- the rest follows the lines
pub spelled_rest : (ls : List (List ℕ)) (rest : List ℕ) → spelled ls rest ≡ spelled ls [] ++ rest
spelled_rest [] rest = refl
spelled_rest (l ∷ ls) rest = ap (λ t. l ++ 10 ∷ t) (spelled_rest ls rest) ∙ sym (append_assoc l (10 ∷ spelled ls []) rest)

-- ---- which line it is

-- how many LFs are there
abbrev pub breaks : List ℕ → ℕ
breaks octets = count_by (λ octet. octet == 10) octets

first_break : (c : ℕ) (a : List ℕ) → breaks (c ∷ a) ≡ cond (c == 10) 1 0 + breaks a
first_break c a = sum_by-cons (λ octet. cond (octet == 10) 1 0) c a

breaks-append : (a b : List ℕ) → breaks (a ++ b) ≡ breaks a + breaks b
breaks-append a b = sum_by-append (λ octet. cond (octet == 10) 1 0) a b

no_breaks : (a : List ℕ) → lf_free a ≡ true → breaks a ≡ 0
no_breaks [] h = refl
no_breaks (c ∷ a) h =
    let p = and_parts (not (c == 10)) (lf_free a) h in
    let other : (c == 10) ≡ false = grind (arith, nat_tests, p.0) in
    let here : cond (c == 10) 1 0 ≡ 0 = ap (λ (b : Bool). cond b 1 0) other in
    let rest = no_breaks a p.1 in
    first_break c a ∙ (ap (λ n. n + breaks a) here ∙ omega (arith, rest))

count_lines : (ls : List (List ℕ)) → AreFree ls → breaks (spelled ls []) ≡ length ls
count_lines [] h = refl
count_lines (l ∷ ls) h =
    let none = no_breaks l h.0 in
    let more = count_lines ls h.1 in
    let end : breaks (10 ∷ spelled ls []) ≡ 1 + breaks (spelled ls []) = first_break 10 (spelled ls []) in
    breaks-append l (10 ∷ spelled ls []) ∙ (ap (λ n. breaks l + n) end ∙ omega (arith, none, more))

-- after this many lines the rest begins
pub line_at : (text rest : List ℕ) (ls : List (List ℕ)) → AreFree ls → text ≡ spelled ls rest
    → breaks (take (length text - length rest) text) ≡ length ls
line_at text rest ls h e =
    let parts : text ≡ spelled ls [] ++ rest = e ∙ spelled_rest ls rest in
    let n : length text - length rest ≡ length (spelled ls []) = omega (arith, ap length parts, length-append (spelled ls []) rest) in
    ap (λ k. breaks (take k text)) n
    ∙ (ap (λ t. breaks (take (length (spelled ls [])) t)) parts
    ∙ (ap breaks (take-append_seam (spelled ls []) rest) ∙ count_lines ls h))

-- where an LF was found the text is cut
pub cut_from_end : (bytes : List ℕ) (end : ℕ) → position (λ octet. octet == 10) bytes ≡ Some end
    → IsCutAtLf bytes (take end bytes) (take (length bytes - (end + 1)) (drop (end + 1) bytes))
cut_from_end bytes end h =
    let p = position-Some (λ octet. octet == 10) bytes end 0 h in
    let within : end < length bytes = p.0 in
    let lf : get_or bytes end 0 ≡ 10 = grind (arith, nat_tests, p.1) in
    let whole : take (length bytes - (end + 1)) (drop (end + 1) bytes) ≡ drop (end + 1) bytes = take_all (length bytes - (end + 1)) (drop (end + 1) bytes) (omega (arith, length-drop (end + 1) bytes)) in
    let next : suc end ≡ end + 1 = omega arith in
    let there : drop end bytes ≡ 10 ∷ drop (end + 1) bytes = drop-cons bytes end 0 within ∙ ap (λ c. c ∷ drop (suc end) bytes) lf ∙ ap (λ k. 10 ∷ drop k bytes) next in
    record {
      at = h ∙ ap Some (sym (length-take-le end bytes (omega arith)));
      parts = sym (take-append-drop end bytes) ∙ ap (λ l. take end bytes ++ l) (there ∙ ap (λ l. 10 ∷ l) (sym whole));
    }

pub same_front : {X : Type 0} (a b x y : List X) → length a ≡ length b → a ++ x ≡ b ++ y → a ≡ b
same_front [] [] x y n e = refl
same_front [] (d ∷ b) x y n e = absurd (omega (arith, n))
same_front (c ∷ a) [] x y n e = absurd (omega (arith, n))
same_front (c ∷ a) (d ∷ b) x y n e =
    let f : c ≡ d = cc in
    let g : a ++ x ≡ b ++ y = cc in
    let h : a ≡ b = same_front a b x y (omega (arith, n)) g in
    cc

-- a number's digits are read
pub number_gives : {E : Type 0} (digits text : List ℕ) (r : Result ℕ E) (n : ℕ) → n < 2 ^ 64 → text ≡ digits → digits ≡ decimal n → ParsesUnsigned 64 10 text r → r ≡ Ok n
number_gives digits text r n h e f p = parse-decimal 64 n text r h h (e ∙ f) p

pub number_is_text : (digits : List ℕ) (n : ℕ) → n < 2 ^ 64 → digits ≡ decimal n → IsUtf8 digits
number_is_text digits n h e = subst IsUtf8 (sym e) (IsUtf8-from_ascii (decimal n) (IsAscii-decimal n h))

-- after the word there is no line of a number
pub no_count : (bytes word rest : List ℕ) → bytes ≡ word ++ rest → LacksLf rest → LacksCount word bytes
no_count bytes word rest e none n tail h f =
    let g : rest ≡ decimal n ++ 10 ∷ tail = cancel word rest (decimal n ++ 10 ∷ tail) (sym e ∙ f ∙ append_assoc word (decimal n) (10 ∷ tail)) in
    let k = position_at (decimal n) tail (decimal_free n h) in
    none-some (length (decimal n)) (sym none ∙ ap (position (λ octet. octet == 10)) g ∙ k)

pub other_count : (bytes word rest digits tail : List ℕ) → bytes ≡ word ++ rest → IsCutAtLf rest digits tail → IsNoNumber digits → LacksCount word bytes
other_count bytes word rest digits tail e cut none n end h f =
    let g : rest ≡ decimal n ++ 10 ∷ end = cancel word rest (decimal n ++ 10 ∷ end) (sym e ∙ f ∙ append_assoc word (decimal n) (10 ∷ end)) in
    let k = position_at (decimal n) end (decimal_free n h) in
    let same : length digits ≡ length (decimal n) = same_Some _ _ (sym cut.at ∙ ap (position (λ octet. octet == 10)) g ∙ k) in
    none n h (same_front digits (decimal n) (10 ∷ tail) (10 ∷ end) same (sym cut.parts ∙ g))

-- the number that was read is printed as the digits
pub not_printed : {E : Type 0} (digits printed : List ℕ) (r : Result ℕ E) (n m : ℕ) (b : Bool) → r ≡ Ok n → r ≡ Ok m → digits ≡ decimal n → printed ≡ decimal m
    → b ≡ bytes_eq printed digits → b ≡ false → ⊥
not_printed digits printed r n m b en em d p e f =
    let same : m ≡ n = cc in
    true≢false (sym ((bytes_eq-Decides printed digits).1 (p ∙ ap decimal same ∙ sym d)) ∙ sym e ∙ f)

pub not_read : {E : Type 0} (r : Result ℕ E) (n : ℕ) → r ≡ Ok n → None ≡ result_ok r → ⊥
not_read r n e f = none-some n (f ∙ ap result_ok e)

-- what the value of a result says of it, and what says that there is none
pub is_value : {T E : Type 0} (r : Result T E) (x : T) → Some x ≡ result_ok r → r ≡ Ok x
is_value (Ok y) x e = ap Ok (sym (same_Some x y e))
is_value (Err f) x e = absurd (none-some x (sym e))

pub at_value : {T E : Type 0} (r : Result T E) (x : T) (P : T → Type 0) (Q : E → Type 0) → Some x ≡ result_ok r → MatchResult r P Q → P x
at_value (Ok y) x P Q e m = subst P (sym (same_Some x y e)) m
at_value (Err f) x P Q e m = absurd (none-some x (sym e))

pub at_no_value : {T E : Type 0} (r : Result T E) (P : T → Type 0) (Q : E → Type 0) → None ≡ result_ok r → MatchResult r P Q → (f : E) × Q f
at_no_value (Ok y) P Q e m = absurd (none-some y e)
at_no_value (Err f) P Q e m = (f, m)

-- the exit of a `?` on an Option
pub none_exit : {A : Type 0} (r : Option A) (P : Type 0) (Q : A → Type 0) → r ≡ None → P → MatchOption r P Q
none_exit (Some x) P Q e p = absurd (none-some x (sym e))
none_exit None P Q e p = p

-- what is said of a value, and what where there is none
pub match_some : {A : Type 0} (r : Option A) (P : Type 0) (Q : A → Type 0) (x : A) → r ≡ Some x → MatchOption r P Q → Q x
match_some (Some y) P Q x e m = subst Q (same_Some y x e) m
match_some None P Q x e m = absurd (none-some x e)

pub match_none : {A : Type 0} (r : Option A) (P : Type 0) (Q : A → Type 0) → r ≡ None → MatchOption r P Q → P
match_none (Some y) P Q e m = absurd (none-some y (sym e))
match_none None P Q e m = m
