-- The words of an entry, and the line of a pair.
use Rattle.std.proofs.Common.{◌≡◌, ◌≢◌, ℕ, ℤ, ◌+◌, ◌/◌, ◌≤◌, ◌==◌, Bool, true, false, List, ◌∷◌, ◌++◌, length, get_or, subst, sym, refl, ap, ◌∙◌, append_assoc, arith}
use Rattle.std.specs.Prelude.{Option, Some, None, MatchOption, Result, Ok, Err, IfOk, OnErr, codes, decimal, position}
use Rattle.std.specs.Result.{result_ok}
use Rattle.std.specs.Str.{bytes_eq}
use Rattle.std.proofs.lemmas.Slice.Eq.{bytes_eq-Decides}
use Rattle.std.proofs.lemmas.Bool.Decides.{nat_tests}
use denote.Ref.{Bor}
use Rattle.std.proofs.lemmas.Option.{same_Some, none-some}
use Rattle.std.proofs.lemmas.Bool.{true≢false}
use Rattle.profile.specs.text.Values.{SpellsStamp, WritesStamp, SpellsClock, two_digits, four_digits}
use Rattle.profile.specs.checker.Certificates.{Entry, End, Span, Res, IsEntry, IsEntryText, InGroup}
use Rattle.clash_cert.specs.Texts.{Lacks, LacksLf, IsCutAtLf, IsNoNumber}
use Rattle.clash_cert.specs.Reading.{pair_names, IsNoEntry, IsNoSpan, IsPairAt, LacksPair}
use Rattle.clash_cert.proofs.TextLemmas.{cancel, position_at, same_front}
use Rattle.clash_cert.proofs.FreeLines.{entry_free, stamp_length}

-- ---- seconds

-- the first digit of the seconds
tens : (limit : ℕ) (text local : List ℕ) (t : ℤ) (w : SpellsClock limit local t) → text ≡ local ++ codes "Z" → get_or text 13 0 ≡ 48 + w.at_second.second / 10
tens limit text local t w e =
    let on = w.on in
    let at = w.at_second in
    let shown : text ≡ ((four_digits on.year ++ two_digits on.month ++ two_digits on.day) ++ codes "T" ++ (two_digits at.hour ++ two_digits at.minute ++ two_digits at.second)) ++ codes "Z" =
    e ∙ ap (λ l. l ++ codes "Z") (w.spelled ∙ ap (λ d. d ++ codes "T" ++ w.time) on.spelled ∙ ap (λ s. (four_digits on.year ++ two_digits on.month ++ two_digits on.day) ++ codes "T" ++ s) at.spelled) in
    ap (λ l. get_or l 13 0) shown

-- where it isn't 6, the seconds are below 60, and so it is where they are written
pub exact : (text : List ℕ) (t : ℤ) → SpellsStamp text t → get_or text 13 0 ≢ 54 → WritesStamp text t
exact text t (local, w, e) h =
    let at = w.at_second in
    let first = tens 60 text local t w e in
    let other : (48 + at.second / 10 ≡ 54) → ⊥ = λ f. h (first ∙ f) in
    let most = at.seconds in
    let less : at.second ≤ 59 = omega (arith, other, most) in (
      local,
      record {
        date = w.date;
        time = w.time;
        number = w.number;
        second = w.second;
        on = w.on;
        at_second = record { hour = at.hour; minute = at.minute; second = at.second; hours = at.hours; minutes = at.minutes; seconds = less; spelled = at.spelled; counted = at.counted };
        spelled = w.spelled;
        counted = w.counted;
      },
      e,
    )

pub not_sixty : (text : List ℕ) (t : ℤ) → WritesStamp text t → get_or text 13 0 ≢ 54
not_sixty text t (local, w, e) f =
    let first = tens 59 text local t w e in
    let same : 48 + w.at_second.second / 10 ≡ 54 = sym first ∙ f in
    let most = w.at_second.seconds in
    omega (arith, same, most)

-- ---- the words of an entry

-- what follows is a stamp, a space and a number
module _ (words rest : List ℕ) (begins : words ≡ codes "SPAN " ++ rest) where
  module _ (first last : List ℕ) (parts : rest ≡ first ++ last) (long : length first ≡ 16) where
    stamps : (from : ℤ) (days : ℕ) → (t : IsEntryText (Span from days) words) → (first ≡ t.0) × (last ≡ codes " " ++ decimal days)
    stamps from days (stamp, w, e) =
        let same : first ++ last ≡ stamp ++ (codes " " ++ decimal days) = sym parts ∙ cancel (codes "SPAN ") _ _ (sym begins ∙ e) in
        let front : first ≡ stamp = same_front first stamp last _ (long ∙ sym (stamp_length stamp from w)) same in
        (front, cancel first _ _ (same ∙ ap (λ s. s ++ (codes " " ++ decimal days)) (sym front)))

    pub no_stamp : ((t : ℤ) → WritesStamp first t → ⊥) → IsNoSpan words
    no_stamp none from days h t = none from (subst (λ s. WritesStamp s from) (sym (stamps from days t).0) t.1)

    pub no_space : Lacks (codes " ") last → IsNoSpan words
    no_space lacks from days h t = lacks (decimal days) (stamps from days t).1

    pub no_days : (digits : List ℕ) → last ≡ codes " " ++ digits → IsNoNumber digits → IsNoSpan words
    no_days digits e none from days h t = none days h.1 (cancel (codes " ") _ _ (sym e ∙ (stamps from days t).1))

    pub span_words : (t : ℤ) (digits : List ℕ) (n : ℕ) → WritesStamp first t → last ≡ codes " " ++ digits → digits ≡ decimal n → IsEntryText (Span t n) words
    span_words t digits n w e f = (first, w, begins ∙ ap (λ l. codes "SPAN " ++ l) (parts ∙ ap (λ l. first ++ l) (e ∙ ap (λ l. codes " " ++ l) f)))

-- other words than those of END and RES are SPAN's, if an entry's
pub no_entry : (words : List ℕ) → words ≢ codes "END" → Lacks (codes "RES ") words → IsNoSpan words → IsNoEntry words
no_entry words other lacks none End h e = other e
no_entry words other lacks none (Span from days) h w = none from days h w
no_entry words other lacks none (Res m) h e = lacks (decimal m) e
no_entry words other lacks none (InGroup n) h e = absurd h

pub or_span : {A : Type 0} (words : List ℕ) (r : Option A) (P : A → Type 0) → words ≢ codes "END" → Lacks (codes "RES ") words → MatchOption r (IsNoSpan words) P → MatchOption r (IsNoEntry words) P
or_span words None P other lacks none = no_entry words other lacks none
or_span words (Some x) P other lacks is = is

-- after RES comes a number
pub no_modulus : (words digits : List ℕ) → words ≡ codes "RES " ++ digits → IsNoNumber digits → IsNoEntry words
no_modulus words digits begins none End h e = let first : 82 ≡ 69 = ap (λ l. get_or l 0 0) (sym begins ∙ e) in omega (arith, first)
no_modulus words digits begins none (Span from days) h (stamp, w, e) = let first : 82 ≡ 83 = ap (λ l. get_or l 0 0) (sym begins ∙ e) in omega (arith, first)
no_modulus words digits begins none (Res m) h e = none m h (cancel (codes "RES ") _ _ (sym begins ∙ e))
no_modulus words digits begins none (InGroup n) h e = absurd h

-- ---- the line of a pair

-- the line is the names of the pair, and words
names_first : (i j : ℕ) (text tail : List ℕ) → (codes "PAIR " ++ (decimal i ++ (codes " " ++ (decimal j ++ (codes " " ++ text))))) ++ tail ≡ pair_names i j ++ (text ++ tail)
names_first i j text tail = grouped (codes "PAIR ") (decimal i) (codes " ") (decimal j) text tail
  where
    grouped : (p i s j w u : List ℕ) → (p ++ (i ++ (s ++ (j ++ (s ++ w))))) ++ u ≡ (p ++ (i ++ (s ++ (j ++ s)))) ++ (w ++ u)
    grouped p i s j w u = simp append_assoc

pub no_names : (i j : ℕ) (bytes : List ℕ) → Lacks (pair_names i j) bytes → LacksPair i j bytes
no_names i j bytes lacks entry line rest is (text, w, e) f = lacks (text ++ 10 ∷ rest) (f ∙ ap (λ l. l ++ 10 ∷ rest) e ∙ names_first i j text (10 ∷ rest))

module _ (i j : ℕ) (bytes rest : List ℕ) (begins : bytes ≡ pair_names i j ++ rest) where
  -- the words of a line's entry are before the first LF
  words_there : (line tail text : List ℕ) → bytes ≡ line ++ 10 ∷ tail → line ≡ codes "PAIR " ++ (decimal i ++ (codes " " ++ (decimal j ++ (codes " " ++ text)))) → rest ≡ text ++ 10 ∷ tail
  words_there line tail text f e = cancel (pair_names i j) _ _ (sym begins ∙ f ∙ ap (λ l. l ++ 10 ∷ tail) e ∙ names_first i j text (10 ∷ tail))

  pub no_lf : LacksLf rest → LacksPair i j bytes
  no_lf none entry line tail is (text, w, e) f =
      let at = position_at text tail (entry_free entry text is w) in
      none-some (length text) (sym none ∙ ap (position (λ octet. octet == 10)) (words_there line tail text f e) ∙ at)

  pub no_words : (words tail : List ℕ) → IsCutAtLf rest words tail → IsNoEntry words → LacksPair i j bytes
  no_words words tail cut none entry line end is (text, w, e) f =
      let there = words_there line end text f e in
      let at = position_at text end (entry_free entry text is w) in
      let same : length words ≡ length text = same_Some _ _ (sym cut.at ∙ ap (position (λ octet. octet == 10)) there ∙ at) in
      let equal : words ≡ text = same_front words text (10 ∷ tail) (10 ∷ end) same (sym cut.parts ∙ there) in
      none entry is (subst (IsEntryText entry) (sym equal) w)

  pub pair_there : (words tail : List ℕ) (entry : Entry) → IsCutAtLf rest words tail → IsEntry entry → IsEntryText entry words → IsPairAt i j entry bytes tail
  pair_there words tail entry cut h w = record {
    good = h;
    line = codes "PAIR " ++ (decimal i ++ (codes " " ++ (decimal j ++ (codes " " ++ words))));
    of = (words, w, refl);
    is = begins ∙ ap (λ l. pair_names i j ++ l) cut.parts ∙ sym (names_first i j words (10 ∷ tail));
  }

-- ---- names

-- the names of a pair in three steps
module _ (p i s bytes rest : List ℕ) (begins : bytes ≡ p ++ rest) where
  pub names_lack_second : (t : List ℕ) → Lacks (i ++ s) rest → Lacks (p ++ (i ++ (s ++ t))) bytes
  names_lack_second t lacks tail f = lacks (t ++ tail) (cancel p rest ((i ++ s) ++ (t ++ tail)) (sym begins ∙ f ∙ grouped p i s t tail))
    where
      grouped : (p i s t u : List ℕ) → (p ++ (i ++ (s ++ t))) ++ u ≡ p ++ ((i ++ s) ++ (t ++ u))
      grouped p i s t u = simp append_assoc

  pub names_end : (j last : List ℕ) (r : Option (Bor (List ℕ))) → rest ≡ (i ++ s) ++ last → MatchOption r (Lacks (j ++ s) last) (λ x. last ≡ (j ++ s) ++ x.now)
      → MatchOption r (Lacks (p ++ (i ++ (s ++ (j ++ s)))) bytes) (λ x. bytes ≡ (p ++ (i ++ (s ++ (j ++ s)))) ++ x.now)
  names_end j last r f h = go r h
    where
      grouped : (p i s j u : List ℕ) → (p ++ (i ++ (s ++ (j ++ s)))) ++ u ≡ p ++ ((i ++ s) ++ ((j ++ s) ++ u))
      grouped p i s j u = simp append_assoc

      go : (r : Option (Bor (List ℕ))) → MatchOption r (Lacks (j ++ s) last) (λ x. last ≡ (j ++ s) ++ x.now)
          → MatchOption r (Lacks (p ++ (i ++ (s ++ (j ++ s)))) bytes) (λ x. bytes ≡ (p ++ (i ++ (s ++ (j ++ s)))) ++ x.now)
      go None lacks = λ tail g. lacks tail (cancel (i ++ s) last ((j ++ s) ++ tail) (sym f ∙ cancel p rest ((i ++ s) ++ ((j ++ s) ++ tail)) (sym begins ∙ g ∙ grouped p i s j tail)))
      go (Some x) is = begins ∙ ap (λ l. p ++ l) (f ∙ ap (λ l. (i ++ s) ++ l) is) ∙ sym (grouped p i s j x.now)

-- ---- what steps say

pub no_ok : {T E : Type 0} (r : Result T E) (P : Type 0) → None ≡ result_ok r → OnErr r P → P
no_ok (Ok x) P e h = absurd (none-some x e)
no_ok (Err f) P e h = h

pub ok_is : {T E : Type 0} (r : Result T E) (P : T → Type 0) (x : T) → Some x ≡ result_ok r → IfOk r P → P x
ok_is (Ok y) P x e h = subst P (sym (same_Some x y e)) h
ok_is (Err f) P x e h = absurd (none-some x (sym e))

pub differ : (xs ys : List ℕ) (b : Bool) → b ≡ bytes_eq xs ys → b ≡ false → xs ≢ ys
differ xs ys b e f g = true≢false (sym ((bytes_eq-Decides xs ys).1 g) ∙ sym e ∙ f)

pub digit_is : (text : List ℕ) (b : Bool) → b ≡ (get_or text 13 0 == 54) → b ≡ true → get_or text 13 0 ≡ 54
digit_is text b e h = grind (arith, nat_tests)

pub digit_not : (text : List ℕ) (b : Bool) → b ≡ (get_or text 13 0 == 54) → b ≡ false → get_or text 13 0 ≢ 54
digit_not text b e h f = grind (arith, nat_tests)
