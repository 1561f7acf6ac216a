-- What the names of files say.
use Rattle.std.proofs.Common.{◌≡◌, ◌≢◌, ◌↔◌, ◌∙◌, ◌&&◌, not, ℕ, ℤ, Bool, suc, ◌+◌, ◌-◌, ◌<◌, ◌≤◌, true, false, IsTrue, true≢false, List, [], ◌∷◌, ◌++◌, length, get_or, take, drop, codes, refl, sym, ap, subst, arith, length-append, append_assoc, Option, Some, None, MatchOption, Result, Ok, Err, IfOk, OnErr}
use Rattle.std.specs.Result.{result_ok}
use Rattle.ical_lines.specs.declared.fault.Refusal.{Refusal}
use Rattle.std.proofs.Math.Seq.{take-append_seam, get_or-append_seam}
use Rattle.std.proofs.lemmas.Bool.{and_from, and_parts}
use Rattle.std.proofs.lemmas.Bool.Decides.{nat_tests}
use Rattle.std.proofs.lemmas.Str.Parse.{digit_at, digit_from_value}
use Rattle.std.specs.Char.{is_ascii_digit, digit_value}
use Rattle.std.specs.List.{list_all}
use Rattle.std.specs.Str.Parse.{AllDigits}
use Rattle.profile.specs.streams.Folders.{IsInboxName}
use Rattle.profile.specs.text.Values.{SpellsStamp}
use denote.Ref.{Bor}
use Rattle.std.specs.Option.{is_some, unwrap_or}
use Rattle.sched_box.specs.FileNames.{IsCut, IsLeftAlone, IsNamed, IsNoName, name_end, name_stem}

-- ---- digits

digit_shown : (c : ℕ) → is_ascii_digit c ≡ true → digit_value c < 10
digit_shown c h = grind (arith, nat_tests)

digit_known : (c : ℕ) → (48 ≤ c) × (c ≤ 57) → is_ascii_digit c ≡ true
digit_known c h = grind (arith, nat_tests)

pub digits_shown : (octets : List ℕ) → list_all is_ascii_digit octets ≡ true → AllDigits 10 octets
digits_shown [] h = tt
digits_shown (c ∷ cs) h = let (first, rest) = and_parts (is_ascii_digit c) (list_all is_ascii_digit cs) h in (digit_shown c first, digits_shown cs rest)

pub digits_known : (octets : List ℕ) → AllDigits 10 octets → list_all is_ascii_digit octets ≡ true
digits_known [] h = refl
digits_known (c ∷ cs) h = and_from _ _ (digit_known c (digit_from_value c h.0)) (digits_known cs h.1)

-- ---- the parts of a name

-- no octet of it is a hyphen
abbrev pub HasNoHyphen : List ℕ → Type 0
HasNoHyphen octets = (i : ℕ) → i < length octets → get_or octets i 0 ≢ 45

pub stem_is : (name stem : List ℕ) → name ≡ stem ++ codes ".ics" → stem ≡ name_stem name
stem_is name stem e =
    let count : length name - 4 ≡ length stem = omega (arith, ap length e ∙ length-append stem (codes ".ics")) in
    let cut : take (length stem) name ≡ stem = ap (take (length stem)) e ∙ take-append_seam stem (codes ".ics") in
    sym cut ∙ ap (λ n. take n name) (sym count)

digits_lack : (digits : List ℕ) → AllDigits 10 digits → HasNoHyphen digits
digits_lack digits all i within is = let (low, high) = digit_at digits i all within in omega arith

-- where a text is cut at its first hyphen
cut_alone : (a b c d : List ℕ) → HasNoHyphen a → HasNoHyphen c → a ++ 45 ∷ b ≡ c ++ 45 ∷ d → (a ≡ c) × (b ≡ d)
cut_alone [] b [] d p q e = (refl, ap (drop 1) e)
cut_alone [] b (y ∷ c) d p q e = absurd (q 0 (omega arith) (sym (ap (λ x. get_or x 0 0) e)))
cut_alone (x ∷ a) b [] d p q e = absurd (p 0 (omega arith) (ap (λ x. get_or x 0 0) e))
cut_alone (x ∷ a) b (y ∷ c) d p q e =
    let (front, back) = cut_alone a b c d (λ i l. p (suc i) (omega arith)) (λ i l. q (suc i) (omega arith)) (ap (drop 1) e) in
    let first : x ≡ y = ap (λ x. get_or x 0 0) e in
    (rw (first, front) refl, back)

-- a name of the form, whose stem is cut so
pub record IsReadAs (name number stamp stem : List ℕ) (moment : ℤ) : Type 0 where
  pub stem_is : stem ≡ name_stem name
  pub eight : length number ≡ 8
  pub decimal : AllDigits 10 number
  pub spells : SpellsStamp stamp moment

pub read_as : (name cut number stamp : List ℕ) → name ≡ cut ++ codes ".ics" → cut ≡ number ++ 45 ∷ stamp → HasNoHyphen number → (stem : List ℕ) (moment : ℤ) → IsInboxName name stem moment
    → IsReadAs name number stamp stem moment
read_as name cut number stamp ends split lacks stem moment is =
    let here : stem ≡ name_stem name = stem_is name stem is.name_is in
    let regrouped : stem ≡ is.digits ++ 45 ∷ is.stamp = is.stem_is ∙ append_assoc is.digits (45 ∷ []) is.stamp in
    let both : number ++ 45 ∷ stamp ≡ is.digits ++ 45 ∷ is.stamp = sym split ∙ stem_is name cut ends ∙ sym here ∙ regrouped in
    let (digits, rest) = cut_alone number stamp is.digits is.stamp lacks (digits_lack is.digits is.decimal) both in
    record {
      stem_is = here;
      eight = ap length digits ∙ is.eight;
      decimal = subst (AllDigits 10) (sym digits) is.decimal;
      spells = let P : List ℕ → Type 0 = λ text. SpellsStamp text moment in subst P (sym rest) is.spells;
    }

-- ---- what comes of reading a name

pub none_exit : {A : Type 0} (r : Option A) (P : Type 0) (Q : A → Type 0) → r ≡ None → P → MatchOption r P Q
none_exit (Some x) P Q e p = absurd (cc)
none_exit None P Q e p = p

pub read_exit : (name stamp : List ℕ) (r : Result ℤ Refusal) (o : Option ℤ) → o ≡ result_ok r → IfOk r (SpellsStamp stamp) → OnErr r ((moment : ℤ) → SpellsStamp stamp moment → ⊥)
    → (((moment : ℤ) → SpellsStamp stamp moment → ⊥) → IsNoName name) → ((moment : ℤ) → SpellsStamp stamp moment → IsNamed name moment) → MatchOption o (IsNoName name) (IsNamed name)
read_exit name stamp (Ok t) o e reads none absent is = let P : Option ℤ → Type 0 = λ x. MatchOption x (IsNoName name) (IsNamed name) in subst P (sym e) (is t reads)
read_exit name stamp (Err f) o e reads none absent is = let P : Option ℤ → Type 0 = λ x. MatchOption x (IsNoName name) (IsNamed name) in subst P (sym e) (absent none)

pub none_uncut : (name : List ℕ) → ((stem : List ℕ) → name ≡ stem ++ codes ".ics" → ⊥) → IsNoName name
none_uncut name none stem moment is = none stem is.name_is

pub none_whole : (name cut : List ℕ) → name ≡ cut ++ codes ".ics" → HasNoHyphen cut → IsNoName name
none_whole name cut ends lacks stem moment is =
    let here : stem ≡ name_stem name = stem_is name stem is.name_is in
    let split : cut ≡ is.digits ++ 45 ∷ is.stamp = stem_is name cut ends ∙ sym here ∙ is.stem_is ∙ append_assoc is.digits (45 ∷ []) is.stamp in
    let long : length cut ≡ length is.digits + length (45 ∷ is.stamp) = ap length split ∙ length-append is.digits (45 ∷ is.stamp) in
    lacks (length is.digits) (omega arith) (ap (λ x. get_or x (length is.digits) 0) split ∙ get_or-append_seam is.digits 45 is.stamp 0)

pub none_numbered : (name cut number stamp : List ℕ) → name ≡ cut ++ codes ".ics" → cut ≡ number ++ 45 ∷ stamp → HasNoHyphen number → ((length number ≡ 8) × AllDigits 10 number → ⊥) → IsNoName name
none_numbered name cut number stamp ends split lacks none stem moment is =
    let r = read_as name cut number stamp ends split lacks stem moment is in
    none (r.eight, r.decimal)

pub none_stamped : (name cut number stamp : List ℕ) → name ≡ cut ++ codes ".ics" → cut ≡ number ++ 45 ∷ stamp → HasNoHyphen number → ((moment : ℤ) → SpellsStamp stamp moment → ⊥) → IsNoName name
none_stamped name cut number stamp ends split lacks none stem moment is = none moment (read_as name cut number stamp ends split lacks stem moment is).spells

pub named : (name cut number stamp : List ℕ) (moment : ℤ) → name ≡ cut ++ codes ".ics" → cut ≡ number ++ 45 ∷ stamp → HasNoHyphen number → length number ≡ 8 → AllDigits 10 number
    → SpellsStamp stamp moment → ((text : List ℕ) (a b : ℤ) → SpellsStamp text a → SpellsStamp text b → a ≡ b) → IsNamed name moment
named name cut number stamp moment ends split lacks eight decimal spells one =
    let same = stem_is name cut ends in
    record {
      is = record {
        digits = number;
        stamp = stamp;
        eight = eight;
        decimal = decimal;
        spells = spells;
        stem_is = sym same ∙ split ∙ sym (append_assoc number (45 ∷ []) stamp);
        name_is = ends ∙ ap (λ x. x ++ codes ".ics") same;
      };
      alone = λ stem other is.
          let r = read_as name cut number stamp ends split lacks stem other is in
          (r.stem_is, one stamp other moment r.spells spells);
    }

-- ---- the name of the answers

pub cut_or : (name stem : List ℕ) (cut : Option (Bor (List ℕ))) (other : Bor (List ℕ)) → IsCut name cut → name ≡ stem ++ codes ".ics" → (unwrap_or cut other).now ≡ stem
cut_or name stem (Some front) other is e = stem_is name front.now is ∙ sym (stem_is name stem e)
cut_or name stem None other is e = absurd (is stem e)

-- ---- what is left alone

pub none_is_no_name : (found : Option ℤ) (name : List ℕ) (test : Bool) → MatchOption found (IsNoName name) (IsNamed name) → is_some found ≡ not test → IsTrue test ↔ IsNoName name
none_is_no_name None name true lacks is = (λ e. lacks, λ n. refl)
none_is_no_name None name false lacks is = absurd (true≢false (sym is))
none_is_no_name (Some moment) name true named is = absurd (true≢false is)
none_is_no_name (Some moment) name false named is = (λ e. absurd (true≢false (sym e)), λ n. absurd (n _ moment named.is))

pub both_alone : (a b : Bool) (name : List ℕ) → (IsTrue a ↔ (name_end name ≡ codes ".ics")) → (IsTrue b ↔ IsNoName name) → IsTrue (a && b) ↔ IsLeftAlone name
both_alone true b name ends none = (λ e. record { ends = ends.0 refl; no_message = none.0 e }, λ alone. none.1 alone.no_message)
both_alone false b name ends none = (λ e. absurd (true≢false (sym e)), λ alone. absurd (true≢false (sym (ends.1 alone.ends))))
