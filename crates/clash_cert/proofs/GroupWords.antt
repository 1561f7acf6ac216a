-- The words of a group, and numbers, each after a space.
use Rattle.std.proofs.Common.{◌≡◌, ◌≢◌, ℕ, ℤ, suc, ◌^◌, ◌<◌, ◌≤◌, ◌==◌, Bool, true, false, cond, not, ◌&&◌, List, [], ◌∷◌, ◌++◌, length, get_or, take, drop, subst, sym, refl, ap, ◌∙◌, append_assoc, append-nil, lit<, arith}
use Rattle.std.specs.Prelude.{All, AllPairs, Contains, Some, None, codes, decimal, position, eqb, ltb, leb}
use Rattle.std.specs.List.{position_or_len, remove}
use Rattle.std.proofs.lemmas.Bool.{and_parts, and_from, true≢false}
use Rattle.std.proofs.lemmas.Bool.Decides.{nat_tests}
use Rattle.std.proofs.lemmas.Option.{same_Some, none-some}
use Rattle.std.proofs.lemmas.List.{take-append-drop, take_all, drop_all}
use Rattle.std.proofs.lemmas.List.Elements.{All-nil, All-cons, All-head, All-tail, All-append, All-contains, All-contains_itself, All-weaker}
use Rattle.std.proofs.lemmas.List.Kept.{AllPairs-cons}
use Rattle.std.proofs.lemmas.Fmt.{decimal_injective}
use Rattle.std.proofs.lemmas.Grind.{flat_map-append}
use Rattle.std.proofs.Math.Seq.{take-append_seam, drop-append_seam}
use Rattle.profile.specs.text.Values.{WritesStamp, IsClockSeconds}
use Rattle.profile.specs.checker.Certificates.{Group, IsGroup, IsGroupLine, numbers_text}
use Rattle.clash_cert.specs.Texts.{LacksLf, IsCutAtLf, IsNoNumber}
use Rattle.clash_cert.specs.Reading.{AreNumbers, AreNoNumbers, IsNumberAt, LacksNumber, IsCutAtSpace, ascend, IsGroupAt, LacksGroup, IsGroupOfWords, IsNoGroup}
use Rattle.clash_cert.proofs.TextLemmas.{cancel, free_of, lf_free, number_free, position_at, same_front}
use Rattle.clash_cert.proofs.FreeLines.{stamp_length, group_free, few_members}
use Rattle.clash_cert.proofs.OneContent.{one_numbers}

-- ---- the first number

-- where the first space is, after octets that are none
space_at : (a rest : List ℕ) → free_of 32 a ≡ true → position_or_len (λ octet. octet == 32) (a ++ 32 ∷ rest) ≡ length a
space_at [] rest h = refl
space_at (c ∷ a) rest h =
    let p = and_parts (not (c == 32)) (free_of 32 a) h in
    rw (p.0) (omega (arith, space_at a rest p.1))

no_space : (a : List ℕ) → free_of 32 a ≡ true → position_or_len (λ octet. octet == 32) a ≡ length a
no_space [] h = refl
no_space (c ∷ a) h =
    let p = and_parts (not (c == 32)) (free_of 32 a) h in
    rw (p.0) (omega (arith, no_space a p.1))

word_end : (n : ℕ) (others : List ℕ) → n < 2 ^ 64 → position_or_len (λ octet. octet == 32) (decimal n ++ numbers_text others) ≡ length (decimal n)
word_end n [] h = ap (position_or_len (λ octet. octet == 32)) (append-nil (decimal n)) ∙ no_space (decimal n) (number_free 32 (lit< tt) n h)
word_end n (m ∷ others) h = space_at (decimal n) (decimal m ++ numbers_text others) (number_free 32 (lit< tt) n h)

-- where it was found, or there is none
pub cut_found : (text front back : List ℕ) (end : ℕ) → position (λ octet. octet == 32) text ≡ Some end → front ≡ take end text → back ≡ drop end text → IsCutAtSpace text front back
cut_found text front back end h f b =
    let at : position_or_len (λ octet. octet == 32) text ≡ end = go (ltb (position_or_len (λ octet. octet == 32) text) (length text)) h in
    record { word_is = f ∙ ap (λ k. take k text) (sym at); rest_is = b ∙ ap (λ k. drop k text) (sym at) }
  where
    go : (b : Bool) → cond b (Some (position_or_len (λ octet. octet == 32) text)) None ≡ Some end → position_or_len (λ octet. octet == 32) text ≡ end
    go true e = same_Some _ _ e
    go false e = absurd (none-some end e)

pub cut_not_found : (text : List ℕ) → position (λ octet. octet == 32) text ≡ None → IsCutAtSpace text text []
cut_not_found text h =
    let past : length text ≤ position_or_len (λ octet. octet == 32) text = go (ltb (position_or_len (λ octet. octet == 32) text) (length text)) refl h in
    record { word_is = sym (take_all (position_or_len (λ octet. octet == 32) text) text past); rest_is = sym (drop_all (position_or_len (λ octet. octet == 32) text) text past) }
  where
    go : (b : Bool) → ltb (position_or_len (λ octet. octet == 32) text) (length text) ≡ b → cond b (Some (position_or_len (λ octet. octet == 32) text)) None ≡ None
        → length text ≤ position_or_len (λ octet. octet == 32) text
    go true e f = absurd (none-some _ (sym f))
    go false e f = grind (arith, nat_tests)

module _ (text digits word rest : List ℕ) (begins : text ≡ codes " " ++ digits) (cut : IsCutAtSpace digits word rest) where
  -- whichever numbers there are, this is the word of the first
  word_there : (first : ℕ) (others : List ℕ) → first < 2 ^ 64 → text ≡ numbers_text (first ∷ others) → (word ≡ decimal first) × (rest ≡ numbers_text others)
  word_there first others h e =
      let there : digits ≡ decimal first ++ numbers_text others = cancel (codes " ") _ _ (sym begins ∙ e) in
      let at : position_or_len (λ octet. octet == 32) digits ≡ length (decimal first) = ap (position_or_len (λ octet. octet == 32)) there ∙ word_end first others h in (
        cut.word_is ∙ ap (λ k. take k digits) at ∙ ap (take (length (decimal first))) there ∙ take-append_seam (decimal first) (numbers_text others),
        cut.rest_is ∙ ap (λ k. drop k digits) at ∙ ap (drop (length (decimal first))) there ∙ drop-append_seam (decimal first) (numbers_text others),
      )

  pub no_next_number : IsNoNumber word → LacksNumber text
  no_next_number none first others h e = none first h (word_there first others h e).0

  pub next_there : (n : ℕ) → n < 2 ^ 64 → word ≡ decimal n → IsNumberAt n text rest
  next_there n few w = record {
    few = few;
    is =
        begins ∙ ap (λ l. codes " " ++ l) (sym (take-append-drop (position_or_len (λ octet. octet == 32) digits) digits)
        ∙ ap (λ l. l ++ drop (position_or_len (λ octet. octet == 32) digits) digits) (sym cut.word_is ∙ w) ∙ ap (λ l. decimal n ++ l) (sym cut.rest_is));
    only = λ first others h e. let there = word_there first others h e in (decimal_injective first n h few (sym there.0 ∙ w), there.1);
  }

-- ---- all numbers

-- so many were at the front, and whichever numbers the text spells, they are the first ones
pub record AreFirstNumbers (text numbers rest : List ℕ) : Type 0 where
  pub few : All (λ n. n < 2 ^ 64) numbers
  pub is : text ≡ numbers_text numbers ++ rest
  pub only : (all : List ℕ) → All (λ n. n < 2 ^ 64) all → text ≡ numbers_text all → (others : List ℕ) × All (λ n. n < 2 ^ 64) others × (all ≡ numbers ++ others) × (rest ≡ numbers_text others)

pub one_first : (text numbers rest more left : List ℕ) (n : ℕ) → AreFirstNumbers text numbers rest → rest ≢ [] → IsNumberAt n rest left → more ≡ numbers ++ n ∷ [] → AreFirstNumbers text more left
one_first text numbers rest more left n first some next e = subst (λ ns. AreFirstNumbers text ns left) (sym e) (record {
  few = All-append (λ i. i < 2 ^ 64) numbers (n ∷ []) first.few (All-cons (λ i. i < 2 ^ 64) n [] next.few (All-nil (λ i. i < 2 ^ 64)));
  is =
      first.is ∙ ap (λ l. numbers_text numbers ++ l) next.is ∙ ap (λ l. numbers_text numbers ++ (codes " " ++ l)) (ap (λ l. l ++ left) (sym (append-nil (decimal n))))
      ∙ sym (append_assoc (numbers_text numbers) (numbers_text (n ∷ [])) left) ∙ ap (λ l. l ++ left) (sym (flat_map-append (λ i. codes " " ++ decimal i) numbers (n ∷ [])));
  only = λ all few f. let g = first.only all few f in go all g.0 g.1 g.2 g.3;
})
  where
    go : (all others : List ℕ) → All (λ i. i < 2 ^ 64) others → all ≡ numbers ++ others → rest ≡ numbers_text others
        → (next : List ℕ) × All (λ i. i < 2 ^ 64) next × (all ≡ (numbers ++ n ∷ []) ++ next) × (left ≡ numbers_text next)
    go all [] few is spelled = absurd (some spelled)
    go all (m ∷ others) few is spelled =
        let there = next.only m others (All-head (λ i. i < 2 ^ 64) m others few) spelled in
        (others, All-tail (λ i. i < 2 ^ 64) m others few, is ∙ ap (λ k. numbers ++ k ∷ others) there.0 ∙ sym (append_assoc numbers (n ∷ []) others), there.1)

pub not_empty : (rest : List ℕ) (b : Bool) → b ≡ eqb (length rest) 0 → b ≡ false → rest ≢ []
not_empty rest b e f none = true≢false (sym (e ∙ ap (λ l. eqb (length l) 0) none) ∙ f)

pub no_more : (text numbers rest : List ℕ) → AreFirstNumbers text numbers rest → rest ≢ [] → LacksNumber rest → AreNoNumbers text
no_more text numbers rest first some lacks all few e = let g = first.only all few e in go g.0 g.1 g.3
  where
    go : (others : List ℕ) → All (λ n. n < 2 ^ 64) others → rest ≡ numbers_text others → ⊥
    go [] h f = some f
    go (n ∷ others) h f = lacks n others (All-head (λ i. i < 2 ^ 64) n others h) f

-- ---- numbers of series, ascending

greater : (n last number : ℕ) (numbers : List ℕ) → ascend n last (number ∷ numbers) ≡ true → (last < number) × (number ≤ n) × (ascend n number numbers ≡ true)
greater n last number numbers h =
    let p = and_parts (ltb last number) (leb number n && ascend n number numbers) h in
    let q = and_parts (leb number n) (ascend n number numbers) p.1 in
    (grind (arith, nat_tests, p.0), grind (arith, nat_tests, q.0), q.1)

all_greater : (n last : ℕ) (numbers : List ℕ) → ascend n last numbers ≡ true → All (λ i. (last < i) × (i ≤ n)) numbers
all_greater n last [] h = All-nil (λ i. (last < i) × (i ≤ n))
all_greater n last (number ∷ numbers) h =
    let p = greater n last number numbers h in
    let above = p.0 in
    All-cons (λ i. (last < i) × (i ≤ n)) number numbers (p.0, p.1)
    (All-weaker (λ i. (number < i) × (i ≤ n)) (λ i. (last < i) × (i ≤ n)) (λ i w. let more = w.0 in (omega (arith, above, more), w.1)) numbers (all_greater n number numbers p.2))

pub ascending_of : (n last : ℕ) (numbers : List ℕ) → ascend n last numbers ≡ true → AllPairs ◌<◌ numbers
ascending_of n last [] h = λ i j d lt w. absurd (omega (arith, w))
ascending_of n last (number ∷ numbers) h =
    let p = greater n last number numbers h in
    AllPairs-cons (λ i j. i < j) number numbers (All-weaker (λ i. (number < i) × (i ≤ n)) (λ i. number < i) (λ i w. w.0) numbers (all_greater n number numbers p.2)) (ascending_of n number numbers p.2)

pub within_of : (n : ℕ) (numbers : List ℕ) → ascend n 0 numbers ≡ true → (i : ℕ) → Contains numbers i → (0 < i) × (i ≤ n)
within_of n numbers h i one = All-contains (λ i. (0 < i) × (i ≤ n)) numbers i (all_greater n 0 numbers h) one

-- and the other way
ascends : (n last : ℕ) (numbers : List ℕ) → All (λ i. (last < i) × (i ≤ n)) numbers → AllPairs ◌<◌ numbers → ascend n last numbers ≡ true
ascends n last [] h k = refl
ascends n last (number ∷ numbers) h k =
    let first = All-head (λ i. (last < i) × (i ≤ n)) number numbers h in
    let above = first.0 in
    let within = first.1 in
    let first_test : ltb last number ≡ true = grind (arith, nat_tests) in
    let second_test : leb number n ≡ true = grind (arith, nat_tests) in
    and_from (ltb last number) (leb number n && ascend n number numbers) first_test
    (and_from (leb number n) (ascend n number numbers) second_test
    (ascends n number numbers
    (λ i d w. (k 0 (suc i) d (omega arith) (omega (arith, w)), (All-tail (λ i. (last < i) × (i ≤ n)) number numbers h i d w).1))
    (λ i j d lt w. k (suc i) (suc j) d (omega (arith, lt)) (omega (arith, w)))))

-- one more
pub not_above : (n last number : ℕ) (numbers : List ℕ) → number ≤ last → ascend n last (number ∷ numbers) ≡ false
not_above n last number numbers h = let no : ltb last number ≡ false = grind (arith, nat_tests) in ap (λ b. b && (leb number n && ascend n number numbers)) no

pub too_great : (n last number : ℕ) (numbers : List ℕ) → n < number → ascend n last (number ∷ numbers) ≡ false
too_great n last number numbers h =
    let no : leb number n ≡ false = grind (arith, nat_tests) in
    ap (λ b. ltb last number && (b && ascend n number numbers)) no ∙ never (ltb last number)
  where
    never : (b : Bool) → (b && false) ≡ false
    never true = refl
    never false = refl

pub next_ascends : (n last number : ℕ) (numbers : List ℕ) → last < number → number ≤ n → ascend n last (number ∷ numbers) ≡ ascend n number numbers
next_ascends n last number numbers h k =
    let first : ltb last number ≡ true = grind (arith, nat_tests) in
    let second : leb number n ≡ true = grind (arith, nat_tests) in
    ap (λ b. b && (leb number n && ascend n number numbers)) first ∙ ap (λ b. b && ascend n number numbers) second

-- the first is taken away
pub first_apart : (numbers members : List ℕ) (first : ℕ) → 3 ≤ length numbers → first ≡ get_or numbers 0 first → members ≡ remove numbers 0 → numbers ≡ first ∷ members
first_apart [] members first long e f = absurd (omega (arith, long))
first_apart (n ∷ numbers) members first long e f = ap (λ m. m ∷ numbers) (sym e) ∙ ap (λ ns. first ∷ ns) (sym f)

-- ---- the words of a group

pub both_parts : (n : ℕ) (words first last : List ℕ) → first ≡ take n words → last ≡ drop n words → words ≡ first ++ last
both_parts n words first last e f = sym (take-append-drop n words) ∙ ap (λ l. l ++ drop n words) (sym e) ∙ ap (λ l. first ++ l) (sym f)

module _ (n : ℕ) (words first last : List ℕ) (few : n < 2 ^ 64) (parts : words ≡ first ++ last) where
  module _ (long : length first ≡ 16) where
    -- they are a stamp and numbers
    group_parts : (group : Group) → (t : IsGroupLine group (codes "GROUP " ++ words)) → (first ≡ t.0) × (last ≡ numbers_text (group.days ∷ group.members))
    group_parts group (stamp, w, e) =
        let same : first ++ last ≡ stamp ++ numbers_text (group.days ∷ group.members) = sym parts ∙ cancel (codes "GROUP ") _ _ e in
        let front : first ≡ stamp = same_front first stamp last _ (long ∙ sym (stamp_length stamp group.from w)) same in
        (front, cancel first _ _ (same ∙ ap (λ s. s ++ numbers_text (group.days ∷ group.members)) (sym front)))

    pub group_lacks_stamp : ((t : ℤ) → WritesStamp first t → ⊥) → IsNoGroup n words
    group_lacks_stamp none group good t = none group.from (subst (λ s. WritesStamp s group.from) (sym (group_parts group t).0) t.1)

    few_numbers : (group : Group) → IsGroup n group → All (λ i. i < 2 ^ 64) (group.days ∷ group.members)
    few_numbers group good = All-cons (λ i. i < 2 ^ 64) group.days group.members good.days (few_members n group few good)

    pub group_lacks_numbers : AreNoNumbers last → IsNoGroup n words
    group_lacks_numbers none group good t = none (group.days ∷ group.members) (few_numbers group good) (group_parts group t).1

    module _ (numbers : List ℕ) (are : AreNumbers numbers last) where
      numbers_there : (group : Group) → IsGroup n group → IsGroupLine group (codes "GROUP " ++ words) → numbers ≡ group.days ∷ group.members
      numbers_there group good t = one_numbers numbers (group.days ∷ group.members) are.0 (few_numbers group good) (sym are.1 ∙ (group_parts group t).1)

      pub group_too_short : length numbers < 3 → IsNoGroup n words
      group_too_short short group good t =
          let same = ap length (numbers_there group good t) in
          let some = good.some in
          omega (arith, short, same, some)

      module _ (days : ℕ) (members : List ℕ) (split : numbers ≡ days ∷ members) where
        members_there : (group : Group) → IsGroup n group → IsGroupLine group (codes "GROUP " ++ words) → members ≡ group.members
        members_there group good t = ap (λ l. remove l 0) (sym split ∙ numbers_there group good t)

        pub group_other : (b : Bool) → b ≡ ascend n 0 members → b ≡ false → IsNoGroup n words
        group_other b e f group good t =
            let same : ascend n 0 members ≡ true =
            ap (ascend n 0) (members_there group good t)
            ∙ ascends n 0 group.members (All-weaker (Contains group.members) (λ i. (0 < i) × (i ≤ n)) (λ i one. good.within i one) group.members (All-contains_itself group.members)) good.ascending in
            true≢false (sym same ∙ sym e ∙ f)

        pub group_there : (b : Bool) (from : ℤ) → b ≡ ascend n 0 members → b ≡ true → 3 ≤ length numbers → IsClockSeconds from → WritesStamp first from
            → IsGroupOfWords n words (record { from = from; days = days; members = members })
        group_there b from e f some range w =
            let order : ascend n 0 members ≡ true = sym e ∙ f in
            let long = ap length split in
            record {
              good = record {
                from = range;
                days = All-head (λ i. i < 2 ^ 64) days members (subst (All (λ i. i < 2 ^ 64)) split are.0);
                some = omega (arith, long, some);
                within = within_of n members order;
                ascending = ascending_of n 0 members order;
              };
              of = (first, w, ap (λ l. codes "GROUP " ++ l) (parts ∙ ap (λ l. first ++ l) (are.1 ∙ ap numbers_text split)));
            }

-- ---- the line of a group

module _ (n : ℕ) (bytes rest : List ℕ) (few : n < 2 ^ 64) (begins : bytes ≡ codes "GROUP " ++ rest) where
  -- the words of a line are before the first LF
  group_line : (group : Group) (line tail : List ℕ) → IsGroup n group → IsGroupLine group line → bytes ≡ line ++ 10 ∷ tail → (words : List ℕ) × (line ≡ codes "GROUP " ++ words) × (lf_free words ≡ true) × (rest ≡ words ++ 10 ∷ tail)
  group_line group line tail good of f =
      let words = of.0 ++ numbers_text (group.days ∷ group.members) in
      let line_is : line ≡ codes "GROUP " ++ words = of.2 in
      let free : lf_free (codes "GROUP " ++ words) ≡ true = subst (λ l. lf_free l ≡ true) line_is (group_free n group line few good of) in
      (words, line_is, free, cancel (codes "GROUP ") _ _ (sym begins ∙ f ∙ ap (λ l. l ++ 10 ∷ tail) line_is))

  pub no_group_end : LacksLf rest → LacksGroup n bytes
  no_group_end none group line tail good of f =
      let there = group_line group line tail good of f in
      none-some (length there.0) (sym none ∙ ap (position (λ octet. octet == 10)) there.3 ∙ position_at there.0 tail there.2)

  pub no_group_words : (words tail : List ℕ) → IsCutAtLf rest words tail → IsNoGroup n words → LacksGroup n bytes
  no_group_words words tail cut none group line end good of f =
      let there = group_line group line end good of f in
      let same : length words ≡ length there.0 = same_Some _ _ (sym cut.at ∙ ap (position (λ octet. octet == 10)) there.3 ∙ position_at there.0 end there.2) in
      let equal : words ≡ there.0 = same_front words there.0 (10 ∷ tail) (10 ∷ end) same (sym cut.parts ∙ there.3) in
      none group good (subst (IsGroupLine group) (there.1 ∙ ap (λ l. codes "GROUP " ++ l) (sym equal)) of)

  pub group_at : (words tail : List ℕ) (group : Group) → IsCutAtLf rest words tail → IsGroupOfWords n words group → IsGroupAt n group bytes tail
  group_at words tail group cut of = record { good = of.good; line = codes "GROUP " ++ words; of = of.of; is = begins ∙ ap (λ l. codes "GROUP " ++ l) cut.parts }
