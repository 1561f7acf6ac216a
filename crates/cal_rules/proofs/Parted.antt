-- The names of parts, and the values after them.
use Rattle.std.proofs.Common.{◌≡◌, ◌∙◌, ap, sym, refl, ℕ, zero, suc, ◌<◌, true, false, cond, nat_eq, ◌==◌, is_some, if◌then◌else◌, inl, inr, ◌⊎◌, List, [], ◌∷◌, ◌++◌, length, codes, filter_map, All, Contains, Option, None, Some, append_assoc, arith}
use Rattle.std.proofs.lemmas.Bool.Decides.{nat_tests}
use Rattle.std.proofs.lemmas.List.Elements.{All-contains, Contains-append_right}
use Rattle.std.proofs.lemmas.Str.Pattern.{IsSplitOnceResult, split_once_first, split_parts}
use denote.Ref.{Bor}
use Rattle.std.specs.List.{cons_option, before_first, position_or_len}
use Rattle.profile.specs.series.RuleTexts.{RuleKey, Interval, Count, EndsAt, WeekStart, ByMonth, ByMonthDay, ByDay, BySetPosition, rule_parts, after_key, key_word, values_of, frequency_word, SpellsFrequency, SpellsNone, IsKnownPart, IsBadValue, RuleFault, bad_value, two_frequencies, twice}
use Rattle.cal_rules.specs.Taken.{word, SaidPart, SpellsRulePart, HasBadValue, HasNoBadValue, HaveOneTwice}

-- ---- what follows a key

pub same_octet : (n : ℕ) → nat_eq n n ≡ true
same_octet n = grind (arith, nat_tests)

pub after_append : (key value : List ℕ) → after_key key (key ++ value) ≡ Some value
unfolding after_key
after_append [] value = refl
after_append (k ∷ key) value = rw (same_octet k) (after_append key value)

pub after_sound : (key part value : List ℕ) → after_key key part ≡ Some value → part ≡ key ++ value
unfolding after_key
after_sound [] part value e = cc
after_sound (k ∷ key) [] value e = cc
after_sound (k ∷ key) (c ∷ part) value e =
    elim (nat_eq c k) as (λ b. b ≡ nat_eq c k → cond b (after_key key part) None ≡ Some value → c ∷ part ≡ k ∷ (key ++ value)) [
      | true ↦ λ t h.
          let same : c ≡ k = grind (arith, nat_tests) in
          let rest : part ≡ key ++ value = after_sound key part value h in
          rw (same, rest) refl
      | false ↦ λ t h. cc
    ] refl e

-- ---- the values with a key

pub head_or : (v : List ℕ) (vs : List (List ℕ)) (value : List ℕ) → Contains (v ∷ vs) value → (v ≡ value) ⊎ Contains vs value
head_or v vs value (zero, l, e) = inl e
head_or v vs value (suc k, l, e) = inr (k, omega arith, e)

later : (x y : List ℕ) (xs : List (List ℕ)) → Contains xs y → Contains (x ∷ xs) y
later x y xs h = Contains-append_right (x ∷ []) xs y h

-- a value is that of a part
pub value_in : (f : List ℕ → Option (List ℕ)) (parts : List (List ℕ)) (value : List ℕ) → Contains (filter_map f parts) value → (part : List ℕ) × Contains parts part × (f part ≡ Some value)
value_in f [] value (k, l, e) = absurd (omega arith)
value_in f (p ∷ parts) value h =
    elim (f p) as (λ o. f p ≡ o → Contains (cons_option o (filter_map f parts)) value → (part : List ℕ) × Contains (p ∷ parts) part × (f part ≡ Some value)) [
      | None ↦ λ e g. let r = value_in f parts value g in (r.0, later p r.0 parts r.1, r.2)
      | Some v ↦ λ e g.
          elim (head_or v (filter_map f parts) value g) [
            | inl same ↦ (p, (0, omega arith, refl), e ∙ ap Some same)
            | inr there ↦ let r = value_in f parts value there in (r.0, later p r.0 parts r.1, r.2)
          ]
    ] refl h

-- and the value of a part is one of them
pub value_there : (f : List ℕ → Option (List ℕ)) (parts : List (List ℕ)) (part value : List ℕ) → Contains parts part → f part ≡ Some value → Contains (filter_map f parts) value
value_there f [] part value (k, l, e) h = absurd (omega arith)
value_there f (p ∷ parts) part value (zero, l, e) h =
    let q : f p ≡ Some value = ap f e ∙ h in rw q (0, omega arith, refl)
value_there f (p ∷ parts) part value (suc k, l, e) h =
    let g : Contains (filter_map f parts) value = value_there f parts part value (k, omega arith, e) h in
    elim (f p) as (λ o. Contains (cons_option o (filter_map f parts)) value) [
      | None ↦ g
      | Some v ↦ later v value (filter_map f parts) g
    ]

-- ---- one name for a part

first_name : List ℕ → Option (Option RuleKey)
first_name part =
    if is_some (after_key (codes "FREQ=") part) then Some None
    else (if is_some (after_key (codes "INTERVAL=") part) then Some (Some Interval)
    else (if is_some (after_key (codes "COUNT=") part) then Some (Some Count)
    else (if is_some (after_key (codes "UNTIL=") part) then Some (Some EndsAt)
    else (if is_some (after_key (codes "WKST=") part) then Some (Some WeekStart)
    else (if is_some (after_key (codes "BYMONTH=") part) then Some (Some ByMonth)
    else (if is_some (after_key (codes "BYMONTHDAY=") part) then Some (Some ByMonthDay)
    else (if is_some (after_key (codes "BYDAY=") part) then Some (Some ByDay)
    else (if is_some (after_key (codes "BYSETPOS=") part) then Some (Some BySetPosition) else None))))))))

first_of : (name : Option RuleKey) (value : List ℕ) → first_name (word name ++ value) ≡ Some name
unfolding first_name after_key
first_of None value = refl
first_of (Some Interval) value = refl
first_of (Some Count) value = refl
first_of (Some EndsAt) value = refl
first_of (Some WeekStart) value = refl
first_of (Some ByMonth) value = refl
first_of (Some ByMonthDay) value = refl
first_of (Some ByDay) value = refl
first_of (Some BySetPosition) value = refl

first_at : (name : Option RuleKey) (part value : List ℕ) → after_key (word name) part ≡ Some value → first_name part ≡ Some name
first_at name part value e = ap first_name (after_sound (word name) part value e) ∙ first_of name value

pub one_name : (name other : Option RuleKey) (part v w : List ℕ) → after_key (word name) part ≡ Some v → after_key (word other) part ≡ Some w → other ≡ name
one_name name other part v w e f =
    let p : Some other ≡ Some name = sym (first_at other part w f) ∙ first_at name part v e in cc

-- ---- a part that is cut at its first `=`

-- what comes before the `=`
abbrev pub front_word : Option RuleKey → List ℕ
front_word None = codes "FREQ"
front_word (Some Interval) = codes "INTERVAL"
front_word (Some Count) = codes "COUNT"
front_word (Some EndsAt) = codes "UNTIL"
front_word (Some WeekStart) = codes "WKST"
front_word (Some ByMonth) = codes "BYMONTH"
front_word (Some ByMonthDay) = codes "BYMONTHDAY"
front_word (Some ByDay) = codes "BYDAY"
front_word (Some BySetPosition) = codes "BYSETPOS"

front_of : (name : Option RuleKey) (value : List ℕ) → before_first (λ b. b == 61) (word name ++ value) ≡ front_word name
front_of None value = refl
front_of (Some Interval) value = refl
front_of (Some Count) value = refl
front_of (Some EndsAt) value = refl
front_of (Some WeekStart) value = refl
front_of (Some ByMonth) value = refl
front_of (Some ByMonthDay) value = refl
front_of (Some ByDay) value = refl
front_of (Some BySetPosition) value = refl

-- and it is there
mark_in : (name : Option RuleKey) (value : List ℕ) → position_or_len (λ b. b == 61) (word name ++ value) < length (word name ++ value)
mark_in None value = omega arith
mark_in (Some Interval) value = omega arith
mark_in (Some Count) value = omega arith
mark_in (Some EndsAt) value = omega arith
mark_in (Some WeekStart) value = omega arith
mark_in (Some ByMonth) value = omega arith
mark_in (Some ByMonthDay) value = omega arith
mark_in (Some ByDay) value = omega arith
mark_in (Some BySetPosition) value = omega arith

-- the name of a known part
name_of : (part : List ℕ) → IsKnownPart part → (name : Option RuleKey) × (value : List ℕ) × (part ≡ word name ++ value)
name_of part (inl (f, e)) = (None, frequency_word f, after_sound (codes "FREQ=") part (frequency_word f) e)
name_of part (inr (key, value, e)) = (Some key, value, after_sound (key_word key) part value e)

-- a part without `=`
pub unmarked : (part : List ℕ) → IsSplitOnceResult 61 part None → IsKnownPart part → ⊥
unmarked part cut known =
    let n = name_of part known in
    let low : position_or_len (λ b. b == 61) part < length part = rw n.2 (mark_in n.0 n.1) in
    let none : position_or_len (λ b. b == 61) part ≡ length part = split_once_first 61 part None cut (omega arith) in omega arith

-- a part with another name
pub unnamed : (part : List ℕ) (front value : Bor (List ℕ)) → IsSplitOnceResult 61 part (Some (front, value)) → ((name : Option RuleKey) → front.now ≡ front_word name → ⊥) → IsKnownPart part → ⊥
unnamed part front value cut other known =
    let n = name_of part known in
    let first : front.now ≡ before_first (λ b. b == 61) part = (split_once_first 61 part (Some (front, value)) cut (omega arith)).1 in
    other n.0 (first ∙ ap (before_first (λ b. b == 61)) n.2 ∙ front_of n.0 n.1)

-- none of the names
pub no_name : (front : List ℕ) → (front ≡ front_word None → ⊥) → (front ≡ front_word (Some Interval) → ⊥) → (front ≡ front_word (Some Count) → ⊥) → (front ≡ front_word (Some EndsAt) → ⊥) → (front ≡ front_word (Some WeekStart) → ⊥) → (front ≡ front_word (Some ByMonth) → ⊥) → (front ≡ front_word (Some ByMonthDay) → ⊥) → (front ≡ front_word (Some ByDay) → ⊥) → (front ≡ front_word (Some BySetPosition) → ⊥) → (name : Option RuleKey) → front ≡ front_word name → ⊥
no_name front f i c u w m d e s None = f
no_name front f i c u w m d e s (Some Interval) = i
no_name front f i c u w m d e s (Some Count) = c
no_name front f i c u w m d e s (Some EndsAt) = u
no_name front f i c u w m d e s (Some WeekStart) = w
no_name front f i c u w m d e s (Some ByMonth) = m
no_name front f i c u w m d e s (Some ByMonthDay) = d
no_name front f i c u w m d e s (Some ByDay) = e
no_name front f i c u w m d e s (Some BySetPosition) = s

marked : (name : Option RuleKey) → front_word name ++ 61 ∷ [] ≡ word name
marked None = refl
marked (Some Interval) = refl
marked (Some Count) = refl
marked (Some EndsAt) = refl
marked (Some WeekStart) = refl
marked (Some ByMonth) = refl
marked (Some ByMonthDay) = refl
marked (Some ByDay) = refl
marked (Some BySetPosition) = refl

-- a part with this name
pub named : (name : Option RuleKey) (part : List ℕ) (front value : Bor (List ℕ)) → IsSplitOnceResult 61 part (Some (front, value)) → front.now ≡ front_word name → after_key (word name) part ≡ Some value.now
named name part front value cut e =
    let parted : part ≡ front.now ++ 61 ∷ value.now = (split_parts 61 part (Some (front, value)) cut (omega arith)).0 in
    let w : front.now ++ 61 ∷ [] ≡ word name = ap (λ l. l ++ 61 ∷ []) e ∙ marked name in
    let whole : part ≡ word name ++ value.now = parted ∙ sym (append_assoc front.now (61 ∷ []) value.now) ∙ ap (λ l. l ++ value.now) w in
    ap (after_key (word name)) whole ∙ after_append (word name) value.now

-- ---- what is judged of a part

good_of : (key : RuleKey) (value : List ℕ) (x : SaidPart (Some key)) → SpellsRulePart (Some key) value x → IsBadValue key value → ⊥
good_of Interval value x s bad = bad x s
good_of Count value x s bad = bad x s
good_of EndsAt value x s bad = bad x s
good_of WeekStart value x s bad = bad x s
good_of ByMonth value x s bad = bad x s
good_of ByMonthDay value x s bad = bad x s
good_of ByDay value x s bad = bad x s
good_of BySetPosition value x s bad = bad x s

-- a value that spells something is that of a good part
pub good_part : (name : Option RuleKey) (part value : List ℕ) (x : SaidPart name) → after_key (word name) part ≡ Some value → SpellsRulePart name value x → HasNoBadValue part
good_part None part value x e s = λ (key, w, f, bad).
    let no : Some key ≡ None = one_name None (Some key) part value w e f in cc
good_part (Some k) part value x e s = λ (key, w, f, bad).
    let same : Some key ≡ Some k = one_name (Some k) (Some key) part value w e f in
    let here : key ≡ k = cc in
    let g : after_key (key_word k) part ≡ Some w = ap (λ (y : RuleKey). after_key (key_word y) part) (sym here) ∙ f in
    let both : Some w ≡ Some value = sym g ∙ e in
    let v : w ≡ value = cc in
    good_of k value x s (rw v at (rw here at bad))

pub known_part : (name : Option RuleKey) (part value : List ℕ) (x : SaidPart name) → after_key (word name) part ≡ Some value → SpellsRulePart name value x → IsKnownPart part
known_part None part value x e s = inl (x, e ∙ ap Some s)
known_part (Some key) part value x e s = inr (key, value, e)

pub known_bad : (part : List ℕ) → HasBadValue part → IsKnownPart part
known_bad part (key, value, e, bad) = inr (key, value, e)

pub no_frequency_part : (part value : List ℕ) → after_key (codes "FREQ=") part ≡ Some value → SpellsNone SpellsFrequency value → IsKnownPart part → ⊥
no_frequency_part part value e none (inl (f, h)) =
    let same : Some value ≡ Some (frequency_word f) = sym e ∙ h in none f cc
no_frequency_part part value e none (inr (key, w, h)) =
    let no : Some key ≡ None = one_name None (Some key) part value w e h in cc

-- ---- from parts to the text

pub all_good : (text : List ℕ) → All HasNoBadValue (rule_parts text) → (key : RuleKey) (value : List ℕ) → Contains (values_of (key_word key) text) value → IsBadValue key value → ⊥
all_good text h key value c bad =
    let r = value_in (after_key (key_word key)) (rule_parts text) value c in
    All-contains HasNoBadValue (rule_parts text) r.0 h r.1 (key, value, r.2, bad)

pub bad_there : (text part : List ℕ) → Contains (rule_parts text) part → HasBadValue part → RuleFault text 31
bad_there text part there (key, value, e, bad) = bad_value key value (value_there (after_key (key_word key)) (rule_parts text) part value there e) bad

pub twice_there : (text : List ℕ) → HaveOneTwice (rule_parts text) → RuleFault text 32
twice_there text (None, h) = two_frequencies h
twice_there text (Some key, h) = twice key h
