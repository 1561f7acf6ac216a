-- Where content lines begin, while the physical lines are gone through.
use Rattle.std.proofs.Common.{◌≡◌, ◌⊎◌, ◌∙◌, ap, sym, refl, subst, inl, inr, ℕ, zero, suc, ◌+◌, Bool, true, false, cond, List, [], ◌∷◌, ◌++◌, Bor, length, drop, ◌≤◌, ◌<◌, ◌^◌, ◌==◌, Option, Some, None, Result, Ok, Err, OnOk, count_by, append_assoc, append-nil, length-append, filter, ◌&&◌, arith}
use Rattle.std.specs.List.{slice_split}
use Rattle.std.specs.Str.{IsUtf8, is_utf8}
use Rattle.std.proofs.lemmas.Str.{IsUtf8-from_is_utf8, is_utf8-from_IsUtf8}
use Rattle.ical_lines.specs.Breaks.{is_one_line}
use Rattle.std.proofs.lemmas.Bool.{eqb-true, ltb-true}
use Rattle.std.proofs.lemmas.List.{length-map}
use Rattle.std.proofs.lemmas.List.Elements.{filter-append}
use Rattle.std.proofs.lemmas.List.Sums.{count_by-le-length}
use Rattle.std.proofs.lemmas.List.Splits.{length-slice_split}
use Rattle.profile.specs.text.Lines.{is_continuation, gather, unfolded, physical_lines, without_mark, without_return, is_filled, line_name, reads_as_lines, text_has}
use Rattle.ical_lines.specs.Unfold.{lines_after}
use Rattle.fault_places.specs.Places.{Begins, Continues, HasNoLine, IsHere, IsPlaceOf, is_sought, name_written, property_written}
use Rattle.fault_places.specs.declared.place.Begun.{Begun}
use Rattle.fault_places.specs.declared.place.Place.{Place}

-- ---- unfolding, in two parts

gathered_by : (t : Bool) (begun line : List ℕ) (xs ys : List (List ℕ)) → is_continuation line ≡ t → ((b : List ℕ) → gather b (xs ++ ys) ≡ gather b xs ++ unfolded ys) → gather begun ((line ∷ xs) ++ ys) ≡ gather begun (line ∷ xs) ++ unfolded ys
gathered_by true begun line xs ys e more =
    ap (λ t. cond t (gather (begun ++ drop 1 line) (xs ++ ys)) (begun ∷ gather line (xs ++ ys))) e ∙ more (begun ++ drop 1 line)
    ∙ sym (ap (λ t. cond t (gather (begun ++ drop 1 line) xs) (begun ∷ gather line xs) ++ unfolded ys) e)
gathered_by false begun line xs ys e more =
    ap (λ t. cond t (gather (begun ++ drop 1 line) (xs ++ ys)) (begun ∷ gather line (xs ++ ys))) e ∙ ap (λ z. begun ∷ z) (more line)
    ∙ sym (ap (λ t. cond t (gather (begun ++ drop 1 line) xs) (begun ∷ gather line xs) ++ unfolded ys) e)

-- before a line that doesn't continue another
gathered_apart : (begun : List ℕ) (xs : List (List ℕ)) (line : List ℕ) (ys : List (List ℕ)) → is_continuation line ≡ false → gather begun (xs ++ line ∷ ys) ≡ gather begun xs ++ unfolded (line ∷ ys)
gathered_apart begun [] line ys e = ap (λ t. cond t (gather (begun ++ drop 1 line) ys) (begun ∷ gather line ys)) e
gathered_apart begun (x ∷ xs) line ys e = gathered_by (is_continuation x) begun x xs (line ∷ ys) refl (λ b. gathered_apart b xs line ys e)

unfolded_apart : (xs : List (List ℕ)) (line : List ℕ) (ys : List (List ℕ)) → is_continuation line ≡ false → unfolded (xs ++ line ∷ ys) ≡ unfolded xs ++ unfolded (line ∷ ys)
unfolded_apart [] line ys e = refl
unfolded_apart (x ∷ xs) line ys e = gathered_apart x xs line ys e

-- ---- the content line that has begun

-- it begins with this line, behind those before it; the others continue it
pub record Unfolds (all left : List (List ℕ)) (content : List ℕ) (begun count : ℕ) : Type 0 where
  pub before : List (List ℕ)
  pub line : List ℕ
  pub continued : List (List ℕ)
  pub are : all ≡ before ++ (line ∷ (continued ++ left))
  pub starts : (before ≡ []) ⊎ (is_continuation line ≡ false)
  pub gathered : (more : List (List ℕ)) → gather line (continued ++ more) ≡ gather content more
  pub begins : begun ≡ length before + 1
  pub counted : count ≡ length before + (1 + length continued)

abbrev pub first_line : (all left : List (List ℕ)) (line : List ℕ) → all ≡ line ∷ left → Unfolds all left line 1 1
first_line all left line e = record {
  before = [];
  line = line;
  continued = [];
  are = e;
  starts = inl refl;
  gathered = λ more. refl;
  begins = refl;
  counted = refl;
}

abbrev pub continues : (all left : List (List ℕ)) (line content : List ℕ) (begun count : ℕ) → Unfolds all (line ∷ left) content begun count → is_continuation line ≡ true → Unfolds all left (content ++ drop 1 line) begun (count + 1)
continues all left line content begun count u e = record {
  before = u.before;
  line = u.line;
  continued = u.continued ++ line ∷ [];
  are = u.are ∙ ap (λ z. u.before ++ (u.line ∷ z)) (sym (append_assoc u.continued (line ∷ []) left));
  starts = u.starts;
  gathered = λ more. ap (gather u.line) (append_assoc u.continued (line ∷ []) more) ∙ u.gathered (line ∷ more)
      ∙ ap (λ t. cond t (gather (content ++ drop 1 line) more) (content ∷ gather line more)) e;
  begins = u.begins;
  counted = omega (arith, u.counted, length-append u.continued (line ∷ []));
}

abbrev pub begins : (all left : List (List ℕ)) (line content : List ℕ) (begun count : ℕ) → Unfolds all (line ∷ left) content begun count → is_continuation line ≡ false → Unfolds all left line (count + 1) (count + 1)
begins all left line content begun count u e =
    let all_before : List (List ℕ) = u.before ++ (u.line ∷ u.continued) in
    let many : length all_before ≡ length u.before + (1 + length u.continued) = length-append u.before (u.line ∷ u.continued) ∙ omega arith in
    record {
      before = all_before;
      line = line;
      continued = [];
      are = u.are ∙ sym (append_assoc u.before (u.line ∷ u.continued) (line ∷ left));
      starts = inr e;
      gathered = λ more. refl;
      begins = omega (arith, u.counted, many);
      counted = omega (arith, u.counted, many);
    }

-- their number fits in memory
pub in_memory : (octets : List ℕ) (left : List (List ℕ)) (line content : List ℕ) (begun count : ℕ) → Unfolds (physical_lines (without_mark octets)) (line ∷ left) content begun count → length (without_mark octets) < 2 ^ 63 → count < 2 ^ 63
in_memory octets left line content begun count u fits =
    let text = without_mark octets in
    let parts : length (physical_lines text) ≡ count_by (λ x. x == 10) text + 1 = length-map (slice_split (λ x. x == 10) text) without_return ∙ length-slice_split (λ x. x == 10) text in
    let most : count_by (λ x. x == 10) text ≤ length text = count_by-le-length (λ x. x == 10) text in
    let all : length (physical_lines text) ≡ length u.before + (1 + (length u.continued + (1 + length left))) =
    omega (arith, ap length u.are, length-append u.before (u.line ∷ (u.continued ++ line ∷ left)), length-append u.continued (line ∷ left)) in
    omega (arith, fits, parts, most, all, u.counted)

pub none_after : (o : Option (Bor (List ℕ))) → ((x : Bor (List ℕ)) → o ≡ Some x → ⊥) → lines_after o ≡ []
none_after None never = refl
none_after (Some x) never = absurd (never x refl)

-- ---- its place

pub apart_by : (before : List (List ℕ)) (line : List ℕ) (more : List (List ℕ)) → (before ≡ []) ⊎ (is_continuation line ≡ false) → unfolded (before ++ (line ∷ more)) ≡ unfolded before ++ unfolded (line ∷ more)
apart_by before line more (inl e) = subst (λ (b : List (List ℕ)). unfolded (b ++ (line ∷ more)) ≡ unfolded b ++ unfolded (line ∷ more)) (sym e) refl
apart_by before line more (inr e) = unfolded_apart before line more e

-- ---- the line that is sought

-- so far: the line that has begun, and how many of the lines before it aren't empty
pub record Walks (octets : List ℕ) (number : ℕ) (left : List (List ℕ)) (content : List ℕ) (begun count sought : ℕ) : Type 0 where
  pub unfolds : Unfolds (physical_lines (without_mark octets)) left content begun count
  pub counted : number ≡ length (filter is_filled (unfolded unfolds.before)) + sought
  pub more : 0 < sought

pub first_walk : (octets : List ℕ) (number : ℕ) (left : List (List ℕ)) (line : List ℕ) (begun : Begun) → physical_lines (without_mark octets) ≡ line ∷ left → begun.content.items ≡ line → begun.line ≡ 1 → begun.count ≡ 1
    → begun.sought ≡ number → 0 < number → Walks octets number left begun.content.items begun.line begun.count begun.sought
first_walk octets number left line begun e c b n s more = rw (c, b, n, s) (walk e more)
  where
    walk : physical_lines (without_mark octets) ≡ line ∷ left → 0 < number → Walks octets number left line 1 1 number
    walk e more = record {
      unfolds = first_line (physical_lines (without_mark octets)) left line e;
      counted = omega arith;
      more = more;
    }

passed : (all before : List (List ℕ)) (content : List ℕ) → all ≡ before ++ content ∷ [] → length (filter is_filled all) ≡ length (filter is_filled before) + length (filter is_filled (content ∷ []))
passed all before content e =
    ap (λ ls. length (filter is_filled ls)) e ∙ ap length (filter-append is_filled before (content ∷ [])) ∙ length-append (filter is_filled before) (filter is_filled (content ∷ []))

continued : (octets : List ℕ) (number : ℕ) (left : List (List ℕ)) (next content : List ℕ) (begun count sought : ℕ) → Walks octets number (next ∷ left) content begun count sought → is_continuation next ≡ true
    → Walks octets number left (content ++ drop 1 next) begun (count + 1) sought
continued octets number left next content begun count sought w e = record {
  unfolds = continues (physical_lines (without_mark octets)) left next content begun count w.unfolds e;
  counted = w.counted;
  more = w.more;
}

ended : (octets : List ℕ) (number : ℕ) (left : List (List ℕ)) (next content : List ℕ) (begun count sought later : ℕ) → Walks octets number (next ∷ left) content begun count sought → is_continuation next ≡ false
    → sought ≡ length (filter is_filled (content ∷ [])) + later → 0 < later → Walks octets number left next (count + 1) (count + 1) later
ended octets number left next content begun count sought later w e less more =
    let u = w.unfolds in
    let one : unfolded (u.before ++ (u.line ∷ u.continued)) ≡ unfolded u.before ++ content ∷ [] =
    apart_by u.before u.line u.continued u.starts ∙ ap (λ ls. unfolded u.before ++ ls) (ap (gather u.line) (sym (append-nil u.continued)) ∙ u.gathered []) in
    record {
      unfolds = begins (physical_lines (without_mark octets)) left next content begun count u e;
      counted = omega (arith, w.counted, less, passed (unfolded (u.before ++ (u.line ∷ u.continued))) (unfolded u.before) content one);
      more = more;
    }

pub walks_on : (octets : List ℕ) (number : ℕ) (left : List (List ℕ)) (next : List ℕ) (old new : Begun) → Walks octets number (next ∷ left) old.content.items old.line old.count old.sought
    → Continues old next new ⊎ Begins old next new → new.count ≡ old.count + 1 → Walks octets number left new.content.items new.line new.count new.sought
walks_on octets number left next old new w (inl is) one =
    rw (is.content, is.line, is.sought, one) (continued octets number left next old.content.items old.line old.count old.sought w is.is)
walks_on octets number left next old new w (inr is) one =
    rw (is.content, is.line, one) (ended octets number left next old.content.items old.line old.count old.sought new.sought w is.is is.sought is.more)

true-false : true ≡ false → ⊥
true-false e = cc

-- its place
one_filled : (content : List ℕ) (sought : ℕ) → (sought == 1 && is_filled content) ≡ true → (sought ≡ 1) × (0 < length content)
one_filled content sought = go (sought == 1) (is_filled content) refl refl
  where
    go : (t f : Bool) → (sought == 1) ≡ t → is_filled content ≡ f → (t && f) ≡ true → (sought ≡ 1) × (0 < length content)
    go true true one some e = (eqb-true sought 1 one, ltb-true 0 (length content) some)
    go true false one some e = absurd (true-false (sym e))
    go false f one some e = absurd (true-false (sym e))

pub here_is : (octets : List ℕ) (number : ℕ) (left others : List (List ℕ)) (begun : Begun) (place : Place) → Walks octets number left begun.content.items begun.line begun.count begun.sought
    → gather begun.content.items left ≡ begun.content.items ∷ others → IsHere begun place → IsPlaceOf octets number place.line place.property.items
here_is octets number left others begun place w e here =
    let u = w.unfolds in
    let (one, some) = one_filled begun.content.items begun.sought here.sought in
    record {
      before = u.before;
      after = u.line ∷ (u.continued ++ left);
      content = begun.content.items;
      others = others;
      lines = u.are;
      counted = here.line ∙ u.begins;
      apart = apart_by u.before u.line (u.continued ++ left) u.starts;
      begins = u.gathered left ∙ e;
      some = some;
      numbered = w.counted ∙ ap (λ k. length (filter is_filled (unfolded u.before)) + k) one;
      named = here.property;
    }

pub here_before : (octets : List ℕ) (number : ℕ) (left : List (List ℕ)) (next : List ℕ) (begun : Begun) (place : Place) → Walks octets number (next ∷ left) begun.content.items begun.line begun.count begun.sought
    → is_continuation next ≡ false → IsHere begun place → IsPlaceOf octets number place.line place.property.items
here_before octets number left next begun place w e here =
    here_is octets number (next ∷ left) (gather next left) begun place w
    (ap (λ t. cond t (gather (begun.content.items ++ drop 1 next) left) (begun.content.items ∷ gather next left)) e) here

-- there is none
fewer : (content : List ℕ) (sought : ℕ) → (sought == 1 && is_filled content) ≡ false → 0 < sought → length (filter is_filled (content ∷ [])) < sought
fewer content sought e more = go (is_filled content) refl
  where
    another : (n : ℕ) → 0 < n → (n == 1) ≡ false → 1 < n
    another zero more other = absurd (omega (arith, more))
    another (suc zero) more other = absurd (true-false other)
    another (suc (suc k)) more other = omega arith

    not_one : (t : Bool) → (t && true) ≡ false → t ≡ false
    not_one true e = e
    not_one false e = refl

    go : (f : Bool) → is_filled content ≡ f → length (filter is_filled (content ∷ [])) < sought
    go true some =
        let one : length (filter is_filled (content ∷ [])) ≡ 1 = ap (λ b. length (cond b (content ∷ []) [])) some in
        omega (arith, one, another sought more (not_one (sought == 1) (sym (ap (λ b. sought == 1 && b) some) ∙ e)))
    go false none =
        let no : length (filter is_filled (content ∷ [])) ≡ 0 = ap (λ b. length (cond b (content ∷ []) [])) none in
        omega (arith, no, more)

pub no_line : (octets : List ℕ) (number : ℕ) (begun : Begun) → Walks octets number [] begun.content.items begun.line begun.count begun.sought → is_sought begun ≡ false → HasNoLine octets number
no_line octets number begun w other =
    let u = w.unfolds in
    let all = unfolded (physical_lines (without_mark octets)) in
    let one : all ≡ unfolded u.before ++ begun.content.items ∷ [] =
    ap unfolded u.are ∙ apart_by u.before u.line (u.continued ++ []) u.starts ∙ ap (λ ls. unfolded u.before ++ ls) (u.gathered []) in
    inr (omega (arith, w.counted, passed all (unfolded u.before) begun.content.items one, fewer begun.content.items begun.sought other w.more))

-- ---- the property of a line

-- octets that aren't read
pub not_read : (octets : List ℕ) (n : ℕ) → (reads_as_lines false octets ≡ true → text_has false n octets ≡ false) → text_has false n octets ≡ true → property_written octets ≡ []
not_read octets n fine has = go (reads_as_lines false octets) refl
  where
    go : (t : Bool) → reads_as_lines false octets ≡ t → property_written octets ≡ []
    go true e = absurd (true-false (sym has ∙ fine e))
    go false e = ap (λ t. cond t (name_written octets) []) e

-- or are no text
pub no_text : (octets : List ℕ) → (IsUtf8 octets → ⊥) → name_written octets ≡ []
no_text octets none = go (is_utf8 octets) refl
  where
    go : (t : Bool) → is_utf8 octets ≡ t → name_written octets ≡ []
    go true e = absurd (none (IsUtf8-from_is_utf8 octets e))
    go false e = ap (λ t. cond (t && is_one_line octets) (line_name octets) []) e

pub some_text : (octets : List ℕ) → IsUtf8 octets → is_one_line octets ≡ true → name_written octets ≡ line_name octets
some_text octets text one =
    ap (λ t. cond (t && is_one_line octets) (line_name octets) []) (is_utf8-from_IsUtf8 octets text) ∙ ap (λ t. cond (true && t) (line_name octets) []) one

pub on_ok : {T E : Type 0} (r : Result T E) (P Q : Type 0) → (P → Q) → OnOk r P → OnOk r Q
on_ok (Ok x) P Q f h = f h
on_ok (Err e) P Q f h = tt

-- the text of a place, piece by piece: for `append_place`
pub joined : (old one two new at digits shown property : List ℕ) → one ≡ old ++ at → two ≡ one ++ shown → shown ≡ digits → new ≡ two ++ property → new ≡ old ++ (at ++ (digits ++ property))
joined old one two new at digits shown property a b d e =
    e ∙ ap (λ z. z ++ property) (b ∙ ap (λ z. one ++ z) d ∙ ap (λ z. z ++ digits) a) ∙ append_assoc (old ++ at) digits property ∙ append_assoc old at (digits ++ property)
