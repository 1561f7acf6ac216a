-- The first object of a stream ends where its lines say.
use Rattle.std.proofs.Common.{◌≡◌, inl, inr, map, filter, ℕ, ◌<◌, Bool, true, false, ◌&&◌, ◌||◌, cond, eqb, List, [], ◌∷◌, ◌++◌, length, take, drop, get_or, refl, ap, sym, subst, ◌∙◌, ◌⊎◌, arith}
use Rattle.std.specs.List.{slice_split, onto_first, join_with_byte, list_any, list_all}
use Rattle.std.specs.Str.{bytes_eq}
use Rattle.std.proofs.lemmas.Bool.{and_parts, or_parts, not-true}
use Rattle.std.proofs.lemmas.Bool.Decides.{eqb_tells}
use Rattle.std.proofs.lemmas.List.{append_assoc, append-nil, map-append, length-append, take-append-drop}
use Rattle.std.proofs.lemmas.List.Elements.{filter-append}
use Rattle.std.proofs.lemmas.List.Folds.{list_all-append}
use Rattle.std.proofs.lemmas.List.Splits.{slice_split_none, slice_split_at, length-slice_split, join_with_byte-slice_split}
use Rattle.std.proofs.lemmas.Slice.Eq.{bytes_eq-Decides}
use Rattle.profile.specs.text.Lines.{is_continuation, without_mark, without_return, physical_lines, gather, unfolded, is_filled, logical_lines}
use Rattle.profile.specs.text.Objects.{is_last, parts_after, octets_after, after_object, all_lines, lines_behind, EndsWithItsLine, EndsWithTheInput, EndsBefore}
use Rattle.std.proofs.Math.Bool.{and-false}
use Rattle.ical_lines.specs.Breaks.{is_break, is_one_line}
use Rattle.ical_lines.proofs.BreakLemmas.{none_at, parts_whole}
use Rattle.ical_lines.proofs.CutLemmas.{without_return-cons, last_by}
use Rattle.ical_lines.proofs.ReadBackLemmas.{next_starts}

-- ---- parts that are joined by LFs and split again

split_joined : (p : List ℕ) (ps : List (List ℕ)) → list_all is_one_line (p ∷ ps) ≡ true → slice_split is_break (join_with_byte 10 (p ∷ ps)) ≡ p ∷ ps
split_joined p [] h =
    let one = and_parts (is_one_line p) true h in
    slice_split_none is_break p (none_at is_break p (not-true (list_any is_break p) one.0))
split_joined p (q ∷ ps) h =
    let both = and_parts (is_one_line p) (list_all is_one_line (q ∷ ps)) h in
    slice_split_at is_break p 10 (join_with_byte 10 (q ∷ ps)) (none_at is_break p (not-true (list_any is_break p) both.0)) refl ∙ ap (λ z. p ∷ z) (split_joined q ps both.1)

joined_apart : (p : List ℕ) (ps : List (List ℕ)) (q : List ℕ) (qs : List (List ℕ)) → join_with_byte 10 (p ∷ (ps ++ q ∷ qs)) ≡ join_with_byte 10 (p ∷ ps) ++ 10 ∷ join_with_byte 10 (q ∷ qs)
joined_apart p [] q qs = refl
joined_apart p (r ∷ ps) q qs =
    ap (λ z. p ++ 10 ∷ z) (joined_apart r ps q qs) ∙ sym (append_assoc p (10 ∷ join_with_byte 10 (r ∷ ps)) (10 ∷ join_with_byte 10 (q ∷ qs)))

joined_starts : (q : List ℕ) (qs : List (List ℕ)) → is_continuation (join_with_byte 10 (q ∷ qs)) ≡ is_continuation q
joined_starts q [] = refl
joined_starts [] (r ∷ qs) = refl
joined_starts (c ∷ q) (r ∷ qs) = refl

apart_by : (b : Bool) (x : ℕ) (s t : List (List ℕ)) → 0 < length s → cond b ([] ∷ (s ++ t)) (onto_first x (s ++ t)) ≡ cond b ([] ∷ s) (onto_first x s) ++ t
apart_by b x [] t l = absurd (omega arith)
apart_by true x (p ∷ s) t l = refl
apart_by false x (p ∷ s) t l = refl

split_apart : (xs ys : List ℕ) → slice_split is_break (xs ++ 10 ∷ ys) ≡ slice_split is_break xs ++ slice_split is_break ys
split_apart [] ys = refl
split_apart (x ∷ xs) ys =
    ap (λ z. cond (is_break x) ([] ∷ z) (onto_first x z)) (split_apart xs ys) ∙ apart_by (is_break x) x (slice_split is_break xs) (slice_split is_break ys) (omega (arith, length-slice_split is_break xs))

-- ---- the lines of octets that are cut at an LF

gather_by : (t : Bool) (begun l : List ℕ) (before behind : List (List ℕ)) → ((line : List ℕ) → gather line behind ≡ line ∷ unfolded behind) → gather (begun ++ drop 1 l) (before ++ behind) ≡ gather (begun ++ drop 1 l) before ++ unfolded behind → gather l (before ++ behind) ≡ gather l before ++ unfolded behind → cond t (gather (begun ++ drop 1 l) (before ++ behind)) (begun ∷ gather l (before ++ behind)) ≡ cond t (gather (begun ++ drop 1 l) before) (begun ∷ gather l before) ++ unfolded behind
gather_by true begun l before behind h joined next = joined
gather_by false begun l before behind h joined next = ap (λ z. begun ∷ z) next

gather_apart : (begun : List ℕ) (before behind : List (List ℕ)) → ((line : List ℕ) → gather line behind ≡ line ∷ unfolded behind) → gather begun (before ++ behind) ≡ gather begun before ++ unfolded behind
gather_apart begun [] behind h = h begun
gather_apart begun (l ∷ before) behind h = gather_by (is_continuation l) begun l before behind h (gather_apart (begun ++ drop 1 l) before behind h) (gather_apart l before behind h)

unfolded_apart : (before behind : List (List ℕ)) → 0 < length before → ((line : List ℕ) → gather line behind ≡ line ∷ unfolded behind) → unfolded (map without_return before ++ behind) ≡ unfolded (map without_return before) ++ unfolded behind
unfolded_apart [] behind l h = absurd (omega arith)
unfolded_apart (p ∷ before) behind l h = gather_apart (without_return p) (map without_return before) behind h

lines_apart : (body rest : List ℕ) → is_continuation rest ≡ false → all_lines (body ++ 10 ∷ rest) ≡ all_lines body ++ all_lines rest
lines_apart body rest h =
    ap (λ z. unfolded (map without_return z)) (split_apart body rest) ∙ (ap unfolded (map-append without_return (slice_split is_break body) (slice_split is_break rest)) ∙ unfolded_apart (slice_split is_break body) (physical_lines rest) (omega (arith, length-slice_split is_break body)) (next_starts rest h))

-- ---- a byte order mark doesn't reach over an LF

abbrev pub has_mark : List ℕ → Bool
has_mark octets = bytes_eq (take 3 octets) (0xEF ∷ 0xBB ∷ 0xBF ∷ [])

same_mark : (b rest : List ℕ) → has_mark (b ++ 10 ∷ rest) ≡ has_mark b
same_mark [] rest = refl
same_mark (x ∷ []) rest = refl
same_mark (x ∷ y ∷ []) rest = refl
same_mark (x ∷ y ∷ z ∷ b) rest = refl

none_short : (s t : Bool) → (s && (t && false)) ≡ false
none_short true t = and-false t
none_short false t = refl

stays_by : (t : Bool) (x y z : List ℕ) → cond t (x ++ z) (y ++ z) ≡ cond t x y ++ z
stays_by true x y z = refl
stays_by false x y z = refl

mark_none : (b rest : List ℕ) → has_mark b ≡ false → without_mark (b ++ 10 ∷ rest) ≡ without_mark b ++ 10 ∷ rest
mark_none b rest h =
    ap (λ t. cond t (drop 3 (b ++ 10 ∷ rest)) (b ++ 10 ∷ rest)) (same_mark b rest ∙ h) ∙ sym (ap (λ t. cond t (drop 3 b) b ++ 10 ∷ rest) h)

mark_stays : (b rest : List ℕ) → without_mark (b ++ 10 ∷ rest) ≡ without_mark b ++ 10 ∷ rest
mark_stays [] rest = refl
mark_stays (x ∷ []) rest = mark_none (x ∷ []) rest (and-false (eqb x 0xEF))
mark_stays (x ∷ y ∷ []) rest = mark_none (x ∷ y ∷ []) rest (none_short (eqb x 0xEF) (eqb y 0xBB))
mark_stays (x ∷ y ∷ z ∷ b) rest = stays_by (has_mark (x ∷ y ∷ z ∷ b)) b (x ∷ y ∷ z ∷ b) (10 ∷ rest)

pub logical_apart : (body rest : List ℕ) → is_continuation rest ≡ false → logical_lines (body ++ 10 ∷ rest) ≡ logical_lines body ++ lines_behind rest
logical_apart body rest h =
    ap (λ z. filter is_filled (all_lines z)) (mark_stays body rest) ∙ (ap (filter is_filled) (lines_apart (without_mark body) rest h) ∙ filter-append is_filled (all_lines (without_mark body)) (all_lines rest))

logical_ended : (body rest : List ℕ) → is_continuation rest ≡ false → logical_lines (body ++ 10 ∷ rest) ≡ logical_lines (body ++ 10 ∷ []) ++ lines_behind rest
logical_ended body rest h =
    let same : logical_lines (body ++ 10 ∷ []) ≡ logical_lines body = logical_apart body [] refl ∙ append-nil (logical_lines body) in
    logical_apart body rest h ∙ ap (λ z. z ++ lines_behind rest) (sym same)

-- ---- the parts in which an object ends, and those that follow

pub return_continues : (part : List ℕ) → is_continuation (without_return part) ≡ is_continuation part
return_continues [] = refl
return_continues (c ∷ []) =
    elim (eqb_tells c 13) [ inl e ↦ (let P : ℕ → Type 0 = λ x. is_continuation (without_return (x ∷ [])) ≡ is_continuation (x ∷ []) in subst P (sym e.1) refl) | inr e ↦ ap (λ t. is_continuation (cond t [] (c ∷ []))) e.0 ]
return_continues (c ∷ d ∷ part) = ap is_continuation (without_return-cons c d part)

record Found (begun : List ℕ) (parts : List (List ℕ)) : Type 0 where
  before : List (List ℕ)
  next : List ℕ
  behind : List (List ℕ)
  front : List (List ℕ)
  line : List ℕ
  are : parts ≡ before ++ next ∷ behind
  starts : is_continuation next ≡ false
  after : parts_after begun parts ≡ next ∷ behind
  spelled : gather begun (map without_return before) ≡ front ++ line ∷ []
  others : list_any is_last front ≡ false
  last : is_last line ≡ true

record NotFound (begun : List ℕ) (parts : List (List ℕ)) : Type 0 where
  front : List (List ℕ)
  line : List ℕ
  after : parts_after begun parts ≡ []
  spelled : gather begun (map without_return parts) ≡ front ++ line ∷ []
  others : list_any is_last front ≡ false

after_continued : (begun part : List ℕ) (rest : List (List ℕ)) → is_continuation part ≡ true → parts_after begun (part ∷ rest) ≡ parts_after (begun ++ drop 1 (without_return part)) rest
after_continued begun part rest h =
    ap (λ t. cond t (parts_after (begun ++ drop 1 (without_return part)) rest) (cond (is_last begun) (part ∷ rest) (parts_after (without_return part) rest))) h

after_last : (begun part : List ℕ) (rest : List (List ℕ)) → is_continuation part ≡ false → is_last begun ≡ true → parts_after begun (part ∷ rest) ≡ part ∷ rest
after_last begun part rest h l =
    ap (λ t. cond t (parts_after (begun ++ drop 1 (without_return part)) rest) (cond (is_last begun) (part ∷ rest) (parts_after (without_return part) rest))) h ∙ ap (λ t. cond t (part ∷ rest) (parts_after (without_return part) rest)) l

after_other : (begun part : List ℕ) (rest : List (List ℕ)) → is_continuation part ≡ false → is_last begun ≡ false → parts_after begun (part ∷ rest) ≡ parts_after (without_return part) rest
after_other begun part rest h l =
    ap (λ t. cond t (parts_after (begun ++ drop 1 (without_return part)) rest) (cond (is_last begun) (part ∷ rest) (parts_after (without_return part) rest))) h ∙ ap (λ t. cond t (part ∷ rest) (parts_after (without_return part) rest)) l

gather_part : (t : Bool) (begun part : List ℕ) (rest : List (List ℕ)) → is_continuation part ≡ t → gather begun (map without_return (part ∷ rest)) ≡ cond t (gather (begun ++ drop 1 (without_return part)) (map without_return rest)) (begun ∷ gather (without_return part) (map without_return rest))
gather_part t begun part rest h =
    ap (λ u. cond u (gather (begun ++ drop 1 (without_return part)) (map without_return rest)) (begun ∷ gather (without_return part) (map without_return rest))) (return_continues part ∙ h)

found_continued : (begun part : List ℕ) (rest : List (List ℕ)) → is_continuation part ≡ true → Found (begun ++ drop 1 (without_return part)) rest → Found begun (part ∷ rest)
found_continued begun part rest h f = record {
  before = part ∷ f.before;
  next = f.next;
  behind = f.behind;
  front = f.front;
  line = f.line;
  are = ap (λ z. part ∷ z) f.are;
  starts = f.starts;
  after = after_continued begun part rest h ∙ f.after;
  spelled = gather_part true begun part f.before h ∙ f.spelled;
  others = f.others;
  last = f.last;
}

found_here : (begun part : List ℕ) (rest : List (List ℕ)) → is_continuation part ≡ false → is_last begun ≡ true → Found begun (part ∷ rest)
found_here begun part rest h l = record {
  before = [];
  next = part;
  behind = rest;
  front = [];
  line = begun;
  are = refl;
  starts = h;
  after = after_last begun part rest h l;
  spelled = refl;
  others = refl;
  last = l;
}

found_later : (begun part : List ℕ) (rest : List (List ℕ)) → is_continuation part ≡ false → is_last begun ≡ false → Found (without_return part) rest → Found begun (part ∷ rest)
found_later begun part rest h l f = record {
  before = part ∷ f.before;
  next = f.next;
  behind = f.behind;
  front = begun ∷ f.front;
  line = f.line;
  are = ap (λ z. part ∷ z) f.are;
  starts = f.starts;
  after = after_other begun part rest h l ∙ f.after;
  spelled = gather_part false begun part f.before h ∙ ap (λ z. begun ∷ z) f.spelled;
  others = ap (λ t. t || list_any is_last f.front) l ∙ f.others;
  last = f.last;
}

none_continued : (begun part : List ℕ) (rest : List (List ℕ)) → is_continuation part ≡ true → NotFound (begun ++ drop 1 (without_return part)) rest → NotFound begun (part ∷ rest)
none_continued begun part rest h n = record {
  front = n.front;
  line = n.line;
  after = after_continued begun part rest h ∙ n.after;
  spelled = gather_part true begun part rest h ∙ n.spelled;
  others = n.others;
}

none_later : (begun part : List ℕ) (rest : List (List ℕ)) → is_continuation part ≡ false → is_last begun ≡ false → NotFound (without_return part) rest → NotFound begun (part ∷ rest)
none_later begun part rest h l n = record {
  front = begun ∷ n.front;
  line = n.line;
  after = after_other begun part rest h l ∙ n.after;
  spelled = gather_part false begun part rest h ∙ ap (λ z. begun ∷ z) n.spelled;
  others = ap (λ t. t || list_any is_last n.front) l ∙ n.others;
}

found_by : (t l : Bool) (begun part : List ℕ) (rest : List (List ℕ)) → is_continuation part ≡ t → is_last begun ≡ l → Found (begun ++ drop 1 (without_return part)) rest ⊎ NotFound (begun ++ drop 1 (without_return part)) rest → Found (without_return part) rest ⊎ NotFound (without_return part) rest → Found begun (part ∷ rest) ⊎ NotFound begun (part ∷ rest)
found_by true l begun part rest h k (inl f) next = inl (found_continued begun part rest h f)
found_by true l begun part rest h k (inr n) next = inr (none_continued begun part rest h n)
found_by false true begun part rest h k joined next = inl (found_here begun part rest h k)
found_by false false begun part rest h k joined (inl f) = inl (found_later begun part rest h k f)
found_by false false begun part rest h k joined (inr n) = inr (none_later begun part rest h k n)

found_or : (begun : List ℕ) (parts : List (List ℕ)) → Found begun parts ⊎ NotFound begun parts
found_or begun [] = inr (record {
  front = [];
  line = begun;
  after = refl;
  spelled = refl;
  others = refl;
})
found_or begun (part ∷ rest) =
    found_by (is_continuation part) (is_last begun) begun part rest refl refl (found_or (begun ++ drop 1 (without_return part)) rest) (found_or (without_return part) rest)

-- ---- the end by its lines

some_by : (t : Bool) (begun : List ℕ) (joined next : List (List ℕ)) → 0 < length joined → 0 < length (cond t joined (begun ∷ next))
some_by true begun joined next l = l
some_by false begun joined next l = omega arith

gather_some : (begun : List ℕ) (lines : List (List ℕ)) → 0 < length (gather begun lines)
gather_some begun [] = omega arith
gather_some begun (l ∷ lines) = some_by (is_continuation l) begun (gather (begun ++ drop 1 l) lines) (gather l lines) (gather_some (begun ++ drop 1 l) lines)

reaches_later : (begun part : List ℕ) (before tail : List (List ℕ)) (front : List (List ℕ)) (line : List ℕ) → begun ∷ gather (without_return part) (map without_return before) ≡ front ++ line ∷ [] → list_any is_last front ≡ false → is_continuation part ≡ false → ((others : List (List ℕ)) → gather (without_return part) (map without_return before) ≡ others ++ line ∷ [] → list_any is_last others ≡ false → parts_after (without_return part) (before ++ tail) ≡ tail) → parts_after begun (part ∷ (before ++ tail)) ≡ tail
reaches_later begun part before tail [] line e o h ih =
    absurd (omega (arith, ap length e, gather_some (without_return part) (map without_return before)))
reaches_later begun part before tail (x ∷ front) line e o h ih =
    let both = or_parts (is_last x) (list_any is_last front) o in
    let first : begun ≡ x = ap (λ z. get_or z 0 []) e in
    after_other begun part (before ++ tail) h (ap is_last first ∙ both.0) ∙ ih front (ap (drop 1) e) both.1

reaches_end : (begun : List ℕ) (tail : List (List ℕ)) (front : List (List ℕ)) (line : List ℕ) → ((last : List ℕ) → last ≡ line → parts_after last tail ≡ tail) → begun ∷ [] ≡ front ++ line ∷ [] → parts_after begun tail ≡ tail
reaches_end begun tail [] line stays e = stays begun (ap (λ z. get_or z 0 []) e)
reaches_end begun tail (x ∷ front) line stays e = absurd (omega (arith, ap length e, length-append front (line ∷ [])))

reaches_by : (t : Bool) (begun part : List ℕ) (before tail : List (List ℕ)) (front : List (List ℕ)) (line : List ℕ) → is_continuation part ≡ t → gather begun (map without_return (part ∷ before)) ≡ front ++ line ∷ [] → list_any is_last front ≡ false → (gather (begun ++ drop 1 (without_return part)) (map without_return before) ≡ front ++ line ∷ [] → parts_after (begun ++ drop 1 (without_return part)) (before ++ tail) ≡ tail) → ((others : List (List ℕ)) → gather (without_return part) (map without_return before) ≡ others ++ line ∷ [] → list_any is_last others ≡ false → parts_after (without_return part) (before ++ tail) ≡ tail) → parts_after begun (part ∷ (before ++ tail)) ≡ tail
reaches_by true begun part before tail front line h e o joined next =
    after_continued begun part (before ++ tail) h ∙ joined (sym (gather_part true begun part before h) ∙ e)
reaches_by false begun part before tail front line h e o joined next =
    reaches_later begun part before tail front line (sym (gather_part false begun part before h) ∙ e) o h next

reaches : (begun : List ℕ) (before tail : List (List ℕ)) (front : List (List ℕ)) (line : List ℕ) → ((last : List ℕ) → last ≡ line → parts_after last tail ≡ tail) → gather begun (map without_return before) ≡ front ++ line ∷ [] → list_any is_last front ≡ false → parts_after begun (before ++ tail) ≡ tail
reaches begun [] tail front line stays e o = reaches_end begun tail front line stays e
reaches begun (part ∷ before) tail front line stays e o =
    reaches_by (is_continuation part) begun part before tail front line refl e o (λ f. reaches (begun ++ drop 1 (without_return part)) before tail front line stays f o) (λ others f n. reaches (without_return part) before tail others line stays f n)

stay : (last rest : List ℕ) → is_continuation rest ≡ false → is_last last ≡ true → parts_after last (slice_split is_break rest) ≡ slice_split is_break rest
stay last [] h l = ap (λ z. cond z ([] ∷ []) []) l
stay last (c ∷ rest) h l = last_by (is_break c) c last (slice_split is_break rest) h l

-- ---- octets without a mark

abbrev rest_of : List ℕ → List ℕ
rest_of octets = octets_after [] (slice_split is_break octets)

record PlainEnd (octets rest : List ℕ) : Type 0 where
  body : List ℕ
  front : List (List ℕ)
  line : List ℕ
  are : octets ≡ body ++ 10 ∷ rest
  spelled : all_lines body ≡ front ++ line ∷ []
  others : list_any is_last front ≡ false
  last : is_last line ≡ true
  starts : is_continuation rest ≡ false

record PlainRun (octets rest : List ℕ) : Type 0 where
  front : List (List ℕ)
  line : List ℕ
  spelled : all_lines octets ≡ front ++ line ∷ []
  others : list_any is_last front ≡ false
  nothing : rest ≡ []

plain_found : (p : List ℕ) (parts : List (List ℕ)) (octets : List ℕ) → slice_split is_break octets ≡ p ∷ parts → Found (without_return p) parts → PlainEnd octets (octets_after [] (p ∷ parts))
plain_found p parts octets e f =
    let cut : p ∷ parts ≡ (p ∷ f.before) ++ f.next ∷ f.behind = ap (λ z. p ∷ z) f.are in
    let whole : list_all is_one_line ((p ∷ f.before) ++ f.next ∷ f.behind) ≡ true = ap (list_all is_one_line) (sym cut) ∙ (ap (list_all is_one_line) (sym e) ∙ parts_whole octets) in
    let front_whole : list_all is_one_line (p ∷ f.before) ≡ true = (and_parts (list_all is_one_line (p ∷ f.before)) (list_all is_one_line (f.next ∷ f.behind)) (sym (list_all-append is_one_line (p ∷ f.before) (f.next ∷ f.behind)) ∙ whole)).0 in
    record {
      body = join_with_byte 10 (p ∷ f.before);
      front = f.front;
      line = f.line;
      are = sym (join_with_byte-slice_split 10 octets) ∙ (ap (join_with_byte 10) (e ∙ cut) ∙ (joined_apart p f.before f.next f.behind ∙ ap (λ z. join_with_byte 10 (p ∷ f.before) ++ 10 ∷ join_with_byte 10 z) (sym f.after)));
      spelled = ap (λ z. unfolded (map without_return z)) (split_joined p f.before front_whole) ∙ f.spelled;
      others = f.others;
      last = f.last;
      starts = ap (λ z. is_continuation (join_with_byte 10 z)) f.after ∙ (joined_starts f.next f.behind ∙ f.starts);
    }

plain_none : (p : List ℕ) (parts : List (List ℕ)) (octets : List ℕ) → slice_split is_break octets ≡ p ∷ parts → NotFound (without_return p) parts → PlainRun octets (octets_after [] (p ∷ parts))
plain_none p parts octets e n = record {
  front = n.front;
  line = n.line;
  spelled = ap (λ z. unfolded (map without_return z)) e ∙ n.spelled;
  others = n.others;
  nothing = ap (join_with_byte 10) n.after;
}

plain_either : (p : List ℕ) (parts : List (List ℕ)) (octets : List ℕ) → slice_split is_break octets ≡ p ∷ parts → Found (without_return p) parts ⊎ NotFound (without_return p) parts → PlainEnd octets (octets_after [] (p ∷ parts)) ⊎ PlainRun octets (octets_after [] (p ∷ parts))
plain_either p parts octets e (inl f) = inl (plain_found p parts octets e f)
plain_either p parts octets e (inr n) = inr (plain_none p parts octets e n)

plain_by : (parts : List (List ℕ)) (octets : List ℕ) → slice_split is_break octets ≡ parts → PlainEnd octets (octets_after [] parts) ⊎ PlainRun octets (octets_after [] parts)
plain_by [] octets e = absurd (omega (arith, length-slice_split is_break octets, ap length e))
plain_by (p ∷ parts) octets e = plain_either p parts octets e (found_or (without_return p) parts)

-- ---- octets with a mark or without one

marked : (octets : List ℕ) → has_mark octets ≡ true → octets ≡ 0xEF ∷ 0xBB ∷ 0xBF ∷ without_mark octets
marked octets h =
    let three : take 3 octets ≡ 0xEF ∷ 0xBB ∷ 0xBF ∷ [] = (bytes_eq-Decides (take 3 octets) (0xEF ∷ 0xBB ∷ 0xBF ∷ [])).0 h in
    sym (take-append-drop 3 octets) ∙ (ap (λ z. z ++ drop 3 octets) three ∙ ap (λ t. 0xEF ∷ 0xBB ∷ 0xBF ∷ cond t (drop 3 octets) octets) (sym h))

ends_by : (t : Bool) (octets rest : List ℕ) → has_mark octets ≡ t → PlainEnd (without_mark octets) rest → EndsWithItsLine octets rest
ends_by true octets rest h f =
    let are : octets ≡ (0xEF ∷ 0xBB ∷ 0xBF ∷ f.body) ++ 10 ∷ rest = marked octets h ∙ ap (λ z. 0xEF ∷ 0xBB ∷ 0xBF ∷ z) f.are in
    record {
      body = 0xEF ∷ 0xBB ∷ 0xBF ∷ f.body;
      front = f.front;
      line = f.line;
      are = are;
      spelled = f.spelled;
      others = f.others;
      last = f.last;
      starts = f.starts;
      logical = ap logical_lines are ∙ logical_ended (0xEF ∷ 0xBB ∷ 0xBF ∷ f.body) rest f.starts;
    }
ends_by false octets rest h f =
    let same : without_mark octets ≡ octets = ap (λ t. cond t (drop 3 octets) octets) h in
    let are : octets ≡ f.body ++ 10 ∷ rest = sym same ∙ f.are in
    let none : has_mark f.body ≡ false = sym (same_mark f.body rest) ∙ (ap has_mark (sym are) ∙ h) in
    record {
      body = f.body;
      front = f.front;
      line = f.line;
      are = are;
      spelled = ap (λ t. all_lines (cond t (drop 3 f.body) f.body)) none ∙ f.spelled;
      others = f.others;
      last = f.last;
      starts = f.starts;
      logical = ap logical_lines are ∙ logical_ended f.body rest f.starts;
    }

runs : (octets rest : List ℕ) → PlainRun (without_mark octets) rest → EndsWithTheInput octets rest
runs octets rest n = record {
  front = n.front;
  line = n.line;
  spelled = n.spelled;
  others = n.others;
  nothing = n.nothing;
}

either : (octets rest : List ℕ) → PlainEnd (without_mark octets) rest ⊎ PlainRun (without_mark octets) rest → EndsBefore octets rest
either octets rest (inl f) = inl (ends_by (has_mark octets) octets rest refl f)
either octets rest (inr n) = inr (runs octets rest n)

pub object_ends : (octets : List ℕ) → EndsBefore octets (after_object octets)
object_ends octets =
    either octets (after_object octets) (plain_by (slice_split is_break (without_mark octets)) (without_mark octets) refl)

-- ---- and nowhere else

plain_only : (parts : List (List ℕ)) (body rest : List ℕ) (front : List (List ℕ)) (line : List ℕ) → slice_split is_break body ≡ parts → unfolded (map without_return parts) ≡ front ++ line ∷ [] → list_any is_last front ≡ false → is_last line ≡ true → is_continuation rest ≡ false → octets_after [] (parts ++ slice_split is_break rest) ≡ rest
plain_only [] body rest front line e s o l h = absurd (omega (arith, length-slice_split is_break body, ap length e))
plain_only (p ∷ parts) body rest front line e s o l h =
    ap (join_with_byte 10) (reaches (without_return p) parts (slice_split is_break rest) front line (λ last f. stay last rest h (ap is_last f ∙ l)) s o) ∙ join_with_byte-slice_split 10 rest

end_only : (octets rest : List ℕ) → EndsWithItsLine octets rest → after_object octets ≡ rest
end_only octets rest f =
    ap (λ z. rest_of (without_mark z)) f.are ∙ (ap rest_of (mark_stays f.body rest) ∙ (ap (octets_after []) (split_apart (without_mark f.body) rest) ∙ plain_only (slice_split is_break (without_mark f.body)) (without_mark f.body) rest f.front f.line refl f.spelled f.others f.last f.starts))

run_only : (parts : List (List ℕ)) (front : List (List ℕ)) (line : List ℕ) → unfolded (map without_return parts) ≡ front ++ line ∷ [] → list_any is_last front ≡ false → octets_after [] parts ≡ []
run_only [] front line s o = refl
run_only (p ∷ parts) front line s o =
    ap (λ z. join_with_byte 10 (parts_after (without_return p) z)) (sym (append-nil parts)) ∙ ap (join_with_byte 10) (reaches (without_return p) parts [] front line (λ last e. refl) s o)

pub ends_only : (octets rest : List ℕ) → EndsBefore octets rest → rest ≡ after_object octets
ends_only octets rest (inl f) = sym (end_only octets rest f)
ends_only octets rest (inr n) =
    n.nothing ∙ sym (run_only (slice_split is_break (without_mark octets)) n.front n.line n.spelled n.others)
