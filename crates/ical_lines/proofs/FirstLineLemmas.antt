-- The end of the first logical line, and a line that is put there.
use Rattle.std.proofs.Common.{◌≡◌, map, filter, ℕ, ◌<◌, ◌≤◌, ◌+◌, ◌-◌, Bool, true, false, not, ◌&&◌, ◌||◌, cond, eqb, Option, None, Some, List, [], ◌∷◌, ◌++◌, length, take, drop, get_or, Bor, refl, ap, sym, ◌∙◌, arith}
use Rattle.std.specs.List.{slice_split, onto_first, list_any}
use Rattle.std.proofs.lemmas.Bool.{true≢false, and_parts, not-true}
use Rattle.std.proofs.lemmas.Bool.Decides.{nat_tests}
use Rattle.std.proofs.lemmas.List.{append_assoc, append-nil, length-append, take_at, drop_at, append_cancel_right, take-append-drop}
use Rattle.std.proofs.lemmas.List.Elements.{filter-append}
use Rattle.std.proofs.lemmas.List.Splits.{length-slice_split}
use Rattle.profile.specs.text.Lines.{is_continuation, without_mark, without_return, physical_lines, gather, unfolded, is_filled, logical_lines}
use Rattle.profile.specs.text.Objects.{all_lines, lines_behind}
use Rattle.ical_lines.specs.Breaks.{is_break, is_one_line}
use Rattle.ical_lines.specs.Unfold.{lines_after}
use Rattle.ical_lines.specs.FirstLine.{IsAfterBreak, EndsFirstLine}
use Rattle.ical_lines.proofs.EndLemmas.{has_mark, return_continues, logical_apart}
use Rattle.ical_lines.proofs.ReadBackLemmas.{ends_line, next_starts}

-- ---- how a text begins is how its first physical line does

no_blank : (c : ℕ) → eqb c 10 ≡ true → false ≡ (eqb c 32 || eqb c 9)
no_blank c h = grind (arith, nat_tests)

first_by : (b : Bool) (c : ℕ) (s : List (List ℕ)) → eqb c 10 ≡ b → 0 < length s → is_continuation (get_or (map without_return (cond b ([] ∷ s) (onto_first c s))) 0 []) ≡ (eqb c 32 || eqb c 9)
first_by b c [] e l = absurd (omega (arith, l))
first_by true c (p ∷ s) e l = no_blank c e
first_by false c (p ∷ s) e l = return_continues (c ∷ p)

first_continues : (rest : List ℕ) → is_continuation (get_or (physical_lines rest) 0 []) ≡ is_continuation rest
first_continues [] = refl
first_continues (c ∷ cs) = first_by (eqb c 10) c (slice_split is_break cs) refl (omega (arith, length-slice_split is_break cs))

line_continues : (rest line : List ℕ) (next : List (List ℕ)) → physical_lines rest ≡ line ∷ next → is_continuation line ≡ is_continuation rest
line_continues rest line next e = sym (ap (λ z. is_continuation (get_or z 0 [])) e) ∙ first_continues rest

-- ---- what is so while no line has ended: the lines that did are empty

pub record IsBefore (octets : List ℕ) (filled : Bool) (left : Option (Bor (List ℕ))) : Type 0 where
  pub empties : List (List ℕ)
  pub begun : List ℕ
  pub are : all_lines (without_mark octets) ≡ empties ++ gather begun (lines_after left)
  pub none : filter is_filled empties ≡ []
  pub some : filled ≡ is_filled begun
  pub cut : IsAfterBreak octets left

mark_by : (t : Bool) (octets : List ℕ) → (front : List ℕ) × (octets ≡ front ++ cond t (drop 3 octets) octets)
mark_by true octets = (take 3 octets, sym (take-append-drop 3 octets))
mark_by false octets = ([], refl)

after_mark : (octets unmarked : List ℕ) (left : Option (Bor (List ℕ))) → unmarked ≡ without_mark octets → IsAfterBreak unmarked left → IsAfterBreak octets left
after_mark octets unmarked None e h = tt
after_mark octets unmarked (Some rest) e (body, is) =
    let (front, whole) = mark_by (has_mark octets) octets in
    (front ++ body, whole ∙ (ap (λ z. front ++ z) (sym e ∙ is) ∙ sym (append_assoc front body (10 ∷ rest.now))))

pub before_start : (octets unmarked first : List ℕ) (left : Option (Bor (List ℕ))) (filled : Bool) → unmarked ≡ without_mark octets → physical_lines unmarked ≡ first ∷ lines_after left → IsAfterBreak unmarked left → filled ≡ is_filled first → IsBefore octets filled left
before_start octets unmarked first left filled e lines cut f = record {
  empties = [];
  begun = first;
  are = ap all_lines (sym e) ∙ ap unfolded lines;
  none = refl;
  some = f;
  cut = after_mark octets unmarked left e cut;
}

-- ---- one physical line more

after_break : (octets : List ℕ) (rest : Bor (List ℕ)) (left : Option (Bor (List ℕ))) → IsAfterBreak octets (Some rest) → IsAfterBreak rest.now left → IsAfterBreak octets left
after_break octets rest None h k = tt
after_break octets rest (Some next) (body, is) (line, more) =
    (body ++ 10 ∷ line, is ∙ (ap (λ z. body ++ 10 ∷ z) more ∙ sym (append_assoc body (10 ∷ line) (10 ∷ next.now))))

filled_append : (a b : List ℕ) → (is_filled a || is_filled b) ≡ is_filled (a ++ b)
filled_append [] b = refl
filled_append (x ∷ a) b =
    let one : is_filled (x ∷ a) ≡ true = grind (arith, nat_tests) in
    let both : is_filled (x ∷ (a ++ b)) ≡ true = grind (arith, nat_tests) in
    rw (one, both) refl

gathered_by : (t : Bool) (begun line : List ℕ) (next : List (List ℕ)) → is_continuation line ≡ t → gather begun (line ∷ next) ≡ cond t (gather (begun ++ drop 1 line) next) (begun ∷ gather line next)
gathered_by t begun line next e = ap (λ u. cond u (gather (begun ++ drop 1 line) next) (begun ∷ gather line next)) e

drops_one : (b : Bool) (begun : List ℕ) → b ≡ false → b ≡ is_filled begun → filter is_filled (begun ∷ []) ≡ []
drops_one b begun e f = ap (λ u. cond u (begun ∷ []) []) (sym f ∙ e)

not_ended : (filled continued : Bool) → (filled && not continued) ≡ false → continued ≡ false → filled ≡ false
not_ended true true h k = absurd (true≢false k)
not_ended true false h k = absurd (true≢false h)
not_ended false continued h k = refl

step_by : (t : Bool) (octets : List ℕ) (filled now : Bool) (rest : Bor (List ℕ)) (line : List ℕ) (left : Option (Bor (List ℕ))) → is_continuation line ≡ t → IsBefore octets filled (Some rest) → (filled && not t) ≡ false → physical_lines rest.now ≡ line ∷ lines_after left → IsAfterBreak rest.now left → now ≡ cond t (filled || is_filled (drop 1 line)) (is_filled line) → IsBefore octets now left
step_by true octets filled now rest line left e b h lines cut is = record {
  empties = b.empties;
  begun = b.begun ++ drop 1 line;
  are = b.are ∙ ap (λ z. b.empties ++ z) (ap (gather b.begun) lines ∙ gathered_by true b.begun line (lines_after left) e);
  none = b.none;
  some = is ∙ (ap (λ z. z || is_filled (drop 1 line)) b.some ∙ filled_append b.begun (drop 1 line));
  cut = after_break octets rest left b.cut cut;
}
step_by false octets filled now rest line left e b h lines cut is =
    let empty : filled ≡ false = not_ended filled false h refl in
    record {
      empties = b.empties ++ b.begun ∷ [];
      begun = line;
      are = b.are ∙ (ap (λ z. b.empties ++ z) (ap (gather b.begun) lines ∙ gathered_by false b.begun line (lines_after left) e) ∙ sym (append_assoc b.empties (b.begun ∷ []) (gather line (lines_after left))));
      none = filter-append is_filled b.empties (b.begun ∷ []) ∙ (ap (λ z. z ++ filter is_filled (b.begun ∷ [])) b.none ∙ drops_one filled b.begun empty b.some);
      some = is;
      cut = after_break octets rest left b.cut cut;
    }

pub before_step : (octets : List ℕ) (filled now : Bool) (rest : Bor (List ℕ)) (line : List ℕ) (left : Option (Bor (List ℕ))) → IsBefore octets filled (Some rest) → (filled && not (is_continuation rest.now)) ≡ false → physical_lines rest.now ≡ line ∷ lines_after left → IsAfterBreak rest.now left → now ≡ cond (is_continuation line) (filled || is_filled (drop 1 line)) (is_filled line) → IsBefore octets now left
before_step octets filled now rest line left b h lines cut is =
    step_by (is_continuation line) octets filled now rest line left refl b (ap (λ t. filled && not t) (line_continues rest.now line (lines_after left) lines) ∙ h) lines cut is

-- ---- no line has ended

at_most_one : (t : Bool) (x : List ℕ) → length (cond t (x ∷ []) []) ≤ 1
at_most_one true x = omega arith
at_most_one false x = omega arith

-- ---- the line has ended

starts_with : (line more : List ℕ) → is_filled line ≡ true → is_continuation line ≡ false → is_continuation (line ++ more) ≡ false
starts_with [] more f h = absurd (true≢false (sym f))
starts_with (c ∷ cs) more f h = h

behind_line : (line rest : List ℕ) → is_one_line line ≡ true → is_filled line ≡ true → is_continuation rest ≡ false → lines_behind (line ++ 13 ∷ 10 ∷ rest) ≡ line ∷ lines_behind rest
behind_line line rest one f h =
    let apart : all_lines (line ++ 13 ∷ 10 ∷ rest) ≡ line ∷ all_lines rest = ap unfolded (ends_line line rest (not-true (list_any is_break line) one)) ∙ next_starts rest h line in
    ap (filter is_filled) apart ∙ ap (λ t. cond t (line ∷ lines_behind rest) (lines_behind rest)) f

regroup : (body line rest : List ℕ) → (body ++ 10 ∷ []) ++ (line ++ 13 ∷ 10 ∷ []) ++ rest ≡ body ++ 10 ∷ (line ++ 13 ∷ 10 ∷ rest)
regroup body line rest =
    append_assoc (body ++ 10 ∷ []) (line ++ 13 ∷ 10 ∷ []) rest ∙ (append_assoc body (10 ∷ []) ((line ++ 13 ∷ 10 ∷ []) ++ rest) ∙ ap (λ z. body ++ 10 ∷ z) (append_assoc line (13 ∷ 10 ∷ []) rest))

pub ended_at : (octets body rest first : List ℕ) (end : ℕ) → octets ≡ body ++ 10 ∷ rest → is_continuation rest ≡ false → logical_lines octets ≡ first ∷ lines_behind rest → end ≡ length body + 1 → EndsFirstLine octets end
ended_at octets body rest first end e h whole at =
    let wide : length (body ++ 10 ∷ []) ≡ end = length-append body (10 ∷ []) ∙ sym at in
    let cut : octets ≡ (body ++ 10 ∷ []) ++ rest = e ∙ sym (append_assoc body (10 ∷ []) rest) in
    let taken : take end octets ≡ body ++ 10 ∷ [] = ap (take end) cut ∙ take_at (body ++ 10 ∷ []) rest end wide in
    let dropped : drop end octets ≡ rest = ap (drop end) cut ∙ drop_at (body ++ 10 ∷ []) rest end wide in
    let alone : logical_lines body ≡ first ∷ [] = append_cancel_right (logical_lines body) (first ∷ []) (lines_behind rest) (sym (logical_apart body rest h) ∙ (ap logical_lines (sym e) ∙ whole)) in
    record {
      first = first;
      rest = lines_behind rest;
      inside = omega (arith, wide, ap length cut, length-append (body ++ 10 ∷ []) rest);
      alone = ap logical_lines taken ∙ (logical_apart body [] refl ∙ (append-nil (logical_lines body) ∙ alone));
      whole = whole;
      with_line = λ line f one starts.
          ap (λ z. logical_lines (z ++ (line ++ 13 ∷ 10 ∷ []) ++ drop end octets)) taken ∙ (ap (λ z. logical_lines ((body ++ 10 ∷ []) ++ (line ++ 13 ∷ 10 ∷ []) ++ z)) dropped ∙ (ap logical_lines (regroup body line rest)
          ∙ (logical_apart body (line ++ 13 ∷ 10 ∷ rest) (starts_with line (13 ∷ 10 ∷ rest) f starts) ∙ (ap (λ z. z ++ lines_behind (line ++ 13 ∷ 10 ∷ rest)) alone ∙ ap (λ z. first ∷ z) (behind_line line rest one f h)))));
    }

pub before_end : (octets : List ℕ) (filled : Bool) (rest : Bor (List ℕ)) (end : ℕ) → IsBefore octets filled (Some rest) → (filled && not (is_continuation rest.now)) ≡ true → end ≡ length octets - length rest.now → EndsFirstLine octets end
before_end octets filled rest end b h at =
    let both = and_parts filled (not (is_continuation rest.now)) h in
    let starts : is_continuation rest.now ≡ false = not-true (is_continuation rest.now) both.1 in
    let (body, is) = b.cut in
    let shown : is_filled b.begun ≡ true = sym b.some ∙ both.0 in
    let whole : logical_lines octets ≡ b.begun ∷ lines_behind rest.now =
    ap (filter is_filled) (b.are ∙ ap (λ z. b.empties ++ z) (next_starts rest.now starts b.begun)) ∙ (filter-append is_filled b.empties (b.begun ∷ all_lines rest.now) ∙ (ap (λ z. z ++ filter is_filled (b.begun ∷ all_lines rest.now)) b.none ∙ ap (λ t. cond t (b.begun ∷ lines_behind rest.now) (lines_behind rest.now)) shown)) in
    ended_at octets body rest.now b.begun end is starts whole (omega (arith, at, ap length is, length-append body (10 ∷ rest.now)))
