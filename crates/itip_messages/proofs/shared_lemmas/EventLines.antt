-- The lines of a VEVENT of octets: they are among their logical lines, which read as lines.
-- Behind refreshes_are_heard of law, replies_are_heard of law, requests_read_back of sent_law, shown_reads_back of sent_law, stored_texts_can_be_sent of sent_law.
use Rattle.std.proofs.Common.{◌≡◌, ◌∙◌, ℕ, suc, ◌+◌, ◌<◌, Bool, true, false, not, ◌&&◌, cond, eqb, List, [], ◌∷◌, ◌++◌, length, get_or, take, drop, refl, sym, ap, subst, arith, inl, inr, append_assoc, length-append}
use Rattle.std.specs.List.{list_any, Contains}
use Rattle.std.specs.Str.{IsUtf8}
use Rattle.std.proofs.lemmas.Bool.{and_parts, or_parts, not-true, cases_lt}
use Rattle.std.proofs.lemmas.Bool.Decides.{nat_tests}
use Rattle.std.proofs.lemmas.List.{take_at, drop_all, get_or_at, take-append-drop, drop_at}
use Rattle.std.proofs.lemmas.List.Elements.{Contains-append_left, Contains-append_right, Contains-push, Contains-push_cases}
use Rattle.std.proofs.lemmas.List.Folds.{list_any-append}
use Rattle.std.proofs.lemmas.Str.{IsUtf8-take, IsUtf8-drop, IsUtf8-nil, IsUtf8-from_is_utf8, IsCharBoundary-before_ascii, IsCharBoundary-after_ascii}
use Rattle.profile.specs.text.Lines.{outside_from, outside, line_value, is_control, is_faulty, has_control, ended, logical_lines, reads_as_lines}
use Rattle.profile.specs.text.Trees.{Tree, tree_own, tree_inside, vevents}
use Rattle.profile.specs.text.Objects.{SpellsBody, IsObject}
use Rattle.profile.specs.text.Objects.SpellsBody.{nothing, property, component}
use Rattle.cal_events.proofs.shared_lemmas.InOneOrder.{of_mapped}
use Rattle.itip_order.proofs.Lists.{in_cons, in_tail, none_in_nil, filter_at}
use Rattle.ical_lines.proofs.CleanLines.{IsClean}
use Rattle.itip_messages.proofs.shared_lemmas.ObjectTree.{Lines}

-- ---- the value of a line

one_past : (c n : ℕ) (cs : List ℕ) → get_or (c ∷ cs) (1 + n) 0 ≡ get_or cs n 0
one_past c n cs = let e : 1 + n ≡ suc n = omega arith in rw e refl

stop_by : (stop c : ℕ) (cs : List ℕ) (m n : ℕ) (b d : Bool) → (d ≡ true → c ≡ stop) → (m < length cs → get_or cs m 0 ≡ stop) → (n < length cs → get_or cs n 0 ≡ stop)
    → cond b (1 + m) (cond d 0 (1 + n)) < length (c ∷ cs) → get_or (c ∷ cs) (cond b (1 + m) (cond d 0 (1 + n))) 0 ≡ stop
stop_by stop c cs m n true d is first second l = one_past c m cs ∙ first (omega arith)
stop_by stop c cs m n false true is first second l = is refl
stop_by stop c cs m n false false is first second l = one_past c n cs ∙ second (omega arith)

is_stop : (c stop : ℕ) (q : Bool) → (eqb c stop && not q) ≡ true → c ≡ stop
is_stop c stop q h = grind (arith, nat_tests)

-- what is at the first stop
stop_at : (stop : ℕ) (q : Bool) (text : List ℕ) → outside_from stop q text < length text → get_or text (outside_from stop q text) 0 ≡ stop
stop_at stop q [] l = absurd (omega arith)
stop_at stop q (c ∷ cs) l =
    stop_by stop c cs (outside_from stop (not q) cs) (outside_from stop q cs) (eqb c 34) (eqb c stop && not q) (is_stop c stop q) (stop_at stop (not q) cs) (stop_at stop q cs) l

utf8_value : (line : List ℕ) → IsUtf8 line → IsUtf8 (line_value line)
utf8_value line u =
    elim (cases_lt (outside 58 line) (length line)) [
      | inl inside ↦
          let here = stop_at 58 false line inside in
          IsUtf8-drop line (outside 58 line + 1) u (IsCharBoundary-after_ascii line (outside 58 line) u inside (omega (arith, here)))
      | inr past ↦ subst IsUtf8 (sym (drop_all (outside 58 line + 1) line (omega arith))) IsUtf8-nil
    ]

calm_value : (line : List ℕ) → list_any is_control line ≡ false → list_any is_control (line_value line) ≡ false
calm_value line h =
    let n = outside 58 line + 1 in
    (or_parts (list_any is_control (take n line)) (list_any is_control (drop n line)) (sym (list_any-append is_control (take n line) (drop n line)) ∙ ap (list_any is_control) (take-append-drop n line) ∙ h)).1

-- ---- the lines of some octets

utf8_parts : (line rest : List ℕ) → IsUtf8 (line ++ 10 ∷ rest) → IsUtf8 line × IsUtf8 rest
utf8_parts line rest u =
    let all = line ++ 10 ∷ rest in
    let long : length line < length all = omega (arith, length-append line (10 ∷ rest)) in
    let at : get_or all (length line) 0 ≡ 10 = get_or_at line 10 rest 0 (length line) refl in
    let low : get_or all (length line) 0 < 128 = omega (arith, at) in
    let first : take (length line) all ≡ line = take_at line (10 ∷ rest) (length line) refl in
    let whole : (line ++ 10 ∷ []) ++ rest ≡ all = append_assoc line (10 ∷ []) rest in
    let size : length (line ++ 10 ∷ []) ≡ length line + 1 = length-append line (10 ∷ []) in
    let last : drop (length line + 1) all ≡ rest = ap (λ l. drop (length line + 1) l) (sym whole) ∙ drop_at (line ++ 10 ∷ []) rest (length line + 1) size in (
      subst IsUtf8 first (IsUtf8-take all (length line) u (IsCharBoundary-before_ascii all (length line) long low)),
      subst IsUtf8 last (IsUtf8-drop all (length line + 1) u (IsCharBoundary-after_ascii all (length line) u long low)),
    )

utf8_among : (lines : Lines) (line : List ℕ) → IsUtf8 (ended lines) → Contains lines line → IsUtf8 line
utf8_among [] line u c = absurd (none_in_nil line c)
utf8_among (x ∷ lines) line u c =
    let both = utf8_parts x (ended lines) (subst IsUtf8 (append_assoc x (10 ∷ []) (ended lines)) u) in
    elim (in_cons x lines line c) [
      | inl here ↦ subst IsUtf8 here both.0
      | inr there ↦ utf8_among lines line both.1 there
    ]

calm_among : (lines : Lines) (line : List ℕ) → list_any is_faulty lines ≡ false → Contains lines line → list_any is_control line ≡ false
calm_among [] line h c = absurd (none_in_nil line c)
calm_among (x ∷ lines) line h c =
    let both = or_parts (is_faulty x) (list_any is_faulty lines) h in
    elim (in_cons x lines line c) [
      | inl here ↦ subst (λ (l : List ℕ). list_any is_control l ≡ false) here (or_parts _ (has_control x) both.0).1
      | inr there ↦ calm_among lines line both.1 there
    ]

-- the value of a line of octets that read as lines
pub clean_value : (bounded : Bool) (octets line : List ℕ) → reads_as_lines bounded octets ≡ true → Contains (logical_lines octets) line → IsClean (line_value line)
clean_value bounded octets line r c =
    let both = and_parts _ _ r in
    let parts = and_parts _ _ both.0 in
    let calm = calm_among (logical_lines octets) line (not-true _ parts.0) c in
    let utf8 = utf8_among (logical_lines octets) line (IsUtf8-from_is_utf8 (ended (logical_lines octets)) parts.1) c in
    record { calm = calm_value line calm; utf8 = utf8_value line utf8 }

-- ---- the lines of a VEVENT

abbrev HasLine : Lines → Lines → Type 0
HasLine body own = (line : List ℕ) → Contains own line → Contains body line

-- the own lines of a component, and those of the components in it, are in its body
record Holds (own : Lines) (parts : List Tree) (body : Lines) : Type 0 where
  of_own : HasLine body own
  of_part : (part : Tree) → Contains parts part → HasLine body (tree_own part)

in_front : (a b : Lines) (own : Lines) → HasLine a own → HasLine (a ++ b) own
in_front a b own h line c = Contains-append_left a b line (h line c)

holds_none : Holds [] [] []
holds_none = record { of_own = λ line c. c; of_part = λ part c. absurd (none_in_nil part c) }

holds_property : (own : Lines) (parts : List Tree) (body : Lines) (line : List ℕ) → Holds own parts body → Holds (own ++ line ∷ []) parts (body ++ line ∷ [])
holds_property own parts body line h = record {
  of_own = λ l c.
      elim (Contains-push_cases own line l c) [
        | inl old ↦ Contains-append_left body (line ∷ []) l (h.of_own l old)
        | inr same ↦ subst (λ (x : List ℕ). Contains (body ++ line ∷ []) x) same (Contains-push body line)
      ];
  of_part = λ part c. in_front body (line ∷ []) (tree_own part) (h.of_part part c);
}

holds_component : (own : Lines) (parts : List Tree) (body : Lines) (part : Tree) (begin end : List ℕ) (inner : Lines) → HasLine inner (tree_own part) → Holds own parts body
    → Holds own (parts ++ part ∷ []) (body ++ begin ∷ (inner ++ end ∷ []))
holds_component own parts body part begin end inner i h = record {
  of_own = in_front body (begin ∷ (inner ++ end ∷ [])) own h.of_own;
  of_part = λ p c.
      elim (Contains-push_cases parts part p c) [
        | inl old ↦ in_front body (begin ∷ (inner ++ end ∷ [])) (tree_own p) (h.of_part p old)
        | inr same ↦ subst (λ (x : Tree). HasLine (body ++ begin ∷ (inner ++ end ∷ [])) (tree_own x)) same
            (λ line k. Contains-append_right body (begin ∷ (inner ++ end ∷ [])) line (in_tail begin (inner ++ end ∷ []) line (Contains-append_left inner (end ∷ []) line (i line k))))
      ];
}

holds : {depth : ℕ} {own : Lines} {parts : List Tree} {body : Lines} → SpellsBody depth own parts body → Holds own parts body
holds nothing = holds_none
holds (property {lines = own} {parts = parts} {body = body} line p b) = holds_property own parts body line (holds b)
holds (component {lines = own} {parts = parts} {body = body} part begin end inner v o e b rest) = holds_component own parts body part begin end inner (holds b).of_own (holds rest)

-- the lines of a VEVENT are among the lines of its object
pub vevent_among : (bounded : Bool) (whole : Tree) (lines own : Lines) → IsObject bounded whole lines → Contains (vevents whole) own → HasLine lines own
vevent_among bounded whole lines own object c line k =
    let found = of_mapped tree_own _ own c in
    let part = (filter_at _ (tree_inside whole) found.0 found.1).0 in
    let body = object.spelled.body in
    let inside : Contains body line = (holds object.spelled.holds).of_part found.0 part line (subst (λ (l : Lines). Contains l line) (sym found.2) k) in
    subst (λ (l : Lines). Contains l line) (sym object.spelled.are) (in_tail object.spelled.begin _ line (Contains-append_left body (object.spelled.end ∷ []) line inside))
