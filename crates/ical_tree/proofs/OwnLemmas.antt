-- A line among the own lines of a component, by its place.
use Rattle.std.proofs.Common.{◌≡◌, ◌∙◌, ap, sym, refl, ℕ, zero, suc, ◌+◌, ◌<◌, Bool, true, false, List, [], ◌∷◌, ◌++◌, length, get_or, take, drop, map, option_map, cond, arith, Option, None, Some, Contains}
use Rattle.std.specs.List.{count_by, enumerate_from, flat_map, fold}
use Rattle.std.specs.Option.{option_to_list, is_some}
use Rattle.std.proofs.lemmas.Bool.{false≢true}
use Rattle.std.proofs.lemmas.List.{take-append-drop, map-append}
use Rattle.ical_lines.specs.Text.{line_text, lines_left, numbered}
use Rattle.ical_lines.specs.declared.line.Line.{Line}
use Rattle.profile.specs.events.Properties.{is_of}
use Rattle.profile.specs.faults.Blame.{IsSecond, texts_of_numbered}
use Rattle.ical_tree.specs.Runs.{run_lines, run_numbered}
use Rattle.ical_tree.specs.Tree.{component_runs, component_lines, component_numbered}
use Rattle.ical_tree.specs.declared.component.Component.{Component}
use Rattle.ical_tree.specs.declared.own_lines.Run.{Run}
use Rattle.ical_tree.proofs.OneLine.{at_place}

pub take_more : {A : Type 0} (xs : List A) (i : ℕ) (x : A) → i < length xs → x ≡ get_or xs i x → take (i + 1) xs ≡ take i xs ++ x ∷ []
take_more [] i x w e = absurd (omega arith)
take_more (y ∷ ys) zero x w e = ap (λ z. z ∷ []) (sym e)
take_more (y ∷ ys) (suc i) x w e = let n : suc i + 1 ≡ suc (i + 1) = omega arith in rw n (ap (λ z. y ∷ z) (take_more ys i x (omega (arith, w)) e))

pub count_more : {A : Type 0} (test : A → Bool) (xs : List A) (x : A) → count_by test (xs ++ x ∷ []) ≡ count_by test xs + cond (test x) 1 0
count_more {A} test xs x = more 0 xs
  where
    step : ℕ → A → ℕ
    step n y = n + cond (test y) 1 0

    more : (n : ℕ) (ys : List A) → fold step n (ys ++ x ∷ []) ≡ fold step n ys + cond (test x) 1 0
    more n [] = refl
    more n (y ∷ ys) = more (n + cond (test y) 1 0) ys

-- it is among them
pub is_among : (items : List Line) (i : ℕ) (x : Line) → i < length items → x ≡ get_or items i x → Contains (map numbered items) (numbered x)
is_among [] i x w e = absurd (omega arith)
is_among (y ∷ ys) zero x w e = (zero, omega arith, ap numbered (sym e))
is_among (y ∷ ys) (suc i) x w e = let h = is_among ys i x (omega (arith, w)) e in (suc h.0, omega (arith, h.1), h.2)

pub split_at_place : (items : List Line) (i : ℕ) (x : Line) → i < length items → x ≡ get_or items i x → map numbered items ≡ map numbered (take i items) ++ numbered x ∷ map numbered (drop (i + 1) items)
split_at_place items i x w e =
    ap (map numbered) (sym (take-append-drop i items) ∙ ap (λ z. take i items ++ z) (at_place items i x w e)) ∙ map-append numbered (take i items) (x ∷ drop (i + 1) items)

pub second_at : (name : List ℕ) (items : List Line) (i : ℕ) (x : Line) → i < length items → x ≡ get_or items i x → is_of name x.text.now ≡ true → count_by (λ (earlier : ℕ × List ℕ). is_of name earlier.1) (map numbered (take i items)) ≡ 1 → IsSecond (is_of name) (map numbered items) x.number
second_at name items i x w e named one = record {
  before = map numbered (take i items);
  line = x.text.now;
  after = map numbered (drop (i + 1) items);
  are = split_at_place items i x w e;
  named = named;
  one = one;
}

-- one more line that isn't of the name, or is
pub count_next : (name : List ℕ) (items : List Line) (i : ℕ) (x : Line) (b : Bool) → i < length items → x ≡ get_or items i x → is_of name x.text.now ≡ b → count_by (λ (earlier : ℕ × List ℕ). is_of name earlier.1) (map numbered (take (i + 1) items)) ≡ count_by (λ (earlier : ℕ × List ℕ). is_of name earlier.1) (map numbered (take i items)) + cond b 1 0
count_next name items i x b w e is =
    let test : (ℕ × List ℕ) → Bool = λ earlier. is_of name earlier.1 in
    let more : map numbered (take (i + 1) items) ≡ map numbered (take i items) ++ numbered x ∷ [] = ap (map numbered) (take_more items i x w e) ∙ map-append numbered (take i items) (x ∷ []) in
    ap (count_by test) more ∙ (count_more test (map numbered (take i items)) (numbered x) ∙ ap (λ t. count_by test (map numbered (take i items)) + cond t 1 0) is)

-- ---- what was found

pub is_none : {A : Type 0} (found : Option A) → is_some found ≡ false → found ≡ None
is_none None e = refl
is_none (Some x) e = absurd (false≢true (sym e))

pub one_found : {A B : Type 0} (f : A → B) (found : Option A) → is_some found ≡ true → length (option_to_list (option_map f found)) ≡ 1
one_found f None e = absurd (false≢true e)
one_found f (Some x) e = refl

-- ---- the lines without their numbers

texts_numbered : (n : ℕ) (lines : List (List ℕ)) (k : ℕ) → texts_of_numbered (take k (enumerate_from n lines)) ≡ take k lines
texts_numbered n lines zero = refl
texts_numbered n [] (suc k) = refl
texts_numbered n (line ∷ lines) (suc k) = ap (λ z. line ∷ z) (texts_numbered (n + 1) lines k)

pub texts_of_own : (lines : List Line) → texts_of_numbered (map numbered lines) ≡ map line_text lines
texts_of_own [] = refl
texts_of_own (line ∷ lines) = ap (λ z. line_text line ∷ z) (texts_of_own lines)

texts_of_runs : (runs : List Run) → texts_of_numbered (flat_map run_numbered runs) ≡ flat_map run_lines runs
texts_of_runs [] = refl
texts_of_runs (run ∷ runs) =
    map-append (λ line. line.1) (run_numbered run) (flat_map run_numbered runs)
    ∙ (ap (λ z. z ++ texts_of_numbered (flat_map run_numbered runs)) (texts_numbered (run.from.passed + 1) (lines_left run.from) run.count)
    ∙ ap (λ z. run_lines run ++ z) (texts_of_runs runs))

pub texts_of_component : (c : Component) → texts_of_numbered (component_numbered c) ≡ component_lines c
texts_of_component c = texts_of_runs (component_runs c)
