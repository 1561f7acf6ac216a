-- The lines of a day, and the days of a page, one after another.
use Rattle.std.proofs.Common.{◌≡◌, ◌∙◌, ℕ, ◌+◌, ◌<◌, suc, List, [], ◌∷◌, ◌++◌, map, drop, get_or, length, refl, sym, ap, subst, codes, append_assoc, append-nil, drop-cons, arith, ℤ}
use Rattle.std.specs.Int.{int_max}
use Rattle.profile.specs.checker.Instances.{Instance}
use Rattle.profile.specs.checker.Agendas.{Block, Taken}
use Rattle.cal_agenda.specs.Html.{joined}
use Rattle.cal_agenda.specs.Printing.{LinesOf}
use Rattle.cal_agenda.specs.Blocks.{free_if, woven}

-- ---- lines

module _ {X : Type 0} (IsLine : X → List ℕ → Type 0) where
  pub lines_joined : (xs ys : List X) (text more : List ℕ) → LinesOf IsLine xs text → LinesOf IsLine ys more → LinesOf IsLine (xs ++ ys) (text ++ more)
  lines_joined [] ys text more are others = subst (LinesOf IsLine ys) (sym (ap (λ t. t ++ more) are)) others
  lines_joined (x ∷ xs) ys text more (line, rest, is, are, e) others =
      (line, rest ++ more, is, lines_joined xs ys rest more are others, ap (λ t. t ++ more) e ∙ append_assoc line rest more)

  pub one_line : (x : X) (line : List ℕ) → IsLine x line → LinesOf IsLine (x ∷ []) line
  one_line x line is = (line, [], is, refl, sym (append-nil line))

-- ---- the blocks of a day

-- the lines of the first blocks; the others are what is woven of the instances that are left
pub record AreLinesSofar (IsLine : Block → List ℕ → Type 0) (left until : ℤ) (rest : List Instance) (all : List Block) (text : List ℕ) : Type 0 where
  pub done : List Block
  pub each : LinesOf IsLine done text
  pub split : done ++ woven left until rest ≡ all

module _ (IsLine : Block → List ℕ → Type 0) (until : ℤ) (all : List Block) where
  joined_last : (done free rest : List Block) (block : Block) → (done ++ (free ++ block ∷ [])) ++ rest ≡ done ++ (free ++ block ∷ rest)
  joined_last done free rest block = append_assoc done (free ++ block ∷ []) rest ∙ ap (λ l. done ++ l) (append_assoc free (block ∷ []) rest)

  one_more : (left : ℤ) (a : Instance) (rest : List Instance) (text one two free line : List ℕ) → AreLinesSofar IsLine left until (a ∷ rest) all text
      → LinesOf IsLine (free_if left a.start) free → one ≡ text ++ free → IsLine (Taken a) line → two ≡ one ++ line → AreLinesSofar IsLine (int_max left a.end) until rest all two
  one_more left a rest text one two free line sofar its e is f = record {
    done = sofar.done ++ (free_if left a.start ++ Taken a ∷ []);
    each = subst (LinesOf IsLine (sofar.done ++ (free_if left a.start ++ Taken a ∷ []))) (sym (f ∙ ap (λ t. t ++ line) e ∙ append_assoc text free line))
        (lines_joined IsLine sofar.done (free_if left a.start ++ Taken a ∷ []) text (free ++ line) sofar.each
        (lines_joined IsLine (free_if left a.start) (Taken a ∷ []) free line its (one_line IsLine (Taken a) line is)));
    split = joined_last sofar.done (free_if left a.start) (woven (int_max left a.end) until rest) (Taken a) ∙ sofar.split;
  }

  -- one more instance of those in a list, and what is free before it
  pub next_lines : {A : Type 0} (view : A → Instance) (items : List A) (k : ℕ) (d : A) (left next : ℤ) (text one two free line : List ℕ) → k < length items
      → AreLinesSofar IsLine left until (map view (drop k items)) all text → LinesOf IsLine (free_if left (view (get_or items k d)).start) free → one ≡ text ++ free
      → IsLine (Taken (view (get_or items k d))) line → two ≡ one ++ line → next ≡ int_max left (view (get_or items k d)).end
      → AreLinesSofar IsLine next until (map view (drop (k + 1) items)) all two
  next_lines view items k d left next text one two free line below sofar its e is f g =
      let a = view (get_or items k d) in
      let up : suc k ≡ k + 1 = omega arith in
      let split : map view (drop k items) ≡ a ∷ map view (drop (k + 1) items) = ap (map view) (drop-cons items k d below) ∙ ap (λ n. a ∷ map view (drop n items)) up in
      subst (λ n. AreLinesSofar IsLine n until (map view (drop (k + 1) items)) all two) (sym g)
      (one_more left a (map view (drop (k + 1) items)) text one two free line (subst (λ (l : List Instance). AreLinesSofar IsLine left until l all text) split sofar) its e is f)

  -- what is free behind the last
  pub last_lines : (left : ℤ) (text new free : List ℕ) → AreLinesSofar IsLine left until [] all text → LinesOf IsLine (free_if left until) free → new ≡ text ++ free → LinesOf IsLine all new
  last_lines left text new free sofar its e =
      subst (λ (l : List Block). LinesOf IsLine l new) sofar.split (subst (LinesOf IsLine (sofar.done ++ free_if left until)) (sym e) (lines_joined IsLine sofar.done (free_if left until) text free sofar.each its))

-- ---- the beginning of a page, by the texts in it

abbrev pub opening_with : List ℕ → List ℕ → List ℕ → List ℕ → List ℕ
opening_with title style name words =
    joined (codes "<!doctype html>\n<html lang=\"en\">\n<head>\n<meta charset=\"utf-8\">\n<meta name=\"viewport\" content=\"width=device-width\">\n<title>" ∷ title
    ∷ codes "</title>\n<style>\n" ∷ style ∷ codes "</style>\n</head>\n<body>\n<header>\n<h1>" ∷ name ∷ codes "</h1>\n<p>" ∷ words ∷ codes "</p>\n</header>\n<main>\n" ∷ [])
