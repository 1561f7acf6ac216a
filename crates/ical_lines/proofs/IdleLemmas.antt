-- Octets that change nothing: those of a line that doesn't end the object.
use Rattle.std.proofs.Common.{◌≡◌, ◌∙◌, ℕ, zero, suc, ◌<◌, Bool, true, false, nat_eq, Option, Some, None, List, [], ◌∷◌, ◌++◌, length, take, get_or, refl, sym, ap, subst, arith}
use Rattle.std.proofs.lemmas.Bool.{false_from_ne_true}
use Rattle.std.proofs.lemmas.Bool.Decides.{nat_tests}
use Rattle.std.specs.Prelude.{unwrap_or}
use Rattle.memchr.specs.Find.{IsFirstByte, is_byte2}
use Rattle.ical_lines.specs.declared.object_end.Cutter.{Cutter}
use Rattle.ical_lines.specs.declared.object_end.CutPlace.{CutPlace}
use Rattle.ical_lines.specs.declared.object_end.CutPlace.TheVariants.{Line}
use Rattle.ical_lines.specs.declared.object_end.Seen.{Seen}
use Rattle.ical_lines.specs.declared.object_end.Seen.TheVariants.{Other}
use Rattle.ical_lines.specs.Cut.{ChangeNothing, step, rest_after, begun_after}

-- inside a line that is something else
abbrev beside : Cutter
beside = record { place = Line; seen = Other; begun = true }

stays : (b : ℕ) → is_byte2 13 10 b ≡ false → step beside b ≡ beside
stays b none =
    let feed : nat_eq b 10 ≡ false = grind (arith, nat_tests, none) in
    let back : nat_eq b 13 ≡ false = grind (arith, nat_tests, none) in
    rw (feed, back) refl

nothing : (s : Cutter) → ChangeNothing s []
nothing s = record { rest = λ more. refl; begun = λ more. refl }

-- up to the first CR or LF
front : (xs : List ℕ) (i : ℕ) → ((k : ℕ) → k < i → k < length xs → is_byte2 13 10 (get_or xs k 0) ≡ false) → ChangeNothing beside (take i xs)
front xs zero none = nothing beside
front [] (suc i) none = nothing beside
front (x ∷ xs) (suc i) none =
    let same = stays x (none 0 (omega arith) (omega arith)) in
    let others = front xs i (λ k l h. none (suc k) (omega arith) (omega arith)) in
    record {
      rest = λ more. ap (λ s. rest_after s (take i xs ++ more)) same ∙ others.rest more;
      begun = λ more. ap (λ s. begun_after s (take i xs ++ more)) same ∙ others.begun more;
    }

found : (xs : List ℕ) (r : Option ℕ) → IsFirstByte (is_byte2 13 10) xs r → ChangeNothing beside (take (unwrap_or r (length xs)) xs)
found xs (Some i) h = front xs i (λ k l in_range. false_from_ne_true (is_byte2 13 10 (get_or xs k 0)) (h.0.before k (omega arith) l))
found xs None h = front xs (length xs) (λ k l in_range. false_from_ne_true (is_byte2 13 10 (get_or xs k 0)) (h k (omega arith) in_range))

abbrev of : CutPlace → Seen → Bool → Cutter
of place seen begun = record { place = place; seen = seen; begun = begun }

pub idle_front : (s : Cutter) (xs : List ℕ) (r : Option ℕ) (n : ℕ) → s.place ≡ Line → s.seen ≡ Other → s.begun ≡ true → IsFirstByte (is_byte2 13 10) xs r → n ≡ unwrap_or r (length xs) → ChangeNothing s (take n xs)
idle_front s xs r n place seen begun h is =
    let at : s ≡ beside = ap (λ p. of p s.seen s.begun) place ∙ ap (λ q. of Line q s.begun) seen ∙ ap (of Line Other) begun in
    subst (λ z. ChangeNothing z (take n xs)) (sym at) (subst (λ m. ChangeNothing beside (take m xs)) (sym is) (found xs r h))
