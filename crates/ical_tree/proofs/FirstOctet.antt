-- A line that begins with another letter than BEGIN and END do is neither.
use Rattle.std.proofs.Common.{◌≡◌, ℕ, zero, suc, true, false, ◌||◌, eqb, List, [], ◌∷◌, take, codes, refl, ap, sym, ◌∙◌, arith}
use Rattle.std.specs.Char.{to_ascii_lowercase}
use Rattle.std.proofs.lemmas.Bool.Decides.{nat_tests, eqb_tells}
use Rattle.profile.specs.text.Lines.{is_same_name}
use Rattle.profile.specs.text.Objects.{is_begin, is_end, is_property}
use Rattle.ical_tree.specs.Reading.{may_pair}
use Rattle.ical_tree.proofs.BuiltLemmas.{plain}

-- a name that is cut from the front of a line begins with the line's first octet
not_begin : (a b c : ℕ) (cs : List ℕ) → eqb (to_ascii_lowercase c) 98 ≡ false → is_same_name (take a (take b (c ∷ cs))) (codes "BEGIN") ≡ false
not_begin zero b c cs h = refl
not_begin (suc a) zero c cs h = refl
not_begin (suc a) (suc b) c cs h = rw h refl

not_end : (a b c : ℕ) (cs : List ℕ) → eqb (to_ascii_lowercase c) 101 ≡ false → is_same_name (take a (take b (c ∷ cs))) (codes "END") ≡ false
not_end zero b c cs h = refl
not_end (suc a) zero c cs h = refl
not_end (suc a) (suc b) c cs h = rw h refl

other_b : (c : ℕ) → (eqb c 66 || eqb c 98 || eqb c 69 || eqb c 101) ≡ false → eqb (to_ascii_lowercase c) 98 ≡ false
other_b c h = grind (arith, nat_tests, eqb_tells)

other_e : (c : ℕ) → (eqb c 66 || eqb c 98 || eqb c 69 || eqb c 101) ≡ false → eqb (to_ascii_lowercase c) 101 ≡ false
other_e c h = grind (arith, nat_tests, eqb_tells)

pub other_first : (line : List ℕ) → may_pair line ≡ false → is_property line ≡ true
other_first [] h = refl
other_first (c ∷ cs) h = plain (c ∷ cs) (not_begin _ _ c cs (other_b c h)) (not_end _ _ c cs (other_e c h))

-- one that was asked for both names is neither
pub neither : (text asked : List ℕ) → asked ≡ text → false ≡ is_begin asked → false ≡ is_end asked → is_property text ≡ true
neither text asked e b h = plain text (ap is_begin (sym e) ∙ sym b) (ap is_end (sym e) ∙ sym h)
