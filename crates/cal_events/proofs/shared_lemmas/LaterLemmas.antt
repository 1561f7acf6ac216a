-- Which of some VEVENTs isn't the first, by the numbers of their BEGINs.
use Rattle.std.proofs.Common.{◌≡◌, ◌∙◌, ℕ, zero, suc, ◌+◌, ◌<◌, List, [], ◌∷◌, ◌++◌, length, map, get_or, take, drop, subst, sym, refl, ap, arith, inl, inr, Option}
use Rattle.std.specs.Prelude.{Contains}
use Rattle.std.proofs.lemmas.List.{get_or_default, length-map, length-take-le, take-append-drop}
use Rattle.ical_tree.proofs.OneLine.{at_place}
use Rattle.ical_lines.specs.Fault.{RefusesWhere}
use Rattle.ical_lines.specs.declared.fault.Fault.{Fault}
use Rattle.ical_lines.specs.declared.fault.Fault.TheVariants.{Refused, Memory}
use Rattle.profile.specs.faults.Blame.{Numbered}
use Rattle.profile.specs.series.ZoneBlame.{NumberedZone}
use Rattle.profile.specs.events.EventBlame as blame
use Rattle.profile.specs.events.EventBlame.{EventsBlame}
use Rattle.profile.specs.events.EventComponents.{Method}
use Rattle.cal_events.specs.Begins.{begins_of, BetweenBlame, IsLater}
use Rattle.cal_events.specs.declared.component.EventComponent.{EventComponent}

later_in : (xs : List ℕ) (k : ℕ) (x : ℕ) → k < length xs → x ≡ get_or xs k x → 0 < k → IsLater xs x
later_in xs k x w e first = record {
  before = take k xs;
  after = drop (k + 1) xs;
  are = sym (take-append-drop k xs) ∙ ap (λ z. take k xs ++ z) (at_place xs k x w e);
  some = subst (λ n. 0 < n) (sym (length-take-le k xs (omega (arith, w)))) first;
}

pub later_place : (xs : List ℕ) (k d : ℕ) → k < length xs → 0 < k → IsLater xs (get_or xs k d)
later_place xs k d w first = later_in xs k (get_or xs k d) w (sym (get_or_default xs k (get_or xs k d) d w)) first

begins_at : (all : List EventComponent) (i : ℕ) (x : EventComponent) → i < length all → x ≡ get_or all i x → x.begun ≡ get_or (begins_of all) i x.begun
begins_at [] i x w e = absurd (omega (arith, w))
begins_at (y ∷ all) zero x w e = ap (λ z. z.begun) e
begins_at (y ∷ all) (suc i) x w e = begins_at all i x (omega (arith, w)) e

pub later_at : (all : List EventComponent) (i : ℕ) (x : EventComponent) → i < length all → x ≡ get_or all i x → 0 < i → IsLater (begins_of all) x.begun
later_at all i x w e first =
    later_in (begins_of all) i x.begun (subst (λ n. i < n) (sym (length-map all (λ event. event.begun))) w) (begins_at all i x w e) first

pub later_other : (all : List EventComponent) (first : EventComponent) (others : List EventComponent) (at : ℕ) → all ≡ first ∷ others → Contains (begins_of others) at
    → IsLater (begins_of all) at
later_other all first others at are (k, w, e) =
    subst (λ (l : List EventComponent). IsLater (begins_of l) at) (sym are) (later_in (begins_of (first ∷ others)) (suc k) at (omega (arith, w)) (sym e) (omega arith))

-- ---- the VEVENTs themselves

abbrev begins : List Numbered → List ℕ
begins events = map (λ event. event.begun) events

-- they are divided as their BEGINs are
divided : (events : List Numbered) (before after : List ℕ) (at : ℕ) → begins events ≡ before ++ at ∷ after
    → (front : List Numbered) × (event : Numbered) × (back : List Numbered) × (events ≡ front ++ event ∷ back) × (event.begun ≡ at) × (length front ≡ length before)
divided [] [] after at e = cc
divided [] (b ∷ before) after at e = cc
divided (x ∷ xs) [] after at e =
    let is : x.begun ≡ at = cc in ([], x, xs, refl, is, refl)
divided (x ∷ xs) (b ∷ before) after at e =
    let rest : begins xs ≡ before ++ at ∷ after = cc in
    let d = divided xs before after at rest in
    (x ∷ d.0, d.1, d.2, ap (λ z. x ∷ z) d.3, d.4, ap suc d.5)

none_begin : (events : List Numbered) → begins events ≡ [] → events ≡ []
none_begin [] e = refl
none_begin (x ∷ xs) e = cc

-- a refusal between them is one at its VEVENT
pub between_blamed : (m : Option Method) (zones : List NumberedZone) (events : List Numbered) (all : List ℕ) (f : Fault) → all ≡ begins events
    → RefusesWhere (BetweenBlame all) f → RefusesWhere (EventsBlame m zones events) f
between_blamed m zones events all Memory are h = tt
between_blamed m zones events all (Refused r) are (inl (n, at, none)) = rw (n, at) (blame.none (none_begin events (sym are ∙ none)))
between_blamed m zones events all (Refused r) are (inr (contradicts, later)) =
    let d = divided events later.before later.after r.line (sym are ∙ later.are) in
    subst (λ at. EventsBlame m zones events r.number at) d.4
    (blame.second d.0 d.2 d.1 d.3 (subst (λ n. 0 < n) (sym d.5) later.some) contradicts)
