-- Pieces that are appended one after another: for `explain` of an object.
use Rattle.std.proofs.Common.{◌≡◌, ◌∙◌, ap, refl, subst, inl, inr, ℕ, List, ◌++◌, codes, append_assoc}
use Rattle.std.specs.Prelude.{None}
use Rattle.profile.specs.doors.Adapting.{IsAdapted}
use Rattle.sched_cli.specs.Diagnosis.{IsEnding, IsHelp, IsPlaceText, IsReason, place_text, way_text}
use Rattle.fault_places.specs.EventFlaws.{IsFlawIn, flaw_text}
use Rattle.fault_places.specs.InTheWay.{IsInTheWay}
use Rattle.fault_places.specs.declared.event_flaw.PlacedFlaw.{PlacedFlaw}
use Rattle.fault_places.specs.declared.refused_zone.InTheWay.{InTheWay}

pub two_joined : (old one new a b : List ℕ) → one ≡ old ++ a → new ≡ one ++ b → new ≡ old ++ (a ++ b)
two_joined old one new a b e f = f ∙ ap (λ z. z ++ b) e ∙ append_assoc old a b

pub three_joined : (old one two new a b c : List ℕ) → one ≡ old ++ a → two ≡ one ++ b → new ≡ two ++ c → new ≡ old ++ (a ++ (b ++ c))
three_joined old one two new a b c e f g = two_joined one two new b c f g ∙ ap (λ z. z ++ (b ++ c)) e ∙ append_assoc old a (b ++ c)

pub four_joined : (old one two three new a b c d : List ℕ) → one ≡ old ++ a → two ≡ one ++ b → three ≡ two ++ c → new ≡ three ++ d → new ≡ old ++ (a ++ (b ++ (c ++ d)))
four_joined old one two three new a b c d e f g h = three_joined one two three new b c d f g h ∙ ap (λ z. z ++ (b ++ (c ++ d))) e ∙ append_assoc old a (b ++ (c ++ d))

-- what the door makes of the octets: they are handed on as they are, or an object is made
pub helps : (octets old one new : List ℕ) (going_on : List (List ℕ)) (adapted shown : List ℕ) → IsAdapted None octets going_on adapted → shown ≡ adapted
    → one ≡ old ++ codes " `roombox adapt` makes an object of it that is " → (ending : List ℕ) × IsEnding shown ending × (new ≡ one ++ ending) → (help : List ℕ) × IsHelp octets help × (new ≡ old ++ help)
helps octets old one new going_on adapted shown is same e (ending, ends, f) =
    let made = codes " `roombox adapt` makes an object of it that is " in
    (made ++ ending, inr (going_on, adapted, ending, is, subst (λ (o : List ℕ). IsEnding o ending) same ends, refl), two_joined old one new made ending e f)

-- the reason: a place or none, and the end of the line; or what is in the way
pub blamed_reason : (octets old one new : List ℕ) (n at : ℕ) → (place : List ℕ) × IsPlaceText octets at place × (one ≡ old ++ place) → new ≡ one ++ codes "\n" → (reason : List ℕ) × IsReason octets n at reason × (new ≡ old ++ reason)
blamed_reason octets old one new n at (place, is, e) f = (place ++ codes "\n", inl (place, is, refl), two_joined old one new place (codes "\n") e f)

pub way_reason : (octets old one two three new : List ℕ) (n at : ℕ) (way : InTheWay) → IsInTheWay octets n way → one ≡ old ++ place_text way.place.line way.place.property.items → two ≡ one ++ codes "\n" → three ≡ two ++ way_text way
    → (help : List ℕ) × IsHelp octets help × (new ≡ three ++ help) → (reason : List ℕ) × IsReason octets n at reason × (new ≡ old ++ reason)
way_reason octets old one two three new n at way is e f g (help, helps, h) =
    let place = place_text way.place.line way.place.property.items in
    (place ++ (codes "\n" ++ (way_text way ++ help)), inr (inl (way, help, is, helps, refl)), four_joined old one two three new place (codes "\n") (way_text way) help e f g h)

pub flaw_reason : (octets old one two new : List ℕ) (n at : ℕ) (flaw : PlacedFlaw) → IsFlawIn octets flaw → (place : List ℕ) × IsPlaceText octets at place × (one ≡ old ++ place) → two ≡ one ++ codes "\n" → new ≡ two ++ flaw_text flaw
    → (reason : List ℕ) × IsReason octets n at reason × (new ≡ old ++ reason)
flaw_reason octets old one two new n at flaw is (place, there, e) f g =
    (place ++ (codes "\n" ++ flaw_text flaw), inr (inr (place, there, flaw, is, refl)), three_joined old one two new place (codes "\n") (flaw_text flaw) e f g)
