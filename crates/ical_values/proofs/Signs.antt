-- The sign of a duration.
use Rattle.std.proofs.Common.{◌≡◌, ◌∙◌, ℕ, ◌<◌, ◌^◌, inl, inr, List, ◌∷◌, refl, sym, arith}
use Rattle.ical_values.proofs.Parts.{head, tail}
use Rattle.profile.specs.text.Values.{SpellsUnsigned, SpellsDuration, SpellsNegative, SpellsLong}
use Rattle.ical_values.specs.Counts.{CountsUnsigned, SpellsLongBody}

-- counts that fit 32 bits are those of the text
pub fitted : (text : List ℕ) (d s days seconds : ℕ) → CountsUnsigned text d s → days ≡ d → seconds ≡ s → days < 2 ^ 32 → seconds < 2 ^ 32 → SpellsUnsigned text days seconds
fitted text d s days seconds (x, y, u, e, f) g h small little =
    let p : x ≡ days = omega arith in
    let q : y ≡ seconds = omega arith in
    rw (p, q) at u

pub plus_reads : (text body : List ℕ) (days seconds : ℕ) → text ≡ 43 ∷ body → SpellsUnsigned body days seconds → SpellsDuration text days seconds
plus_reads text body days seconds e u = (body, u, inr e)

pub plus_none : (text body : List ℕ) → text ≡ 43 ∷ body → ((days seconds : ℕ) → SpellsUnsigned body days seconds → ⊥) → (days seconds : ℕ) → SpellsDuration text days seconds → ⊥
plus_none text body e f days seconds (b, u, inl g) =
    absurd (omega (arith, head 43 80 body u.0 (sym e ∙ g ∙ u.2)))
plus_none text body e f days seconds (b, u, inr g) = f days seconds (rw (tail 43 43 b body (sym g ∙ e)) at u)

pub plus_long : (text body : List ℕ) → text ≡ 43 ∷ body → SpellsLongBody body → SpellsLong text
plus_long text body e (days, seconds, u, k) = (days, seconds, (body, u, inr e), k)

pub bare_reads : (text : List ℕ) (days seconds : ℕ) → SpellsUnsigned text days seconds → SpellsDuration text days seconds
bare_reads text days seconds u = (text, u, inl refl)

pub bare_none : (text : List ℕ) → ((rest : List ℕ) → text ≡ 43 ∷ rest → ⊥) → ((days seconds : ℕ) → SpellsUnsigned text days seconds → ⊥) → (days seconds : ℕ) → SpellsDuration text days seconds → ⊥
bare_none text plus f days seconds (b, u, inl g) = f days seconds (rw (← g) at u)
bare_none text plus f days seconds (b, u, inr g) = plus b g

pub bare_not_negative : (text : List ℕ) → ((rest : List ℕ) → text ≡ 45 ∷ rest → ⊥) → SpellsNegative text → ⊥
bare_not_negative text minus (b, days, seconds, u, g) = minus b g

pub bare_long : (text : List ℕ) → SpellsLongBody text → SpellsLong text
bare_long text (days, seconds, u, k) = (days, seconds, (text, u, inl refl), k)

pub minus_none : (text body : List ℕ) → text ≡ 45 ∷ body → ((days seconds : ℕ) → SpellsUnsigned body days seconds → ⊥) → SpellsNegative text → ⊥
minus_none text body e f (b, days, seconds, u, g) = f days seconds (rw (tail 45 45 b body (sym g ∙ e)) at u)
