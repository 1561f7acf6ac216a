-- Where nothing clashes, two confirmed instances that share an instant are one.
use Rattle.std.proofs.Common.{◌≡◌, ℕ, ℤ, List, inl, inr}
use Rattle.std.specs.Prelude.{Contains, ◌<ℤ◌}
use Rattle.profile.specs.checker.Calendars.{CertificateHolds, SpellsCalendar, IsConfirmedIn}
use Rattle.profile.specs.checker.Certificates.{CertificateHoldsFor}
use Rattle.profile.specs.events.Spans.{AreSaidSeries}
use Rattle.profile.specs.events.Confirmed.{Confirmed, IsInSeries, IsOneOf}
use Rattle.profile.specs.checker.Instances.{Instance, AreClear, IsWithin, horizon}
use Rattle.cal_events.proofs.draft_lemmas.KeyLemmas.{same_or_other}

-- what is confirmed isn't neither a single nor of a series
one_of : (all : Confirmed) (instance : Instance) → ((IsInSeries all.series instance → ⊥) → Contains all.singles instance) → (IsOneOf all instance → ⊥) → ⊥
one_of all instance single neither = neither (inl (single (λ series. neither (inr series))))

pub free : ((all : Confirmed) (text : List ℕ) → AreSaidSeries all.series → CertificateHoldsFor all text → AreClear (IsOneOf all) (IsOneOf all))
    → ((room octets : List ℕ) (all : Confirmed) → SpellsCalendar room octets all → AreSaidSeries all.series)
    → ((room octets : List ℕ) (all : Confirmed) (instance : Instance) → SpellsCalendar room octets all → IsConfirmedIn room octets instance → (IsInSeries all.series instance → ⊥)
    → Contains all.singles instance)
    → ((room octets : List ℕ) (all : Confirmed) (a b : Instance) → SpellsCalendar room octets all → IsConfirmedIn room octets a → IsConfirmedIn room octets b → a.key ≡ b.key → a ≡ b)
    → (room calendar certificate : List ℕ) → CertificateHolds room calendar certificate → (a b : Instance) → IsConfirmedIn room calendar a → IsConfirmedIn room calendar b
    → (t : ℤ) → IsWithin a.start a.end t → IsWithin b.start b.end t → t <ℤ horizon → a ≡ b
free clear said single one room calendar certificate holds a b in_a in_b t at_a at_b before =
    elim (same_or_other a.key b.key) [
      | inl same ↦ one room calendar holds.confirmed a b holds.spells in_a in_b same
      | inr differ ↦ absurd (one_of holds.confirmed a (single room calendar holds.confirmed a holds.spells in_a)
          (λ is_a. one_of holds.confirmed b (single room calendar holds.confirmed b holds.spells in_b)
          (λ is_b. clear holds.confirmed certificate (said room calendar holds.confirmed holds.spells) holds.holds a b t is_a is_b (record { differ = differ; before = before; in_first = at_a; in_second = at_b }))))
    ]
