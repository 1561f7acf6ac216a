-- The local time from which the days of an event are counted: of a whole day its midnight where that means the instant, also where the clocks
-- skip it.
-- Cited by day_from of event_times.
use Rattle.std.proofs.Common.{◌≡◌, ◌∙◌, ℕ, ◌*◌, ◌/◌, ◌%◌, ◌<◌, subst, sym, refl, inl, inr, ◌⊎◌, arith, ℤ, pos, negsuc, ◌+ℤ◌, ◌-ℤ◌, ◌≤ℤ◌, ◌<ℤ◌}
use Rattle.std.specs.Int.{int_rem_euclid}
use Rattle.std.proofs.lemmas.Int.{ints, by_lt_z, int_rem_euclid_is}
use Rattle.profile.specs.series.Zones.{Zone, IsOffsetAt, IsOneOffset, IsOneMeaning, IsBounds, Shows, Means, local_time}
use Rattle.profile.specs.events.Properties.{Form, Fixed, Floating, WholeDay}
use Rattle.profile.specs.events.Starts.{IsMidnightOf, IsCountedFrom}
use Rattle.cal_events.specs.Clocks.{IsSteady}

-- ---- the midnight of a local time

abbrev pub IsSecondOfDay : ℤ → Type 0
IsSecondOfDay second = (pos 0 ≤ℤ second) × (second <ℤ pos 86_400)

pub midnight_by : (shown : ℤ) → negsuc 62_167_219_199 ≤ℤ shown → IsMidnightOf (shown -ℤ int_rem_euclid shown (pos 86_400)) shown × IsSecondOfDay (int_rem_euclid shown (pos 86_400))
midnight_by shown from = go (shown +ℤ pos 62_167_219_200) refl
  where
    go : (since : ℤ) → shown +ℤ pos 62_167_219_200 ≡ since → IsMidnightOf (shown -ℤ int_rem_euclid shown (pos 86_400)) shown × IsSecondOfDay (int_rem_euclid shown (pos 86_400))
    go (pos n) e =
        let rest : int_rem_euclid shown (pos 86_400) ≡ pos (n % 86_400) = int_rem_euclid_is shown (pos 86_400) 86_400 719_528 n (omega arith) refl e in
        let small : n % 86_400 < 86_400 = omega arith in
        let on : shown ≡ local_time (n / 86_400) (n % 86_400) = omega (arith, ints, e) in
        let midnight : shown -ℤ int_rem_euclid shown (pos 86_400) ≡ local_time (n / 86_400) 0 = omega (arith, ints, on, rest) in
        ((n / 86_400, n % 86_400, (small, on), midnight), (omega (arith, ints, rest), omega (arith, ints, rest, small)))
    go (negsuc n) e = absurd (omega (arith, ints, e, from))

midnight_one : (a b m n : ℤ) → a ≡ b → IsMidnightOf m a → IsMidnightOf n b → m ≡ n
midnight_one a b m n same (d, s, (less, on), is) (e, r, (less', on'), is') =
    let days : d ≡ e = omega (arith, ints, same, less, on, less', on') in
    omega (arith, ints, days, is, is')

-- ---- there is one such local time

shown_one : (z : Zone) (t a b : ℤ) → IsOneOffset z → Shows z t a → Shows z t b → a ≡ b
shown_one z t a b one (o, at, e) (p, there, f) =
    let same : o ≡ p = one t o p at there in
    omega (arith, ints, same, e, f)

pub counted_one : (form : Form) (z : Zone) (t a b : ℤ) → IsOneOffset z → IsCountedFrom form z t a → IsCountedFrom form z t b → a ≡ b
counted_one Fixed z t a b one h k = shown_one z t a b one h k
counted_one Floating z t a b one h k = shown_one z t a b one h k
counted_one WholeDay z t a b one (shown, midnight, at, on, h) (shown', midnight', at', on', k) = go h k
  where
    same : midnight ≡ midnight'
    same = midnight_one shown shown' midnight midnight' (shown_one z t shown shown' one at at') on on'

    go : ((Means z midnight t × (a ≡ midnight)) ⊎ ((Means z midnight t → ⊥) × (a ≡ shown))) → ((Means z midnight' t × (b ≡ midnight')) ⊎ ((Means z midnight' t → ⊥) × (b ≡ shown'))) → a ≡ b
    go (inl (means, e)) (inl (means', f)) = e ∙ same ∙ sym f
    go (inl (means, e)) (inr (not, f)) = absurd (not (subst (λ (x : ℤ). Means z x t) same means))
    go (inr (not, e)) (inl (means, f)) = absurd (not (subst (λ (x : ℤ). Means z x t) (sym same) means))
    go (inr (not, e)) (inr (not', f)) = e ∙ shown_one z t shown shown' one at at' ∙ sym f

decided : (t u : ℤ) → (t ≡ u) ⊎ ((t ≡ u) → ⊥)
decided t u =
    by_lt_z t u (λ less. inr (λ e. omega (arith, ints, less, e)))
    (λ le. by_lt_z u t (λ less. inr (λ e. omega (arith, ints, less, e))) (λ ge. inl (omega (arith, ints, le, ge))))

-- of an instant in the years that are counted
pub counted_there : (form : Form) (z : Zone) (t offset : ℤ) → IsOneMeaning z → ((local : ℤ) → (u : ℤ) × Means z local u) → IsOffsetAt z t offset
    → (local : ℤ) × (negsuc 62_167_219_199 ≤ℤ (t +ℤ offset) → IsCountedFrom form z t local)
counted_there Fixed z t offset one meant at = (t +ℤ offset, λ _. (offset, at, refl))
counted_there Floating z t offset one meant at = (t +ℤ offset, λ _. (offset, at, refl))
counted_there WholeDay z t offset one meant at = go (decided (meant midnight).0 t)
  where
    shown : ℤ
    shown = t +ℤ offset

    midnight : ℤ
    midnight = shown -ℤ int_rem_euclid shown (pos 86_400)

    go : ((meant midnight).0 ≡ t) ⊎ ((meant midnight).0 ≡ t → ⊥) → (local : ℤ) × (negsuc 62_167_219_199 ≤ℤ shown → IsCountedFrom WholeDay z t local)
    go (inl same) = (midnight, λ from. (shown, midnight, (offset, at, refl), (midnight_by shown from).0, inl (subst (Means z midnight) same (meant midnight).1, refl)))
    go (inr differ) = (shown, λ from. (shown, midnight, (offset, at, refl), (midnight_by shown from).0, inr ((λ means. differ (one midnight (meant midnight).0 t (meant midnight).1 means)), refl)))

-- ---- it differs from the instant by the offsets at most

shown_within : (z : Zone) (least greatest t local : ℤ) → IsBounds z least greatest → Shows z t local → ((t +ℤ least) ≤ℤ local) × (local ≤ℤ (t +ℤ greatest))
shown_within z least greatest t local b (offset, at, e) = elim (b.one t offset at) [
  | inl o ↦ (omega (arith, ints, e, o), omega (arith, ints, e, o, b.ordered))
  | inr o ↦ (omega (arith, ints, e, o, b.ordered), omega (arith, ints, e, o))
]

pub means_within : (z : Zone) (least greatest local t : ℤ) → IsBounds z least greatest → Means z local t → ((t +ℤ least) ≤ℤ local) × (local ≤ℤ (t +ℤ greatest))
means_within z least greatest local t b (inl h) = shown_within z least greatest t local b h.shown
means_within z least greatest local t b (inr h) = elim (b.sides h.onset h.listed) [
  | inl e ↦ (omega (arith, ints, e.0, h.read), omega (arith, ints, e.0, h.read, b.ordered))
  | inr e ↦ (omega (arith, ints, e.0, h.read, b.ordered), omega (arith, ints, e.0, h.read))
]

pub counted_within : (form : Form) (z : Zone) (least greatest t local : ℤ) → IsBounds z least greatest → IsCountedFrom form z t local → ((t +ℤ least) ≤ℤ local) × (local ≤ℤ (t +ℤ greatest))
counted_within Fixed z least greatest t local b h = shown_within z least greatest t local b h
counted_within Floating z least greatest t local b h = shown_within z least greatest t local b h
counted_within WholeDay z least greatest t local b (shown, midnight, at, on, inl (means, e)) =
    let w = means_within z least greatest midnight t b means in
    (omega (arith, ints, w.0, e), omega (arith, ints, w.1, e))
counted_within WholeDay z least greatest t local b (shown, midnight, at, on, inr (not, e)) =
    let w = shown_within z least greatest t shown b at in
    (omega (arith, ints, w.0, e), omega (arith, ints, w.1, e))

-- ---- what is days later isn't before it

shown_later : (z : Zone) (days : ℕ) (t u local : ℤ) → IsSteady z → 0 < days → Shows z t local → Means z (local +ℤ pos (86_400 * days)) u → t ≤ℤ u
shown_later z days t u local s some (o, at, e) means =
    let k = s.keeps t o (local +ℤ pos (86_400 * days)) u at means in
    omega (arith, ints, some, k, e)

pub counted_later : (form : Form) (z : Zone) (days : ℕ) (t u local : ℤ) → IsSteady z → 0 < days → IsCountedFrom form z t local → Means z (local +ℤ pos (86_400 * days)) u → t ≤ℤ u
counted_later Fixed z days t u local s some h means = shown_later z days t u local s some h means
counted_later Floating z days t u local s some h means = shown_later z days t u local s some h means
counted_later WholeDay z days t u local s some (shown, midnight, at, on, inl (here, e)) means =
    let later = s.ascends midnight (local +ℤ pos (86_400 * days)) t u here means (omega (arith, ints, some, e)) in
    omega (arith, ints, later)
counted_later WholeDay z days t u local s some (shown, midnight, at, on, inr (not, e)) means =
    shown_later z days t u shown s some at (subst (λ (x : ℤ). Means z (x +ℤ pos (86_400 * days)) u) e means)
