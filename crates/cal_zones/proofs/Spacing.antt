-- Onsets that keep apart through 400 years keep apart for ever.
use Rattle.std.proofs.Common.{◌≡◌, ◌∙◌, ap, sym, refl, inl, inr, ℕ, zero, suc, ◌+◌, ◌-◌, ◌*◌, ◌/◌, ◌<◌, ◌≤◌, arith, ℤ, unsigned_abs, ◌+ℤ◌, ◌-ℤ◌, ◌⊎◌, pos, true, subst, Some}
use Rattle.std.proofs.lemmas.Int.{by_lt_z}
use Rattle.std.proofs.lemmas.Bool.{cases_order, cases_lt}
use Rattle.std.proofs.lemmas.Option.{same_Some}
use Rattle.jiff_core.proofs.SignedLemmas.{signed_arith, one_part}
use Rattle.profile.specs.series.Days.{year_of, year_start}
use Rattle.profile.specs.text.Values.{IsOffset}
use Rattle.profile.specs.series.Zones.{local_time}
use Rattle.cal_days.proofs.Dates.{named_later, year_begins, year_ends}
use Rattle.cal_zones.specs.Yearly.{IsOn, IsDayOfYear}
use Rattle.profile.specs.series.Rules.{Pattern, is_base}
use Rattle.profile.specs.series.ZoneTexts.{AreSpaced, AreClose}
use Rattle.cal_zones.specs.Shapes.{yearly_pattern}
use Rattle.cal_zones.specs.Onsets.{yearly_rule}
use Rattle.cal_zones.specs.Kinds.{pair_of}
use Rattle.cal_zones.specs.Spaced.{IsApart, IsYearSpaced, IsSpaced, HasNear}
use Rattle.cal_zones.specs.Apart.{NeverAtOnce}
use Rattle.cal_zones.proofs.OneDay.{one_a_year, on_later, on_cycles_earlier, year_start_grows}
use Rattle.cal_zones.proofs.Bases.{base_is}
use Rattle.cal_zones.proofs.Onsets.{begins_is}
use Rattle.cal_zones.specs.declared.yearly.Yearly.{Yearly}
use Rattle.cal_zones.specs.declared.observance.Observance.{Observance}

pub apart_by : (a b : Observance) (n m : ℕ) (x y : ℤ) → x +ℤ a.offset_from ≡ local_time n a.second → y +ℤ b.offset_from ≡ local_time m b.second → 172_800 ≤ unsigned_abs (x -ℤ y) → IsApart a b n m
apart_by a b n m x y e f far u v g h =
    let same : u ≡ x = omega (arith, signed_arith) in
    let other : v ≡ y = omega (arith, signed_arith) in
    let size = one_part (x -ℤ y) in
    by_lt_z u v (λ lt. inl (omega (arith, signed_arith))) (λ ge. inr (omega (arith, signed_arith)))

-- in each of three years the second has one day
year_by : (a b : Observance) (second : Yearly) (year day n m k : ℕ) → IsDayOfYear second k day → year_of m ≡ k → IsOn second m → IsApart a b n day → IsApart a b n m
year_by a b second year day n m k h e on apart =
    let same : m ≡ day = one_a_year second m day on h.on (e ∙ sym h.in_year) in
    rw same apart

pub year_spaced : (a b : Observance) (first second : Yearly) (year day before same after : ℕ) → 2 ≤ year → IsDayOfYear first year day → IsDayOfYear second (year - 1) before → IsDayOfYear second year same → IsDayOfYear second (year + 1) after → IsApart a b day before → IsApart a b day same → IsApart a b day after → IsYearSpaced a b first second year
year_spaced a b first second year day before same after late h i j k p q r n m on e there low high =
    let n_is : n ≡ day = one_a_year first n day on h.on (e ∙ sym h.in_year) in
    rw n_is (
    elim (cases_order (year_of m) year) [
      | inl x ↦ year_by a b second year same day m year j x there q
      | inr (inl lt) ↦ let x : year_of m ≡ year - 1 = omega arith in year_by a b second year before day m (year - 1) i x there p
      | inr (inr gt) ↦ let x : year_of m ≡ year + 1 = omega arith in year_by a b second year after day m (year + 1) k x there r
    ])

pub more_spaced : (a b : Observance) (first second : Yearly) (end : ℕ) → IsSpaced a b first second end → IsYearSpaced a b first second end → IsSpaced a b first second (end + 1)
more_spaced a b first second end before here year from lt =
    elim (cases_order year end) [
      | inl e ↦ rw e here
      | inr (inl less) ↦ before year from less
      | inr (inr more) ↦ absurd (omega arith)
    ]

-- years and cycles
year_cycles : (n cycles : ℕ) → year_of (n + 146_097 * cycles) ≡ year_of n + 400 * cycles
year_cycles n zero = let e : n + 146_097 * 0 ≡ n = omega arith in rw e (omega arith)
year_cycles n (suc cycles) =
    let e : n + 146_097 * suc cycles ≡ n + 146_097 * cycles + 146_097 = omega arith in
    rw e (omega (arith, (named_later (n + 146_097 * cycles)).year, year_cycles n cycles))

year_close : (n m : ℕ) → m ≤ n + 4 → year_of m ≤ year_of n + 1
year_close n m h =
    elim (cases_lt (year_of n + 1) (year_of m)) [
      | inl lt ↦
          let grows = year_start_grows (year_of n + 2) (year_of m) (omega arith) in
          let year : year_start (suc (year_of n)) + 365 ≤ year_start (year_of n + 2) = omega arith in
          absurd (omega (arith, year_ends n, year_begins m))
      | inr ge ↦ ge
    ]

-- onsets on days that are far from each other, and the same 400 years later
far_days : (n m s r : ℕ) (x y p q : ℤ) → x +ℤ p ≡ local_time n s → y +ℤ q ≡ local_time m r → s < 86_400 → r < 86_400 → IsOffset p → IsOffset q → (n + 4 < m) ⊎ (m + 4 < n) → 172_800 ≤ unsigned_abs (x -ℤ y)
far_days n m s r x y p q e f g h i j (inl far) = let size = one_part (x -ℤ y) in omega (arith, signed_arith, i, j)
far_days n m s r x y p q e f g h i j (inr far) = let size = one_part (x -ℤ y) in omega (arith, signed_arith, i, j)

apart_later : (a b : Observance) (n m k l cycles : ℕ) (x y : ℤ) → x +ℤ a.offset_from ≡ local_time n a.second → y +ℤ b.offset_from ≡ local_time m b.second → k + 146_097 * cycles ≡ n + 146_097 → l + 146_097 * cycles ≡ m + 146_097 → IsApart a b k l → 172_800 ≤ unsigned_abs (x -ℤ y)
apart_later a b n m k l cycles x y e f g h apart =
    let u : ℤ = local_time k a.second -ℤ a.offset_from in
    let v : ℤ = local_time l b.second -ℤ b.offset_from in
    let size = one_part (x -ℤ y) in
    elim (apart u v (omega (arith, signed_arith)) (omega (arith, signed_arith))) [
      | inl w ↦ omega (arith, signed_arith)
      | inr w ↦ omega (arith, signed_arith)
    ]

year_cycle : (cycles : ℕ) → year_start (400 * cycles + 401) ≡ 146_097 * cycles + 146_463
year_cycle zero = refl
year_cycle (suc cycles) = let e : 400 * suc cycles + 401 ≡ 400 * cycles + 401 + 400 = omega arith in rw e (omega (arith, year_cycle cycles))

close_apart : (a b : Observance) (first second : Yearly) (n m : ℕ) (x y : ℤ) → IsSpaced a b first second 801 → IsOn first n → IsOn second m → 1 ≤ year_of n → m ≤ n + 4 → n ≤ m + 4 → x +ℤ a.offset_from ≡ local_time n a.second → y +ℤ b.offset_from ≡ local_time m b.second → 172_800 ≤ unsigned_abs (x -ℤ y)
close_apart a b first second n m x y spaced on there positive up down e f =
    let cycles = (year_of n - 1) / 400 in
    let later : year_of (n + 146_097) ≡ year_of n + 400 = (named_later n).year in
    let begins = year_begins (n + 146_097) in
    let room : 146_097 * cycles + 146_000 ≤ n + 146_097 = omega (arith, year_start_grows (400 * cycles + 401) (year_of n + 400) (omega arith), year_cycle cycles) in
    let k = n + 146_097 - 146_097 * cycles in
    let l = m + 146_097 - 146_097 * cycles in
    let k_is : k + 146_097 * cycles ≡ n + 146_097 = omega arith in
    let l_is : l + 146_097 * cycles ≡ m + 146_097 = omega arith in
    let k_on = on_cycles_earlier first k cycles (rw k_is (on_later first n on)) in
    let l_on = on_cycles_earlier second l cycles (rw l_is (on_later second m there)) in
    let year : year_of k + 400 * cycles ≡ year_of n + 400 = sym (year_cycles k cycles) ∙ ap year_of k_is ∙ later in
    apart_later a b n m k l cycles x y e f k_is l_is (spaced (year_of k) (omega arith) (omega arith) k l k_on refl l_on (year_close k l (omega arith)) (year_close l k (omega arith)))

-- also in the year 0, which is as the year 400
early_apart : (a b : Observance) (first second : Yearly) (n m : ℕ) (x y : ℤ) → IsSpaced a b first second 801 → IsOn first n → IsOn second m → year_of n < 1 → m ≤ n + 4 → n ≤ m + 4 → x +ℤ a.offset_from ≡ local_time n a.second → y +ℤ b.offset_from ≡ local_time m b.second → 172_800 ≤ unsigned_abs (x -ℤ y)
early_apart a b first second n m x y spaced on there early up down e f =
    let u : ℤ = x +ℤ pos 12_622_780_800 in
    let v : ℤ = y +ℤ pos 12_622_780_800 in
    let later : year_of (n + 146_097) ≡ year_of n + 400 = (named_later n).year in
    let same : u -ℤ v ≡ x -ℤ y = omega (arith, signed_arith) in
    let far = close_apart a b first second (n + 146_097) (m + 146_097) u v spaced (on_later first n on) (on_later second m there) (omega arith) (omega arith) (omega arith) (omega (arith, signed_arith)) (omega (arith, signed_arith)) in
    rw same at far

pub all_apart : (a b : Observance) (first second : Yearly) (n m : ℕ) (x y : ℤ) → IsSpaced a b first second 801 → IsOn first n → IsOn second m → x +ℤ a.offset_from ≡ local_time n a.second → y +ℤ b.offset_from ≡ local_time m b.second → 172_800 ≤ unsigned_abs (x -ℤ y)
all_apart a b first second n m x y spaced on there e f =
    elim (cases_lt (n + 4) m) [
      | inl far ↦ far_days n m a.second b.second x y a.offset_from b.offset_from e f a.starts.2 b.starts.2 a.from b.from (inl far)
      | inr down ↦
          elim (cases_lt (m + 4) n) [
            | inl far ↦ far_days n m a.second b.second x y a.offset_from b.offset_from e f a.starts.2 b.starts.2 a.from b.from (inr far)
            | inr up ↦
                elim (cases_lt (year_of n) 1) [
                  | inl early ↦ early_apart a b first second n m x y spaced on there early down up e f
                  | inr positive ↦ close_apart a b first second n m x y spaced on there positive down up e f
                ]
          ]
    ]

pub never_at_once : (a b : Observance) (first second : Yearly) → a.rule ≡ Some first → b.rule ≡ Some second → IsSpaced a b first second 801 → NeverAtOnce a b
never_at_once a b first second e f spaced x y h j same =
    let on = begins_is a first h.day e h.begins in
    let there = begins_is b second j.day f j.begins in
    let far = all_apart a b first second h.day j.day x.instant y.instant spaced on.1 there.1 h.read j.read in
    let size = one_part (x.instant -ℤ y.instant) in
    absurd (omega (arith, signed_arith))

-- as those who see the rules as they are written say it
rule_day : (o : Observance) (r : Yearly) (parts : Pattern) (n : ℕ) → o.rule ≡ Some r → yearly_rule o.day o.rule ≡ Some parts → is_base parts n ≡ true → IsOn r n
rule_day o r parts n e f b =
    let g : yearly_rule o.day (Some r) ≡ Some parts = rw e at f in
    let same : yearly_pattern r.month r.days o.day ≡ parts = same_Some _ _ g in
    (base_is r o.day n).0 (subst (λ (p : Pattern). is_base p n ≡ true) (sym same) b)

pub pair_spaced : (a b : Observance) (first second : Yearly) → a.rule ≡ Some first → b.rule ≡ Some second → IsSpaced a b first second 801 → AreSpaced (pair_of a b)
pair_spaced a b first second e f spaced x y h j =
    all_apart a b first second h.day j.day x y spaced (rule_day a first h.parts h.day e h.rule h.on) (rule_day b second j.parts j.day f j.rule j.on) h.read j.read

pub pair_close : (a b : Observance) (first second : Yearly) → a.rule ≡ Some first → b.rule ≡ Some second → HasNear a b first second → AreClose (pair_of a b)
pair_close a b first second e f (n, m, on, there, (x, y, g, h, near)) = (
  x,
  y,
  record { parts = yearly_pattern first.month first.days a.day; rule = ap (yearly_rule a.day) e; day = n; on = (base_is first a.day n).1 on; read = g },
  record { parts = yearly_pattern second.month second.days b.day; rule = ap (yearly_rule b.day) f; day = m; on = (base_is second b.day m).1 there; read = h },
  near,
)
