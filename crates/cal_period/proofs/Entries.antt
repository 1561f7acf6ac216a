-- Where a series is entered.
use Rattle.std.proofs.Common.{◌≡◌, inl, inr, ◌⊎◌, refl, subst, arith, ℤ, pos, negsuc, ◌*◌, ◌+ℤ◌, ◌-ℤ◌, ◌<ℤ◌, ◌≤ℤ◌, ap, w64}
use Rattle.std.specs.Prelude.{Some, None, option_map, ◌↔◌}
use Rattle.std.specs.Int.{saturate_signed, int_max}
use Rattle.std.proofs.lemmas.Bool.{cases_lt}
use Rattle.std.proofs.lemmas.Int.{ints, by_lt_z}
use Rattle.profile.specs.checker.Instances.{Instance as SaidInstance, horizon}
use Rattle.profile.specs.series.Zones.{Zone, IsOffsetAt, IsBounds, Onset, IsZoneOnset}
use Rattle.profile.specs.events.ZonedTimes.{EventTimes, clock_of}
use Rattle.profile.specs.events.EventComponents.{EventComponent as Said}
use Rattle.profile.specs.events.Events.{Event as SaidEvent}
use Rattle.profile.specs.events.Starts.{IsInstance, EndsAt, IsWidth}
use Rattle.profile.proofs.SeriesRepeats.{meant, counted_within}
use Rattle.cal_events.specs.Calendar.{instance_of}
use Rattle.cal_events.specs.Recurrence.{master_of}
use Rattle.cal_events.specs.Left.{IsLeft, GivesFirst}
use Rattle.cal_events.specs.Series.{series_said, IsMasterOf, AreKnownByStart}
use Rattle.cal_events.specs.declared.instance.Instance.{Instance}
use Rattle.cal_events.specs.declared.instances.Instances.{Instances}
use Rattle.cal_events.specs.declared.series.Series.{Series}
use Rattle.cal_events.proofs.shared_lemmas.OwnSingles.{at_start}
use Rattle.cal_events.proofs.shared_lemmas.SeriesLemmas.{own_master}
use Rattle.cal_period.specs.Walks.{AreAllLeft, AreLeftFrom}
use Rattle.cal_period.specs.Onward.{IsFirstStart, HasBegun, MeetFrom, IsEntryBefore}
use Rattle.cal_period.proofs.Going.{at_first, not_less}

-- ---- how long instances last

-- the offsets of a zone, and those before its onsets, are within its bounds
offsets_within : (z : Zone) (least greatest : ℤ) → IsBounds z least greatest → (t p : ℤ) → IsOffsetAt z t p → (least ≤ℤ p) × (p ≤ℤ greatest)
offsets_within z least greatest b t p at =
    let o = b.ordered in elim (b.one t p at) [ inl e ↦ (omega (arith, ints, e), omega (arith, ints, e, o)) | inr e ↦ (omega (arith, ints, e, o), omega (arith, ints, e)) ]

befores_within : (z : Zone) (least greatest : ℤ) → IsBounds z least greatest → (x : Onset) → IsZoneOnset z x → (least ≤ℤ x.before) × (x.before ≤ℤ greatest)
befores_within z least greatest b x is =
    let o = b.ordered in
    elim (b.sides x is) [
      | inl e ↦ let l = e.0 in (omega (arith, ints, l), omega (arith, ints, l, o))
      | inr e ↦ let g = e.0 in (omega (arith, ints, g, o), omega (arith, ints, g))
    ]

within_width : (times : EventTimes) (n : ℤ) → IsWidth times n → (start end : ℤ) → EndsAt times start end → end ≤ℤ (start +ℤ n)
within_width times n (inl (none, is)) start end (later, inl (z, same), e) = omega (arith, ints, none, is, same, e)
within_width times n (inl (none, is)) start end (later, inr (some, x), e) = absurd (omega (arith, none, some))
within_width times n (inr (some, w)) start end (later, inl (none, x), e) = absurd (omega (arith, none, some))
within_width times n (inr (some, (least, greatest, b, is))) start end (later, inr (days, (local, from_there, means)), e) =
    let z = clock_of times.zone in
    let means_in = meant z least greatest (offsets_within z least greatest b) (befores_within z least greatest b) in
    let first = (counted_within z least greatest (offsets_within z least greatest b) means_in times.form start local from_there).1 in
    let last = (means_in (local +ℤ pos (86_400 * times.length.days)) later means).0 in
    omega (arith, ints, is, first, last, e)

pub no_less : (times : EventTimes) (n : ℤ) → IsWidth times n → pos 0 ≤ℤ n
no_less times n (inl (none, is)) = omega (arith, ints, is)
no_less times n (inr (some, (least, greatest, b, is))) = omega (arith, ints, b.ordered, is)

module _ (series : Series) (n : ℤ) (width : (master : Said) → IsMasterOf (series_said series) master → IsWidth master.times n) where
  its_width : (master : Said) × (((b : SaidInstance) → IsInstance (series_said series) b → EndsAt master.times b.start b.end) × IsWidth master.times n)
  its_width =
      let m = own_master series.event.value series.ruled in
      let master = master_of series.event.value.name m.0 in (
        master,
        ((λ b h. (at_start master b (subst (λ (w : SaidEvent). IsInstance w b) m.2 h)).ends), width master (ap (option_map (master_of series.event.value.name)) m.1)),
      )

  pub series_lasts : (b : SaidInstance) → IsInstance (series_said series) b → b.end ≤ℤ (b.start +ℤ n)
  series_lasts b is = within_width its_width.0.times n its_width.1.1 b.start b.end (its_width.1.0 b is)

  pub is_length : pos 0 ≤ℤ n
  is_length = no_less its_width.0.times n its_width.1.1

-- ---- where to enter

pub saturated : (z : ℤ) → (saturate_signed w64 z ≤ℤ z) ⊎ (saturate_signed w64 z ≡ negsuc 9_223_372_036_854_775_807)
saturated (pos n) = inl (omega (arith, ints))
saturated (negsuc n) = elim (cases_lt n 9_223_372_036_854_775_808) [ inl below ↦ inl (omega (arith, ints, below)) | inr from ↦ inr (omega (arith, ints, from)) ]

-- it isn't less, where it isn't more than 64 bits hold
pub not_less_saturated : (z : ℤ) → z ≤ℤ pos 9_223_372_036_854_775_807 → z ≤ℤ saturate_signed w64 z
not_less_saturated (pos n) h = omega (arith, ints, h)
not_less_saturated (negsuc n) h = elim (cases_lt n 9_223_372_036_854_775_808) [ inl below ↦ omega (arith, ints, below) | inr from ↦ omega (arith, ints, from) ]

pub entry_is : (series : SaidEvent) (by n entry : ℤ) → AreKnownByStart series → negsuc 9_223_372_036_854_775_807 ≤ℤ by → pos 0 ≤ℤ n → ((b : SaidInstance) → IsInstance series b → b.end ≤ℤ (b.start +ℤ n))
    → entry ≡ saturate_signed w64 (by -ℤ n) → IsEntryBefore series by entry
entry_is series by n entry known fits length last is =
    elim (saturated (by -ℤ n)) [
      | inl at ↦ (omega (arith, ints, at, is, length), λ b h l. let e = last b h in omega (arith, ints, at, is, l, e))
      | inr at ↦ (omega (arith, ints, at, is, fits), λ b h l. let d = (known.dates b h).0 in absurd (omega (arith, ints, at, is, l, d)))
    ]

pub entered : (series : SaidEvent) (by entry : ℤ) (left : Instances) → by <ℤ horizon → IsEntryBefore series by entry → ((b : SaidInstance) → IsLeft left b ↔ (IsInstance series b × (entry ≤ℤ b.start))) → AreLeftFrom series by entry left
entered series by entry left before is others = record { early = omega (arith, ints, before, is.0); before = is.1; others = others }

-- ---- the first starts

pub first_at : (series : SaidEvent) (old new : Instances) (first : Instance) → AreKnownByStart series → AreAllLeft series old → GivesFirst old (Some first) new → IsFirstStart series (Some first.start)
first_at series old new first known all given =
    let at = at_first series old new (Some first) known all given in
    ((λ b is. not_less first.start b.start (λ less. at.none b (is, less))), (instance_of first, at.is_walk.ahead.is, refl))

pub none_at : (series : SaidEvent) (old new : Instances) → AreKnownByStart series → AreAllLeft series old → GivesFirst old None new → IsFirstStart series None
none_at series old new known all given b is = given.1.0 b ((all b).1 is)

begins_early : (series : SaidEvent) (t : ℤ) → AreKnownByStart series → IsFirstStart series (Some t) → t <ℤ horizon
begins_early series t known (none, (b, is, at)) = let d = (known.dates b is).1 in omega (arith, ints, d, at)

begun : (series : SaidEvent) (s m : ℤ) → IsFirstStart series (Some s) → s ≤ℤ m → HasBegun series m
begun series s m (none, (b, is, at)) l = (b, is, omega (arith, ints, at, l))

pub later_start : (a b : SaidEvent) (s t m : ℤ) → AreKnownByStart a → AreKnownByStart b → IsFirstStart a (Some s) → IsFirstStart b (Some t) → m ≡ int_max s t → MeetFrom a b m
later_start a b s t m known_a known_b f g is =
    by_lt_z t s
    (λ l. let e : m ≡ s = grind (arith, ints, is, l) in let d = begins_early a s known_a f in record { before = omega (arith, ints, e, d); first = begun a s m f (omega (arith, ints, e)); second = begun b t m g (omega (arith, ints, e, l)); begins = inl (λ x h. let n = f.0 x h in omega (arith, ints, e, n)) })
    (λ l. let e : m ≡ t = grind (arith, ints, is, l) in let d = begins_early b t known_b g in record { before = omega (arith, ints, e, d); first = begun a s m f (omega (arith, ints, e, l)); second = begun b t m g (omega (arith, ints, e)); begins = inr (λ x h. let n = g.0 x h in omega (arith, ints, e, n)) })
