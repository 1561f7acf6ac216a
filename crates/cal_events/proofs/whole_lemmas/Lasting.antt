-- How long the instances of a series last.
-- Cited by instances_last of whole.
use Rattle.std.proofs.Common.{◌≡◌, ◌∙◌, ℕ, ◌*◌, Bool, List, codes, ap, subst, sym, inl, inr, arith, rules, ℤ, pos, ◌+ℤ◌, ◌-ℤ◌, ◌≤ℤ◌}
use Rattle.std.specs.Prelude.{Option, Some, None}
use Rattle.std.proofs.Math.Logic.{∥∥₁_map}
use Rattle.std.proofs.lemmas.Grind.{not_there}
use Rattle.std.proofs.lemmas.Int.{ints, by_lt_z}
use Rattle.profile.specs.checker.Instances.{Instance}
use Rattle.profile.specs.events.EventComponents.{Method, EventComponent}
use Rattle.profile.specs.events.Properties.{Form, Fixed, Floating, WholeDay}
use Rattle.profile.specs.events.Placed.{zone_in, SaysPlaced}
use Rattle.profile.specs.series.RoomZones.{IsRoomZone}
use Rattle.profile.specs.events.Events.{Event}
use Rattle.profile.specs.text.Lines.{line_value, line_param}
use Rattle.profile.specs.text.Trees.{Tree}
use Rattle.profile.specs.series.Zones.{Zone, Constant, IsBounds}
use Rattle.profile.specs.series.ZoneTexts.{SaysZone}
use Rattle.profile.specs.events.ZonedTimes.{EventTimes, clock_of, zone_named, SaysZoneOf, SpellsZoned, SpellsForm, SaysTimes}
use Rattle.cal_zones.specs.Repeats.{IsRegular, AreOffsetsOf}
use Rattle.profile.specs.events.Starts.{IsInstance, IsWidth, EndsAt}
use Rattle.profile.specs.events.Spans.{IsSaidSeries, IsWidthOf}
use Rattle.std.proofs.lemmas.Option.{same_Some}
use Rattle.cal_events.specs.Clocks.{IsSteady}
use Rattle.cal_events.specs.Overlapping.{LastAtMost}
use Rattle.cal_events.proofs.shared_lemmas.CountedFrom.{counted_within, means_within}
use Rattle.cal_events.proofs.shared_lemmas.OneInstance.{ends_after}
use Rattle.cal_events.proofs.shared_lemmas.Placing.{placed_sound}
use Rattle.cal_events.proofs.shared_lemmas.RoomClocks.{room_clock}
use Rattle.cal_events.proofs.shared_lemmas.OwnSingles.{at_start}
use Rattle.cal_events.proofs.shared_lemmas.Overlaps.{lasts, lasts_so_long}

-- no instance with these times lasts longer than their width
last_at_most : (times : EventTimes) (width : ℤ) → IsWidth times width → LastAtMost times width
last_at_most times width (inl (none, is)) = lasts_so_long times width none is
last_at_most times width (inr (some, (least, greatest, bounds, is))) = lasts times least greatest width bounds is

-- whose times and rule some VEVENT says, of that series none ends before it starts either
pub said_lasts : (series : Event) (width : ℤ) (b : Instance) → IsSaidSeries series → IsWidthOf series width → IsInstance series b → (b.start ≤ℤ b.end) × (b.end ≤ℤ (b.start +ℤ width))
said_lasts series width b said w h =
    let x = at_start said.master b (subst (λ (m : Event). IsInstance m b) said.is h) in
    let sound = placed_sound said.words said.room said.named said.object said.lines said.event said.says in
    let steady : IsSteady (clock_of said.master.times.zone) = subst (λ (t : EventTimes). IsSteady (clock_of t.zone)) (sym said.times) sound.steady in
    let same : w.0 ≡ said.master = same_Some w.0 said.master (sym w.1 ∙ ap (λ (m : Event). m.master) said.is) in
    let most = last_at_most said.master.times width (subst (λ (m : EventComponent). IsWidth m.times width) same w.2) in
    (ends_after said.master.times b.start b.end steady x.ends, most b.start b.end x.ends)

-- that some VEVENT says them is enough
le_of_merely : (x y : ℤ) → ∥ x ≤ℤ y ∥₁ → x ≤ℤ y
le_of_merely x y m = by_lt_z y x (λ less. absurd (not_there m (λ le. omega (arith, ints, less, le)))) (λ le. le)

pub merely_lasts : (series : Event) (width : ℤ) (b : Instance) → ∥ IsSaidSeries series ∥₁ → IsWidthOf series width → IsInstance series b → (b.start ≤ℤ b.end) × (b.end ≤ℤ (b.start +ℤ width))
merely_lasts series width b said w h = (
  le_of_merely b.start b.end (∥∥₁_map said (λ s. (said_lasts series width b s w h).0)),
  le_of_merely b.end (b.start +ℤ width) (∥∥₁_map said (λ s. (said_lasts series width b s w h).1)),
)

-- ---- a third of the width at least

-- three times as long
abbrev thrice : ℤ → ℤ
thrice long = long +ℤ (long +ℤ long)

module _ (regular : (tree : Tree) (z : Zone) → SaysZone tree z → IsRegular z) (offsets : (z : Zone) → IsRegular z → (least : ℤ) × (greatest : ℤ) × AreOffsetsOf z least greatest) where
  utc_regular : IsRegular (Constant (pos 0))
  utc_regular = search rules

  form_regular : (object : Tree) (name : Option (List ℕ)) (text : List ℕ) (form : Form) (zone : Option Zone) (local : ℤ) → SpellsForm object name text form zone local → IsRegular (clock_of zone)
  form_regular object name text form None local h = utc_regular
  form_regular object name text Floating (Some zone) local (_, e, _) = cc
  form_regular object name text WholeDay (Some zone) local (_, e, _) = cc
  form_regular object name text Fixed (Some zone) local h = spelled name h
    where
      named : (o : Option Tree) → SaysZoneOf o zone → IsRegular zone
      named None says = absurd says
      named (Some part) says = regular part zone says

      spelled : (o : Option (List ℕ)) → SpellsZoned object o text (Some zone) local → IsRegular zone
      spelled None says = absurd says
      spelled (Some name) says = named (zone_named name object) says.1

  times_regular : {may : Bool} (object : Tree) (lines : List (List ℕ)) (times : EventTimes) → SaysTimes may object lines times → IsRegular (clock_of times.zone)
  times_regular object lines times (inl t) = form_regular object (line_param (codes "TZID") t.line) (line_value t.line) times.form times.zone times.local t.says.1
  times_regular object lines times (inr (_, t)) = subst (λ (z : Option Zone). IsRegular (clock_of z)) (sym t.zone) utc_regular

  there_regular : (room : Option Zone) (form : Form) (zone : Option Zone) → IsRegular (clock_of zone) → IsRegular (clock_of room) → IsRegular (clock_of (zone_in room form zone))
  there_regular room Fixed z own here = own
  there_regular room Floating z own here = here
  there_regular room WholeDay z own here = here

  placed_regular : (words : List ℕ) (room : Option Zone) → IsRoomZone words room → (object : Tree) {m : Option Method} (lines : List (List ℕ)) (event : EventComponent) → SaysPlaced room object m lines event
      → IsRegular (clock_of event.times.zone)
  placed_regular words room named object lines event (e, s, p) =
      subst (λ (x : EventComponent). IsRegular (clock_of x.times.zone)) (sym p.is)
      (there_regular room e.times.form e.times.zone (times_regular object lines e.times s.times) (room_clock words room named).regular)

  -- its offsets are half a day apart at most
  near_bounds : (z : Zone) (least greatest : ℤ) → IsRegular z → IsBounds z least greatest → greatest ≤ℤ (least +ℤ pos 43_200)
  near_bounds z least greatest r b =
      let o = offsets z r in
      let low = o.2.offsets b.reaches_least.0 least b.reaches_least.1 in
      let high = o.2.offsets b.reaches_greatest.0 greatest b.reaches_greatest.1 in
      let close = o.2.close in
      let l = low.0 in
      let h = high.1 in
      omega (arith, ints, l, h, close)

  -- days are nominal: they are half a day shorter or longer at most
  lasts_a_third : (times : EventTimes) (width start end : ℤ) → IsRegular (clock_of times.zone) → IsWidth times width → EndsAt times start end → width ≤ℤ thrice (end -ℤ start)
  lasts_a_third times width start end r (inl (none, is)) (later, inl (z, same), e) = omega (arith, ints, none, is, same, e)
  lasts_a_third times width start end r (inl (none, is)) (later, inr (some, x), e) = absurd (omega (arith, none, some))
  lasts_a_third times width start end r (inr (some, x)) (later, inl (z, same), e) = absurd (omega (arith, z, some))
  lasts_a_third times width start end r (inr (some, (least, greatest, bounds, is))) (later, inr (some', (local, counted, means)), e) =
      let near = near_bounds (clock_of times.zone) least greatest r bounds in
      let from = (counted_within times.form (clock_of times.zone) least greatest start local bounds counted).0 in
      let to = (means_within (clock_of times.zone) least greatest (local +ℤ pos (86_400 * times.length.days)) later bounds means).1 in
      omega (arith, ints, some, is, e, near, from, to)

  pub said_lasts_a_third : (series : Event) (width : ℤ) (b : Instance) → IsSaidSeries series → IsWidthOf series width → IsInstance series b → width ≤ℤ thrice (b.end -ℤ b.start)
  said_lasts_a_third series width b said w h =
      let x = at_start said.master b (subst (λ (m : Event). IsInstance m b) said.is h) in
      let zone = placed_regular said.words said.room said.named said.object said.lines said.event said.says in
      let same : w.0 ≡ said.master = same_Some w.0 said.master (sym w.1 ∙ ap (λ (m : Event). m.master) said.is) in
      lasts_a_third said.master.times width b.start b.end (subst (λ (t : EventTimes). IsRegular (clock_of t.zone)) (sym said.times) zone)
      (subst (λ (m : EventComponent). IsWidth m.times width) same w.2) x.ends

  pub merely_lasts_a_third : (series : Event) (width : ℤ) (b : Instance) → ∥ IsSaidSeries series ∥₁ → IsWidthOf series width → IsInstance series b → width ≤ℤ thrice (b.end -ℤ b.start)
  merely_lasts_a_third series width b said w h = le_of_merely width (thrice (b.end -ℤ b.start)) (∥∥₁_map said (λ s. said_lasts_a_third series width b s w h))
