-- An event as it is kept has the instances of the meeting that it was made of.
-- Cited by Event::of, Event::of_object, Event::read, first_name.
use Rattle.std.proofs.Common.{◌≡◌, ◌∙◌, suc, List, [], ◌∷◌, map, get_or, sym, ap, subst, refl, inl, inr, arith, ℤ}
use Rattle.std.specs.Prelude.{Option, Some, None, All, Contains, unwrap_or, Result, Ok, Err, IfOk}
use Rattle.std.specs.List.{slice_get}
use Rattle.std.specs.Option.{option_to_list}
use Rattle.std.proofs.lemmas.Option.{same_Some}
use Rattle.std.proofs.lemmas.List.{get_or_default}
use Rattle.std.proofs.lemmas.List.Elements.{Contains-append_cases}
use Rattle.ical_values.specs.Octets.{text_octets}
use Rattle.profile.specs.text.Trees.{Tree}
use Rattle.profile.specs.series.Zones.{Zone}
use Rattle.profile.specs.series.Rules.{Rule}
use Rattle.profile.specs.events.EventComponents.{EventComponent as Said, meeting_said}
use Rattle.profile.specs.events.Events.{Event as Whole, AreOfOne, SaysEvent, components_of, is_master, is_override}
use Rattle.profile.specs.events.Starts.{EndsAt, IsGiven, IsInstance, IsStart, key_at}
use Rattle.profile.specs.events.ZonedTimes.{EventTimes}
use Rattle.cal_events.specs.Component.{component_of, times_of}
use Rattle.cal_events.specs.Event.{AreAlike}
use Rattle.cal_events.specs.MeetingComponents.{instants_said}
use Rattle.cal_events.specs.Overlapping.{HaveOneEnd, AreDated}
use Rattle.cal_events.specs.Recurrence.{IsRecurrenceWithout, AreNamed, master_of, name_of, organiser_of}
use Rattle.cal_events.specs.declared.component.EventComponent.{EventComponent}
use Rattle.cal_events.specs.declared.recurrence.EventName.{EventName}
use Rattle.cal_events.specs.declared.recurrence.Recurrence.{Recurrence}
use Rattle.cal_events.proofs.shared_lemmas.HiddenLemmas.{replaced_at}
use Rattle.cal_events.proofs.shared_lemmas.InOneOrder.{in_mapped, of_filtered}

module _ (name : EventName) (r : Recurrence) (master : Said) (os : List Said) (instants : List ℤ) (said : map Some instants ≡ instants_said os)
    (organiser : organiser_of name ≡ master.organiser) (uid : text_octets name.uid ≡ master.uid) (w : IsRecurrenceWithout master instants r) where
  pub same_name : name_of name ≡ meeting_said master
  same_name i = (unwrap_or (organiser i) [], uid i)

  same_key : (slot : ℤ) → key_at (master_of name r) slot ≡ key_at master slot
  same_key slot i = record { organiser = unwrap_or (organiser i) []; uid = uid i; slot = slot }

  to_start : (t : ℤ) → IsStart (master_of name r) os t → IsStart master os t
  to_start t s = record {
    given = elim s.given [
      | inl g ↦ inl (subst (λ (x : EventTimes). IsGiven x master.rule t) w.times (subst (λ (o : Option Rule). IsGiven (times_of r.times) o t) w.rule g))
      | inr c ↦ inr ((w.additions t).0 c).0
    ];
    in_dates = s.in_dates;
    not_excepted = λ c. s.not_excepted ((w.exceptions t).1 (inl c));
    not_replaced = s.not_replaced;
  }

  of_start : (t : ℤ) → IsStart master os t → IsStart (master_of name r) os t
  of_start t s = record {
    given = elim s.given [
      | inl g ↦ inl (subst (λ (o : Option Rule). IsGiven (times_of r.times) o t) (sym w.rule) (subst (λ (x : EventTimes). IsGiven x master.rule t) (sym w.times) g))
      | inr c ↦ inr ((w.additions t).1 (c, (s.in_dates, excepted)))
    ];
    in_dates = s.in_dates;
    not_excepted = excepted;
    not_replaced = s.not_replaced;
  }
    where
      excepted : Contains r.exceptions t → ⊥
      excepted e = elim ((w.exceptions t).0 e) [ inl c ↦ s.not_excepted c | inr i ↦ s.not_replaced (replaced_at os instants said t i) ]

  abbrev kept : Whole
  kept = record { master = Some (master_of name r); overrides = os }

  abbrev given : Whole
  given = record { master = Some master; overrides = os }

  pub alike : AreAlike kept given
  alike b = (to, of)
    where
      to : IsInstance kept b → IsInstance given b
      to (inl i) =
          let same : i.master ≡ master_of name r = sym (same_Some (master_of name r) i.master i.is) in
          inl (record {
            master = master;
            is = refl;
            starts = to_start b.start (subst (λ (x : Said). IsStart x os b.start) same i.starts);
            key = i.key ∙ ap (λ (x : Said). key_at x b.start) same ∙ same_key b.start;
            ends = subst (λ (x : EventTimes). EndsAt x b.start b.end) w.times (subst (λ (x : Said). EndsAt x.times b.start b.end) same i.ends);
          })
      to (inr o) = inr (record { override = o.override; is = o.is; recurrence = o.recurrence; key = o.key; starts = o.starts; ends = o.ends })

      of : IsInstance given b → IsInstance kept b
      of (inl i) =
          let same : i.master ≡ master = sym (same_Some master i.master i.is) in
          inl (record {
            master = master_of name r;
            is = refl;
            starts = of_start b.start (subst (λ (x : Said). IsStart x os b.start) same i.starts);
            key = i.key ∙ ap (λ (x : Said). key_at x b.start) same ∙ sym (same_key b.start);
            ends = subst (λ (x : EventTimes). EndsAt x b.start b.end) (sym w.times) (subst (λ (x : Said). EndsAt x.times b.start b.end) same i.ends);
          })
      of (inr o) = inr (record { override = o.override; is = o.is; recurrence = o.recurrence; key = o.key; starts = o.starts; ends = o.ends })

-- what is alike ends alike, in the same dates
pub ends_alike : (one other : Whole) → AreAlike one other → HaveOneEnd other → HaveOneEnd one
ends_alike one other same ends a b h k = ends a b ((same a).0 h) ((same b).0 k)

pub dated_alike : (one other : Whole) → AreAlike one other → AreDated other → AreDated one
dated_alike one other same dated a h = dated a ((same a).0 h)

-- ---- one name

all_of_one : (P : EventComponent → Type 0) (os : List EventComponent) → ((o : EventComponent) → Contains os o → P o) → All P os
all_of_one P os h k d w = h (get_or os k d) (k, w, get_or_default os k (get_or os k d) d w)

pub named_with : (name : EventName) (master : Said) (os : List EventComponent) → AreOfOne (master ∷ map component_of os) → name_of name ≡ meeting_said master → AreNamed name os
named_with name master os one same =
    all_of_one (λ (o : EventComponent). meeting_said (component_of o) ≡ name_of name) os
    (λ o c. let k = in_mapped component_of os o c in one (component_of o) master (suc k.0, omega (arith, k.1), k.2) (0, omega arith, refl) ∙ sym same)

pub named_first : (name : EventName) (first : EventComponent) (os : List EventComponent) → Contains os first → AreOfOne (map component_of os) → name_of name ≡ meeting_said (component_of first) → AreNamed name os
named_first name first os here one same =
    all_of_one (λ (o : EventComponent). meeting_said (component_of o) ≡ name_of name) os
    (λ o c. one (component_of o) (component_of first) (in_mapped component_of os o c) (in_mapped component_of os first here) ∙ sym same)

pub first_in : (os : List EventComponent) (first : EventComponent) → Some first ≡ slice_get os 0 → Contains os first
first_in [] first e = absurd (nothing e)
  where
    nothing : Some first ≡ None → ⊥
    nothing e = cc
first_in (o ∷ os) first e = (0, omega arith, sym (same_Some first o e))

pub named_of : {E : Type 0} (r : Result EventName E) (first : Said) → IfOk r (λ n. organiser_of n ≡ first.organiser) → IfOk r (λ n. text_octets n.uid ≡ first.uid) → (P : EventName → Type 0)
    → ((n : EventName) → name_of n ≡ meeting_said first → P n) → IfOk r P
named_of (Ok n) first o u P h = h n (λ i. (unwrap_or (o i) [], u i))
named_of (Err e) first o u P h = tt

-- the VEVENTs of a meeting that an object says are of one
pub of_one : (room : Option Zone) (object : Tree) (meeting : Whole) → SaysEvent room object None meeting → AreOfOne (components_of meeting)
of_one room object meeting s a b c d = s.one a b (among a c) (among b d)
  where
    among : (e : Said) → Contains (components_of meeting) e → Contains s.events e
    among e c = elim (Contains-append_cases (option_to_list meeting.master) meeting.overrides e c) [
      | inl m ↦ (of_filtered is_master s.events e (subst (λ (l : List Said). Contains l e) (sym s.master) m)).0
      | inr o ↦ (of_filtered is_override s.events e (subst (λ (l : List Said). Contains l e) (sym s.overrides) o)).0
    ]
