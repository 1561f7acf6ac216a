-- The instances of a meeting that an object says in a room: one at each place, in the dates that an event may name.
-- Cited by Event::of_object of event, one_instance of event.
use Rattle.std.proofs.Common.{◌≡◌, ◌∙◌, ℕ, List, [], ◌∷◌, filter, sym, ap, subst, inl, inr, arith, ℤ, ◌≤ℤ◌}
use Rattle.std.specs.Prelude.{Option, Some, None, All, Contains}
use Rattle.std.specs.Option.{option_to_list}
use Rattle.std.proofs.lemmas.Option.{same_Some}
use Rattle.std.proofs.lemmas.List.Elements.{All-filter, All-contains}
use Rattle.profile.specs.text.Trees.{Tree, vevents}
use Rattle.profile.specs.series.Zones.{Zone}
use Rattle.profile.specs.series.RoomZones.{IsRoomZone}
use Rattle.profile.specs.checker.Instances.{Key, Instance}
use Rattle.profile.specs.events.EventComponents.{EventComponent}
use Rattle.profile.specs.events.Events.{Event, is_master, is_override, SaysEvent}
use Rattle.profile.specs.events.Starts.{EndsAt, IsOfMaster, IsOfOverride, IsInstance, key_at}
use Rattle.cal_events.specs.MeetingComponents.{IsInEventDates}
use Rattle.cal_events.proofs.shared_lemmas.OneInstance.{IsSound, end_one, ends_after, same_override, booked_same}
use Rattle.cal_events.proofs.shared_lemmas.Placing.{all_sound}

module _ (words : List ℕ) (room : Option Zone) (named : IsRoomZone words room) (object : Tree) (meeting : Event) (s : SaysEvent room object None meeting) where
  sound : All IsSound s.events
  sound = all_sound words room named object None (vevents object) s.events s.says

  master_sound : (m : EventComponent) → meeting.master ≡ Some m → IsSound m
  master_sound m is =
      let one : filter is_master s.events ≡ m ∷ [] = s.master ∙ ap (λ (x : Option EventComponent). option_to_list x) is in
      subst (All IsSound) one (All-filter is_master IsSound s.events sound) 0 m (omega arith)

  override_sound : (o : EventComponent) → Contains meeting.overrides o → IsSound o
  override_sound o c = All-contains IsSound meeting.overrides o (subst (All IsSound) s.overrides (All-filter is_override IsSound s.events sound)) c

  -- a start of the master isn't an override's
  not_both : (a b : Instance) → IsOfMaster meeting a → IsOfOverride meeting b → a.key.slot ≡ b.key.slot → ⊥
  not_both a b h k same =
      let slot : b.key.slot ≡ a.start = sym same ∙ ap (λ (x : Key). x.slot) h.key in
      h.starts.not_replaced (record { override = k.override; among = k.is; is = k.recurrence ∙ ap Some slot })

  pub one_at : (a b : Instance) → IsInstance meeting a → IsInstance meeting b → a.start ≡ b.start → a.key.slot ≡ b.key.slot → a ≡ b
  one_at a b (inl h) (inl k) start slot =
      let m : k.master ≡ h.master = same_Some k.master h.master (sym k.is ∙ h.is) in
      booked_same a b
      (h.key ∙ ap (key_at h.master) start ∙ ap (λ (x : EventComponent). key_at x b.start) (sym m) ∙ sym k.key)
      start
      (end_one h.master.times b.start a.end b.end (master_sound h.master h.is).steady (subst (λ (t : ℤ). EndsAt h.master.times t a.end) start h.ends)
      (subst (λ (x : EventComponent). EndsAt x.times b.start b.end) m k.ends))
  one_at a b (inl h) (inr k) start slot = absurd (not_both a b h k slot)
  one_at a b (inr h) (inl k) start slot = absurd (not_both b a k h (sym slot))
  one_at a b (inr h) (inr k) start slot =
      let o : k.override ≡ h.override = same_override meeting.overrides k.override h.override s.differ k.is h.is (k.recurrence ∙ ap Some (sym slot) ∙ sym h.recurrence) in
      booked_same a b
      (h.key ∙ ap (key_at h.override) slot ∙ ap (λ (x : EventComponent). key_at x b.key.slot) (sym o) ∙ sym k.key)
      start
      (end_one h.override.times b.start a.end b.end (override_sound h.override h.is).steady (subst (λ (t : ℤ). EndsAt h.override.times t a.end) start h.ends)
      (subst (λ (x : EventComponent). EndsAt x.times b.start b.end) o k.ends))

  pub dated : (a : Instance) → IsInstance meeting a → IsInEventDates a.key.slot × IsInEventDates a.start × (a.start ≤ℤ a.end)
  dated a (inl h) =
      (subst IsInEventDates (sym (ap (λ (x : Key). x.slot) h.key)) h.starts.in_dates, h.starts.in_dates, ends_after h.master.times a.start a.end (master_sound h.master h.is).steady h.ends)
  dated a (inr h) =
      let o = override_sound h.override h.is in
      (o.names a.key.slot h.recurrence, subst IsInEventDates (sym h.starts) o.starts, ends_after h.override.times a.start a.end o.steady h.ends)
