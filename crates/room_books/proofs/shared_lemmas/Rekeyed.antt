-- The series of a meeting in a room: its instances are those that recur, by the key of the meeting.
-- Behind Meeting::take of kept, put of kept, take_out of kept, take_out_of of kept, answers_stay of laws, Room::answers_after of room and 24 more.
use Rattle.std.proofs.Common.{◌≡◌, ◌∙◌, [], subst, sym, refl, ap}
use Rattle.std.specs.Prelude.{option_map}
use Rattle.profile.specs.checker.Instances.{Key, Instance}
use Rattle.profile.specs.events.EventComponents.{EventComponent}
use Rattle.profile.specs.events.Events.{Event as Whole}
use Rattle.profile.specs.events.Starts.{IsStart, IsInstance, EndsAt, key_at}
use Rattle.cal_events.specs.Recurrence.{master_of}
use Rattle.cal_events.specs.Series.{series_said}
use Rattle.cal_events.specs.declared.series.Series.{Series}
use Rattle.cal_events.specs.declared.sweep.Span.{Span}
use Rattle.cal_events.specs.declared.instance.Single.{Single}
use Rattle.cal_events.proofs.shared_lemmas.OwnSingles.{of_master, at_start, from_start}
use Rattle.cal_events.proofs.shared_lemmas.SeriesLemmas.{own_master}
use Rattle.room_books.specs.declared.meeting.MeetingKey.{MeetingKey}
use Rattle.room_books.specs.Meeting.{keyed_instance, of_key, series_of, instance_span, Recurs}

module _ (key : MeetingKey) (s : Series) where
  -- its master
  abbrev own : EventComponent
  own = master_of s.event.value.name (own_master s.event.value s.ruled).0

  said_is : series_said s ≡ of_master own
  said_is = (own_master s.event.value s.ruled).2

  rekeyed_is : series_of key s ≡ of_master (of_key key own)
  rekeyed_is = ap (λ (w : Whole). record { master = option_map (of_key key) w.master; overrides = [] }) said_is

  -- an instance that recurs is one of the series of its meeting
  pub to_series : (x : Single) → Recurs s x → IsInstance (series_of key s) (keyed_instance key x)
  to_series x r =
      let h = at_start own r.booked (subst (λ (w : Whole). IsInstance w r.booked) said_is r.is) in
      let starts : r.booked.start ≡ x.span.start = sym (ap (λ (z : Span). z.start) r.span) in
      let slot : x.slot ≡ x.span.start = r.slot ∙ ap (λ (k : Key). k.slot) h.key ∙ starts in
      let start = subst (λ t. IsStart own [] t) starts h.starts in
      subst (λ (w : Whole). IsInstance w (keyed_instance key x)) (sym rekeyed_is)
      (from_start (of_key key own) (keyed_instance key x) (record {
        starts = record { given = start.given; in_dates = start.in_dates; not_excepted = start.not_excepted; not_replaced = start.not_replaced };
        key = ap (key_at (of_key key own)) slot;
        ends = subst (λ (z : Span). EndsAt own.times z.start z.end) (sym r.span) h.ends;
      }))

  -- and all of that are such
  pub of_series : (b : Instance) → IsInstance (series_of key s) b → (x : Single) × Recurs s x × (b ≡ keyed_instance key x)
  of_series b k =
      let h = at_start (of_key key own) b (subst (λ (w : Whole). IsInstance w b) rekeyed_is k) in
      let x : Single = record { slot = b.start; span = instance_span b } in
      let before : Instance = record { key = key_at own b.start; start = b.start; end = b.end } in (
        x,
        record {
          booked = before;
          is = subst (λ (w : Whole). IsInstance w before) (sym said_is) (from_start own before (record {
            starts = record { given = h.starts.given; in_dates = h.starts.in_dates; not_excepted = h.starts.not_excepted; not_replaced = h.starts.not_replaced };
            key = refl;
            ends = h.ends;
          }));
          slot = refl;
          span = refl;
        },
        λ i. record { key = h.key i; start = b.start; end = b.end },
      )
