-- What the text of a meeting confirms for a room, the room has confirmed, and so no two such instances clash. Behind schedules_hold.
use Rattle.std.proofs.Common.{◌≡◌, ◌∙◌, ℕ, ◌<◌, ℤ, true, false, not, ◌&&◌, ◌||◌, List, [], Option, None, Some, is_some, inl, inr, refl, sym, ap, subst}
use Rattle.std.specs.Prelude.{Contains, filter, option_map}
use Rattle.std.specs.Option.{option_to_list}
use Rattle.std.specs.List.{AllZip, list_all, list_any}
use Rattle.std.specs.Ordering.{is_eq, is_gt}
use Rattle.std.proofs.lemmas.Bool.{and_from, and_parts, false_from_ne_true, not_from_false, or_cases, true≢false}
use Rattle.profile.specs.checker.Instances.{Instance, Key}
use Rattle.profile.specs.events.Confirmed.{AreOfRule, IsInstanceAmong, IsOfSeries, IsSeries, IsReplacedAmong, alone, has_series, is_kept, is_series}
use Rattle.profile.specs.events.EventComponents.{Attendee, EventComponent, has_accepted, meeting_said}
use Rattle.profile.specs.events.Events.{Event, is_master}
use Rattle.profile.specs.events.Placed.{IsPlaced}
use Rattle.profile.specs.events.Starts.{IsInstance}
use Rattle.profile.specs.rooms.Messages.{slot_named, slot_of}
use Rattle.profile.specs.rooms.Revisions.{At, Part, Slot, Whole, implies, in_view, is_greatest, is_cancelled, is_whole, leaves_in_view, Revision, same_meeting, same_place, slot_cmp, stays_beside}
use Rattle.profile.specs.rooms.Rooms.{Book, Confirms, PartAnswer, Recurring, is_confirmed, is_hidden, left_of, recurring_in}
use Rattle.profile.specs.streams.Schedules.{IsShownFor, KeptTextsHold, KeptTextsSpell, ShownIsClear, ShownIsConfirmed}
use Rattle.profile.specs.streams.Streams.{Hosted}
use Rattle.profile.specs.streams.Worlds.{World}
use Rattle.profile.specs.series.Rules.{Rule}
use Rattle.cal_events.proofs.shared_lemmas.InOneOrder.{in_filtered, of_filtered}
use Rattle.cal_events.proofs.shared_lemmas.OwnSingles.{is_a_master, master_alone}
use Rattle.cal_events.proofs.shared_lemmas.RoomClocks.{room_clock}
use Rattle.cal_events.proofs.shared_lemmas.SeriesLemmas.{of_its_series, zip_back, zip_with}
use Rattle.cal_events.proofs.reading_lemmas.ConfirmedLemmas.{of_lists}
use Rattle.itip_messages.specs.Law.{instant_of_slot}
use Rattle.itip_messages.specs.SentLaw.{HasAnswered, HasNoAnswer, IsSaidAgain}
use Rattle.itip_order.proofs.Lists.{all_at, any_at, in_head}
use Rattle.itip_order.proofs.Order.{is_eq_true, slot_same}
use Rattle.itip_order.proofs.Registers.{implies_at}
use Rattle.room_books.proofs.laws_lemmas.KeptEntries.{meeting_from, place_there}
use Rattle.room_books.proofs.laws_lemmas.PlacedTwice.{AreAlike, apart_alike, placed_twice, rule_alike}
use Rattle.room_books.proofs.shared_lemmas.Pairs.{flat_from}
use Rattle.sched_laws.proofs.law_lemmas.Booked.{of_meeting, older_less}
use Rattle.sched_laws.proofs.law_lemmas.ClaimFacts.{claim_facts}
use Rattle.sched_laws.proofs.law_lemmas.Invariant.{IsSound}
use Rattle.sched_laws.proofs.law_lemmas.Stores.{last_among}
use Rattle.sched_laws.specs.Law.{Laws}
use Rattle.sched_laws.proofs.law_lemmas.ShownTexts.{IsOfBooked, IsShownText, of_booked, shown_text, stored_meeting}
use Rattle.sched_laws.proofs.law_lemmas.SaidAgain.{meeting_again, said_twice}
use Rattle.sched_laws.proofs.law_lemmas.StoredSlots.{again_fixed, placed_there}

-- ---- slots

at_instant : (event : EventComponent) (t : ℤ) → slot_of event ≡ At t → event.recurrence ≡ Some t
at_instant event t = by event.recurrence
  where
    by : (r : Option ℤ) → slot_named r ≡ At t → r ≡ Some t
    by None e = cc
    by (Some u) e = ap instant_of_slot e

whole_none : (event : EventComponent) → slot_of event ≡ Whole → event.recurrence ≡ None
whole_none event = by event.recurrence
  where
    by : (r : Option ℤ) → slot_named r ≡ Whole → r ≡ None
    by None e = refl
    by (Some u) e = cc

-- what is of a series has a rule
rule_there : (event : EventComponent) (b : Instance) → IsOfSeries event b → has_series event ≡ true
rule_there event b of = and_from (is_master event) (is_some event.rule) of.master (ap (λ (r : Option Rule). is_some r) of.has)

-- ---- an instance of what such a text shows

-- of a text whose events are these in the zone of a room
module _ (laws : Laws) (rooms organisers : List (List ℕ)) (world : World) (sound : IsSound rooms organisers world) (octets : List ℕ) (text : IsShownText world octets)
    (room : Hosted) (there : Contains world.rooms room) (events : List EventComponent) (each : AllZip (IsPlaced room.zone) text.shown events)
    (said placed : EventComponent) (is_placed : IsPlaced room.zone said placed) (o : IsOfBooked world octets text room said) where
  abbrev answer : PartAnswer
  answer = o.booked.answer

  abbrev part : Part
  part = answer.claim.part

  abbrev taken : List Part
  taken = room.book.taken

  abbrev IsAnswered : Slot → Attendee → Attendee → Type 0
  IsAnswered = HasAnswered text.host.book text.stored

  -- its slot is that of the event
  slot_of_placed : placed.recurrence ≡ o.event.recurrence
  slot_of_placed =
      placed_there room.zone said placed (again_fixed IsAnswered text.stored.revision o.event said o.again o.fixed) is_placed ∙ o.again.recurrence

  slot_of_asked : o.placed.recurrence ≡ o.event.recurrence
  slot_of_asked =
      placed_there room.zone o.asked o.placed (again_fixed HasNoAnswer text.stored.revision o.event o.asked o.sent o.fixed) o.is_placed ∙ o.sent.recurrence

  -- what the room was asked takes place as what is shown does
  pub alike : AreAlike o.placed placed
  alike =
      let clock = room_clock room.words room.zone (sound.in_zones room there) in
      placed_twice room.zone clock.steady.meaning o.asked said o.placed placed o.is_placed is_placed
      (said_twice HasNoAnswer IsAnswered text.stored.revision o.event o.asked said o.sent o.again) (slot_of_placed ∙ sym slot_of_asked)

  -- one of its instances
  module _ (b : Instance) where
    -- ---- nothing hides it

    -- another event of the store in its slot, which replaces it in the text
    replaced : placed.recurrence ≡ None → IsInstance (alone placed) b → (other : EventComponent) → Contains text.stored.events other → other.recurrence ≡ Some b.key.slot
        → IsReplacedAmong events placed b.start
    replaced none is other among slot =
        let Again : EventComponent → EventComponent → Type 0 = IsSaidAgain IsAnswered text.stored.revision in
        let (override, shown, again) = zip_with Again text.stored.events text.shown other text.each among in
        let (here, found, of) = zip_with (IsPlaced room.zone) text.shown events override each shown in
        let meeting = stored_meeting rooms organisers world sound octets text in
        let own = ap meeting_said is_placed.is ∙ meeting_again IsAnswered text.stored.revision o.event said o.again in
        let its = ap meeting_said of.is ∙ meeting_again IsAnswered text.stored.revision other override again in
        let its_slot = placed_there room.zone override here (again_fixed IsAnswered text.stored.revision other override again (meeting.fixed other among)) of in
        let start : b.key.slot ≡ b.start = ap (λ (k : Key). k.slot) (master_alone placed b none is).key in
        record {
          override = here;
          among = (found, its ∙ meeting.are.of_it other among ∙ sym (meeting.are.of_it o.event o.among) ∙ sym own);
          is = its_slot ∙ again.recurrence ∙ slot ∙ ap Some start;
        }

    -- a part of its slot that is older than the Whole isn't in the view
    older_unseen : (other : Part) → is_whole part ≡ true → other.slot ≡ At b.key.slot → same_meeting part other ≡ true → other.revision.sequence < part.revision.sequence → in_view taken other ≡ true → ⊥
    older_unseen other whole slot same less viewed =
        let greatest = (and_parts (is_greatest taken part) (list_all (λ w. implies (is_greatest taken w) (leaves_in_view w part)) taken) o.booked.viewed).0 in
        let all = (and_parts (is_greatest taken other) (list_all (λ w. implies (is_greatest taken w) (leaves_in_view w other)) taken) viewed).1 in
        let given = sound.given room there answer o.booked.given in
        let leaves : leaves_in_view part other ≡ true = implies_at _ _ (all_at (λ w. implies (is_greatest taken w) (leaves_in_view w other)) taken part all given.taken) greatest in
        let no_whole : is_whole other ≡ false = ap (λ (s : Slot). is_eq (slot_cmp s Whole)) slot in
        elim (or_cases (is_whole other) (implies (is_whole part && same_meeting part other) (stays_beside part other)) leaves) [
          | inl itself ↦ true≢false (sym itself ∙ no_whole)
          | inr stays ↦
              let beside = implies_at (is_whole part && same_meeting part other) (stays_beside part other) stays (and_from _ _ whole same) in
              let lower : stays_beside part other ≡ false = ap (λ r. is_gt r || (is_eq r && not (is_cancelled part))) (older_less other.revision part.revision less) in
              true≢false (sym beside ∙ lower)
        ]

    not_hidden : IsInstanceAmong events placed b → is_hidden taken part b ≡ false
    not_hidden is = false_from_ne_true (is_hidden taken part b) (λ hidden.
        let at_slot = record part { slot = At b.key.slot } in
        let (whole, some) = and_parts (is_whole part) (list_any (λ other. in_view taken other && same_place other at_slot) taken) hidden in
        let (other, among, both) = any_at (λ other. in_view taken other && same_place other at_slot) taken some in
        let (viewed, place) = and_parts (in_view taken other) (same_place other at_slot) both in
        let p = place_there other at_slot place in
        let facts = claim_facts text.host.address text.stored room.address room.zone answer.claim o.booked.of_store in
        let uid = facts.of_uid ∙ (last_among text.uid text.host.book text.stored text.last).1 in
        let none : o.event.recurrence ≡ None = whole_none o.event (sym o.booked.of_slot ∙ slot_same part.slot Whole (is_eq_true (slot_cmp part.slot Whole) whole)) in
        let master : placed.recurrence ≡ None = slot_of_placed ∙ none in
        elim (of_meeting laws rooms organisers world sound text.host text.hosted room there text.uid text.stored text.last o.named o.booked.of_store.alive other among (p.organiser ∙ facts.of_organiser) (p.uid ∙ uid)) [
          | inl (claim, same, of) ↦
              let its = claim_facts text.host.address text.stored room.address room.zone claim of in
              let slot : slot_of its.event ≡ At b.key.slot = sym its.of_slot ∙ ap (λ (q : Part). q.slot) same ∙ p.slot in
              is.shown (is_a_master placed master) (replaced master is.is its.event its.among (at_instant its.event b.key.slot slot))
          | inr less ↦
              older_unseen other whole p.slot (meeting_from part other (sym p.organiser) (sym p.uid))
              (subst (λ (r : Revision). other.revision.sequence < r.sequence) (sym facts.of_revision) less) viewed
        ])

    -- ---- so it is confirmed

    confirmed : is_confirmed taken answer ≡ true
    confirmed = and_from _ _ o.booked.accepted o.booked.viewed

    -- as a single
    pub as_single : IsInstanceAmong events placed b → (IsOfSeries placed b → ⊥) → Confirms room.book b
    as_single is apart =
        let single : Contains answer.claim.singles b = (apart_alike o.placed placed alike answer.claim.singles o.singles).all b is.is apart in
        inl (flat_from (left_of taken) (filter (is_confirmed taken) room.book.answers) answer b
        (in_filtered (is_confirmed taken) room.book.answers answer o.booked.given confirmed)
        (in_filtered (λ i. not (is_hidden taken part i)) answer.claim.singles b single (not_from_false _ (not_hidden is))))

    -- as one of a series
    pub as_recurring : IsInstanceAmong events placed b → IsOfSeries placed b → Confirms room.book b
    as_recurring is of = by answer.claim.series refl (rule_alike o.placed placed alike answer.claim.series o.series)
      where
        by : (series : Option Event) → answer.claim.series ≡ series → AreOfRule placed series → Confirms room.book b
        by None e lacks = absurd (true≢false (sym (rule_there placed b of) ∙ lacks))
        by (Some meeting) e has =
            let series : Recurring = record { part = part; meeting = meeting } in
            inr (record {
              series = series;
              among =
                  flat_from recurring_in (filter (is_confirmed taken) room.book.answers) answer series
                  (in_filtered (is_confirmed taken) room.book.answers answer o.booked.given confirmed)
                  (subst (λ (s : Option Event). Contains (option_to_list (option_map (λ m. record { part = part; meeting = m }) s)) series) (sym e) (in_head series []));
              is = (has.1 b).1 (is.is, of);
              shown = not_hidden is;
            })

-- ---- what a text confirms

-- an instance of an event that is shown and kept is confirmed, whether it is a single or one of a series
record IsConfirmedThere (book : Book) (placed : EventComponent) (b : Instance) : Type 0 where
  single : (IsOfSeries placed b → ⊥) → Confirms book b
  recurring : IsOfSeries placed b → Confirms book b

confirmed_there : Laws → (rooms organisers : List (List ℕ)) (world : World) → IsSound rooms organisers world → (octets : List ℕ) (text : IsShownText world octets)
    → (room : Hosted) → Contains world.rooms room → (events : List EventComponent) → AllZip (IsPlaced room.zone) text.shown events
    → (placed : EventComponent) → Contains events placed → is_kept room.address placed ≡ true
    → (b : Instance) → IsInstanceAmong events placed b → IsConfirmedThere room.book placed b
confirmed_there laws rooms organisers world sound octets text room there events each placed c kept b is =
    let (said, shown, is_placed) = zip_back (IsPlaced room.zone) text.shown events placed each c in
    let kept_as_said = sym (ap (is_kept room.address) is_placed.is) ∙ kept in
    let accepted = (and_parts (has_accepted room.address said) (not said.cancelled) kept_as_said).0 in
    let o = of_booked laws rooms organisers world sound octets text room there said shown accepted in
    record {
      single = λ apart. as_single laws rooms organisers world sound octets text room there events each said placed is_placed o b is apart;
      recurring = λ of. as_recurring laws rooms organisers world sound octets text room there events each said placed is_placed o b is of;
    }

pub shown_is_confirmed : Laws → (rooms organisers : List (List ℕ)) (world : World) → IsSound rooms organisers world → ShownIsConfirmed world
shown_is_confirmed laws rooms organisers world sound room there octets text calendar spells b one =
    let t = shown_text laws rooms organisers world sound octets text in
    let events = spells.says.events in
    let each = t.only room.zone spells.tree events spells.object spells.says.says in
    let are = spells.says.are in
    elim one [
      | inl single ↦
          let (placed, c, own) = of_lists events spells.says.masters spells.says.overrides room.address events are.lists b are.each
          (subst (λ (l : List Instance). Contains l b) are.singles single) in
          (confirmed_there laws rooms organisers world sound octets t room there events each placed c own.kept b own.is).single own.apart
      | inr (series, among, is) ↦
          let (placed, passes, of) = zip_back (IsSeries events) (filter (is_series room.address) events) calendar.series series are.series among in
          let (c, test) = of_filtered (is_series room.address) events placed passes in
          let (both, ruled) = and_parts (is_kept room.address placed && is_master placed) (is_some placed.rule) test in
          let (kept, master) = and_parts (is_kept room.address placed) (is_master placed) both in
          let own = of_its_series events placed master series of ruled b is in
          (confirmed_there laws rooms organisers world sound octets t room there events each placed c kept b own.0).recurring own.1
    ]

-- what is confirmed in a text isn't unconfirmed in the room
not_unconfirmed : Laws → (rooms organisers : List (List ℕ)) (world : World) → IsSound rooms organisers world → (room : Hosted) → Contains world.rooms room
    → (b : Instance) → IsShownFor world room b → (Confirms room.book b → ⊥) → ⊥
not_unconfirmed laws rooms organisers world sound room there b (octets, text, h) never =
    let t = shown_text laws rooms organisers world sound octets text in
    let each = t.only room.zone h.tree h.events h.object h.says in
    let is = h.is in
    let either = confirmed_there laws rooms organisers world sound octets t room there h.events each is.event is.among is.kept b is.is in
    never (either.single (λ of. never (either.recurring of)))

pub shown_is_clear : Laws → (rooms organisers : List (List ℕ)) (world : World) → IsSound rooms organisers world → ShownIsClear world
shown_is_clear laws rooms organisers world sound room there a b t first second clash =
    let reached = sound.reached room there in
    not_unconfirmed laws rooms organisers world sound room there a first (λ one.
    not_unconfirmed laws rooms organisers world sound room there b second (λ other. laws.clear reached.deliveries room.book reached.runs a b t one other clash))

-- ---- kept texts

pub kept_texts_spell_all : Laws → (rooms organisers : List (List ℕ)) (world : World) → IsSound rooms organisers world → KeptTextsSpell world
kept_texts_spell_all laws rooms organisers world sound room there calendar kept =
    let reached = sound.reached room there in
    let named = sound.in_zones room there in
    let (all, spells, singles, series, same) = laws.spell room.address room.words room.zone reached.deliveries room.book calendar named reached.delivered reached.runs kept in
    (all, spells, same)

pub kept_texts_hold : Laws → (rooms organisers : List (List ℕ)) (world : World) → IsSound rooms organisers world → KeptTextsHold world
kept_texts_hold laws rooms organisers world sound room there calendar certificate kept made =
    laws.kept room.address room.words room.zone room.book calendar (sound.in_zones room there) (sound.reached room there) kept certificate made
