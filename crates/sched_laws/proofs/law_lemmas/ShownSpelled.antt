-- The text of a meeting spells a calendar in the zone of each room: its VEVENTs have their places there, no two are of one slot, and what they confirm
-- for the room is that part of what the room was asked for that no other VEVENT replaces. Behind schedules_hold.
use Rattle.std.proofs.Common.{◌≡◌, ◌≢◌, ◌∙◌, ℕ, ◌≤◌, ℤ, Bool, true, false, not, ◌&&◌, cond, List, [], ◌∷◌, length, filter, map, Option, Some, None, is_some, inl, inr, refl, sym, ap, subst, arith}
use Rattle.std.specs.Prelude.{Contains}
use Rattle.std.specs.List.{AllPairs, AllZip, flat_map, list_any}
use Rattle.std.specs.Ordering.{int_eq}
use Rattle.std.proofs.lemmas.Bool.{and_from, and_parts, cases_Bool}
use Rattle.std.proofs.lemmas.Bool.Decides.{Decides-int_eq}
use Rattle.std.proofs.lemmas.List.Elements.{All-contains}
use Rattle.profile.specs.checker.Calendars.{SpellsCalendarIn}
use Rattle.profile.specs.checker.Instances.{Instance}
use Rattle.profile.specs.events.Confirmed.{AreSingles, Confirmed, IsExcepted, IsReplacedAmong, IsSeries, by_its_rule, is_kept, is_series}
use Rattle.profile.specs.events.EventComponents.{EventComponent, has_accepted}
use Rattle.profile.specs.events.Events.{Event, is_master, is_override}
use Rattle.profile.specs.events.Placed.{IsPlaced}
use Rattle.profile.specs.streams.Schedules.{IsText}
use Rattle.profile.specs.streams.Streams.{Hosted}
use Rattle.profile.specs.streams.Worlds.{World}
use Rattle.profile.specs.text.Trees.{vevents}
use Rattle.cal_events.proofs.shared_lemmas.InOneOrder.{head_pairs, in_filtered, in_mapped, tail_pairs}
use Rattle.cal_events.proofs.shared_lemmas.SeriesLemmas.{zip_back}
use Rattle.itip_messages.specs.SentLaw.{HasAnswered, IsSaidAgain}
use Rattle.itip_order.proofs.Lists.{any_at, any_from, in_head, in_tail, none_in_nil}
use Rattle.room_books.specs.Room.{Pairwise}
use Rattle.room_books.proofs.laws_lemmas.KeptInstances.{IsHiding, none_left, singles_left}
use Rattle.room_books.proofs.laws_lemmas.KeptReplaced.{excepted_by}
use Rattle.room_books.proofs.laws_lemmas.PlacedTwice.{apart_alike}
use Rattle.room_books.proofs.shared_lemmas.Pairs.{pairs_from}
use Rattle.sched_laws.proofs.law_lemmas.Invariant.{AreNamedFixed, IsNamedFixed, IsSound}
use Rattle.sched_laws.proofs.law_lemmas.Placing.{events_there, said_there}
use Rattle.sched_laws.proofs.law_lemmas.RoomMeant.{room_total}
use Rattle.sched_laws.proofs.law_lemmas.ShownInstances.{alike}
use Rattle.sched_laws.proofs.law_lemmas.ShownTexts.{IsShownText, of_booked, shown_text, stored_meeting}
use Rattle.sched_laws.proofs.law_lemmas.StoredSlots.{again_fixed, placed_there, same_written}
use Rattle.sched_laws.specs.Law.{Laws}

-- ---- no two are of one slot

abbrev SlotsDiffer : EventComponent → EventComponent → Type 0
SlotsDiffer a b = a.recurrence ≢ b.recurrence

-- two that name one instant name it by the same time
one_time : (a b : EventComponent) → IsNamedFixed a → IsNamedFixed b → a.recurrence ≡ b.recurrence → a.written.recurrence ≡ b.written.recurrence
one_time a b f g same = same_written a.written.recurrence b.written.recurrence f.fixed g.fixed (sym f.is ∙ same ∙ g.is)

few_more : (e : EventComponent) (masters : List EventComponent) (y : EventComponent) → length (e ∷ masters) ≤ 1 → Contains masters y → ⊥
few_more e masters y few (k, w, is) = omega (arith, few, w)

-- of a meeting
all_differ : (events : List EventComponent) → length (filter is_master events) ≤ 1 → AllPairs ◌≢◌ (map (λ (e : EventComponent). e.written.recurrence) (filter is_override events)) → AreNamedFixed events
    → Pairwise SlotsDiffer events
all_differ [] few differ fixed = tt
all_differ (e ∷ es) few differ fixed = by (λ masters times. all_differ es masters times (λ x c. fixed x (in_tail e es x c))) (is_override e) refl
  where
    Others : Type 0
    Others =
        length (filter is_master es) ≤ 1 → AllPairs ◌≢◌ (map (λ (x : EventComponent). x.written.recurrence) (filter is_override es)) → Pairwise SlotsDiffer es

    later_fixed : AreNamedFixed es
    later_fixed x c = fixed x (in_tail e es x c)

    by : Others → (o : Bool) → is_override e ≡ o → Pairwise SlotsDiffer (e ∷ es)
    by others true is =
        let masters : length (filter is_master es) ≤ 1 = subst (λ (o : Bool). length (cond (not o) (e ∷ filter is_master es) (filter is_master es)) ≤ 1) is few in
        let times : AllPairs ◌≢◌ (e.written.recurrence ∷ map (λ (x : EventComponent). x.written.recurrence) (filter is_override es)) =
        subst (λ (o : Bool). AllPairs ◌≢◌ (map (λ (x : EventComponent). x.written.recurrence) (cond o (e ∷ filter is_override es) (filter is_override es)))) is differ in (
          λ y c same.
              let override : is_override y ≡ true = ap (λ (r : Option ℤ). is_some r) (sym same) ∙ is in
              let there = in_mapped (λ (x : EventComponent). x.written.recurrence) (filter is_override es) y (in_filtered is_override es y c override) in
              head_pairs ◌≢◌ e.written.recurrence y.written.recurrence (map (λ (x : EventComponent). x.written.recurrence) (filter is_override es)) times there
              (one_time e y (fixed e (in_head e es)) (later_fixed y c) same),
          others masters (tail_pairs ◌≢◌ e.written.recurrence (map (λ (x : EventComponent). x.written.recurrence) (filter is_override es)) times),
        )
    by others false is =
        let masters : length (e ∷ filter is_master es) ≤ 1 = subst (λ (o : Bool). length (cond (not o) (e ∷ filter is_master es) (filter is_master es)) ≤ 1) is few in
        let times : AllPairs ◌≢◌ (map (λ (x : EventComponent). x.written.recurrence) (filter is_override es)) =
        subst (λ (o : Bool). AllPairs ◌≢◌ (map (λ (x : EventComponent). x.written.recurrence) (cond o (e ∷ filter is_override es) (filter is_override es)))) is differ in (
          λ y c same.
              let master : is_master y ≡ true = ap (λ (r : Option ℤ). not (is_some r)) (sym same) ∙ ap not is in
              few_more e (filter is_master es) y masters (in_filtered is_master es y c master),
          others (omega (arith, masters)) times,
        )

-- what is said again and placed has its slots
zip_pairs : (P : EventComponent → Type 0) (R : EventComponent → EventComponent → Type 0) → ((x y : EventComponent) → P x → R x y → y.recurrence ≡ x.recurrence)
    → (xs ys : List EventComponent) → ((x : EventComponent) → Contains xs x → P x) → Pairwise SlotsDiffer xs → AllZip R xs ys → Pairwise SlotsDiffer ys
zip_pairs P R slots [] [] f p z = tt
zip_pairs P R slots [] (y ∷ ys) f p z = absurd z
zip_pairs P R slots (x ∷ xs) [] f p z = absurd z
zip_pairs P R slots (x ∷ xs) (y ∷ ys) f p z = (
  λ other c same.
      let (from, among, is) = zip_back R xs ys other z.1 c in
      p.0 from among (sym (slots x y (f x (in_head x xs)) z.0) ∙ same ∙ slots from other (f from (in_tail x xs from among)) is),
  zip_pairs P R slots xs ys (λ v c. f v (in_tail x xs v c)) p.1 z.1,
)

-- ---- which instances are replaced

-- the instants of an event that others of the events replace
abbrev replaced : EventComponent → List EventComponent → List ℤ
replaced event events = (excepted_by (record event { exceptions = [] }) events).0

abbrev hidden_in : List EventComponent → EventComponent → Instance → Bool
hidden_in events event instance = is_master event && list_any (λ t. int_eq t instance.start) (replaced event events)

hiding_in : (events : List EventComponent) (event : EventComponent) → IsHiding events event (hidden_in events event)
hiding_in events event =
    let are = (excepted_by (record event { exceptions = [] }) events).1 in
    record {
      replaced = λ b is h.
          let some = (and_parts (is_master event) (list_any (λ t. int_eq t b.start) (replaced event events)) h).1 in
          let (t, among, test) = any_at (λ t. int_eq t b.start) (replaced event events) some in
          elim (All-contains (IsExcepted events (record event { exceptions = [] })) (replaced event events) t are.each among) [
            | inl none ↦ absurd (none_in_nil t none)
            | inr r ↦ subst (IsReplacedAmong events event) ((Decides-int_eq t b.start).0 test) r
          ];
      hides = λ b is master r. and_from _ _ master (any_from (λ t. int_eq t b.start) (replaced event events) b.start (are.all b.start (inr r)) ((Decides-int_eq b.start b.start).1 refl));
      master = λ b h. (and_parts (is_master event) (list_any (λ t. int_eq t b.start) (replaced event events)) h).0;
    }

-- ---- what is confirmed

-- the series of an event among others
abbrev series_of : List EventComponent → EventComponent → Event
series_of events event = record { master = Some (by_its_rule event (excepted_by event events).0); overrides = [] }

each_series : (events some : List EventComponent) → AllZip (IsSeries events) some (map (series_of events) some)
each_series events [] = tt
each_series events (e ∷ es) = (record { exceptions = (excepted_by e events).0; are = (excepted_by e events).1; is = refl }, each_series events es)

each_listed : (room : List ℕ) (events some : List EventComponent) → ((e : EventComponent) → Contains some e → (singles : List Instance) × AreSingles room events e singles)
    → (lists : List (List Instance)) × AllZip (AreSingles room events) some lists
each_listed room events [] f = ([], tt)
each_listed room events (e ∷ es) f =
    let one = f e (in_head e es) in
    let rest = each_listed room events es (λ x c. f x (in_tail e es x c)) in
    (one.0 ∷ rest.0, (one.1, rest.1))

-- of a text whose events are these in the zone of a room
module _ (laws : Laws) (rooms organisers : List (List ℕ)) (world : World) (sound : IsSound rooms organisers world) (octets : List ℕ) (text : IsShownText world octets)
    (room : Hosted) (there : Contains world.rooms room) (events : List EventComponent) (each : AllZip (IsPlaced room.zone) text.shown events) where
  slots_differ : Pairwise SlotsDiffer events
  slots_differ =
      let meeting = stored_meeting rooms organisers world sound octets text in
      let stored = all_differ text.stored.events meeting.are.masters meeting.are.differ meeting.fixed in
      let Again : EventComponent → EventComponent → Type 0 = IsSaidAgain (HasAnswered text.host.book text.stored) text.stored.revision in
      let shown = zip_pairs IsNamedFixed Again (λ x y f again. again.recurrence) text.stored.events text.shown meeting.fixed stored text.each in
      let fixed : AreNamedFixed text.shown = λ said c.
      let (event, among, again) = zip_back Again text.stored.events text.shown said text.each c in
      again_fixed (HasAnswered text.host.book text.stored) text.stored.revision event said again (meeting.fixed event among) in
      zip_pairs IsNamedFixed (IsPlaced room.zone) (λ x y f placed. placed_there room.zone x y f placed) text.shown events fixed shown each

  its_singles : (placed : EventComponent) → Contains events placed → (singles : List Instance) × AreSingles room.address events placed singles
  its_singles placed c =
      elim (cases_Bool (is_kept room.address placed)) [
        | inl kept ↦
            let (said, shown, is_placed) = zip_back (IsPlaced room.zone) text.shown events placed each c in
            let accepted = (and_parts (has_accepted room.address said) (not said.cancelled) (sym (ap (is_kept room.address) is_placed.is) ∙ kept)).0 in
            let o = of_booked laws rooms organisers world sound octets text room there said shown accepted in
            let same = alike laws rooms organisers world sound octets text room there events each said placed is_placed o in
            let own = apart_alike o.placed placed same o.booked.answer.claim.singles o.singles in (
              filter (λ b. not (hidden_in events placed b)) o.booked.answer.claim.singles,
              singles_left events placed (hidden_in events placed) (hiding_in events placed) room.address o.booked.answer.claim.singles kept own,
            )
        | inr not_kept ↦ ([], none_left room.address events placed not_kept)
      ]

  abbrev confirmed_there : Confirmed
  confirmed_there = record {
    series = map (series_of events) (filter (is_series room.address) events);
    singles = flat_map (λ own. own) (each_listed room.address events events its_singles).0;
  }

  spelled_there : SpellsCalendarIn room.zone room.address octets confirmed_there
  spelled_there =
      let listed = each_listed room.address events events its_singles in
      let differ = pairs_from SlotsDiffer events slots_differ in
      record {
        lines = text.lines;
        tree = text.own_tree;
        object = text.object;
        says = record {
          events = events;
          says = said_there room.zone text.own_tree (vevents text.own_tree) text.shown events text.says each;
          masters = λ i j d l w m n same. differ i j d l w (m ∙ sym n);
          overrides = λ i j d l w slot m n same. differ i j d l w (m ∙ sym n);
          are = record { series = each_series events (filter (is_series room.address) events); lists = listed.0; each = listed.1; singles = refl };
        };
      }

pub texts_are_spelled : Laws → (rooms organisers : List (List ℕ)) (world : World) → IsSound rooms organisers world → (room : Hosted) → Contains world.rooms room
    → (octets : List ℕ) → IsText world octets → (calendar : Confirmed) × SpellsCalendarIn room.zone room.address octets calendar
texts_are_spelled laws rooms organisers world sound room there octets is_text =
    let text = shown_text laws rooms organisers world sound octets is_text in
    let found = events_there room.zone (room_total room.words room.zone (sound.in_zones room there)) text.shown in (
      confirmed_there laws rooms organisers world sound octets text room there found.0 found.1,
      spelled_there laws rooms organisers world sound octets text room there found.0 found.1,
    )
