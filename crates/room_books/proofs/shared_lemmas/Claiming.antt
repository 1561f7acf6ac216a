-- The claims of a message: one for each part, of the part and the instances of its event in the room.
-- Cited by all_asked of claims, claims_of of claims, Room::take of room.
use Rattle.std.proofs.Common.{arith, ◌⊎◌, ◌<ℤ◌, ◌≡◌, ◌≢◌, ◌∙◌, ℕ, ℤ, ◌<◌, ◌+◌, Bool, true, false, cond, List, [], ◌∷◌, ◌++◌, take, length, get_or, map, Result, Ok, Err, IfOk, inl, inr, Option, None, Some, refl, sym, ap, subst}
use Rattle.std.specs.Prelude.{slice_get, not, is_some, unwrap_or, option_map, All, AllPairs, IfSome, MatchOption}
use Rattle.std.proofs.lemmas.Bool.{and_parts, both_ways, true≢false}
use Rattle.std.specs.declared.cmp.Ordering.TheVariants.{Less, Equal}
use Rattle.std.specs.Ordering.{is_eq}
use Rattle.std.specs.List.{AllZip, Contains, filter}
use Rattle.std.proofs.lemmas.Cmp.{tied_itself}
use Rattle.std.proofs.lemmas.List.{append-nil}
use Rattle.std.proofs.lemmas.List.Elements.{All-contains, All-tail, filter_more}
use Rattle.std.proofs.lemmas.Int.{ints}
use Rattle.std.proofs.lemmas.Option.{slice_get_within, unwrap_or-slice_get}
use Rattle.ical_values.specs.Octets.{address_octets, text_octets}
use Rattle.cal_events.proofs.shared_lemmas.InOneOrder.{head_pairs, tail_pairs}
use Rattle.itip_messages.specs.declared.message.Message.{Message}
use Rattle.itip_messages.specs.declared.message_component.MessageComponent.{MessageComponent}
use Rattle.itip_messages.specs.Message.{RepresentsMessage, HasInstances, SaysComponent, IsDated, is_message_for, has_part}
use Rattle.itip_messages.proofs.shared_lemmas.MessageLemmas.{addressed, body_is, part_said, kept_components, kept_instances, kept_among, no_parts_for}
use Rattle.itip_order.specs.Parts.{part_of, slot_of}
use Rattle.itip_order.specs.declared.part.Part.{Part as Taken}
use Rattle.itip_order.specs.declared.part.Slot as rust
use Rattle.itip_order.proofs.Lists.{in_cons, in_head, in_tail, none_in_nil}
use Rattle.itip_order.proofs.Order.{slot_total}
use Rattle.itip_order.proofs.SlotEnds.{greatest_mapped, greatest_none}
use Rattle.profile.specs.checker.Instances.{Key, Instance}
use Rattle.profile.specs.events.EventComponents.{EventComponent}
use Rattle.profile.specs.events.Placed.{IsAt}
use Rattle.profile.specs.events.Properties.{BothOrNeither}
use Rattle.profile.specs.series.RoomZones.{IsRoomZone}
use Rattle.profile.specs.series.Zones.{Zone}
use Rattle.profile.specs.events.Starts.{ComesBefore, IsInstance, key_at}
use Rattle.profile.specs.events.Confirmed.{alone, has_series, AreApart, AreOfRule, IsOfSeries}
use Rattle.cal_events.specs.Series.{series_said, IsSeriesOf}
use Rattle.cal_events.specs.declared.series.Series.{Series}
use Rattle.cal_events.specs.OwnInstances.{own_instance_at, IsTimely}
use Rattle.cal_events.proofs.shared_lemmas.OwnSingles.{master_alone, of_both, one_by_key, override_alone}
use Rattle.cal_events.specs.MeetingComponents.{IsInEventDates}
use Rattle.cal_events.specs.InRoom.{AreInstancesIn}
use Rattle.cal_events.proofs.shared_lemmas.RoomClocks.{room_clock}
use Rattle.profile.specs.events.Events.{Event as Recurs, is_master}
use Rattle.profile.specs.events.Messages as messages
use Rattle.profile.specs.rooms.Messages as profile
use Rattle.profile.specs.rooms.Messages.{AreGreatest, Content, IsPart, canonical, no_content, cancels, is_addressed, names_room, parts_for}
use Rattle.profile.specs.rooms.Revisions.{Part, Slot, Body, Whole, Set, Absent, Cancelled, slot_cmp}
use Rattle.profile.specs.rooms.Rooms as rooms
use Rattle.profile.specs.rooms.Rooms.{is_set}
use Rattle.profile.specs.streams.Streams.{AsksFor, IsClaim}
use Rattle.profile.specs.text.Values.{IsClockSeconds}
use Rattle.cal_events.specs.declared.instance.Single.{Single}
use Rattle.room_books.specs.declared.claim.Claim.{Claim}
use Rattle.room_books.specs.declared.claims.Asked.{Asked}
use Rattle.room_books.specs.Claim.{is_of_whole}
use Rattle.room_books.specs.Claims.{AreClaimed, AreClaimsOf, IsAskingIn}
use Rattle.room_books.specs.Taking.{body_content, part_instance, claim_said, claims_said}
use Rattle.room_books.specs.Room.{Pairwise, IsFitting, IsFittingSeries, IsBodyText, IsOfSlot, SlotDated}
use Rattle.itip_messages.proofs.shared_lemmas.BodyContents.{body_of}
use Rattle.room_books.proofs.laws_lemmas.PlacedTwice.{slot_one}
use Rattle.room_books.proofs.shared_lemmas.Loops.{zip_push}
use Rattle.room_books.proofs.room_lemmas.Meetings.{is_of_from}
use Rattle.room_books.proofs.shared_lemmas.Pairs.{map_at, map_from}

pub if_ok : {T E : Type 0} (r : Result T E) (P Q : T → Type 0) → ((x : T) → P x → Q x) → IfOk r P → IfOk r Q
if_ok (Ok x) P Q f p = f x p
if_ok (Err e) P Q f p = tt

-- what a part asks for with these instances and this series
abbrev said : Part → List Single → Option Series → rooms.Claim
said part singles series = record { part = part; content = body_content part.body; singles = map (part_instance part) singles; series = option_map series_said series }

-- the claim that a part is with what it asks for
abbrev claim_with : Taken × Asked → rooms.Claim
claim_with one = said (part_of one.0) one.1.singles.items one.1.series

-- the first claim of a list is one of it
pub first_in : (claims : List Claim) (claim : Claim) → Some claim ≡ slice_get claims 0 → Contains claims claim
first_in claims claim e = (0, slice_get_within claims 0 claim (sym e), sym (unwrap_or-slice_get claims 0 claim) ∙ ap (λ o. unwrap_or o claim) (sym e))

-- a list without a first claim has none
pub none_first : (claims : List Claim) → None ≡ slice_get claims 0 → claims ≡ []
none_first [] e = refl
none_first (claim ∷ claims) e = absurd (cc)

-- one more element of a loop that leaves some out
pub zip_some : {X Y : Type 0} (R : X → Y → Type 0) (p : X → Bool) (items all : List X) (i : ℕ) (x : X) (ys new : List Y) (y : Y) → items ≡ all → i < length items → x ≡ get_or items i x → p x ≡ true → new ≡ ys ++ y ∷ []
    → AllZip R (filter p (take i all)) ys → R x y → AllZip R (filter p (take (i + 1) all)) new
zip_some {X} {Y} R p items all i x ys new y same h e passes is z r =
    let old = subst (λ (l : List X). AllZip R (filter p (take i l)) ys) (sym same) z in
    let one : filter p (take (i + 1) items) ≡ filter p (take i items) ++ x ∷ [] = filter_more p items i x h ∙ ap (λ w. filter p (take i items) ++ cond (p w) (w ∷ []) []) (sym e) ∙ ap (λ b. filter p (take i items) ++ cond b (x ∷ []) []) passes in
    subst (λ (l : List X). AllZip R (filter p (take (i + 1) l)) new) same
    (subst (λ (l : List X). AllZip R l new) (sym one)
    (subst (λ (l : List Y). AllZip R (filter p (take i items) ++ x ∷ []) l) (sym is) (zip_push R (filter p (take i items)) ys x y old r)))

pub zip_skip : {X Y : Type 0} (R : X → Y → Type 0) (p : X → Bool) (items all : List X) (i : ℕ) (x : X) (ys : List Y) → items ≡ all → i < length items → x ≡ get_or items i x → p x ≡ false
    → AllZip R (filter p (take i all)) ys → AllZip R (filter p (take (i + 1) all)) ys
zip_skip {X} {Y} R p items all i x ys same h e fails z =
    let none : filter p (take (i + 1) items) ≡ filter p (take i items) = filter_more p items i x h ∙ ap (λ w. filter p (take i items) ++ cond (p w) (w ∷ []) []) (sym e) ∙ ap (λ b. filter p (take i items) ++ cond b (x ∷ []) []) fails ∙ append-nil (filter p (take i items)) in
    subst (λ (l : List X). AllZip R (filter p (take (i + 1) l)) ys) same
    (subst (λ (l : List X). AllZip R l ys) (sym none) (subst (λ (l : List X). AllZip R (filter p (take i l)) ys) (sym same) z))

-- both relations hold place by place
zip_both : {X Y : Type 0} (P Q : X → Y → Type 0) (xs : List X) (ys : List Y) → AllZip P xs ys → AllZip Q xs ys → AllZip (λ x y. P x y × Q x y) xs ys
zip_both P Q [] [] p q = tt
zip_both P Q [] (y ∷ ys) p q = absurd p
zip_both P Q (x ∷ xs) [] p q = absurd p
zip_both P Q (x ∷ xs) (y ∷ ys) p q = ((p.0, q.0), zip_both P Q xs ys p.1 q.1)

-- ---- the instances of an event by itself

-- whose instance it is
pub record IsOwn (event : EventComponent) (b : Instance) : Type 0 where
  pub key : b.key ≡ key_at event b.key.slot
  pub slot : IsOfSlot (profile.slot_of event) b.key.slot
  pub start : IsClockSeconds b.start
  pub slot_at : IsClockSeconds b.key.slot

-- a stamp writes what an event may name
clock_named : (t : ℤ) → IsInEventDates t → IsClockSeconds t
clock_named t n = (omega (arith, ints, n.0), omega (arith, ints, n.1))

module _ (event : EventComponent) (timely : IsTimely event) (dated : IsDated (profile.slot_of event)) where
  -- it starts at its slot, or its slot is that of the event
  own_instance : (b : Instance) → IsInstance (alone event) b → IsOwn event b
  own_instance b h = go (of_both event)
    where
      go : (event.recurrence ≡ None) ⊎ ((slot : ℤ) × (event.recurrence ≡ Some slot)) → IsOwn event b
      go (inl e) =
          let x = master_alone event b e h in
          let same : b.key.slot ≡ b.start = ap (λ (k : Key). k.slot) x.key in
          let start = clock_named b.start x.starts.in_dates in
          record {
            key = x.key ∙ ap (key_at event) (sym same);
            slot = subst (λ (r : Option ℤ). IsOfSlot (profile.slot_named r) b.key.slot) (sym e) tt;
            start = start;
            slot_at = subst IsClockSeconds (sym same) start;
          }
      go (inr (slot, e)) =
          let x = override_alone event b slot e h in
          record {
            key = x.key;
            slot = subst (λ (r : Option ℤ). IsOfSlot (profile.slot_named r) b.key.slot) (sym x.slot) refl;
            start = subst IsClockSeconds (sym x.starts) (clock_named event.times.start timely.starts);
            slot_at = subst (λ (r : Option ℤ). IsDated (profile.slot_named r)) x.slot dated;
          }

  abbrev IsHere : Instance → Type 0
  IsHere b = IsInstance (alone event) b × (IsOfSeries event b → ⊥)

  one_slot : (a b : Instance) → IsInstance (alone event) a → IsInstance (alone event) b → a.key.slot ≡ b.key.slot → a ≡ b
  one_slot a b h k same = one_by_key event a b timely.steady h k ((own_instance a h).key ∙ ap (key_at event) same ∙ sym (own_instance b k).key)

  -- that of a master starts at its slot
  own_start : (b : Instance) → is_master event ≡ true → IsInstance (alone event) b → b.key.slot ≡ b.start
  own_start b master h = elim (of_both event) [
    | inl e ↦ ap (λ (k : Key). k.slot) (master_alone event b e h).key
    | inr o ↦ absurd (both_ways (is_master event) (ap (λ (r : Option ℤ). not (is_some r)) o.1) master)
  ]

  -- no two have one slot
  own_apart : (own : List Instance) → All IsHere own → AllPairs ComesBefore own → Pairwise (λ (a b : Instance). a.key.slot ≢ b.key.slot) own
  own_apart [] h up = tt
  own_apart (b ∷ bs) h up = (
    λ y c same.
        let here = All-contains IsHere (b ∷ bs) b h (in_head b bs) in
        let there = All-contains IsHere (b ∷ bs) y h (in_tail b bs y c) in
        let one : b ≡ y = one_slot b y here.0 there.0 same in
        never_before_itself y (subst (λ (x : Instance). ComesBefore x y) one (head_pairs ComesBefore b y bs up c)),
    own_apart bs (All-tail IsHere b bs h) (tail_pairs ComesBefore b bs up),
  )
    where
      never_before_itself : (y : Instance) → ComesBefore y y → ⊥
      never_before_itself y (inl l) = omega (arith, ints, l)
      never_before_itself y (inr l) = let w : y.key.slot <ℤ y.key.slot = l.1 in omega (arith, ints, w)

-- ---- the claim of one component

-- a series is asked for only where the part is of the whole
whole_by : (series : Option Series) (slot : rust.Slot) → ((some : Series) → series ≡ Some some → slot_of slot ≡ Whole) → is_of_whole series slot ≡ true
whole_by None slot h = refl
whole_by (Some series) slot h = ap (λ (o : Slot). is_eq (slot_cmp o Whole)) (h series refl)

module _ (room words : List ℕ) (zone : Option Zone) (means : IsRoomZone words zone) (message : Message) (given : messages.Message) (s : RepresentsMessage message given) (event : EventComponent) (component : MessageComponent)
    (among : Contains given.events event) (is : SaysComponent event component × HasInstances event component) (one : Taken × Asked) (x : IsAskingIn room zone message component one) where
  abbrev says : SaysComponent event component
  says = is.0

  abbrev part : Part
  part = part_of one.0

  abbrev singles : List Single
  singles = one.1.singles.items

  abbrev content : Content
  content = says.canonical.content

  abbrev off : Bool
  off = cancels given.method event

  abbrev named : Bool
  named = names_room room event

  is_part : IsPart room zone given event (cond off no_content (cond named content no_content)) part
  is_part = part_said room message given s zone event component among says part x.part

  -- what the body reads as, whether it is cancelled, absent or set
  content_is : (b n : Bool) (body : Body) → body ≡ cond b Cancelled (cond n (Set (canonical content)) Absent) → body_content body ≡ cond b no_content (cond n content no_content)
  content_is true n body e = ap body_content e
  content_is false true body e = ap body_content e ∙ (body_of content event says.canonical.when).read
  content_is false false body e = ap body_content e

  texts : (b n : Bool) (body : Body) → body ≡ cond b Cancelled (cond n (Set (canonical content)) Absent) → IsBodyText body
  texts true n body e = subst IsBodyText (sym e) tt
  texts false true body e = subst IsBodyText (sym e) (body_of content event says.canonical.when).utf8
  texts false false body e = subst IsBodyText (sym e) tt

  body_there : part.body ≡ cond off Cancelled (cond named (Set (canonical content)) Absent)
  body_there = ap (λ (p : Part). p.body) x.part.2 ∙ body_is room message given s event component says x.part.0

  pub slot_dated : SlotDated part.slot
  slot_dated = says.dated_each words zone means part.slot is_part.slot

  pub name_there : (part.organiser ≡ address_octets message.organiser) × (part.uid ≡ text_octets message.uid)
  name_there = (ap (λ (p : Part). p.organiser) x.part.2, ap (λ (p : Part). p.uid) x.part.2)

  -- ---- where it is to take place

  module _ (inst : AreInstancesIn zone event singles one.1.series) where
    abbrev placed : EventComponent
    placed = inst.placed

    organiser_is : unwrap_or placed.organiser [] ≡ part.organiser
    organiser_is = ap (λ (e : EventComponent). unwrap_or e.organiser []) inst.is_placed.is ∙ ap (λ o. unwrap_or o []) is_part.organiser

    uid_is : placed.uid ≡ part.uid
    uid_is = ap (λ (e : EventComponent). e.uid) inst.is_placed.is ∙ sym is_part.uid

    at_slot : BothOrNeither (IsAt zone) event.written.recurrence placed.recurrence
    at_slot = subst (BothOrNeither (IsAt zone) event.written.recurrence) (sym (ap (λ (e : EventComponent). e.recurrence) inst.is_placed.is)) inst.is_placed.slot

    -- the slot of the part is that of the event there
    slot_is : part.slot ≡ profile.slot_of placed
    slot_is = is_part.slot.2 ∙ ap profile.slot_named (slot_one zone (room_clock words zone means).steady.meaning event.written.recurrence is_part.slot.0 placed.recurrence is_part.slot.1 at_slot)

    dated : IsDated (profile.slot_of placed)
    dated = says.dated_each words zone means (profile.slot_of placed) (placed.recurrence, at_slot, refl)

    booked_is : (single : Single) → part_instance part single ≡ own_instance_at placed single
    booked_is single =
        sym (λ i. record { key = record { organiser = organiser_is i; uid = uid_is i; slot = single.slot }; start = single.span.start; end = single.span.end })

    all_booked : (own : List Single) → map (part_instance part) own ≡ map (own_instance_at placed) own
    all_booked [] = refl
    all_booked (y ∷ ys) = λ i. booked_is y i ∷ all_booked ys i

    -- they are all that the event has by itself there, apart from its series
    are_all : AreApart placed (map (part_instance part) singles)
    are_all = subst (AreApart placed) (sym (all_booked singles)) inst.are.singles

    of_rule : (series : Option Series) → MatchOption series (has_series placed ≡ false) (λ own. IsSeriesOf placed (series_said own)) → AreOfRule placed (option_map series_said series)
    of_rule None m = m
    of_rule (Some series) m = (m.has, m.instances)

    asks_set : AsksFor true zone event (claim_with one)
    asks_set = (placed, inst.is_placed, are_all, of_rule one.1.series inst.are.series)

    -- a master has the slot of the whole
    master_slot : is_master placed ≡ true → part.slot ≡ Whole
    master_slot master = slot_is ∙ unnamed placed.recurrence master
      where
        unnamed : (r : Option ℤ) → not (is_some r) ≡ true → profile.slot_named r ≡ Whole
        unnamed None h = refl
        unnamed (Some t) h = absurd (true≢false (sym h))

    whole_set : is_of_whole one.1.series one.0.slot ≡ true
    whole_set = whole_by one.1.series one.0.slot (λ series e.
        let m : IsSeriesOf placed (series_said series) = subst (λ (o : Option Series). MatchOption o (has_series placed ≡ false) (λ own. IsSeriesOf placed (series_said own))) e inst.are.series in
        master_slot (and_parts (is_master placed) (is_some placed.rule) m.has).0)

    abbrev Own : Instance → Type 0
    Own = IsOwn placed

    abbrev Here : Instance → Type 0
    Here = IsHere placed inst.timely dated

    own_there : (y : Instance) → Contains (map (part_instance part) singles) y → Own y
    own_there y c = own_instance placed inst.timely dated y (All-contains Here (map (part_instance part) singles) y are_all.each c).0

    -- an instance of the series is one of the event's, which is a master
    fits_series : (o : Option Recurs) → AreOfRule placed o → IfSome o (IsFittingSeries (claim_with one))
    fits_series None r = tt
    fits_series (Some series) r =
        let here : (b : Instance) → IsInstance series b → IsInstance (alone placed) b × IsOfSeries placed b = λ b h. (r.1 b).0 h in
        let own : (b : Instance) → IsInstance series b → Own b = λ b h. own_instance placed inst.timely dated b (here b h).0 in
        let master : is_master placed ≡ true = (and_parts (is_master placed) (is_some placed.rule) r.0).0 in
        record {
          whole = master_slot master;
          organiser = λ b h. ap (λ (k : Key). k.organiser) (own b h).key ∙ organiser_is;
          uid = λ b h. ap (λ (k : Key). k.uid) (own b h).key ∙ uid_is;
          slot = λ b h. own_start placed inst.timely dated b master (here b h).0;
          starts = λ b h. (own b h).start;
          apart = λ a b c h same.
              let single = All-contains Here (map (part_instance part) singles) a are_all.each c in
              single.1 (subst (IsOfSeries placed) (sym (one_slot placed inst.timely dated a b single.0 (here b h).0 same)) (here b h).1);
        }

    fits_set : IsFitting (claim_with one)
    fits_set = record {
      content = refl;
      text = texts off named part.body body_there;
      organiser = λ y c. ap (λ (k : Key). k.organiser) (own_there y c).key ∙ organiser_is;
      uid = λ y c. ap (λ (k : Key). k.uid) (own_there y c).key ∙ uid_is;
      slot = λ y c. subst (λ (o : Slot). IsOfSlot o y.key.slot) (sym slot_is) (own_there y c).slot;
      differ = own_apart placed inst.timely dated (map (part_instance part) singles) are_all.each are_all.ordered;
      starts = λ y c. (own_there y c).start;
      slots = λ y c. (own_there y c).slot_at;
      recurs = fits_series (option_map series_said one.1.series) (of_rule one.1.series inst.are.series);
    }

  -- ---- where it isn't

  nothing : IsFitting (said part [] None)
  nothing = record {
    content = refl;
    text = texts off named part.body body_there;
    organiser = λ y c. absurd (none_in_nil y c);
    uid = λ y c. absurd (none_in_nil y c);
    slot = λ y c. absurd (none_in_nil y c);
    differ = tt;
    starts = λ y c. absurd (none_in_nil y c);
    slots = λ y c. absurd (none_in_nil y c);
    recurs = tt;
  }

  -- ---- in both cases

  -- what is known of its claim
  pub record IsKnown : Type 0 where
    pub asks : AsksFor (is_set part) zone event (claim_with one)
    pub fits : IsFitting (claim_with one)
    pub whole : is_of_whole one.1.series one.0.slot ≡ true

  known_by : (b : Bool) → is_set part ≡ b → IsKnown
  known_by true h =
      let inst = x.asks.set h event says is.1 in
      record { asks = subst (λ (b : Bool). AsksFor b zone event (claim_with one)) (sym h) (asks_set inst); fits = fits_set inst; whole = whole_set inst }
  known_by false h =
      let none = x.asks.unset h in
      let same : said part [] None ≡ claim_with one = sym (λ i. said part (none.0 i) (none.1 i)) in
      record {
        asks = subst (λ (b : Bool). AsksFor b zone event (claim_with one)) (sym h) (subst (AsksFor false zone event) same (refl, refl));
        fits = subst IsFitting same nothing;
        whole = ap (λ o. is_of_whole o one.0.slot) none.1;
      }

  pub known : IsKnown
  known = known_by (is_set part) refl

  pub is_claim : IsClaim room zone given event (claim_with one)
  is_claim = record {
    part = subst (λ (c : Content). IsPart room zone given event c part) (sym (content_is off named part.body body_there)) is_part;
    asks = known.asks;
  }

-- ---- those that are kept

-- each is of another slot, so of another part
claims_apart : (claims : List rooms.Claim) → AllPairs (λ (a b : rooms.Claim). slot_cmp a.part.slot b.part.slot ≡ Less) claims → Pairwise (λ (a b : rooms.Claim). a.part ≢ b.part) claims
claims_apart [] up = tt
claims_apart (c ∷ cs) up = (
  λ y k same.
      let less : slot_cmp c.part.slot y.part.slot ≡ Less = head_pairs (λ (a b : rooms.Claim). slot_cmp a.part.slot b.part.slot ≡ Less) c y cs up k in
      not_less y.part.slot (subst (λ (o : Part). slot_cmp o.slot y.part.slot ≡ Less) same less),
  claims_apart cs (tail_pairs (λ (a b : rooms.Claim). slot_cmp a.part.slot b.part.slot ≡ Less) c cs up),
)
  where
    not_less : (o : Slot) → slot_cmp o o ≡ Less → ⊥
    not_less o l = let e = tied_itself slot_total o in let x : Less ≡ Equal = sym l ∙ e in cc

-- the claims that were made of these
said_of : (kept : List (Taken × Asked)) (claims : List Claim) → AreClaimsOf kept claims → ((one : Taken × Asked) → Contains kept one → is_of_whole one.1.series one.0.slot ≡ true)
    → claims_said claims ≡ map claim_with kept
said_of [] [] z h = refl
said_of [] (c ∷ cs) z h = absurd z
said_of (k ∷ ks) [] z h = absurd z
said_of (k ∷ ks) (c ∷ cs) z h =
    let x = z.0 in
    let w = h k (in_head k ks) in
    λ i. said (part_of (x.part i)) (x.singles i).items (x.series w i) ∷ said_of ks cs z.1 (λ y there. h y (in_tail k ks y there)) i

-- ---- all claims

module _ (room words : List ℕ) (zone : Option Zone) (means : IsRoomZone words zone) (message : Message) (given : messages.Message) (s : RepresentsMessage message given) where
  abbrev Says : EventComponent → MessageComponent → Type 0
  Says event component = SaysComponent event component × HasInstances event component

  abbrev Among : List EventComponent → Type 0
  Among events = (e : EventComponent) → Contains events e → Contains given.events e

  rest_among : (e : EventComponent) (es : List EventComponent) → Among (e ∷ es) → Among es
  rest_among e es f x c = f x (in_tail e es x c)

  claims_zip : (events : List EventComponent) (components : List MessageComponent) (all : List (Taken × Asked)) → Among events → AllZip Says events components → AllZip (IsAskingIn room zone message) components all
      → AllZip (IsClaim room zone given) events (map claim_with all)
  claims_zip [] [] [] f y z = tt
  claims_zip [] [] (c ∷ cs) f y z = absurd z
  claims_zip [] (d ∷ ds) cs f y z = absurd y
  claims_zip (e ∷ es) [] cs f y z = absurd y
  claims_zip (e ∷ es) (d ∷ ds) [] f y z = absurd z
  claims_zip (e ∷ es) (d ∷ ds) (c ∷ cs) f y z =
      (is_claim room words zone means message given s e d (f e (in_head e es)) y.0 c z.0, claims_zip es ds cs (rest_among e es f) y.1 z.1)

  -- what is known of each
  pub record IsGood (one : Taken × Asked) : Type 0 where
    pub fits : IsFitting (claim_with one)
    pub dated : SlotDated (claim_with one).part.slot
    pub named : ((claim_with one).part.organiser ≡ address_octets message.organiser) × ((claim_with one).part.uid ≡ text_octets message.uid)
    pub whole : is_of_whole one.1.series one.0.slot ≡ true

  good : (e : EventComponent) (d : MessageComponent) (one : Taken × Asked) → Contains given.events e → Says e d → IsAskingIn room zone message d one → IsGood one
  good e d one among is x =
      let k = known room words zone means message given s e d among is one x in
      record {
        fits = k.fits;
        dated = slot_dated room words zone means message given s e d among is one x;
        named = name_there room words zone means message given s e d among is one x;
        whole = k.whole;
      }

  each_good : (events : List EventComponent) (components : List MessageComponent) (all : List (Taken × Asked)) → Among events → AllZip Says events components → AllZip (IsAskingIn room zone message) components all
      → (one : Taken × Asked) → Contains all one → IsGood one
  each_good [] [] [] f y z one k = absurd (none_in_nil one k)
  each_good [] [] (c ∷ cs) f y z one k = absurd z
  each_good [] (d ∷ ds) cs f y z one k = absurd y
  each_good (e ∷ es) [] cs f y z one k = absurd y
  each_good (e ∷ es) (d ∷ ds) [] f y z one k = absurd z
  each_good (e ∷ es) (d ∷ ds) (c ∷ cs) f y z one k = elim (in_cons c cs one k) [
    | inl here ↦ subst IsGood here (good e d c (f e (in_head e es)) y.0 z.0)
    | inr there ↦ each_good es ds cs (rest_among e es f) y.1 z.1 one there
  ]

  pub all_claimed : (all kept : List (Taken × Asked)) (claims : List Claim) → AllZip (IsAskingIn room zone message) (filter (has_part room message) message.components.items) all
      → AreGreatest (λ one. part_of one.0) all kept → AreClaimsOf kept claims → is_message_for room message ≡ true → AreClaimed room zone given claims
  all_claimed all kept claims z greatest made has =
      let for_it : is_addressed room given ≡ true = sym (addressed room message given s) ∙ has in
      let events = parts_for room given in
      let components = filter (has_part room message) message.components.items in
      let there = kept_among room message given s for_it in
      let says = zip_both SaysComponent HasInstances events components (kept_components room message given s for_it) (kept_instances room message given s for_it) in
      let each = each_good events components all there says z in
      let own : (one : Taken × Asked) → Contains kept one → IsGood one = λ one k. each one (greatest.among one k) in
      let are : claims_said claims ≡ map claim_with kept = said_of kept claims made (λ one k. (own one k).whole) in
      let are_greatest : AreGreatest (λ (claim : rooms.Claim). claim.part) (map claim_with all) (claims_said claims) =
      subst (AreGreatest (λ (claim : rooms.Claim). claim.part) (map claim_with all)) (sym are) (greatest_mapped (λ (claim : rooms.Claim). claim.part) claim_with all kept greatest) in
      let of_each : (P : rooms.Claim → Type 0) → ((one : Taken × Asked) → IsGood one → P (claim_with one)) → (x : rooms.Claim) → Contains (claims_said claims) x → P x =
      λ P h x k. let found = map_at claim_with kept x (subst (λ (l : List rooms.Claim). Contains l x) are k) in subst P found.2 (h found.0 (own found.0 found.1)) in
      let named : (x : rooms.Claim) → Contains (claims_said claims) x → (x.part.organiser ≡ address_octets message.organiser) × (x.part.uid ≡ text_octets message.uid) =
      of_each (λ x. (x.part.organiser ≡ address_octets message.organiser) × (x.part.uid ≡ text_octets message.uid)) (λ one g. g.named) in
      record {
        are = record { all = map claim_with all; each = claims_zip events components all there says z; are = are_greatest };
        fit = λ key claim c is.
            let own = named (claim_said claim) (map_from claim_said claims claim c) in
            record {
              of_it = λ x k. let n = named x k in is_of_from key x.part (is.organiser_is ∙ own.0 ∙ sym n.0) (is.uid_is ∙ own.1 ∙ sym n.1);
              fit = of_each IsFitting (λ one g. g.fits);
              dated = of_each (λ x. SlotDated x.part.slot) (λ one g. g.dated);
              differ = claims_apart (claims_said claims) are_greatest.order;
            };
      }

pub none_claimed : (room : List ℕ) (zone : Option Zone) (message : Message) (given : messages.Message) → RepresentsMessage message given → is_message_for room message ≡ false → AreClaimed room zone given []
none_claimed room zone message given s h = record {
  are = record {
    all = [];
    each = subst (λ (l : List EventComponent). AllZip (IsClaim room zone given) l []) (sym (no_parts_for room message given s (sym (addressed room message given s) ∙ h))) tt;
    are = greatest_none (λ (claim : rooms.Claim). claim.part);
  };
  fit = λ key claim c is. absurd (none_in_nil claim c);
}
