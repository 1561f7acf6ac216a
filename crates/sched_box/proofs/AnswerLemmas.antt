-- The rooms of a box take a message, and their answers follow one another.
use Rattle.std.proofs.Common.{◌≡◌, ◌||◌, Bool, true, false, inl, inr, ℕ, zero, suc, ◌+◌, ◌<◌, ◌≤◌, ℤ, List, [], ◌∷◌, ◌++◌, length, take, drop, get_or, set, Option, Some, None, refl, sym, ap, subst, ◌∙◌, arith, take_all, length-set, codes, decimal}
use Rattle.std.specs.Option.{option_to_list}
use Rattle.std.specs.List.{flat_map, list_any}
use Rattle.std.specs.Str.{bytes_eq}
use Rattle.std.proofs.Math.Bool.{or-false}
use Rattle.std.proofs.lemmas.List.Folds.{list_any-append}
use Rattle.std.proofs.lemmas.List.{append_assoc, append-nil, get_or-map, map-append, take-append-drop, take_more, take_more_set, drop_more, drop_all, drop-set-lt}
use Rattle.cal_zones.specs.RoomZones.{room_of, words_of}
use Rattle.ical_values.specs.Octets.{address_octets}
use Rattle.itip_messages.specs.Message.{RepresentsMessage}
use Rattle.itip_messages.specs.declared.message.Message.{Message}
use Rattle.cal_events.specs.Component.{method_said}
use Rattle.profile.specs.events.Messages as profile
use Rattle.profile.specs.events.Messages.{is_to_rooms}
use Rattle.profile.specs.rooms.Messages.{is_add}
use Rattle.profile.specs.rooms.Rooms as machine
use Rattle.profile.specs.rooms.Rooms.{Book, Claim}
use Rattle.profile.specs.rooms.Kept.{Replies, Refreshes}
use Rattle.profile.specs.series.Zones.{Zone}
use Rattle.profile.specs.streams.Reports.{AllBecome, is_change, is_repeat, is_stale}
use Rattle.profile.specs.streams.Streams.{AllTake, AreClaims, Hosted, TakesMessage, refused_line}
use Rattle.profile.specs.streams.Worlds as worlds
use Rattle.profile.specs.streams.Worlds.{ChangesOne}
use Rattle.room_books.specs.Room.{Represents, StepsWith, TellsFreed}
use Rattle.room_books.specs.declared.room.Room.{Room}
use Rattle.sched_box.specs.Answering.{room_addresses, AllTell, AreHosted, IsHosted, RoomSends, RoomTakes, RoomsSend, RoomsTake, sent_octets}
use Rattle.sched_box.specs.Asked.{asks}
use Rattle.sched_box.specs.Journal.{AddsEffect, AreEffects, InRoom, kinds_of}
use Rattle.sched_box.specs.declared.journal.Effects.{Effects}
use Rattle.sched_box.proofs.AskedLemmas.{left_out, passed}
use Rattle.sched_box.proofs.HostLemmas.{none_hosted, one_behind}

-- ---- one room

sent_is : (reply refresh : Option (List ℕ)) → sent_octets reply ++ sent_octets refresh ≡ flat_map (λ x. x) (option_to_list reply ++ option_to_list refresh)
sent_is None None = refl
sent_is None (Some y) = sym (append-nil y)
sent_is (Some x) None = refl
sent_is (Some x) (Some y) = ap (λ z. x ++ z) (sym (append-nil y))

pub room_sends : (moment : ℤ) (message : Message) (old new : Room) (kind : machine.Kind) (reply refresh : Option (List ℕ))
    → ((said : profile.Message) → RepresentsMessage message said → (book : Book) → Represents old.meetings.entries book
    → (claims : List Claim) × AreClaims (address_octets old.address) (room_of old.zone) said claims × StepsWith (address_octets old.address) new.meetings.entries book claims moment kind reply (is_add said.method) refresh)
    → new.address ≡ old.address → new.zone ≡ old.zone → RoomSends moment message old new (option_to_list reply ++ option_to_list refresh)
room_sends moment message old new kind reply refresh steps same same_zone said represented before has =
    let room = address_octets old.address in
    let (claims, are, with') = steps said represented before.book has.represents in
    let P : List ℕ → Type 0 = λ a. AreClaims a (room_of old.zone) said claims in
    let Z : Option Zone → Type 0 = λ zone. AreClaims before.address zone said claims in
    let Q : List ℕ → Type 0 = λ a. Replies a with'.steps.after claims reply in
    let R : List ℕ → Type 0 = λ a. Refreshes a (is_add said.method) before.book.taken with'.steps.after.taken claims moment refresh in (
      record before { book = with'.steps.after },
      record {
        at = has.at ∙ ap address_octets (sym same);
        words = has.words ∙ ap words_of (sym same_zone);
        zone = has.zone ∙ ap room_of (sym same_zone);
        represents = with'.steps.represents;
      },
      refl,
      record {
        claims = claims;
        are = subst Z (sym has.zone) (subst P (sym has.at) are);
        outcome = with'.steps.outcome;
        step = with'.steps.step;
        reply = reply;
        replies = subst Q (sym has.at) with'.replies;
        refresh = refresh;
        refreshes = subst R (sym has.at) with'.refreshes;
        is = refl;
      },
    )

-- it answers with the octets of what it sends, and what became of it goes by the same step
pub room_takes : (moment : ℤ) (message : Message) (old new : Room) (kind : machine.Kind) (frees : Bool) (reply refresh : Option (List ℕ))
    → ((said : profile.Message) → RepresentsMessage message said → (book : Book) → Represents old.meetings.entries book
    → (claims : List Claim) × AreClaims (address_octets old.address) (room_of old.zone) said claims × StepsWith (address_octets old.address) new.meetings.entries book claims moment kind reply (is_add said.method) refresh)
    → ((before after : Book) → Represents old.meetings.entries before → Represents new.meetings.entries after → TellsFreed kind frees before after)
    → new.address ≡ old.address → new.zone ≡ old.zone → RoomTakes moment message old new (sent_octets reply ++ sent_octets refresh) (record { kind = kind; frees = frees })
room_takes moment message old new kind frees reply refresh steps tells same same_zone said represented before has =
    let room = address_octets old.address in
    let (claims, are, with') = steps said represented before.book has.represents in
    let P : List ℕ → Type 0 = λ a. AreClaims a (room_of old.zone) said claims in
    let Z : Option Zone → Type 0 = λ zone. AreClaims before.address zone said claims in
    let Q : List ℕ → Type 0 = λ a. Replies a with'.steps.after claims reply in
    let R : List ℕ → Type 0 = λ a. Refreshes a (is_add said.method) before.book.taken with'.steps.after.taken claims moment refresh in
    let of_room = subst Z (sym has.zone) (subst P (sym has.at) are) in (
      record before { book = with'.steps.after },
      record {
        at = has.at ∙ ap address_octets (sym same);
        words = has.words ∙ ap words_of (sym same_zone);
        zone = has.zone ∙ ap room_of (sym same_zone);
        represents = with'.steps.represents;
      },
      record {
        same = refl;
        sent = option_to_list reply ++ option_to_list refresh;
        takes = record {
          claims = claims;
          are = of_room;
          outcome = with'.steps.outcome;
          step = with'.steps.step;
          reply = reply;
          replies = subst Q (sym has.at) with'.replies;
          refresh = refresh;
          refreshes = subst R (sym has.at) with'.refreshes;
          is = refl;
        };
        is = sent_is reply refresh;
      },
      record { claims = claims; are = of_room; outcome = with'.steps.outcome; step = with'.steps.step; is = with'.steps.kind_is },
      tells before.book with'.steps.after has.represents with'.steps.represents,
    )

-- ---- the room in its place

send_in : (moment : ℤ) (said : profile.Message) (to : List ℕ) (olds : List Room) (place : ℕ) (d new : Room) (sent : List (List ℕ)) → is_to_rooms said.method ≡ true → place < length olds
    → to ≡ address_octets (get_or olds place d).address
    → ((before : Hosted) → IsHosted (get_or olds place d) before → (after : Hosted) × IsHosted new after × (after ≡ record before { book = after.book }) × TakesMessage before.address before.zone moment said before.book after.book sent)
    → (before : List Hosted) → AreHosted olds before → (after : List Hosted) × AreHosted (set olds place new) after × ChangesOne (worlds.RoomTakes to moment said sent) before after
send_in moment said to [] place d new sent for_rooms within is sends before have = absurd (omega arith)
send_in moment said to (o ∷ os) place d new sent for_rooms within is sends [] have = absurd have
send_in moment said to (o ∷ os) zero d new sent for_rooms within is sends (b ∷ bs) have =
    let (after, hosted, same, takes) = sends b have.0 in
    let at : b.address ≡ to = have.0.at ∙ sym is in (
      after ∷ bs,
      (hosted, have.1),
      record {
        ahead = [];
        behind = bs;
        old = b;
        new = after;
        changes = record { address = at; same = same; for_rooms = for_rooms; takes = subst (λ a. TakesMessage a b.zone moment said b.book after.book sent) at takes };
        of_these = refl;
        to_these = refl;
      },
    )
send_in moment said to (o ∷ os) (suc place) d new sent for_rooms within is sends (b ∷ bs) have =
    let (after, hosted, one) = send_in moment said to os place d new sent for_rooms (omega arith) is sends bs have.1 in
    (b ∷ after, (have.0, hosted), one_behind b one)

address_at : (olds : List Room) (place : ℕ) (d : Room) → place < length olds → get_or (room_addresses olds) place [] ≡ address_octets (get_or olds place d).address
address_at olds place d within = get_or-map (λ room. address_octets room.address) olds place d [] within

pub sent_at : (moment : ℤ) (message : Message) (olds : List Room) (place : ℕ) (d new : Room) (sent : List (List ℕ)) → is_to_rooms (method_said message.method) ≡ true → place < length olds
    → RoomSends moment message (get_or olds place d) new sent → RoomsSend (get_or (room_addresses olds) place []) moment message olds (set olds place new) sent
sent_at moment message olds place d new sent for_rooms within sends said represented before have =
    let to = get_or (room_addresses olds) place [] in
    let (after, hosted, one) = send_in moment said to olds place d new sent (sym (ap is_to_rooms represented.method) ∙ for_rooms) within (address_at olds place d within) (sends said represented) before have in
    (after, hosted, inl one)

-- ---- none is of the address

pub unsent : (moment : ℤ) (message : Message) (to : List ℕ) (rooms : List Room) (sent : List (List ℕ)) → list_any (bytes_eq to) (room_addresses rooms) ≡ false → sent ≡ [] → RoomsSend to moment message rooms rooms sent
unsent moment message to rooms sent none nothing said represented before have =
    (before, have, inr (none_hosted (λ room. address_octets room.address) (λ host. host.address) IsHosted (λ room host is. is.at) to rooms before none have, refl, nothing))

-- ---- all rooms

pub rooms_push : (moment : ℤ) (message : Message) (olds news : List Room) (old new : Room) (octets first : List ℕ) (kinds : List InRoom) (kind : InRoom)
    → RoomsTake moment message olds news octets kinds → new.address ≡ old.address → RoomTakes moment message old new first kind
    → RoomsTake moment message (olds ++ old ∷ []) (news ++ new ∷ []) (octets ++ first) (kinds ++ kind ∷ [])
rooms_push moment message [] [] old new octets first kinds kind (none, nothing) same t =
    (first, [], kind, [], ap (λ z. z ++ first) none ∙ sym (append-nil first), ap (λ z. z ++ kind ∷ []) nothing, same, t, (refl, refl))
rooms_push moment message [] (n ∷ ns) old new octets first kinds kind r same t = absurd r
rooms_push moment message (o ∷ os) [] old new octets first kinds kind r same t = absurd r
rooms_push moment message (o ∷ os) (n ∷ ns) old new octets first kinds kind (one, rest, this, those, is, are, here, takes, others) same t =
    (one, rest ++ first, this, those ++ kind ∷ [], ap (λ z. z ++ first) is ∙ append_assoc one rest first, ap (λ z. z ++ kind ∷ []) are, here, takes, rooms_push moment message os ns old new rest first those kind others same t)

pub same_addresses : (moment : ℤ) (message : Message) (olds news : List Room) (octets : List ℕ) (kinds : List InRoom) → RoomsTake moment message olds news octets kinds → room_addresses news ≡ room_addresses olds
same_addresses moment message [] [] octets kinds r = refl
same_addresses moment message [] (n ∷ ns) octets kinds r = absurd r
same_addresses moment message (o ∷ os) [] octets kinds r = absurd r
same_addresses moment message (o ∷ os) (n ∷ ns) octets kinds (one, rest, this, those, is, are, here, takes, others) =
    ap (λ a. address_octets a ∷ room_addresses ns) here ∙ ap (λ z. address_octets o.address ∷ z) (same_addresses moment message os ns rest those others)

pub all_take : (moment : ℤ) (message : Message) (said : profile.Message) → RepresentsMessage message said → (olds news : List Room) (octets : List ℕ) (kinds : List InRoom) → RoomsTake moment message olds news octets kinds
    → (before : List Hosted) → AreHosted olds before
    → (after : List Hosted) × AreHosted news after × AllTake moment said before after octets × AllBecome moment said before after (kinds_of kinds) × AllTell kinds before after
all_take moment message said represented [] [] octets kinds (none, nothing) [] h = ([], tt, none, ap kinds_of nothing, subst (λ l. AllTell l [] []) (sym nothing) tt)
all_take moment message said represented [] [] octets kinds r (b ∷ bs) h = absurd h
all_take moment message said represented [] (n ∷ ns) octets kinds r before h = absurd r
all_take moment message said represented (o ∷ os) [] octets kinds r before h = absurd r
all_take moment message said represented (o ∷ os) (n ∷ ns) octets kinds r [] h = absurd h
all_take moment message said represented (o ∷ os) (n ∷ ns) octets kinds (one, rest, this, those, is, are, here, takes, others) (b ∷ bs) h =
    let (after, has, first, became, tells) = takes said represented b h.0 in
    let (afters, have, more, became_more, all_tell) = all_take moment message said represented os ns rest those others bs h.1 in (
      after ∷ afters,
      (has, have),
      (one, rest, is, first, more),
      (this.kind, kinds_of those, ap kinds_of are, became, became_more),
      subst (λ l. AllTell l (b ∷ bs) (after ∷ afters)) (sym are) (tells, all_tell),
    )

-- ---- the loop over the rooms

-- the first rooms have taken the message
pub record TakenSofar (moment : ℤ) (message : Message) (olds news : List Room) (i : ℕ) (before after : List ℕ) (effects : Effects) : Type 0 where
  pub octets : List ℕ
  pub kinds : List InRoom
  pub is : after ≡ before ++ octets
  pub takes : RoomsTake moment message (take i olds) (take i news) octets kinds
  pub are : AreEffects kinds effects
  pub rest : drop i news ≡ drop i olds
  pub long : length news ≡ length olds

-- apart, as nothing else is needed for them
within_olds : (i m n : ℕ) → i < n → n ≡ m → i < m
within_olds i m n l e = omega arith

before_next : (i : ℕ) → i < i + 1
before_next i = omega arith

pub taken_more : (moment : ℤ) (message : Message) (olds news : List Room) (i : ℕ) (before mid after : List ℕ) (d new : Room) (first : List ℕ) (kind : InRoom) (effects more : Effects)
    → TakenSofar moment message olds news i before mid effects → i < length news → new.address ≡ (get_or news i d).address
    → RoomTakes moment message (get_or news i d) new first kind → after ≡ mid ++ first → ((kinds : List InRoom) → AreEffects kinds effects → AreEffects (kinds ++ kind ∷ []) more)
    → TakenSofar moment message olds (set news i new) (i + 1) before after more
taken_more moment message olds news i before mid after d new first kind effects more so l same takes is adds =
    let l' : i < length olds = within_olds i (length olds) (length news) l so.long in
    let old = get_or news i d in
    let both : old ∷ drop (i + 1) news ≡ get_or olds i d ∷ drop (i + 1) olds = sym (drop_more news i d l) ∙ so.rest ∙ drop_more olds i d l' in
    let head : get_or olds i d ≡ old = cc in
    let tail : drop (i + 1) news ≡ drop (i + 1) olds = cc in
    let olds_is : take (i + 1) olds ≡ take i olds ++ old ∷ [] = take_more olds i d l' ∙ ap (λ r. take i olds ++ r ∷ []) head in
    let P : List Room → List Room → Type 0 = λ a b. RoomsTake moment message a b (so.octets ++ first) (so.kinds ++ kind ∷ []) in
    record {
      octets = so.octets ++ first;
      kinds = so.kinds ++ kind ∷ [];
      are = adds so.kinds so.are;
      is = is ∙ ap (λ z. z ++ first) so.is ∙ append_assoc before so.octets first;
      takes =
          subst (λ a. P a (take (i + 1) (set news i new))) (sym olds_is)
          (subst (P (take i olds ++ old ∷ [])) (sym (take_more_set news i new l)) (rooms_push moment message (take i olds) (take i news) old new so.octets first so.kinds kind so.takes same takes));
      rest = drop-set-lt (i + 1) news i new (before_next i) ∙ tail;
      long = length-set news i new ∙ so.long;
    }

pub taken_all : (moment : ℤ) (message : Message) (olds news : List Room) (i : ℕ) (before after : List ℕ) (effects : Effects) → TakenSofar moment message olds news i before after effects
    → length news ≤ i → (more : List ℕ) × (kinds : List InRoom) × (after ≡ before ++ more) × RoomsTake moment message olds news more kinds × AreEffects kinds effects
taken_all moment message olds news i before after effects so end =
    let long = so.long in
    let P : List Room → List Room → Type 0 = λ a b. RoomsTake moment message a b so.octets so.kinds in
    (so.octets, so.kinds, so.is, subst (λ a. P a news) (take_all i olds (omega arith)) (subst (P (take i olds)) (take_all i news end) so.takes), so.are)

-- the rooms keep their addresses, whoever has taken it
pub addresses_sofar : (moment : ℤ) (message : Message) (olds news : List Room) (i : ℕ) (before after : List ℕ) (effects : Effects) → TakenSofar moment message olds news i before after effects → room_addresses news ≡ room_addresses olds
addresses_sofar moment message olds news i before after effects so =
    let f : Room → List ℕ = λ room. address_octets room.address in
    ap room_addresses (sym (take-append-drop i news)) ∙ map-append f (take i news) (drop i news)
    ∙ ap (λ z. z ++ room_addresses (drop i news)) (same_addresses moment message (take i olds) (take i news) so.octets so.kinds so.takes)
    ∙ ap (λ z. room_addresses (take i olds) ++ room_addresses z) so.rest
    ∙ sym (map-append f (take i olds) (drop i olds)) ∙ ap room_addresses (take-append-drop i olds)

-- the room that comes next is as it was
next_as_was : (moment : ℤ) (message : Message) (olds news : List Room) (i : ℕ) (before after : List ℕ) (d : Room) (effects : Effects) → TakenSofar moment message olds news i before after effects → i < length news → get_or news i d ≡ get_or olds i d
next_as_was moment message olds news i before after d effects so l =
    let l' : i < length olds = within_olds i (length olds) (length news) l so.long in
    let both : get_or news i d ∷ drop (i + 1) news ≡ get_or olds i d ∷ drop (i + 1) olds = sym (drop_more news i d l) ∙ so.rest ∙ drop_more olds i d l' in
    cc

-- ---- what became of it, with a room more

pub effects_more : (one : InRoom) (old new : Effects) → new.changed ≡ (old.changed || is_change one.kind) → new.repeated ≡ (old.repeated || is_repeat one.kind) → new.stale ≡ (old.stale || is_stale one.kind)
    → new.frees ≡ (old.frees || one.frees) → AddsEffect old one new
effects_more one old new changed repeated stale frees all are = record {
  changed = changed ∙ ap (λ b. b || is_change one.kind) are.changed ∙ sym (any_kind is_change);
  repeated = repeated ∙ ap (λ b. b || is_repeat one.kind) are.repeated ∙ sym (any_kind is_repeat);
  stale = stale ∙ ap (λ b. b || is_stale one.kind) are.stale ∙ sym (any_kind is_stale);
  frees = frees ∙ ap (λ b. b || one.frees) are.frees ∙ sym (any_last (λ (x : InRoom). x.frees) all one);
}
  where
    any_last : {X : Type 0} (p : X → Bool) (ks : List X) (k : X) → list_any p (ks ++ k ∷ []) ≡ (list_any p ks || p k)
    any_last p ks k = list_any-append p ks (k ∷ []) ∙ ap (λ b. list_any p ks || b) (or-false (p k))

    any_kind : (p : machine.Kind → Bool) → list_any p (kinds_of (all ++ one ∷ [])) ≡ (list_any p (kinds_of all) || p one.kind)
    any_kind p = ap (list_any p) (map-append (λ (x : InRoom). x.kind) all (one ∷ [])) ∙ any_last p (kinds_of all) one.kind

-- it isn't addressed to that one
passed_over : (effects : Effects) → AddsEffect effects passed effects
passed_over effects = effects_more passed effects effects (sym (or-false _)) (sym (or-false _)) (sym (or-false _)) (sym (or-false _))

-- a room that the message isn't for is passed over
pub taken_left : (moment : ℤ) (message : Message) (olds news : List Room) (i : ℕ) (before mid : List ℕ) (d : Room) (effects : Effects) → TakenSofar moment message olds news i before mid effects → i < length news
    → asks message (get_or (room_addresses olds) i []) ≡ false → TakenSofar moment message olds (set news i (get_or news i d)) (i + 1) before mid effects
taken_left moment message olds news i before mid d effects so l none =
    let l' : i < length olds = within_olds i (length olds) (length news) l so.long in
    let f : Room → List ℕ = λ room. address_octets room.address in
    let here : get_or (room_addresses olds) i [] ≡ f (get_or news i d) = get_or-map f olds i d [] l' ∙ sym (ap f (next_as_was moment message olds news i before mid d effects so l)) in
    taken_more moment message olds news i before mid mid d (get_or news i d) [] passed effects effects so l refl (left_out moment message (get_or news i d) (subst (λ a. asks message a ≡ false) here none)) (sym (append-nil mid)) (passed_over effects)

-- ---- the line for a refusal

five : (o a b c d e : List ℕ) → ((((o ++ a) ++ b) ++ c) ++ d) ++ e ≡ o ++ ((((a ++ b) ++ c) ++ d) ++ e)
five o a b c d e = simp append_assoc

pub line_is : (old one two three four new first second : List ℕ) (k n : ℕ) → one ≡ old ++ codes "REFUSED;OBJECT=" → two ≡ one ++ first → first ≡ decimal k
    → three ≡ two ++ codes ":" → four ≡ three ++ second → second ≡ decimal n → new ≡ four ++ codes "\r\n" → new ≡ old ++ refused_line k n
line_is old one two three four new first second k n a b c d e f g =
    let three_is : three ≡ ((old ++ codes "REFUSED;OBJECT=") ++ decimal k) ++ codes ":" = d ∙ ap (λ z. z ++ codes ":") (b ∙ ap (λ z. one ++ z) c ∙ ap (λ z. z ++ decimal k) a) in
    let four_is : four ≡ (((old ++ codes "REFUSED;OBJECT=") ++ decimal k) ++ codes ":") ++ decimal n = e ∙ ap (λ z. three ++ z) f ∙ ap (λ z. z ++ decimal n) three_is in
    g ∙ ap (λ z. z ++ codes "\r\n") four_is ∙ five old (codes "REFUSED;OBJECT=") (decimal k) (codes ":") (decimal n) (codes "\r\n")

-- ---- the parts of a function's answer

pub put_back : (len : ℕ) (xs ys : List Room) → len ≡ length ys → length xs ≡ length ys → take len (xs ++ drop (length xs) ys) ≡ xs
put_back len xs ys len_is long =
    ap (λ z. take len (xs ++ z)) (drop_all (length xs) ys (omega arith)) ∙ ap (take len) (append-nil xs) ∙ take_all len xs (omega arith)
