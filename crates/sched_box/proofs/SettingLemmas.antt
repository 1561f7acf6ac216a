-- The settings so far, against the settings of the whole text.
use Rattle.std.proofs.Common.{◌≡◌, ◌≢◌, ℕ, zero, suc, ◌<◌, ◌≤◌, Bool, true, false, List, [], ◌∷◌, ◌++◌, length, get_or, map, refl, sym, ap, subst, ◌∙◌, arith, codes, inl, inr, ◌⊎◌, ℤ, ◌+◌, Option, Some, None, Result, Ok, Err, OnOk, OnErr, IfErr, Contains, AllPairs, length-append, ◌==◌, true≢false}
use Rattle.std.specs.Option.{option_to_list}
use Rattle.std.proofs.lemmas.List.{append_assoc, append-nil, get_or_append_left, length-map, map-append}
use Rattle.std.proofs.Math.Seq.{get_or-append_seam}
use Rattle.std.proofs.lemmas.List.Quantifiers.{all_pairs_push}
use Rattle.profile.specs.text.Values.{SpellsStamp, IsAddress, lower_case}
use Rattle.ical_values.specs.Octets.{address_octets}
use Rattle.ical_values.specs.declared.address.Address.{Address}
use Rattle.profile.specs.streams.Streams.{Setting, Now, Room, InZone, Organiser, IsSetting, SaysSettings, by_end, by_lf, by_crlf, last, with_lf, with_crlf, moments, rooms, zones, organisers, most_rooms, most_organisers, Config, ZonedRoom, AreHosts, addresses, room_in, IsPreamble, IsConfiguration}
use Rattle.std.specs.Str.{IsUtf8}
use Rattle.std.proofs.lemmas.Str.{IsUtf8-from_is_utf8, is_utf8-from_IsUtf8}
use Rattle.ical_lines.specs.declared.fault.Fault.{Fault}
use Rattle.ical_lines.specs.declared.fault.Fault.TheVariants.{Refused, Memory}
use Rattle.ical_values.specs.Refused.{IfRefused}
use Rattle.profile.specs.series.RoomZones.{IsRoomZone}
use Rattle.cal_zones.proofs.OneRoomZone.{one_room_zone}
use Rattle.sched_box.specs.declared.settings.Settings.{Settings}
use Rattle.sched_box.specs.declared.settings.ZonedRoom.{ZonedRoom as OwnRoom}
use Rattle.sched_box.specs.Settings.{rooms_of, organisers_of, zones_of, zoned_room, SaysZone, CanHost, AddsHost, AddsZone, IsFit, CanAdd, Adds, AddsLine, CanAll, IsUnbroken, Breaks, Holds, Reads, ReadsSettings, ReadsNone, SaysNone}
use Rattle.itip_messages.proofs.law_lemmas.NoLonger.{no_longer}
use Rattle.sched_box.proofs.Lines.{first_line, same_line, empty_line, setting_some, no_break, nil_no, no_space, cut_at, Ends, Goes}

-- ---- one line

-- its first letter tells of what kind it is
abbrev letter : Setting → ℕ
letter (Now t) = 110
letter (Room address) = 114
letter (InZone room) = 122
letter (Organiser address) = 111

begins : (line : List ℕ) (setting : Setting) → IsSetting line setting → get_or line 0 0 ≡ letter setting
begins line (Now t) says = ap (λ (z : List ℕ). get_or z 0 0) says.1
begins line (Room a) says = ap (λ (z : List ℕ). get_or z 0 0) says.1
begins line (InZone room) says = ap (λ (z : List ℕ). get_or z 0 0) says.1
begins line (Organiser a) says = ap (λ (z : List ℕ). get_or z 0 0) says.1

-- of one kind
of_one : (line : List ℕ) (one other : Setting) → IsSetting line one → IsSetting line other → letter one ≡ letter other
of_one line one other says says' = sym (begins line one says) ∙ begins line other says'

-- a text after the word says one zone
zone_said : (line text : List ℕ) (room : ZonedRoom) → line ≡ codes "zone " ++ text → IsSetting line (InZone room) → SaysZone text room
zone_said line text room is says =
    let line_is = says.1 in
    let same : text ≡ says.0 ++ codes " " ++ room.words = cc in
    (says.0, same, says.2, says.3, says.4)

zone_setting : (line text : List ℕ) (room : ZonedRoom) → line ≡ codes "zone " ++ text → SaysZone text room → IsSetting line (InZone room)
zone_setting line text room is says = (says.0, is ∙ ap (λ z. codes "zone " ++ z) says.1, says.2, says.3, says.4)

one_zone : (text : List ℕ) (a b : ZonedRoom) → SaysZone text a → SaysZone text b → b ≡ a
one_zone text a b (x, is, address, lower, means) (y, is', address', lower', means') =
    let both = cut_at 32 y x b.words a.words (no_space y address') (no_space x address)
    (sym (append_assoc y (codes " ") b.words) ∙ sym is' ∙ is ∙ append_assoc x (codes " ") a.words) in
    let P : List ℕ → Type 0 = λ words. IsRoomZone words b.zone in
    let zone : b.zone ≡ a.zone = one_room_zone a.words b.zone a.zone (subst P both.1 means') means in
    let at : b.address ≡ a.address = lower' ∙ ap lower_case both.0 ∙ sym lower in
    let words : b.words ≡ a.words = both.1 in
    λ i. record { address = at i; words = words i; zone = zone i }

abbrev OneStamp : Type 0
OneStamp = (text : List ℕ) (a b : ℤ) → SpellsStamp text a → SpellsStamp text b → a ≡ b

-- a line says one setting
one_setting : OneStamp → (line : List ℕ) (one other : Setting) → IsSetting line one → IsSetting line other → other ≡ one
one_setting law line (Now t) (Now s) (text, is, says) (text', is', says') =
    let same : text' ≡ text = cc in
    ap Now (law text s t (subst (λ (x : List ℕ). SpellsStamp x s) same says') says)
one_setting law line (Now t) (Room b) one other = let same : 110 ≡ 114 = of_one line (Now t) (Room b) one other in absurd (omega (arith, same))
one_setting law line (Now t) (InZone b) one other = let same : 110 ≡ 122 = of_one line (Now t) (InZone b) one other in absurd (omega (arith, same))
one_setting law line (Now t) (Organiser b) one other = let same : 110 ≡ 111 = of_one line (Now t) (Organiser b) one other in absurd (omega (arith, same))
one_setting law line (Room a) (Now s) one other = let same : 114 ≡ 110 = of_one line (Room a) (Now s) one other in absurd (omega (arith, same))
one_setting law line (Room a) (Room b) (text, is, address, lower) (text', is', address', lower') =
    let same : text' ≡ text = cc in
    ap Room (lower' ∙ ap lower_case same ∙ sym lower)
one_setting law line (Room a) (InZone b) one other = let same : 114 ≡ 122 = of_one line (Room a) (InZone b) one other in absurd (omega (arith, same))
one_setting law line (Room a) (Organiser b) one other = let same : 114 ≡ 111 = of_one line (Room a) (Organiser b) one other in absurd (omega (arith, same))
one_setting law line (InZone a) (Now s) one other = let same : 122 ≡ 110 = of_one line (InZone a) (Now s) one other in absurd (omega (arith, same))
one_setting law line (InZone a) (Room b) one other = let same : 122 ≡ 114 = of_one line (InZone a) (Room b) one other in absurd (omega (arith, same))
one_setting law line (InZone a) (InZone b) one other =
    let text = one.0 ++ codes " " ++ a.words in
    ap InZone (one_zone text a b (zone_said line text a one.1 one) (zone_said line text b one.1 other))
one_setting law line (InZone a) (Organiser b) one other = let same : 122 ≡ 111 = of_one line (InZone a) (Organiser b) one other in absurd (omega (arith, same))
one_setting law line (Organiser a) (Now s) one other = let same : 111 ≡ 110 = of_one line (Organiser a) (Now s) one other in absurd (omega (arith, same))
one_setting law line (Organiser a) (Room b) one other = let same : 111 ≡ 114 = of_one line (Organiser a) (Room b) one other in absurd (omega (arith, same))
one_setting law line (Organiser a) (InZone b) one other = let same : 111 ≡ 122 = of_one line (Organiser a) (InZone b) one other in absurd (omega (arith, same))
one_setting law line (Organiser a) (Organiser b) (text, is, address, lower) (text', is', address', lower') =
    let same : text' ≡ text = cc in
    ap Organiser (lower' ∙ ap lower_case same ∙ sym lower)

pub set_line : {A E : Type 0} (r : Result A E) (old new : Settings) (line stamp : List ℕ) → line ≡ codes "now " ++ stamp → OneStamp
    → OnOk r ((t : ℤ) × SpellsStamp stamp t × Adds old new (Now t)) → OnOk r (AddsLine old new line)
set_line (Ok u) old new line stamp is law (t, spelled, adds) =
    record { setting = Now t; is = (stamp, is, spelled); only = λ other says. one_setting law line (Now t) other (stamp, is, spelled) says; adds = adds }
set_line (Err e) old new line stamp is law h = tt

pub set_none : {A : Type 0} (r : Result A Fault) (old : Settings) (line stamp : List ℕ) → line ≡ codes "now " ++ stamp
    → OnErr r ((t : ℤ) → SpellsStamp stamp t → CanAdd old (Now t) → ⊥)
    → IfErr r (IfRefused ((setting : Setting) → IsSetting line setting → CanAdd old setting → ⊥))
set_none (Ok u) old line stamp is h = tt
set_none (Err Memory) old line stamp is h = tt
set_none (Err (Refused x)) old line stamp is h = cannot
  where
    kind : (setting : Setting) → IsSetting line setting → letter setting ≡ 110
    kind setting says = sym (begins line setting says) ∙ ap (λ (z : List ℕ). get_or z 0 0) is

    cannot : (setting : Setting) → IsSetting line setting → CanAdd old setting → ⊥
    cannot (Now t) (text, line_is, says) can =
        let same : text ≡ stamp = cc in
        h t (subst (λ (x : List ℕ). SpellsStamp x t) same says) can
    cannot (Room a) says can = let same : 114 ≡ 110 = kind (Room a) says in omega (arith, same)
    cannot (Organiser a) says can = let same : 111 ≡ 110 = kind (Organiser a) says in omega (arith, same)
    cannot (InZone a) says can = let same : 122 ≡ 110 = kind (InZone a) says in omega (arith, same)

-- a room's line
pub room_line : {A E : Type 0} (r : Result A E) (old new : Settings) (line text : List ℕ) → line ≡ codes "room " ++ text → OneStamp → OnOk r (IsAddress text)
    → OnOk r (AddsHost most_rooms old.rooms.items new.rooms.items (lower_case text)) → new.moment ≡ old.moment → new.zones ≡ old.zones → new.organisers ≡ old.organisers → OnOk r (AddsLine old new line)
room_line (Ok u) old new line text is law address adds moment zones others =
    let said : IsSetting line (Room (lower_case text)) = (text, is, address, refl) in
    record { setting = Room (lower_case text); is = said; only = λ other says. one_setting law line (Room (lower_case text)) other said says; adds = (adds, moment, zones, others) }
room_line (Err e) old new line text is law address adds moment zones others = tt

pub room_none : {A : Type 0} (r : Result A Fault) (old : Settings) (line text : List ℕ) → line ≡ codes "room " ++ text
    → IfErr r (IfRefused (IsAddress text → CanHost most_rooms (rooms_of old) (lower_case text) → ⊥))
    → IfErr r (IfRefused ((setting : Setting) → IsSetting line setting → CanAdd old setting → ⊥))
room_none (Ok u) old line text is h = tt
room_none (Err Memory) old line text is h = tt
room_none (Err (Refused x)) old line text is h = cannot
  where
    kind : (setting : Setting) → IsSetting line setting → letter setting ≡ 114
    kind setting says = sym (begins line setting says) ∙ ap (λ (z : List ℕ). get_or z 0 0) is

    cannot : (setting : Setting) → IsSetting line setting → CanAdd old setting → ⊥
    cannot (Now t) says can = let same : 110 ≡ 114 = kind (Now t) says in omega (arith, same)
    cannot (Room a) (other, line_is, says, lower) can =
        let same : other ≡ text = cc in
        h (subst IsAddress same says) (subst (CanHost most_rooms (rooms_of old)) (lower ∙ ap lower_case same) can)
    cannot (Organiser a) says can = let same : 111 ≡ 114 = kind (Organiser a) says in omega (arith, same)
    cannot (InZone a) says can = let same : 122 ≡ 114 = kind (InZone a) says in omega (arith, same)

-- a zone's
pub zone_line : {A E : Type 0} (r : Result A E) (old new : Settings) (line text : List ℕ) → line ≡ codes "zone " ++ text → OneStamp
    → OnOk r ((room : ZonedRoom) × SaysZone text room × AddsZone old.zones.items new.zones.items room)
    → new.moment ≡ old.moment → new.rooms ≡ old.rooms → new.organisers ≡ old.organisers → OnOk r (AddsLine old new line)
zone_line (Ok u) old new line text is law (room, says, adds) moment rooms others =
    let said = zone_setting line text room is says in
    record { setting = InZone room; is = said; only = λ other says. one_setting law line (InZone room) other said says; adds = (adds, moment, rooms, others) }
zone_line (Err e) old new line text is law h moment rooms others = tt

pub zone_none : {A : Type 0} (r : Result A Fault) (old : Settings) (line text : List ℕ) → line ≡ codes "zone " ++ text
    → IfErr r (IfRefused ((room : ZonedRoom) → SaysZone text room → CanHost most_rooms (addresses (zones_of old)) room.address → ⊥))
    → IfErr r (IfRefused ((setting : Setting) → IsSetting line setting → CanAdd old setting → ⊥))
zone_none (Ok u) old line text is h = tt
zone_none (Err Memory) old line text is h = tt
zone_none (Err (Refused x)) old line text is h = cannot
  where
    kind : (setting : Setting) → IsSetting line setting → letter setting ≡ 122
    kind setting says = sym (begins line setting says) ∙ ap (λ (z : List ℕ). get_or z 0 0) is

    cannot : (setting : Setting) → IsSetting line setting → CanAdd old setting → ⊥
    cannot (Now t) says can = let same : 110 ≡ 122 = kind (Now t) says in omega (arith, same)
    cannot (Room a) says can = let same : 114 ≡ 122 = kind (Room a) says in omega (arith, same)
    cannot (Organiser a) says can = let same : 111 ≡ 122 = kind (Organiser a) says in omega (arith, same)
    cannot (InZone room) says can = h room (zone_said line text room is says) can

-- an organiser's
pub organiser_line : {A E : Type 0} (r : Result A E) (old new : Settings) (line text : List ℕ) → line ≡ codes "organiser " ++ text → OneStamp → OnOk r (IsAddress text)
    → OnOk r (AddsHost most_organisers old.organisers.items new.organisers.items (lower_case text)) → new.moment ≡ old.moment → new.rooms ≡ old.rooms → new.zones ≡ old.zones → OnOk r (AddsLine old new line)
organiser_line (Ok u) old new line text is law address adds moment others zones =
    let said : IsSetting line (Organiser (lower_case text)) = (text, is, address, refl) in
    record { setting = Organiser (lower_case text); is = said; only = λ other says. one_setting law line (Organiser (lower_case text)) other said says; adds = (adds, moment, others, zones) }
organiser_line (Err e) old new line text is law address adds moment others zones = tt

pub organiser_none : {A : Type 0} (r : Result A Fault) (old : Settings) (line text : List ℕ) → line ≡ codes "organiser " ++ text
    → IfErr r (IfRefused (IsAddress text → CanHost most_organisers (organisers_of old) (lower_case text) → ⊥))
    → IfErr r (IfRefused ((setting : Setting) → IsSetting line setting → CanAdd old setting → ⊥))
organiser_none (Ok u) old line text is h = tt
organiser_none (Err Memory) old line text is h = tt
organiser_none (Err (Refused x)) old line text is h = cannot
  where
    kind : (setting : Setting) → IsSetting line setting → letter setting ≡ 111
    kind setting says = sym (begins line setting says) ∙ ap (λ (z : List ℕ). get_or z 0 0) is

    cannot : (setting : Setting) → IsSetting line setting → CanAdd old setting → ⊥
    cannot (Now t) says can = let same : 110 ≡ 111 = kind (Now t) says in omega (arith, same)
    cannot (Room a) says can = let same : 114 ≡ 111 = kind (Room a) says in omega (arith, same)
    cannot (Organiser a) (other, line_is, says, lower) can =
        let same : other ≡ text = cc in
        h (subst IsAddress same says) (subst (CanHost most_organisers (organisers_of old)) (lower ∙ ap lower_case same) can)
    cannot (InZone a) says can = let same : 122 ≡ 111 = kind (InZone a) says in omega (arith, same)

-- ---- settings one after another

rooms_append : (xs ys : List Setting) → rooms (xs ++ ys) ≡ rooms xs ++ rooms ys
rooms_append [] ys = refl
rooms_append (Now t ∷ xs) ys = rooms_append xs ys
rooms_append (Room a ∷ xs) ys = ap (λ z. a ∷ z) (rooms_append xs ys)
rooms_append (InZone a ∷ xs) ys = rooms_append xs ys
rooms_append (Organiser a ∷ xs) ys = rooms_append xs ys

organisers_append : (xs ys : List Setting) → organisers (xs ++ ys) ≡ organisers xs ++ organisers ys
organisers_append [] ys = refl
organisers_append (Now t ∷ xs) ys = organisers_append xs ys
organisers_append (Room a ∷ xs) ys = organisers_append xs ys
organisers_append (InZone a ∷ xs) ys = organisers_append xs ys
organisers_append (Organiser a ∷ xs) ys = ap (λ z. a ∷ z) (organisers_append xs ys)

zones_append : (xs ys : List Setting) → zones (xs ++ ys) ≡ zones xs ++ zones ys
zones_append [] ys = refl
zones_append (Now t ∷ xs) ys = zones_append xs ys
zones_append (Room a ∷ xs) ys = zones_append xs ys
zones_append (InZone a ∷ xs) ys = ap (λ z. a ∷ z) (zones_append xs ys)
zones_append (Organiser a ∷ xs) ys = zones_append xs ys

moments_append : (xs ys : List Setting) → moments (xs ++ ys) ≡ moments xs ++ moments ys
moments_append [] ys = refl
moments_append (Now t ∷ xs) ys = ap (λ z. t ∷ z) (moments_append xs ys)
moments_append (Room a ∷ xs) ys = moments_append xs ys
moments_append (InZone a ∷ xs) ys = moments_append xs ys
moments_append (Organiser a ∷ xs) ys = moments_append xs ys

not_among : (xs : List (List ℕ)) (a : List ℕ) → (Contains xs a → ⊥) → (k : ℕ) (d : List ℕ) → k < length xs → get_or xs k d ≢ a
not_among xs a lacks k d l e = lacks (k, l, same xs k l ∙ e)
  where
    same : (ys : List (List ℕ)) (i : ℕ) → i < length ys → get_or ys i a ≡ get_or ys i d
    same [] i l = absurd (omega arith)
    same (y ∷ ys) zero l = refl
    same (y ∷ ys) (suc i) l = same ys i (omega arith)

-- hosts that fit do so with one more that can be added
fit_more : (most : ℕ) (hosts : List (List ℕ)) (a : List ℕ) → IsFit most hosts → CanHost most hosts a → IsFit most (hosts ++ a ∷ [])
fit_more most hosts a fit can = record {
  few = omega (arith, can.few, length-append hosts (a ∷ []));
  differ = all_pairs_push ◌≢◌ hosts a fit.differ (not_among hosts a can.fresh);
}

fit_added : (most : ℕ) (old new : List Address) (a : List ℕ) → IsFit most (map address_octets old) → AddsHost most old new a → IsFit most (map address_octets new)
fit_added most old new a fit adds = subst (IsFit most) (sym adds.more) (fit_more most (map address_octets old) a fit adds.can)

-- those that stay fit as before
fit_same : (most : ℕ) (old new : List Address) → new ≡ old → IsFit most (map address_octets old) → IsFit most (map address_octets new)
fit_same most old new same fit = subst (λ (hosts : List Address). IsFit most (map address_octets hosts)) (sym same) fit

zones_fit_added : (old new : List OwnRoom) (a : ZonedRoom) → IsFit most_rooms (addresses (map zoned_room old)) → AddsZone old new a
    → IsFit most_rooms (addresses (map zoned_room new))
zones_fit_added old new a fit adds =
    let P : List (List ℕ) → Type 0 = IsFit most_rooms in
    subst P (sym (ap addresses adds.more ∙ map-append (λ (room : ZonedRoom). room.address) (map zoned_room old) (a ∷ [])))
    (fit_more most_rooms (addresses (map zoned_room old)) a.address fit adds.can)

zones_fit_same : (old new : List OwnRoom) → new ≡ old → IsFit most_rooms (addresses (map zoned_room old)) → IsFit most_rooms (addresses (map zoned_room new))
zones_fit_same old new same fit = subst (λ (hosts : List OwnRoom). IsFit most_rooms (addresses (map zoned_room hosts))) (sym same) fit

holds_add : (old new : Settings) (done : List Setting) (setting : Setting) → Holds old done → Adds old new setting → Holds new (done ++ setting ∷ [])
holds_add old new done (Now t) h (none, set, rooms_same, zones_same, organisers_same) = record {
  rooms_are = rooms_append done (Now t ∷ []) ∙ append-nil (rooms done) ∙ h.rooms_are ∙ sym (ap (λ v. map address_octets v.items) rooms_same);
  zones_are = zones_append done (Now t ∷ []) ∙ append-nil (zones done) ∙ h.zones_are ∙ sym (ap (λ v. map zoned_room v.items) zones_same);
  organisers_are = organisers_append done (Now t ∷ []) ∙ append-nil (organisers done) ∙ h.organisers_are ∙ sym (ap (λ v. map address_octets v.items) organisers_same);
  moments_are = moments_append done (Now t ∷ []) ∙ ap (λ z. z ++ t ∷ []) (h.moments_are ∙ ap option_to_list none) ∙ sym (ap option_to_list set);
  rooms_fit = fit_same most_rooms old.rooms.items new.rooms.items (ap (λ v. v.items) rooms_same) h.rooms_fit;
  zones_fit = zones_fit_same old.zones.items new.zones.items (ap (λ v. v.items) zones_same) h.zones_fit;
  organisers_fit = fit_same most_organisers old.organisers.items new.organisers.items (ap (λ v. v.items) organisers_same) h.organisers_fit;
}
holds_add old new done (Room a) h (adds, set, zones_same, organisers_same) = record {
  rooms_are = rooms_append done (Room a ∷ []) ∙ ap (λ z. z ++ a ∷ []) h.rooms_are ∙ sym adds.more;
  zones_are = zones_append done (Room a ∷ []) ∙ append-nil (zones done) ∙ h.zones_are ∙ sym (ap (λ v. map zoned_room v.items) zones_same);
  organisers_are = organisers_append done (Room a ∷ []) ∙ append-nil (organisers done) ∙ h.organisers_are ∙ sym (ap (λ v. map address_octets v.items) organisers_same);
  moments_are = moments_append done (Room a ∷ []) ∙ append-nil (moments done) ∙ h.moments_are ∙ sym (ap option_to_list set);
  rooms_fit = fit_added most_rooms old.rooms.items new.rooms.items a h.rooms_fit adds;
  zones_fit = zones_fit_same old.zones.items new.zones.items (ap (λ v. v.items) zones_same) h.zones_fit;
  organisers_fit = fit_same most_organisers old.organisers.items new.organisers.items (ap (λ v. v.items) organisers_same) h.organisers_fit;
}
holds_add old new done (InZone a) h (adds, set, rooms_same, organisers_same) = record {
  rooms_are = rooms_append done (InZone a ∷ []) ∙ append-nil (rooms done) ∙ h.rooms_are ∙ sym (ap (λ v. map address_octets v.items) rooms_same);
  zones_are = zones_append done (InZone a ∷ []) ∙ ap (λ z. z ++ a ∷ []) h.zones_are ∙ sym adds.more;
  organisers_are = organisers_append done (InZone a ∷ []) ∙ append-nil (organisers done) ∙ h.organisers_are ∙ sym (ap (λ v. map address_octets v.items) organisers_same);
  moments_are = moments_append done (InZone a ∷ []) ∙ append-nil (moments done) ∙ h.moments_are ∙ sym (ap option_to_list set);
  rooms_fit = fit_same most_rooms old.rooms.items new.rooms.items (ap (λ v. v.items) rooms_same) h.rooms_fit;
  zones_fit = zones_fit_added old.zones.items new.zones.items a h.zones_fit adds;
  organisers_fit = fit_same most_organisers old.organisers.items new.organisers.items (ap (λ v. v.items) organisers_same) h.organisers_fit;
}
holds_add old new done (Organiser a) h (adds, set, rooms_same, zones_same) = record {
  rooms_are = rooms_append done (Organiser a ∷ []) ∙ append-nil (rooms done) ∙ h.rooms_are ∙ sym (ap (λ v. map address_octets v.items) rooms_same);
  zones_are = zones_append done (Organiser a ∷ []) ∙ append-nil (zones done) ∙ h.zones_are ∙ sym (ap (λ v. map zoned_room v.items) zones_same);
  organisers_are = organisers_append done (Organiser a ∷ []) ∙ ap (λ z. z ++ a ∷ []) h.organisers_are ∙ sym adds.more;
  moments_are = moments_append done (Organiser a ∷ []) ∙ append-nil (moments done) ∙ h.moments_are ∙ sym (ap option_to_list set);
  rooms_fit = fit_same most_rooms old.rooms.items new.rooms.items (ap (λ v. v.items) rooms_same) h.rooms_fit;
  zones_fit = zones_fit_same old.zones.items new.zones.items (ap (λ v. v.items) zones_same) h.zones_fit;
  organisers_fit = fit_added most_organisers old.organisers.items new.organisers.items a h.organisers_fit adds;
}

pairs_no : (xs ys : List (List ℕ)) (a : List ℕ) → AllPairs ◌≢◌ (xs ++ a ∷ ys) → Contains xs a → ⊥
pairs_no xs ys a pairs (k, l, is) =
    let longer : length xs < length (xs ++ a ∷ ys) = omega (arith, length-append xs (a ∷ ys)) in
    pairs k (length xs) a l longer (get_or_append_left xs (a ∷ ys) a k l ∙ is ∙ sym (get_or-append_seam xs a ys a))

-- a host can come after those that come before it among hosts that fit
can_host : (most : ℕ) (hosts before after : List (List ℕ)) (a : List ℕ) → before ≡ hosts → IsFit most (before ++ a ∷ after) → CanHost most hosts a
can_host most hosts before after a is fit =
    subst (λ (list : List (List ℕ)). CanHost most list a) is
    (record { fresh = pairs_no before after a fit.differ; few = omega (arith, fit.few, length-append before (a ∷ after)) })

can_add : (s : Settings) (done : List Setting) (setting : Setting) (more : List Setting) → Holds s done → CanAll (done ++ setting ∷ more) → CanAdd s setting
can_add s done (Now t) more h can = at s.moment refl
  where
    all : moments (done ++ Now t ∷ more) ≡ option_to_list s.moment ++ t ∷ moments more
    all = moments_append done (Now t ∷ more) ∙ ap (λ z. z ++ t ∷ moments more) h.moments_are

    at : (o : Option ℤ) → s.moment ≡ o → s.moment ≡ None
    at None e = e
    at (Some x) e =
        let two : length (moments (done ++ Now t ∷ more)) ≡ length (x ∷ t ∷ moments more) = ap length (all ∙ ap (λ z. option_to_list z ++ t ∷ moments more) e) in
        let few = can.once in
        absurd (omega arith)
can_add s done (Room a) more h can = can_host most_rooms (rooms_of s) (rooms done) (rooms more) a h.rooms_are (subst (IsFit most_rooms) (rooms_append done (Room a ∷ more)) can.rooms_fit)
can_add s done (InZone a) more h can =
    let P : List (List ℕ) → Type 0 = IsFit most_rooms in
    let whole : addresses (zones (done ++ InZone a ∷ more)) ≡ addresses (zones done) ++ a.address ∷ addresses (zones more) =
    ap addresses (zones_append done (InZone a ∷ more)) ∙ map-append (λ (room : ZonedRoom). room.address) (zones done) (a ∷ zones more) in
    can_host most_rooms (addresses (zones_of s)) (addresses (zones done)) (addresses (zones more)) a.address (ap addresses h.zones_are) (subst P whole can.zones_fit)
can_add s done (Organiser a) more h can =
    can_host most_organisers (organisers_of s) (organisers done) (organisers more) a h.organisers_are (subst (IsFit most_organisers) (organisers_append done (Organiser a ∷ more)) can.organisers_fit)

-- ---- the settings so far

pub record Sofar (text rest : List ℕ) (s : Settings) : Type 0 where
  pub done : List Setting
  pub holds : Holds s done
  pub sound : (closed : Bool) (more : List Setting) → SaysSettings closed rest more → SaysSettings closed text (done ++ more)
  pub complete : (closed : Bool) (list : List Setting) → SaysSettings closed text list → (more : List Setting) × (list ≡ done ++ more) × SaysSettings closed rest more

none_fit : (most : ℕ) (hosts : List Address) → hosts ≡ [] → IsFit most (map address_octets hosts)
none_fit most hosts none = fit_same most [] hosts none (record { few = omega arith; differ = λ i j d less short. absurd (omega arith) })

no_zones_fit : (hosts : List OwnRoom) → hosts ≡ [] → IsFit most_rooms (addresses (map zoned_room hosts))
no_zones_fit hosts none = zones_fit_same [] hosts none (record { few = omega arith; differ = λ i j d less short. absurd (omega arith) })

pub none_yet : (text : List ℕ) (s : Settings) → s.rooms.items ≡ [] → s.zones.items ≡ [] → s.organisers.items ≡ [] → s.moment ≡ None → Sofar text text s
none_yet text s no_rooms no_zones no_organisers no_moment = record {
  done = [];
  holds = record {
    rooms_are = sym (ap (map address_octets) no_rooms);
    zones_are = sym (ap (map zoned_room) no_zones);
    organisers_are = sym (ap (map address_octets) no_organisers);
    moments_are = sym (ap option_to_list no_moment);
    rooms_fit = none_fit most_rooms s.rooms.items no_rooms;
    zones_fit = no_zones_fit s.zones.items no_zones;
    organisers_fit = none_fit most_organisers s.organisers.items no_organisers;
  };
  sound = λ closed more says. says;
  complete = λ closed list says. (list, refl, says);
}

with_break : (octets line after : List ℕ) (b : Breaks octets line after) (setting : Setting) (closed : Bool) (more : List Setting) → IsSetting line setting → SaysSettings closed after more → SaysSettings closed octets (setting ∷ more)
with_break octets line after b setting closed more is says =
    let P : List ℕ → Type 0 = λ o. SaysSettings closed o (setting ∷ more) in
    subst P (sym b.split) (at b.bare)
  where
    at : (b.whole ≡ line ++ 13 ∷ []) ⊎ ((b.whole ≡ line) × ((front : List ℕ) → b.whole ≢ front ++ 13 ∷ [])) → SaysSettings closed (b.whole ++ 10 ∷ after) (setting ∷ more)
    at (inl cr) =
        let Q : List ℕ → Type 0 = λ o. SaysSettings closed o (setting ∷ more) in
        subst Q (sym (ap (λ z. z ++ 10 ∷ after) cr ∙ append_assoc line (13 ∷ []) (10 ∷ after))) (with_crlf line setting is says)
    at (inr plain) =
        let Q : List ℕ → Type 0 = λ o. SaysSettings closed (o ++ 10 ∷ after) (setting ∷ more) in
        subst Q (sym plain.0) (with_lf line setting is says)

-- what the first line of the rest says, where it isn't empty
goes_on : (octets line after : List ℕ) (b : Breaks octets line after) → 0 < length line → (closed : Bool) (more : List Setting) → SaysSettings closed octets more
    → (setting : Setting) × (others : List Setting) × IsSetting line setting × (more ≡ setting ∷ others) × SaysSettings closed after others
goes_on octets line after b some closed more says = at (first_line says b.whole after b.split b.first)
  where
    at : Ends b.whole after closed more ⊎ Goes b.whole after closed more → (setting : Setting) × (others : List Setting) × IsSetting line setting × (more ≡ setting ∷ others) × SaysSettings closed after others
    at (inl e) = let none = empty_line octets line after b e.whole_is in absurd (omega arith)
    at (inr g) =
        let P : List ℕ → Type 0 = λ l. IsSetting l g.setting in
        (g.setting, g.more, subst P (same_line octets line after b g.bare g.setting g.is g.whole_is) g.is, g.list_is, g.says)

pub line_more : (text rest line after : List ℕ) (old new : Settings) → Sofar text rest old → Breaks rest line after → 0 < length line → AddsLine old new line → Sofar text after new
line_more text rest line after old new so b some a = record {
  done = so.done ++ a.setting ∷ [];
  holds = holds_add old new so.done a.setting so.holds a.adds;
  sound = λ closed more says.
      let P : List Setting → Type 0 = SaysSettings closed text in
      subst P (sym (append_assoc so.done (a.setting ∷ []) more)) (so.sound closed (a.setting ∷ more) (with_break rest line after b a.setting closed more a.is says));
  complete = λ closed list says.
      let (more, list_is, rest_says) = so.complete closed list says in
      let (setting, others, is, more_is, after_says) = goes_on rest line after b some closed more rest_says in
      let same : setting ≡ a.setting = a.only setting is in
      (others, list_is ∙ ap (λ z. so.done ++ z) (more_is ∙ ap (λ z. z ∷ others) same) ∙ sym (append_assoc so.done (a.setting ∷ []) others), after_says);
}

-- a line that can't be added is in no settings
pub line_none : (text rest line after : List ℕ) (s : Settings) → Sofar text rest s → Breaks rest line after → 0 < length line
    → ((setting : Setting) → IsSetting line setting → CanAdd s setting → ⊥) → SaysNone text
line_none text rest line after s so b some cannot closed list says can =
    let (more, list_is, rest_says) = so.complete closed list says in
    let (setting, others, is, more_is, after_says) = goes_on rest line after b some closed more rest_says in
    let whole : list ≡ so.done ++ setting ∷ others = list_is ∙ ap (λ z. so.done ++ z) more_is in
    cannot setting is (can_add s so.done setting others so.holds (subst CanAll whole can))

-- ---- the end

-- an empty line says no more
nothing_more : (rest line after : List ℕ) (b : Breaks rest line after) → line ≡ [] → {closed : Bool} {more : List Setting} → SaysSettings closed rest more → more ≡ []
nothing_more rest line after b empty says = at (first_line says b.whole after b.split b.first)
  where
    at : {closed : Bool} {more : List Setting} → Ends b.whole after closed more ⊎ Goes b.whole after closed more → more ≡ []
    at (inl e) = e.list_is
    at (inr g) =
        let long = setting_some g.bare g.setting g.is in
        let same : length g.bare ≡ 0 = ap length (same_line rest line after b g.bare g.setting g.is g.whole_is ∙ empty) in
        absurd (omega arith)

pub ended : (text rest line after : List ℕ) (s : Settings) → Sofar text rest s → Breaks rest line after → line ≡ [] → after ≡ [] → Reads s text
ended text rest line after s so b empty none = at b.bare
  where
    P : List ℕ → Type 0
    P = λ o. SaysSettings true o []

    alone : (close : Bool) (other : List Setting) → SaysSettings close text other → other ≡ so.done
    alone close other says =
        let (more, other_is, rest_says) = so.complete close other says in
        other_is ∙ ap (λ z. so.done ++ z) (nothing_more rest line after b empty rest_says) ∙ append-nil so.done

    says : SaysSettings true rest [] → Reads s text
    says h =
        let Q : List Setting → Type 0 = SaysSettings true text in
        record { closed = true; list = so.done; says = subst Q (append-nil so.done) (so.sound true [] h); only = alone; holds = so.holds }

    at : (b.whole ≡ line ++ 13 ∷ []) ⊎ ((b.whole ≡ line) × ((front : List ℕ) → b.whole ≢ front ++ 13 ∷ [])) → Reads s text
    at (inl cr) = says (subst P (sym (b.split ∙ ap (λ z. z ++ 10 ∷ after) (cr ∙ ap (λ z. z ++ 13 ∷ []) empty) ∙ ap (λ z. 13 ∷ 10 ∷ z) none)) by_crlf)
    at (inr plain) = says (subst P (sym (b.split ∙ ap (λ z. z ++ 10 ∷ after) (plain.0 ∙ empty) ∙ ap (λ z. 10 ∷ z) none)) by_lf)

pub ended_none : (text rest line after : List ℕ) (s : Settings) → Sofar text rest s → Breaks rest line after → line ≡ [] → (after ≡ [] → ⊥) → SaysNone text
ended_none text rest line after s so b empty some closed list says can =
    let (more, list_is, rest_says) = so.complete closed list says in
    at (first_line rest_says b.whole after b.split b.first)
  where
    at : {closed : Bool} {more : List Setting} → Ends b.whole after closed more ⊎ Goes b.whole after closed more → ⊥
    at (inl e) = some e.after_is
    at (inr g) =
        let long = setting_some g.bare g.setting g.is in
        let same : length g.bare ≡ 0 = ap length (same_line rest line after b g.bare g.setting g.is g.whole_is ∙ empty) in
        omega arith

-- what octets without an LF say
last_says : {closed : Bool} {octets : List ℕ} {list : List Setting} → SaysSettings closed octets list → (rest : List ℕ) → octets ≡ rest → IsUnbroken rest → 0 < length rest
    → (setting : Setting) × IsSetting rest setting × (list ≡ setting ∷ [])
last_says by_end rest e u some = let none : 0 ≡ length rest = ap length e in absurd (omega arith)
last_says by_lf rest e u some = absurd (no_break [] [] (subst IsUnbroken (sym e) u))
last_says by_crlf rest e u some = absurd (no_break (13 ∷ []) [] (subst IsUnbroken (sym e) u))
last_says (last line setting is) rest e u some =
    let P : List ℕ → Type 0 = λ l. IsSetting l setting in
    (setting, subst P e is, refl)
last_says (with_lf {closed} {rest = after} {settings} line setting is says) rest e u some = absurd (no_break line after (subst IsUnbroken (sym e) u))
last_says (with_crlf {closed} {rest = after} {settings} line setting is says) rest e u some =
    absurd (no_break (line ++ 13 ∷ []) after (subst IsUnbroken (sym e ∙ sym (append_assoc line (13 ∷ []) (10 ∷ after))) u))

pub last_more : (text rest : List ℕ) (old new : Settings) → Sofar text rest old → IsUnbroken rest → 0 < length rest → AddsLine old new rest → Reads new text
last_more text rest old new so u some a = record {
  closed = false;
  list = so.done ++ a.setting ∷ [];
  says = so.sound false (a.setting ∷ []) (last rest a.setting a.is);
  only = λ close other says.
      let (more, other_is, rest_says) = so.complete close other says in
      let (setting, is, more_is) = last_says rest_says rest refl u some in
      other_is ∙ ap (λ z. so.done ++ z) (more_is ∙ ap (λ z. z ∷ []) (a.only setting is));
  holds = holds_add old new so.done a.setting so.holds a.adds;
}

pub last_none : (text rest : List ℕ) (s : Settings) → Sofar text rest s → IsUnbroken rest → 0 < length rest
    → ((setting : Setting) → IsSetting rest setting → CanAdd s setting → ⊥) → SaysNone text
last_none text rest s so u some cannot closed list says can =
    let (more, list_is, rest_says) = so.complete closed list says in
    let (setting, is, more_is) = last_says rest_says rest refl u some in
    let whole : list ≡ so.done ++ setting ∷ [] = list_is ∙ ap (λ z. so.done ++ z) more_is in
    cannot setting is (can_add s so.done setting [] so.holds (subst CanAll whole can))

none_says : {closed : Bool} {octets : List ℕ} {list : List Setting} → SaysSettings closed octets list → octets ≡ [] → list ≡ []
none_says by_end e = refl
none_says by_lf e = refl
none_says by_crlf e = refl
none_says (last line setting is) e = let some = setting_some line setting is in let none : length line ≡ 0 = ap length e in absurd (omega arith)
none_says (with_lf {closed} {rest = after} {settings} line setting is says) e = absurd (nil_no line after (sym e))
none_says (with_crlf {closed} {rest = after} {settings} line setting is says) e = absurd (nil_no (line ++ 13 ∷ []) after (sym e ∙ sym (append_assoc line (13 ∷ []) (10 ∷ after))))

pub all_read : (text rest : List ℕ) (s : Settings) → Sofar text rest s → rest ≡ [] → Reads s text
all_read text rest s so none =
    let P : List ℕ → Type 0 = λ o. SaysSettings false o [] in
    let Q : List Setting → Type 0 = SaysSettings false text in
    record { closed = false; list = so.done; says = subst Q (append-nil so.done) (so.sound false [] (subst P (sym none) by_end)); only = alone; holds = so.holds }
  where
    alone : (close : Bool) (other : List Setting) → SaysSettings close text other → other ≡ so.done
    alone close other says =
        let (more, other_is, rest_says) = so.complete close other says in
        other_is ∙ ap (λ z. so.done ++ z) (none_says rest_says none) ∙ append-nil so.done

-- ---- tests of emptiness, and refusals

pub is_some : (xs : List ℕ) (b : Bool) → b ≡ (length xs == 0) → b ≡ false → 0 < length xs
is_some [] b e t = absurd (true≢false (sym e ∙ t))
is_some (x ∷ xs) b e t = omega arith

pub if_refused : (P : Type 0) (f : Fault) → P → IfRefused P f
if_refused P Memory p = tt
if_refused P (Refused r) p = p

pub if_refused_map : (P Q : Type 0) (f : Fault) → (P → Q) → IfRefused P f → IfRefused Q f
if_refused_map P Q Memory m p = tt
if_refused_map P Q (Refused r) m p = m p

pub not_nil : (xs : List ℕ) → 0 < length xs → xs ≡ [] → ⊥
not_nil xs h e = let none : length xs ≡ 0 = ap length e in omega arith

-- ---- a preamble or a configuration

-- the settings name as many rooms as they host
rooms_counted : (list : List Setting) (hosts : Config) → AreHosts list hosts → length (rooms list) ≡ length hosts.rooms
rooms_counted list hosts are = sym (ap length are.rooms_are ∙ length-map (rooms list) (room_in (zones list)))

-- hosts that can be named fit: the zones are of rooms, and no more than these
pub says_none_of : (octets : List ℕ) → SaysNone octets → ReadsNone octets
says_none_of octets none closed list hosts says utf8 short are once =
    let counted = rooms_counted list hosts are in
    let few = are.few_rooms in
    let zoned = no_longer ◌≢◌ (λ x differs. differs refl) (rooms list) (addresses (zones list)) are.zones_differ are.zones_of_rooms in
    none closed list says
    (record {
      rooms_fit = record { few = omega arith; differ = are.rooms_differ };
      zones_fit = record { few = omega arith; differ = are.zones_differ };
      organisers_fit = subst (IsFit most_organisers) (sym are.organisers_are) (record { few = are.few_organisers; differ = are.organisers_differ });
      once = once;
    })

-- text without a host is neither
pub no_host : (s : Settings) (octets : List ℕ) → Reads s octets → length s.rooms.items ≡ 0 → length s.organisers.items ≡ 0 → ReadsNone octets
no_host s octets r no_rooms no_organisers closed list hosts says utf8 short are once =
    let counted = rooms_counted list hosts are in
    let rooms_none : length (rooms list) ≡ length s.rooms.items = ap length (ap rooms (r.only closed list says) ∙ r.holds.rooms_are) ∙ length-map s.rooms.items address_octets in
    let organisers_none : length hosts.organisers ≡ length s.organisers.items =
    ap length (sym are.organisers_are ∙ ap organisers (r.only closed list says) ∙ r.holds.organisers_are) ∙ length-map s.organisers.items address_octets in
    let some = are.some in
    omega arith

-- nor is text that gives a zone to what isn't a room
pub no_room : (s : Settings) (octets : List ℕ) → Reads s octets → (address : List ℕ) → Contains (addresses (zones_of s)) address
    → (Contains (rooms_of s) address → ⊥) → ReadsNone octets
no_room s octets r address zoned lacks closed list hosts says utf8 short are once =
    let same = r.only closed list says in
    let Z : List (List ℕ) → Type 0 = λ all. Contains all address in
    lacks (subst Z (ap rooms same ∙ r.holds.rooms_are) (are.zones_of_rooms address (subst Z (sym (ap addresses (ap zones same ∙ r.holds.zones_are))) zoned)))

pub has_moment : (s : Settings) (octets : List ℕ) (t : ℤ) → ReadsSettings s octets → s.moment ≡ Some t
    → (closed : Bool) (hosts : Config) → IsConfiguration closed octets hosts → ⊥
has_moment s octets t r is closed hosts c =
    let same : [] ≡ t ∷ [] = sym c.timeless ∙ ap moments (r.reads.only closed c.settings c.says) ∙ r.reads.holds.moments_are ∙ ap option_to_list is in
    cc

pub no_moment : (s : Settings) (octets : List ℕ) → ReadsSettings s octets → s.moment ≡ None
    → (closed : Bool) (moment : ℤ) (hosts : Config) → IsPreamble closed octets moment hosts → ⊥
no_moment s octets r is closed moment hosts p =
    let same : moment ∷ [] ≡ [] = sym p.moment_is ∙ ap moments (r.reads.only closed p.settings p.says) ∙ r.reads.holds.moments_are ∙ ap option_to_list is in
    cc

pub not_utf8 : (octets : List ℕ) → (IsUtf8 octets → ⊥) → ReadsNone octets
not_utf8 octets bad closed list hosts says utf8 short are once = bad (IsUtf8-from_is_utf8 octets utf8)

pub is_read : (s : Settings) (octets : List ℕ) → Reads s octets → IsUtf8 octets → length octets ≤ 65_536 → 0 < length s.rooms.items + length s.organisers.items
    → ((address : List ℕ) → Contains (addresses (zones_of s)) address → Contains (rooms_of s) address) → ReadsSettings s octets
is_read s octets r utf8 short some zoned = record {
  reads = r;
  text = is_utf8-from_IsUtf8 octets utf8;
  short = short;
  some = omega (arith, some, length-map s.rooms.items address_octets, length-map s.organisers.items address_octets);
  zones_of_rooms = zoned;
}

-- the hosts of the settings
pub are_hosts : (s : Settings) (octets : List ℕ) (r : ReadsSettings s octets) (hosts : Config)
    → hosts.rooms ≡ map (room_in (zones_of s)) (rooms_of s) → hosts.organisers ≡ organisers_of s → AreHosts r.reads.list hosts
are_hosts s octets r hosts rooms_are organisers_are =
    let h = r.reads.holds in
    let many : length hosts.rooms ≡ length (rooms_of s) = ap length rooms_are ∙ length-map (rooms_of s) (room_in (zones_of s)) in
    let others : length hosts.organisers ≡ length (organisers_of s) = ap length organisers_are in
    let some = r.some in
    let few = h.rooms_fit.few in
    let few_others = h.organisers_fit.few in
    let P : List (List ℕ) → Type 0 = AllPairs ◌≢◌ in
    let Q : List (List ℕ) → Type 0 = λ zoned. (address : List ℕ) → Contains zoned address → Contains (rooms r.reads.list) address in
    let R : List (List ℕ) → Type 0 = λ all. (address : List ℕ) → Contains (addresses (zones_of s)) address → Contains all address in
    record {
      rooms_are = rooms_are ∙ ap (λ zoned. map (room_in zoned) (rooms_of s)) (sym h.zones_are) ∙ ap (map (room_in (zones r.reads.list))) (sym h.rooms_are);
      organisers_are = h.organisers_are ∙ sym organisers_are;
      some = omega arith;
      few_rooms = omega arith;
      few_organisers = omega arith;
      rooms_differ = subst P (sym h.rooms_are) h.rooms_fit.differ;
      zones_differ = subst P (sym (ap addresses h.zones_are)) h.zones_fit.differ;
      zones_of_rooms = subst Q (sym (ap addresses h.zones_are)) (subst R (sym h.rooms_are) r.zones_of_rooms);
      organisers_differ = subst P (sym organisers_are) h.organisers_fit.differ;
    }

pub is_configuration : (s : Settings) (octets : List ℕ) → ReadsSettings s octets → s.moment ≡ None → (hosts : Config)
    → hosts.rooms ≡ map (room_in (zones_of s)) (rooms_of s) → hosts.organisers ≡ organisers_of s → (closed : Bool) × IsConfiguration closed octets hosts
is_configuration s octets r none hosts rooms_are organisers_are = (
  r.reads.closed,
  record {
    settings = r.reads.list;
    says = r.reads.says;
    text = r.text;
    short = r.short;
    timeless = r.reads.holds.moments_are ∙ ap option_to_list none;
    are = are_hosts s octets r hosts rooms_are organisers_are;
  },
)

pub is_preamble : (s : Settings) (octets : List ℕ) → ReadsSettings s octets → (moment : ℤ) → s.moment ≡ Some moment → (hosts : Config)
    → hosts.rooms ≡ map (room_in (zones_of s)) (rooms_of s) → hosts.organisers ≡ organisers_of s → (closed : Bool) × IsPreamble closed octets moment hosts
is_preamble s octets r moment is hosts rooms_are organisers_are = (
  r.reads.closed,
  record {
    settings = r.reads.list;
    says = r.reads.says;
    text = r.text;
    short = r.short;
    moment_is = r.reads.holds.moments_are ∙ ap option_to_list is;
    are = are_hosts s octets r hosts rooms_are organisers_are;
  },
)

-- ---- the answers of add_zone

pub zone_unsaid : (r : Fault) (text : List ℕ) (zones : List (List ℕ)) → IfRefused ((room : ZonedRoom) → SaysZone text room → ⊥) r
    → IfRefused ((room : ZonedRoom) → SaysZone text room → CanHost most_rooms zones room.address → ⊥) r
zone_unsaid Memory text zones h = tt
zone_unsaid (Refused x) text zones h = λ room says can. h room says

pub zone_there : (text : List ℕ) (zones : List (List ℕ)) (own : ZonedRoom) → SaysZone text own → Contains zones own.address
    → (room : ZonedRoom) → SaysZone text room → CanHost most_rooms zones room.address → ⊥
zone_there text zones own says there room said can =
    let P : List ℕ → Type 0 = Contains zones in
    can.fresh (subst P (ap (λ (r : ZonedRoom). r.address) (one_zone text room own said says)) there)

pub zone_added : (text : List ℕ) (old new : List OwnRoom) (own : OwnRoom) → length old < 64 → SaysZone text (zoned_room own)
    → (Contains (addresses (map zoned_room old)) (address_octets own.address) → ⊥) → new ≡ old ++ own ∷ []
    → (room : ZonedRoom) × SaysZone text room × AddsZone old new room
zone_added text old new own few says fresh more = (
  zoned_room own,
  says,
  record {
    can = record { fresh = fresh; few = omega (arith, length-map (map zoned_room old) (λ (room : ZonedRoom). room.address), length-map old zoned_room) };
    more = ap (map zoned_room) more ∙ map-append zoned_room old (own ∷ []);
  },
)

-- ---- one room more in the zone that is given

pub more_in : (zones : List ZonedRoom) (done : List Address) (old new : List OwnRoom) (x : OwnRoom)
    → map zoned_room old ≡ map (room_in zones) (map address_octets done) → new ≡ old ++ x ∷ []
    → zoned_room x ≡ room_in zones (address_octets x.address) → map zoned_room new ≡ map (room_in zones) (map address_octets (done ++ x.address ∷ []))
more_in zones done old new x sofar more is =
    ap (map zoned_room) more ∙ map-append zoned_room old (x ∷ []) ∙ ap (λ z. z ++ zoned_room x ∷ []) sofar
    ∙ ap (λ y. map (room_in zones) (map address_octets done) ++ y ∷ []) is
    ∙ sym (ap (map (room_in zones)) (map-append address_octets done (x.address ∷ [])) ∙ map-append (room_in zones) (map address_octets done) (address_octets x.address ∷ []))

pub in_given : (given zones : List OwnRoom) (x : OwnRoom) → given ≡ zones → zoned_room x ≡ room_in (map zoned_room given) (address_octets x.address)
    → zoned_room x ≡ room_in (map zoned_room zones) (address_octets x.address)
in_given given zones x same is = is ∙ ap (λ z. room_in (map zoned_room z) (address_octets x.address)) same
