-- The clocks that a name means at the door, and those of the zone that a room reads in what was made readable: a VEVENT says the same by both. For
-- `adapted_has_the_same_instances`.
use Rattle.std.proofs.Common.{◌≡◌, ◌∙◌, sym, refl, ap, subst, inl, inr, ℕ, Bool, true, false, List, [], ◌∷◌, Option, Some, None, ℤ, pos, ◌-ℤ◌, ◌≤ℤ◌}
use Rattle.std.specs.Prelude.{◌↔◌, Contains, codes, not, filter, map}
use Rattle.std.specs.List.{list_any}
use Rattle.std.specs.Str.{bytes_eq}
use Rattle.std.specs.Prelude.{cond}
use Rattle.std.proofs.lemmas.Bool.{true≢false}
use Rattle.std.specs.Str.{str_to_ascii_lowercase}
use Rattle.std.proofs.lemmas.Slice.Eq.{bytes_eq-Decides}
use Rattle.std.proofs.lemmas.Option.{same_Some}
use Rattle.profile.specs.text.Lines.{is_same_name}
use Rattle.profile.specs.text.Trees.{Tree, vevents, tree_name, tree_own, tree_inside}
use Rattle.profile.specs.checker.Instances.{Instance}
use Rattle.profile.specs.series.RoomZones.{IsRoomZone}
use Rattle.profile.specs.series.Zones.{Zone, Means, Shows}
use Rattle.profile.specs.series.ZoneTexts.{SaysZone}
use Rattle.profile.specs.series.GeneralZones.{Run, MeansGenerally, IsSameFrom}
use Rattle.profile.specs.series.GeneralZoneTexts.{SaysGeneralZone}
use Rattle.profile.specs.events.Properties.{lines_named}
use Rattle.profile.specs.events.ZonedTimes.{zone_named, SaysZoneOf, clock_of}
use Rattle.profile.specs.doors.Uses.{IsLineIn, SaysLocal}
use Rattle.profile.specs.doors.Adapting.{IsAdapted, IsMeant, IsListedZone, SaysNothing, IsZoneUnread, IsZoneGiven, TakesPlace, IsSameFor, always, as_long, beyond, IsTableEnd, IsGoneOn}
use Rattle.profile.specs.doors.OnClocks.{GivesRuleOn, IsRuleStartOn, IsDaysLaterOn, MayStart, SaysSameOn, SaysSameAs}
use Rattle.profile.specs.doors.OnClocks as may
use Rattle.profile.specs.doors.InstancesOnClocks.{Clock, Read, General, MeansOn, ShowsOn, IsClockInRoom, IsClockAtDoor, GoesOnAs, IsInstanceOn}
use Rattle.cal_doors.proofs.LawClocks.{AreNear}
use Rattle.cal_doors.proofs.LawEvents.{OneRule}
use Rattle.cal_doors.proofs.LawOffsets.{general_near, beyond_near, zone_near, short_near}
use Rattle.cal_doors.proofs.LawMeant.{says_so, as_it_goes_on}
use Rattle.cal_doors.proofs.LawStarts.{room_short}
use Rattle.cal_doors.proofs.LawAlike.{same_offset, same_meaning}
use Rattle.cal_doors.proofs.Stated.{one_end}
use Rattle.cal_doors.proofs.SameInstances.{Moves, AllMove, AllNear, instance_there}

-- ---- two clocks by which a VEVENT says the same

module _ (c : Clock) (z : Zone) (name : List ℕ) (lines : List (List ℕ)) (same : SaysSameOn (MeansOn c) (ShowsOn c) (Means z) (Shows z) name lines) where
  may_there : (start : List ℕ) (local t : ℤ) → Contains (lines_named (codes "DTSTART") lines) start → IsLineIn name lines start → SaysLocal start local → pos 0 ≤ℤ local
      → MayStart (MeansOn c) lines local t → MayStart (Means z) lines local t
  may_there start local t there is says from (may.first m) = may.first ((same.times start local t is says).0 m)
  may_there start local t there is says from (may.by_rule line text rule among spells gives h) =
      let g = (same.rules start line local text rule there is says from among spells).0 gives in
      may.by_rule line text rule among spells g ((same.starts start line local text rule t there is says from among spells g).0 h)
  may_there start local t there is says from (may.added line among stamp) = may.added line among stamp
  may_there start local t there is says from (may.added_local line other among said near) = may.added_local line other among said near

  moves_there : Moves c (Read z) name lines
  moves_there = record {
    times = λ line local t is says m. (same.times line local t is says).0 m;
    rules = λ start line local text rule there is says from among spells gives.
        let g = (same.rules start line local text rule there is says from among spells).0 gives in
        (g, λ t h. (same.starts start line local text rule t there is says from among spells g).0 h);
    ends = λ start line local length t end there is says from among lasts starts h.
        (same.ends start line local length t end there is says among lasts (may_there start local t there is says from starts)).0 h;
  }

  moves_back : Moves (Read z) c name lines
  moves_back = record {
    times = λ line local t is says m. (same.times line local t is says).1 m;
    rules = λ start line local text rule there is says from among spells gives.
        ((same.rules start line local text rule there is says from among spells).1 gives, λ t h. (same.starts start line local text rule t there is says from among spells gives).1 h);
    ends = λ start line local length t end there is says from among lasts starts h. (same.ends start line local length t end there is says among lasts starts).1 h;
  }

same_itself : (z : Zone) (name : List ℕ) (lines : List (List ℕ)) → SaysSameOn (Means z) (Shows z) (Means z) (Shows z) name lines
same_itself z name lines = record {
  times = λ line local t is says. (λ h. h, λ h. h);
  rules = λ start line local text rule there is says from among spells. (λ h. h, λ h. h);
  starts = λ start line local text rule t there is says from among spells gives. (λ h. h, λ h. h);
  ends = λ start line local length t end there is says among lasts starts. (λ h. h, λ h. h);
}

-- ---- what a name means at the door is one VTIMEZONE

listed_one : (listed : Option Tree) (name : List ℕ) (a b : Tree) → IsListedZone listed name a → IsListedZone listed name b → a ≡ b
listed_one None name a b h k = absurd h
listed_one (Some zones) name a b h k = same_Some a b (sym h ∙ k)

meant_one : (listed : Option Tree) (object : Tree) (name : List ℕ) (a b : Tree) → IsMeant listed object name a → IsMeant listed object name b → a ≡ b
meant_one listed object name a b (inl h) (inl k) = same_Some a b (sym h.0 ∙ k.0)
meant_one listed object name a b (inl h) (inr k) = absurd (h.1 (subst SaysNothing h.0 k.0))
meant_one listed object name a b (inr h) (inl k) = absurd (k.1 (subst SaysNothing k.0 h.0))
meant_one listed object name a b (inr h) (inr k) = listed_one listed name a b h.1 k.1

-- ---- a zone that goes on is one zone by its clocks

same_longer : (zone : List Run) (to end : ℤ) (longer other : List Run) (z : Zone) (from : ℤ) → IsTableEnd zone to → IsTableEnd zone end → IsGoneOn zone to longer → IsGoneOn zone end other
    → IsSameFrom longer z from → IsSameFrom other z from
same_longer zone to end longer other z from ended again gone gone_too same =
    let is : IsGoneOn zone to other = subst (λ t. IsGoneOn zone t other) (one_end zone end to again ended) gone_too in
    record {
      offset_there = λ t p at h. same.offset_there t p at (same_offset zone to other longer is gone t p h);
      offset_back = λ t p at h. same_offset zone to longer other gone is t p (same.offset_back t p at h);
      means_there = λ local t at h. same.means_there local t at (same_meaning zone to other longer is gone local t h);
      means_back = λ local t at h. same_meaning zone to longer other gone is local t (same.means_back local t at h);
    }

-- ---- what was adapted

-- a VTIMEZONE says one zone, and one zone in general
abbrev OneZone : Type 0
OneZone = (t : Tree) (a b : Zone) → SaysZone t a → SaysZone t b → a ≡ b

abbrev OneGeneral : Type 0
OneGeneral = (t : Tree) (a b : List Run) → SaysGeneralZone t a → SaysGeneralZone t b → a ≡ b

says_part : (found : Option Tree) (part : Tree) (zone : Zone) → found ≡ Some part → SaysZoneOf found zone → SaysZone part zone
says_part found part zone e says = subst (λ o. SaysZoneOf o zone) e says

of_part : (found : Option Tree) (part : Tree) (zone : Zone) → found ≡ Some part → SaysZone part zone → SaysZoneOf found zone
of_part found part zone e says = subst (λ o. SaysZoneOf o zone) (sym e) says

near_part : (found : Option Tree) (zone : Zone) → SaysZoneOf found zone → AreNear (Means zone)
near_part None zone says = absurd says
near_part (Some part) zone says = zone_near part zone says

module _ (one_rule : OneRule) (one_zone : OneZone) (one_general : OneGeneral) (listed : Option Tree) (octets : List ℕ) (going_on : List (List ℕ)) (adapted : List ℕ)
    (a : IsAdapted listed octets going_on adapted) where
  module _ (name : List ℕ) (lines : List (List ℕ)) (line : List ℕ) (there : Contains (vevents a.before) lines) (is : IsLineIn name lines line) where
    given : IsZoneGiven listed a.before a.after name (list_any (bytes_eq name) going_on)
    given = a.zones name (lines, line, there, is)

    -- a zone takes the place of one in general
    placed : (b : Bool) (p : TakesPlace listed a.before name (list_any (bytes_eq name) going_on) given.zone) (runs : List Run) → GoesOnAs b p.zone runs
        → IsSameFor p.zone given.zone b p.first p.last → SaysSameAs runs given.zone name lines
    placed false p runs goes same =
        subst (λ r. SaysSameAs r given.zone name lines) (sym goes)
        (says_so p.meant given.part p.zone given.zone p.says given.says one_rule p.first p.last name lines (p.from_first lines line there is) (λ end e. p.to_last end e lines line there is) same)
    placed true p runs (to, ended, gone) (always exact known same) = absurd (true≢false exact)
    placed true p runs (to, ended, gone) (as_long end exact e same) = absurd (true≢false exact)
    placed true p runs (to, ended, gone) (beyond end longer does again same gone_too on) =
        as_it_goes_on p.meant given.part p.zone given.zone p.says given.says one_rule p.first p.last name lines (p.from_first lines line there is) (λ end e. p.to_last end e lines line there is) to runs
        gone (same_longer p.zone end to longer runs given.zone (p.first -ℤ pos 86_399) again ended gone_too gone on)

    in_place : (c : Clock) → IsClockAtDoor listed a.before going_on name c → IsZoneUnread a.before name → TakesPlace listed a.before name (list_any (bytes_eq name) going_on) given.zone
        → SaysSameOn (MeansOn c) (ShowsOn c) (Means given.zone) (Shows given.zone) name lines
    in_place (Read z) said unread p = absurd (unread z said)
    in_place (General runs) (unread, (meant, said, is_meant, says, goes)) none p =
        let same_tree : meant ≡ p.meant = meant_one listed a.before name meant p.meant is_meant p.is_meant in
        let same_zone : said ≡ p.zone = one_general p.meant said p.zone (subst (λ t. SaysGeneralZone t said) same_tree says) p.says in
        placed (list_any (bytes_eq name) going_on) p runs (subst (λ z. GoesOnAs (list_any (bytes_eq name) going_on) z runs) same_zone goes) p.same

    kept : (c : Clock) → IsClockAtDoor listed a.before going_on name c → zone_named name a.before ≡ Some given.part
        → SaysSameOn (MeansOn c) (ShowsOn c) (Means given.zone) (Shows given.zone) name lines
    kept (Read z) said e =
        let same : z ≡ given.zone = one_zone given.part z given.zone (says_part (zone_named name a.before) given.part z e said) given.says in
        subst (λ x. SaysSameOn (Means x) (Shows x) (Means given.zone) (Shows given.zone) name lines) (sym same) (same_itself given.zone name lines)
    kept (General runs) said e = absurd (said.0 given.zone (of_part (zone_named name a.before) given.part given.zone e given.says))

    says_same_by : (c : Clock) → IsClockAtDoor listed a.before going_on name c → SaysSameOn (MeansOn c) (ShowsOn c) (Means given.zone) (Shows given.zone) name lines
    says_same_by c said = elim given.same [ inl e ↦ kept c said e | inr p ↦ in_place c said p.0 p.1 ]

    -- the name means some clocks at the door
    gone_as : (b : Bool) (zone : List Run) (other : Zone) (first : ℤ) (last : Option ℤ) → IsSameFor zone other b first last → (runs : List Run) × GoesOnAs b zone runs
    gone_as false zone other first last same = (zone, refl)
    gone_as true zone other first last (always exact known same) = absurd (true≢false exact)
    gone_as true zone other first last (as_long end exact e same) = absurd (true≢false exact)
    gone_as true zone other first last (beyond to longer does ended same gone on) = (longer, (to, ended, gone))

    door_clock : (c : Clock) × IsClockAtDoor listed a.before going_on name c
    door_clock =
        elim given.same [
          | inl e ↦ (Read given.zone, of_part (zone_named name a.before) given.part given.zone e given.says)
          | inr (unread, p) ↦
              let g = gone_as (list_any (bytes_eq name) going_on) p.zone given.zone p.first p.last p.same in
              (General g.0, (unread, (p.meant, p.zone, p.is_meant, p.says, g.1)))
        ]

    room_clock : IsClockInRoom a.after name (Read given.zone)
    room_clock = of_part (zone_named name a.after) given.part given.zone given.there given.says

    room_same : (z : Zone) → SaysZoneOf (zone_named name a.after) z → given.zone ≡ z
    room_same z says = one_zone given.part given.zone z given.says (says_part (zone_named name a.after) given.part z given.there says)

  near_general : (b : Bool) (meant : Tree) (said runs : List Run) → SaysGeneralZone meant said → GoesOnAs b said runs → AreNear (MeansGenerally runs)
  near_general false meant said runs says goes = subst (λ r. AreNear (MeansGenerally r)) (sym goes) (general_near meant said says)
  near_general true meant said runs says (to, ended, gone) = beyond_near meant said says to runs gone

  door_near : (lines : List (List ℕ)) → AllNear (IsClockAtDoor listed a.before going_on) lines
  door_near lines name line (Read z) is said = near_part (zone_named name a.before) z said
  door_near lines name line (General runs) is (unread, (meant, said, is_meant, says, goes)) = near_general (list_any (bytes_eq name) going_on) meant said runs says goes

  room_near : (lines : List (List ℕ)) → AllNear (IsClockInRoom a.after) lines
  room_near lines name line (Read z) is said = near_part (zone_named name a.after) z said
  room_near lines name line (General runs) is said = absurd said

  to_room : (lines : List (List ℕ)) → Contains (vevents a.before) lines → AllMove (IsClockAtDoor listed a.before going_on) (IsClockInRoom a.after) lines
  to_room lines there name line c is said =
      let g = given name lines line there is in
      (Read g.zone, room_clock name lines line there is, moves_there c g.zone name lines (says_same_by name lines line there is c said))

  to_door : (lines : List (List ℕ)) → Contains (vevents a.before) lines → AllMove (IsClockInRoom a.after) (IsClockAtDoor listed a.before going_on) lines
  to_door lines there name line (Read z) is said =
      let d = door_clock name lines line there is in
      let g = given name lines line there is in
      (d.0, d.1, subst (λ x. Moves (Read x) d.0 name lines) (room_same name lines line there is z said) (moves_back d.0 g.zone name lines (says_same_by name lines line there is d.0 d.1)))
  to_door lines there name line (General runs) is said = absurd said

  pub same_instances : (words : List ℕ) (room : Option Zone) → IsRoomZone words room → (events : List (List (List ℕ))) → ((lines : List (List ℕ)) → Contains events lines → Contains (vevents a.before) lines)
      → (i : Instance) → IsInstanceOn (IsClockAtDoor listed a.before going_on) room events i ↔ IsInstanceOn (IsClockInRoom a.after) room events i
  same_instances words room is_room events all i =
      let near = short_near (clock_of room) (room_short words room is_room) in (
        instance_there (IsClockAtDoor listed a.before going_on) (IsClockInRoom a.after) room near events (λ lines among. door_near lines) (λ lines among. to_room lines (all lines among))
            (λ lines among. to_door lines (all lines among)) i,
        instance_there (IsClockInRoom a.after) (IsClockAtDoor listed a.before going_on) room near events (λ lines among. room_near lines) (λ lines among. to_door lines (all lines among))
            (λ lines among. to_room lines (all lines among)) i,
      )

-- ---- its VEVENTs

module _ {X : Type 0} (p q : X → Bool) (both : (x : X) → p x ≡ true → q x ≡ true) where
  one_more : (x : X) (b c : Bool) (kept passed : List X) → p x ≡ b → q x ≡ c → filter p kept ≡ passed → filter p (cond c (x ∷ kept) kept) ≡ cond b (x ∷ passed) passed
  one_more x true true kept passed e f same = ap (λ t. cond t (x ∷ filter p kept) (filter p kept)) e ∙ ap (λ l. x ∷ l) same
  one_more x true false kept passed e f same = absurd (true≢false (sym (both x e) ∙ f))
  one_more x false true kept passed e f same = ap (λ t. cond t (x ∷ filter p kept) (filter p kept)) e ∙ same
  one_more x false false kept passed e f same = same

  -- what passes the one test passes the other
  filter_twice : (xs : List X) → filter p (filter q xs) ≡ filter p xs
  filter_twice [] = refl
  filter_twice (x ∷ xs) = one_more x (p x) (q x) (filter q xs) (filter p xs) refl refl (filter_twice xs)

abbrev is_event : Tree → Bool
is_event part = is_same_name (tree_name part) (codes "VEVENT")

abbrev is_other : Tree → Bool
is_other part = not (is_same_name (tree_name part) (codes "VTIMEZONE"))

-- a VEVENT is no VTIMEZONE
not_zone : (part : Tree) → is_event part ≡ true → is_other part ≡ true
not_zone part h =
    let name : str_to_ascii_lowercase (tree_name part) ≡ str_to_ascii_lowercase (codes "VEVENT") =
    (bytes_eq-Decides (str_to_ascii_lowercase (tree_name part)) (str_to_ascii_lowercase (codes "VEVENT"))).0 h in
    ap (λ x. not (bytes_eq x (str_to_ascii_lowercase (codes "VTIMEZONE")))) name

pub same_events : (listed : Option Tree) (octets : List ℕ) (going_on : List (List ℕ)) (adapted : List ℕ) (a : IsAdapted listed octets going_on adapted) → vevents a.after ≡ vevents a.before
same_events listed octets going_on adapted a =
    ap (map tree_own) (
    sym (filter_twice is_event is_other not_zone (tree_inside a.after)) ∙ ap (filter is_event) a.others ∙ filter_twice is_event is_other not_zone (tree_inside a.before)
    )
