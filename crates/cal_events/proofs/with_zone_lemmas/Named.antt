-- A calendar whose times are all fixed says the same events once the zone of its room is named.
-- Cited by zone_named_keeps of with_zone.
use Rattle.std.proofs.Common.{◌≡◌, ℕ, suc, ℤ, true, false, not, ◌&&◌, List, [], ◌∷◌, Option, Some, None, get_or, drop, codes, refl, sym, subst, ap, ◌∙◌, arith}
use Rattle.std.specs.Prelude.{Contains}
use Rattle.std.specs.Option.{option_map, unwrap_or}
use Rattle.std.specs.List.{list_all, list_any, AllZip}
use Rattle.std.specs.Str.{is_utf8}
use Rattle.std.proofs.lemmas.Bool.{and_from, and_parts}
use Rattle.profile.specs.text.Lines.{logical_lines, reads_as_lines, is_content, is_faulty, ended}
use Rattle.profile.specs.text.Objects.{is_property, SpellsBody, nothing, property, component, IsObject}
use Rattle.profile.specs.text.Trees.{Tree, tree, tree_own, vevents}
use Rattle.profile.specs.series.Zones.{Zone}
use Rattle.profile.specs.series.RoomZones.{IsRoomZone, NamesRoomZone}
use Rattle.profile.specs.events.Properties.{Form, Fixed, Floating, WholeDay, is_fixed, BothOrNeither, lines_named}
use Rattle.profile.specs.events.Occurrences.{Time}
use Rattle.profile.specs.events.EventComponents.{EventComponent, SaysEventComponent}
use Rattle.profile.specs.events.Placed.{IsInstantIn, IsAt, zone_in, IsPlaced, SaysPlaced, is_all_fixed}
use Rattle.profile.specs.events.Confirmed.{Confirmed}
use Rattle.profile.specs.checker.Calendars.{SpellsCalendar, CertificateHolds, IsWithZone, AreAllFixed}
use Rattle.ical_lines.proofs.ContentLemmas.{lines_back, lines_fine, read_content}
use Rattle.cal_events.specs.WithZone.{NamesNoZone}
use Rattle.cal_events.proofs.with_zone_lemmas.OtherTree.{SameZones, event_there}
use Rattle.cal_events.proofs.with_zone_lemmas.Worded.{zone_line, shown_words, line_content}

-- ---- an event whose times are fixed is the same in each room

instant_there : (a b : Option Zone) (form : Form) (time instant : ℤ) → is_fixed form ≡ true → IsInstantIn a form time instant → IsInstantIn b form time instant
instant_there a b Fixed time instant f h = h
instant_there a b Floating time instant f h = cc
instant_there a b WholeDay time instant f h = cc

slot_there : (a b : Option Zone) (time : Option Time) (instant : Option ℤ) → unwrap_or (option_map (λ t. is_fixed t.form) time) true ≡ true → BothOrNeither (IsAt a) time instant → BothOrNeither (IsAt b) time instant
slot_there a b None None f h = h
slot_there a b (Some time) (Some instant) f h = instant_there a b time.form time.instant instant f h
slot_there a b None (Some instant) f h = h
slot_there a b (Some time) None f h = h

each_there : (a b : Option Zone) (times : List Time) (instants : List ℤ) → list_all (λ t. is_fixed t.form) times ≡ true → AllZip (IsAt a) times instants → AllZip (IsAt b) times instants
each_there a b [] [] f h = h
each_there a b [] (instant ∷ instants) f h = h
each_there a b (time ∷ times) [] f h = h
each_there a b (time ∷ times) (instant ∷ instants) f (h, rest) =
    let p = and_parts (is_fixed time.form) (list_all (λ t. is_fixed t.form) times) f in
    (instant_there a b time.form time.instant instant p.0 h, each_there a b times instants p.1 rest)

zone_there : (a b : Option Zone) (form : Form) (zone : Option Zone) → is_fixed form ≡ true → zone_in a form zone ≡ zone_in b form zone
zone_there a b Fixed _ f = refl
zone_there a b Floating _ f = cc
zone_there a b WholeDay _ f = cc

pub placed_there : (a b : Option Zone) (event placed : EventComponent) → is_all_fixed event ≡ true → IsPlaced a event placed → IsPlaced b event placed
placed_there a b event placed fixed p =
    let start = is_fixed event.times.form in
    let slot = unwrap_or (option_map (λ (t : Time). is_fixed t.form) event.written.recurrence) true in
    let adds = list_all (λ (t : Time). is_fixed t.form) event.written.additions in
    let takes = list_all (λ (t : Time). is_fixed t.form) event.written.exceptions in
    let outer = and_parts (start && slot && adds) takes fixed in
    let middle = and_parts (start && slot) adds outer.0 in
    let inner = and_parts start slot middle.0 in
    record {
      start = p.start;
      recurrence = p.recurrence;
      additions = p.additions;
      exceptions = p.exceptions;
      starts = instant_there a b event.times.form event.times.start p.start inner.0 p.starts;
      slot = slot_there a b event.written.recurrence p.recurrence inner.1 p.slot;
      adds = each_there a b event.written.additions p.additions middle.1 p.adds;
      takes = each_there a b event.written.exceptions p.exceptions outer.1 p.takes;
      is =
          p.is ∙ ap (λ (z : Option Zone). record event {
            recurrence = p.recurrence;
            times = record event.times { zone = z; start = p.start };
            additions = p.additions;
            exceptions = p.exceptions;
          }) (zone_there a b event.times.form event.times.zone inner.0);
    }

-- ---- and so are all of an object

abbrev AllFixedIn : Tree → List (List (List ℕ)) → Type 0
AllFixedIn object all = (lines : List (List ℕ)) (event : EventComponent) → Contains all lines → SaysEventComponent object None lines event → is_all_fixed event ≡ true

contains_here : (lines : List (List ℕ)) (all : List (List (List ℕ))) → Contains (lines ∷ all) lines
contains_here lines all = (0, omega arith, refl)

contains_later : (first lines : List (List ℕ)) (all : List (List (List ℕ))) → Contains all lines → Contains (first ∷ all) lines
contains_later first lines all (k, l, e) = (suc k, omega (arith, l), e)

all_there : (a b : Tree) → SameZones a b → (r s : Option Zone) (all : List (List (List ℕ))) (events : List EventComponent) → AllFixedIn a all → AllZip (SaysPlaced r a None) all events → AllZip (SaysPlaced s b None) all events
all_there a b same r s [] [] fixed h = h
all_there a b same r s [] (event ∷ events) fixed h = h
all_there a b same r s (lines ∷ all) [] fixed h = h
all_there a b same r s (lines ∷ all) (placed ∷ events) fixed ((event, says, is), rest) = (
  (event, event_there a b same None lines event says, placed_there r s event placed (fixed lines event (contains_here lines all) says) is),
  all_there a b same r s all events (λ later e c. fixed later e (contains_later lines later all c)) rest,
)

-- ---- the object with the line

abbrev with_line : List ℕ → Tree → Tree
with_line line (tree name own inside) = tree name (line ∷ own) inside

same_zones : (line : List ℕ) (t : Tree) → SameZones t (with_line line t)
same_zones line (tree name own inside) zone = refl

same_events : (line : List ℕ) (t : Tree) → vevents (with_line line t) ≡ vevents t
same_events line (tree name own inside) = refl

own_more : (line : List ℕ) (t : Tree) → tree_own (with_line line t) ≡ line ∷ tree_own t
own_more line (tree name own inside) = refl

body_more : {depth : ℕ} {own : List (List ℕ)} {parts : List Tree} {body : List (List ℕ)} (line : List ℕ) → is_property line ≡ true → SpellsBody depth own parts body → SpellsBody depth (line ∷ own) parts (line ∷ body)
body_more line p nothing = property line p nothing
body_more line p (property other q rest) = property other q (body_more line p rest)
body_more line p (component part begin end inner other opens closes holds rest) = component part begin end inner other opens closes holds (body_more line p rest)

object_more : (words first : List ℕ) (rest lines : List (List ℕ)) (t : Tree) → lines ≡ first ∷ rest → IsObject false t lines → IsObject false (with_line (zone_line words) t) (first ∷ zone_line words ∷ rest)
object_more words first rest lines (tree name own inside) e o = record {
  spelled = record {
    begin = o.spelled.begin;
    end = o.spelled.end;
    body = zone_line words ∷ o.spelled.body;
    are = ap (λ (z : List (List ℕ)). get_or z 0 [] ∷ zone_line words ∷ drop 1 z) (sym e ∙ o.spelled.are);
    opens = o.spelled.opens;
    closes = o.spelled.closes;
    holds = body_more (zone_line words) refl o.spelled.holds;
  };
  calendar = o.calendar;
  version = o.version;
  events = o.events;
}

named_so : (words : List ℕ) (zone : Option Zone) (own : List (List ℕ)) → IsRoomZone words zone → lines_named (codes "X-ROOM-ZONE") own ≡ [] → NamesRoomZone (zone_line words ∷ own) zone
named_so words zone own means none = (
  Some zone,
  record {
    line = Some (zone_line words);
    once = ap (λ (ls : List (List ℕ)). zone_line words ∷ ls) none;
    present = λ _. refl;
    is = means;
  },
  refl,
)

-- ---- the lines

reads_by : (octets : List ℕ) → list_all is_content (logical_lines octets) ≡ true → reads_as_lines false octets ≡ true
reads_by octets h =
    let P : List (List ℕ) → Type 0 = λ ls. (not (list_any is_faulty ls) && is_utf8 (ended ls) && true) ≡ true in
    subst P (lines_back (logical_lines octets) h) (lines_fine (logical_lines octets) h)

reads_more : (first line : List ℕ) (rest : List (List ℕ)) → list_all is_content (first ∷ rest) ≡ true → is_content line ≡ true → list_all is_content (first ∷ line ∷ rest) ≡ true
reads_more first line rest h k =
    let p = and_parts (is_content first) (list_all is_content rest) h in
    and_from (is_content first) (list_all is_content (line ∷ rest)) p.0 (and_from (is_content line) (list_all is_content rest) k p.1)

-- ---- the calendar

pub spells_named : (words octets with_zone room : List ℕ) (zone : Option Zone) (confirmed : Confirmed) → IsRoomZone words zone → IsWithZone words octets with_zone → NamesNoZone octets → AreAllFixed octets → SpellsCalendar room octets confirmed → SpellsCalendar room with_zone confirmed
spells_named words octets with_zone room zone confirmed means is unnamed fixed s =
    let (first, rest, alone, whole, added) = is.begins in
    let line = zone_line words in
    let content = reads_more first line rest (subst (λ (ls : List (List ℕ)). list_all is_content ls ≡ true) whole (read_content false octets s.lines)) (line_content words (shown_words words zone means)) in
    let each = all_there s.tree (with_line line s.tree) (same_zones line s.tree) s.says.says.zone zone (vevents s.tree) s.says.events (λ lines event c says. fixed s.tree lines event s.object c says) s.says.says.each in
    record {
      lines = reads_by with_zone (subst (λ (ls : List (List ℕ)). list_all is_content ls ≡ true) (sym added) content);
      tree = with_line line s.tree;
      object = subst (IsObject false (with_line line s.tree)) (sym added) (object_more words first rest (logical_lines octets) s.tree whole s.object);
      says = record {
        events = s.says.events;
        says = record {
          zone = zone;
          names = subst (λ (own : List (List ℕ)). NamesRoomZone own zone) (sym (own_more line s.tree)) (named_so words zone (tree_own s.tree) means (unnamed s.tree s.object));
          each = subst (λ (vs : List (List (List ℕ))). AllZip (SaysPlaced zone (with_line line s.tree) None) vs s.says.events) (sym (same_events line s.tree)) each;
        };
        masters = s.says.masters;
        overrides = s.says.overrides;
        are = s.says.are;
      };
    }

pub holds_named : (words octets with_zone room text : List ℕ) (zone : Option Zone) → IsRoomZone words zone → IsWithZone words octets with_zone → NamesNoZone octets → AreAllFixed octets → CertificateHolds room octets text → CertificateHolds room with_zone text
holds_named words octets with_zone room text zone means is unnamed fixed c = record {
  confirmed = c.confirmed;
  spells = spells_named words octets with_zone room zone c.confirmed means is unnamed fixed c.spells;
  holds = c.holds;
}
