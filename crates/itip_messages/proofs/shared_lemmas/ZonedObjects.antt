-- The lines of an object with zones and VEVENTs spell one VCALENDAR, in which each name means the zone at its place.
-- Behind refreshes_are_heard of law, replies_are_heard of law, requests_read_back of sent_law, shown_reads_back of sent_law, stored_texts_can_be_sent of sent_law.
use Rattle.std.proofs.Common.{◌≡◌, ◌∙◌, refl, sym, ap, subst, ℕ, zero, suc, ◌+◌, ◌<◌, ◌≤◌, ◌^◌, nat_lt, Bool, true, false, cond, List, [], ◌∷◌, ◌++◌, map, length, codes, Option, None, Some, arith, append_assoc, append-nil, lt-ltb}
use Rattle.std.specs.Prelude.{count_by, filter, Contains}
use Rattle.std.specs.List.{list_all, flat_map, find, slice_get}
use Rattle.std.specs.Str.{bytes_eq}
use Rattle.std.proofs.lemmas.Bool.{and_parts, and_from}
use Rattle.std.proofs.lemmas.Bool.Decides.{nat_tests}
use Rattle.std.proofs.lemmas.List.{length-map}
use Rattle.std.proofs.lemmas.List.Sums.{length-filter}
use Rattle.std.proofs.lemmas.Grind.{flat_map-append}
use Rattle.std.proofs.lemmas.List.Elements.{filter-append}
use Rattle.std.proofs.lemmas.List.Folds.{list_all-append}
use Rattle.profile.specs.events.ZonedTimes.{has_zone_name, vtimezones, zone_named, SaysZoneOf}
use Rattle.profile.specs.rooms.Kept.{kept_zone_name, zone_texts}
use Rattle.profile.specs.rooms.Messages.{IsZoneRest, zone_text}
use Rattle.profile.specs.series.Rules.{Pattern}
use Rattle.profile.specs.series.Zones.{Zone, Constant, Single, Pair}
use Rattle.profile.specs.series.ZoneTexts.{SaysZone}
use Rattle.profile.specs.text.Lines.{is_content, is_same_name, folded, written, logical_lines}
use Rattle.profile.specs.text.Objects.{is_property, is_calendar_name, most_events, has_version, IsObject}
use Rattle.profile.specs.text.Objects.SpellsBody.{component}
use Rattle.profile.specs.text.Trees.{Tree, tree, trees_list, tree_name, tree_own, tree_inside, vevents}
use Rattle.profile.specs.text.Values.{escaped}
use Rattle.profile.specs.written.WrittenZones.{WritesParts, WritesZone, IsZoneText, IsTextName, ReadsAsZone, lines_around, keeping, rule_lines}
use Rattle.ical_lines.proofs.CleanLines.{IsClean, clean_shown, valued, fixed}
use Rattle.ical_tree.specs.Tree.{trees_of}
use Rattle.ical_tree.proofs.TreeOfLemmas.{BodyT, SpellsT}
use Rattle.ical_tree.proofs.PropertyLemmas.{own_body}
use Rattle.ical_tree.proofs.OneTree.{one_tree}
use Rattle.cal_zones.proofs.WrittenParts.{part_content, name_line}
use Rattle.itip_messages.proofs.shared_lemmas.WrittenOctets.{rule_value, rule_shown}
use Rattle.itip_messages.proofs.shared_lemmas.ObjectTree.{Lines, vevent_lines, vevent_tree, calendar_own, own_properties, own_version}
use Rattle.itip_messages.proofs.shared_lemmas.ContentLines.{LinesBack, IsMethod, vevents_content}
use Rattle.itip_messages.proofs.shared_lemmas.ZoneNames.{name_clean, name_text, name_itself, other_place, same_bytes, has_its_name}

-- what a zone reads back as that was written
abbrev pub ZoneBack : Type 0
ZoneBack = (t : Tree) (zone : Zone) (name octets : List ℕ) → SaysZone t zone → IsTextName name → IsZoneText octets name zone → ReadsAsZone octets name zone

-- ---- its lines are content lines

framed : (begin end : List ℕ) (own : Lines) → is_content begin ≡ true → is_content end ≡ true → list_all is_content own ≡ true → list_all is_content (begin ∷ (own ++ end ∷ [])) ≡ true
framed begin end own b e h = and_from _ _ b (list_all-append is_content own (end ∷ []) ∙ and_from _ _ h (and_from _ _ e refl))

standard_content : (own : Lines) → list_all is_content own ≡ true → list_all is_content (lines_around (codes "STANDARD") own) ≡ true
standard_content own = framed (codes "BEGIN:STANDARD") (codes "END:STANDARD") own (fixed (codes "BEGIN:STANDARD") refl refl refl refl) (fixed (codes "END:STANDARD") refl refl refl refl)

daylight_content : (own : Lines) → list_all is_content own ≡ true → list_all is_content (lines_around (codes "DAYLIGHT") own) ≡ true
daylight_content own = framed (codes "BEGIN:DAYLIGHT") (codes "END:DAYLIGHT") own (fixed (codes "BEGIN:DAYLIGHT") refl refl refl refl) (fixed (codes "END:DAYLIGHT") refl refl refl refl)

zone_content : (own : Lines) → list_all is_content own ≡ true → list_all is_content (lines_around (codes "VTIMEZONE") own) ≡ true
zone_content own = framed (codes "BEGIN:VTIMEZONE") (codes "END:VTIMEZONE") own (fixed (codes "BEGIN:VTIMEZONE") refl refl refl refl) (fixed (codes "END:VTIMEZONE") refl refl refl refl)

rule_content : (rule : Option Pattern) → list_all is_content (rule_lines rule) ≡ true
rule_content None = refl
rule_content (Some p) =
    let line : is_content (codes "RRULE:" ++ rule_value p) ≡ true = valued (codes "RRULE:") (rule_value p) (lt-ltb 5 (length (codes "RRULE:" ++ rule_value p)) (omega arith)) refl refl refl (clean_shown (rule_value p) (rule_shown p)) in
    and_from _ _ line refl

parts_content : (zone : Zone) (parts : Lines) → WritesParts parts zone → list_all is_content parts ≡ true
parts_content (Constant k) parts (own, w, e) = ap (list_all is_content) e ∙ standard_content own (part_content own (keeping k) w refl)
parts_content (Single a) parts (own, w, e) = ap (list_all is_content) e ∙ standard_content own (part_content own a w (rule_content a.rule))
parts_content (Pair a b) parts (own, other, w, v, e) =
    ap (list_all is_content) e
    ∙ list_all-append is_content (lines_around (codes "STANDARD") own) (lines_around (codes "DAYLIGHT") other)
    ∙ and_from _ _ (standard_content own (part_content own a w (rule_content a.rule))) (daylight_content other (part_content other b v (rule_content b.rule)))

-- of a name that is written as it is
pub written_content : (name : List ℕ) (zone : Zone) (lines : Lines) → IsClean (escaped name) → WritesZone lines name zone → list_all is_content lines ≡ true
written_content name zone lines clean (parts, w, e) =
    ap (list_all is_content) e ∙ zone_content ((codes "TZID:" ++ escaped name) ∷ parts) (and_from _ _ (name_line (escaped name) clean) (parts_content zone parts w))

-- ---- the tree of one zone

-- some VTIMEZONE says a zone whose octets after its TZID these are
abbrev pub IsZone : List ℕ → Type 0
IsZone rest = (zone : Zone) × (t : Tree) × SaysZone t zone × IsZoneRest zone rest

-- the lines of a VTIMEZONE of a place, with these parts
abbrev lines_at : ℕ → Lines → Lines
lines_at place parts = lines_around (codes "VTIMEZONE") ((codes "TZID:" ++ kept_zone_name place) ∷ parts)

-- the octets of the place's VTIMEZONE are these lines, and spell this tree
pub record IsBack (place : ℕ) (rest : List ℕ) : Type 0 where
  pub lines : Lines
  pub text : zone_text (kept_zone_name place) rest ≡ written lines
  pub content : list_all is_content lines ≡ true
  pub part : Tree
  pub kind : tree_name part ≡ codes "VTIMEZONE"
  pub spelled : SpellsT 6 part lines
  pub named : (name : List ℕ) → has_zone_name name (tree_own part) ≡ bytes_eq (kept_zone_name place) name
  pub says : (zone : Zone) (t : Tree) → SaysZone t zone → IsZoneRest zone rest → SaysZone part zone

text_at : (place : ℕ) (rest : List ℕ) (parts : Lines) → rest ≡ written (parts ++ codes "END:VTIMEZONE" ∷ []) → zone_text (kept_zone_name place) rest ≡ written (lines_at place parts)
text_at place rest parts e =
    ap (zone_text (kept_zone_name place)) e
    ∙ sym (flat_map-append folded (codes "BEGIN:VTIMEZONE" ∷ (codes "TZID:" ++ kept_zone_name place) ∷ []) (parts ++ codes "END:VTIMEZONE" ∷ []))

writes_at : (place : ℕ) (zone : Zone) (parts : Lines) → WritesParts parts zone → WritesZone (lines_at place parts) (kept_zone_name place) zone
writes_at place zone parts w = (parts, w, ap (λ n. lines_around (codes "VTIMEZONE") ((codes "TZID:" ++ n) ∷ parts)) (sym (name_itself place)))

tail_content : (zone : Zone) (parts : Lines) → WritesParts parts zone → list_all is_content (parts ++ codes "END:VTIMEZONE" ∷ []) ≡ true
tail_content zone parts w = list_all-append is_content parts (codes "END:VTIMEZONE" ∷ []) ∙ and_from _ _ (parts_content zone parts w) (and_from _ _ (fixed (codes "END:VTIMEZONE") refl refl refl refl) refl)

module _ (lines_back : LinesBack) (zone_back : ZoneBack) where
  -- the octets after TZID have one way to be lines
  one_rest : (rest : List ℕ) (a b : Zone) (p q : Lines) → WritesParts p a → WritesParts q b → rest ≡ written (p ++ codes "END:VTIMEZONE" ∷ []) → rest ≡ written (q ++ codes "END:VTIMEZONE" ∷ []) → p ++ codes "END:VTIMEZONE" ∷ [] ≡ q ++ codes "END:VTIMEZONE" ∷ []
  one_rest rest a b p q v w e d =
      sym (lines_back (p ++ codes "END:VTIMEZONE" ∷ []) (tail_content a p v)) ∙ ap logical_lines (sym e ∙ d) ∙ lines_back (q ++ codes "END:VTIMEZONE" ∷ []) (tail_content b q w)

  -- what the lines of a place read back as, where they write this zone
  reads_at : (place : ℕ) (parts : Lines) (zone : Zone) (t : Tree) → SaysZone t zone → WritesParts parts zone → ReadsAsZone (written (lines_at place parts)) (kept_zone_name place) zone
  reads_at place parts zone t s w = zone_back t zone (kept_zone_name place) (written (lines_at place parts)) s (name_text place) (lines_at place parts, writes_at place zone parts w, refl)

  content_at : (place : ℕ) (parts : Lines) (zone : Zone) → WritesParts parts zone → list_all is_content (lines_at place parts) ≡ true
  content_at place parts zone w = written_content (kept_zone_name place) zone (lines_at place parts) (subst IsClean (sym (name_itself place)) (name_clean place)) (writes_at place zone parts w)

  spelled_at : (place : ℕ) (parts : Lines) (zone : Zone) (t : Tree) (s : SaysZone t zone) (w : WritesParts parts zone) → SpellsT 6 (reads_at place parts zone t s w).tree (lines_at place parts)
  spelled_at place parts zone t s w =
      let r = reads_at place parts zone t s w in
      subst (λ (l : Lines). SpellsT 6 r.tree l) (lines_back (lines_at place parts) (content_at place parts zone w)) (r.spelled 5)

  pub back_at : (place : ℕ) (rest : List ℕ) → IsZone rest → IsBack place rest
  back_at place rest (zone, t, s, (parts, w, e)) =
      let r = reads_at place parts zone t s w in
      record {
        lines = lines_at place parts;
        text = text_at place rest parts e;
        content = content_at place parts zone w;
        part = r.tree;
        kind = r.kind;
        spelled = spelled_at place parts zone t s w;
        named = λ name. has_its_name (tree_own r.tree) (kept_zone_name place) name r.named;
        says = λ other u q v.
            let a = reads_at place v.0 other u q v.1 in
            let lines_same : lines_at place v.0 ≡ lines_at place parts = ap (λ l. codes "BEGIN:VTIMEZONE" ∷ (codes "TZID:" ++ kept_zone_name place) ∷ l) (one_rest rest other zone v.0 parts v.1 w v.2 e) in
            let spelled_too : SpellsT 6 a.tree (lines_at place parts) = subst (λ (l : Lines). SpellsT 6 a.tree l) lines_same (spelled_at place v.0 other u q v.1) in
            let same : a.tree ≡ r.tree = one_tree 6 6 (lines_at place parts) a.tree r.tree spelled_too (spelled_at place parts zone t s w) in
            subst (λ (x : Tree). SaysZone x other) same a.says;
      }

-- ---- the trees of all zones

abbrev pub AreBack : ℕ → List (List ℕ) → Type 0
AreBack place [] = Unit {0}
AreBack place (z ∷ zones) = IsBack place z × AreBack (place + 1) zones

abbrev zone_trees : (place : ℕ) (zones : List (List ℕ)) → AreBack place zones → List Tree
zone_trees place [] b = []
zone_trees place (z ∷ zones) b = b.0.part ∷ zone_trees (place + 1) zones b.1

all_back : LinesBack → ZoneBack → (place : ℕ) (zones : List (List ℕ)) → ((z : List ℕ) → Contains zones z → IsZone z) → AreBack place zones
all_back lines_back zone_back place [] f = tt
all_back lines_back zone_back place (z ∷ zones) f =
    (back_at lines_back zone_back place z (f z (zero, omega arith, refl)), all_back lines_back zone_back (place + 1) zones (λ x c. f x (suc c.0, omega (arith, c.1), c.2)))

-- the lines of all
abbrev lines_of : (place : ℕ) (zones : List (List ℕ)) → AreBack place zones → Lines
lines_of place [] b = []
lines_of place (z ∷ zones) b = b.0.lines ++ lines_of (place + 1) zones b.1

texts_are : (place : ℕ) (zones : List (List ℕ)) (b : AreBack place zones) → zone_texts place zones ≡ written (lines_of place zones b)
texts_are place [] b = refl
texts_are place (z ∷ zones) b = (λ i. b.0.text i ++ texts_are (place + 1) zones b.1 i) ∙ sym (flat_map-append folded b.0.lines (lines_of (place + 1) zones b.1))

zones_content : (place : ℕ) (zones : List (List ℕ)) (b : AreBack place zones) → list_all is_content (lines_of place zones b) ≡ true
zones_content place [] b = refl
zones_content place (z ∷ zones) b = list_all-append is_content b.0.lines (lines_of (place + 1) zones b.1) ∙ and_from _ _ b.0.content (zones_content (place + 1) zones b.1)

not_calendar : (part : Tree) → tree_name part ≡ codes "VTIMEZONE" → is_calendar_name (tree_name part) ≡ false
not_calendar part e = ap is_calendar_name e

-- a component that lines spell, one more in a body
one_more : (depth : ℕ) (own : Lines) (parts : List Tree) (body : Lines) (part : Tree) (lines : Lines) → is_calendar_name (tree_name part) ≡ false → SpellsT depth part lines → BodyT (suc depth) own parts body
    → BodyT (suc depth) own (parts ++ part ∷ []) (body ++ lines)
one_more depth own parts body part lines v s b =
    subst (λ (l : Lines). BodyT (suc depth) own (parts ++ part ∷ []) (body ++ l)) (sym s.are) (component part s.begin s.end s.body v s.opens s.closes s.holds b)

zones_more : (own : Lines) (parts : List Tree) (body : Lines) (place : ℕ) (zones : List (List ℕ)) (b : AreBack place zones) → BodyT 7 own parts body → BodyT 7 own (parts ++ zone_trees place zones b) (body ++ lines_of place zones b)
zones_more own parts body place [] b h =
    subst (λ (l : List Tree). BodyT 7 own l (body ++ [])) (sym (append-nil parts)) (subst (λ (l : Lines). BodyT 7 own parts l) (sym (append-nil body)) h)
zones_more own parts body place (z ∷ zones) b h =
    let here : BodyT 7 own (parts ++ b.0.part ∷ []) (body ++ b.0.lines) = one_more 6 own parts body b.0.part (b.0.lines) (not_calendar b.0.part b.0.kind) b.0.spelled h in
    let all = zones_more own (parts ++ b.0.part ∷ []) (body ++ b.0.lines) (place + 1) zones b.1 here in
    subst (λ (l : List Tree). BodyT 7 own l (body ++ lines_of place (z ∷ zones) b)) (append_assoc parts (b.0.part ∷ []) (zone_trees (place + 1) zones b.1))
    (subst (λ (l : Lines). BodyT 7 own ((parts ++ b.0.part ∷ []) ++ zone_trees (place + 1) zones b.1) l) (append_assoc body (b.0.lines) (lines_of (place + 1) zones b.1)) all)

-- ---- VEVENTs

vevent_spelled : (depth : ℕ) (own : Lines) → list_all is_property own ≡ true → SpellsT depth (vevent_tree own) (vevent_lines own)
vevent_spelled depth own h = record {
  begin = codes "BEGIN:VEVENT";
  end = codes "END:VEVENT";
  body = own;
  are = refl;
  opens = record { begins = refl; names = refl };
  closes = record { ends = refl; names = refl };
  holds = own_body depth own h;
}

vevents_more : (own : Lines) (parts : List Tree) (body : Lines) (owns : List Lines) → BodyT 7 own parts body → list_all (list_all is_property) owns ≡ true
    → BodyT 7 own (parts ++ map vevent_tree owns) (body ++ flat_map vevent_lines owns)
vevents_more own parts body [] b h =
    subst (λ (l : List Tree). BodyT 7 own l (body ++ [])) (sym (append-nil parts)) (subst (λ (l : Lines). BodyT 7 own parts l) (sym (append-nil body)) b)
vevents_more own parts body (v ∷ owns) b h =
    let both = and_parts (list_all is_property v) (list_all (list_all is_property) owns) h in
    let here = one_more 6 own parts body (vevent_tree v) (vevent_lines v) refl (vevent_spelled 6 v both.0) b in
    let all = vevents_more own (parts ++ vevent_tree v ∷ []) (body ++ vevent_lines v) owns here both.1 in
    subst (λ (l : List Tree). BodyT 7 own l (body ++ flat_map vevent_lines (v ∷ owns))) (append_assoc parts (vevent_tree v ∷ []) (map vevent_tree owns))
    (subst (λ (l : Lines). BodyT 7 own ((parts ++ vevent_tree v ∷ []) ++ map vevent_tree owns) l) (append_assoc body (vevent_lines v) (flat_map vevent_lines owns)) all)

-- ---- the calendar

trees_there : (ts : List Tree) → trees_list (trees_of ts) ≡ ts
trees_there [] = refl
trees_there (t ∷ ts) = ap (λ l. t ∷ l) (trees_there ts)

object_tree : Lines → List Tree → Tree
object_tree own parts = tree (codes "VCALENDAR") own (trees_of parts)

abbrev is_event : Tree → Bool
is_event part = is_same_name (tree_name part) (codes "VEVENT")

abbrev is_zone : Tree → Bool
is_zone part = is_same_name (tree_name part) (codes "VTIMEZONE")

zones_no_events : (place : ℕ) (zones : List (List ℕ)) (b : AreBack place zones) → filter is_event (zone_trees place zones b) ≡ []
zones_no_events place [] b = refl
zones_no_events place (z ∷ zones) b =
    ap (λ n. cond (is_same_name n (codes "VEVENT")) (b.0.part ∷ filter is_event (zone_trees (place + 1) zones b.1)) (filter is_event (zone_trees (place + 1) zones b.1))) b.0.kind
    ∙ zones_no_events (place + 1) zones b.1

zones_all : (place : ℕ) (zones : List (List ℕ)) (b : AreBack place zones) → filter is_zone (zone_trees place zones b) ≡ zone_trees place zones b
zones_all place [] b = refl
zones_all place (z ∷ zones) b =
    ap (λ n. cond (is_same_name n (codes "VTIMEZONE")) (b.0.part ∷ filter is_zone (zone_trees (place + 1) zones b.1)) (filter is_zone (zone_trees (place + 1) zones b.1))) b.0.kind
    ∙ ap (λ l. b.0.part ∷ l) (zones_all (place + 1) zones b.1)

events_all : (owns : List Lines) → map tree_own (filter is_event (map vevent_tree owns)) ≡ owns
events_all [] = refl
events_all (own ∷ owns) = ap (λ l. own ∷ l) (events_all owns)

events_no_zones : (owns : List Lines) → filter is_zone (map vevent_tree owns) ≡ []
events_no_zones [] = refl
events_no_zones (own ∷ owns) = events_no_zones owns

-- ---- what a name means

-- the trees hold the one of this place first of those that have its name
find_at : (from : ℕ) (zones : List (List ℕ)) (b : AreBack from zones) (k place : ℕ) (z : List ℕ) → from + length zones < 2 ^ 64 → from + k ≡ place → slice_get zones k ≡ Some z
    → (part : IsBack place z) × (find (λ part. has_zone_name (kept_zone_name place) (tree_own part)) (zone_trees from zones b) ≡ Some part.part)
find_at from [] b k place z few p e = cc
find_at from (x ∷ zones) b zero place z few p e =
    let here : from ≡ place = omega (arith, p) in
    let it : x ≡ z = one_there x z e in
    subst (λ (q : ℕ). (part : IsBack q z) × (find (λ part. has_zone_name (kept_zone_name q) (tree_own part)) (zone_trees from (x ∷ zones) b) ≡ Some part.part)) here
    (subst (λ (y : List ℕ). (part : IsBack from y) × (find (λ part. has_zone_name (kept_zone_name from) (tree_own part)) (zone_trees from (x ∷ zones) b) ≡ Some part.part)) it
    (b.0, ap (λ t. cond t (Some b.0.part) (find (λ part. has_zone_name (kept_zone_name from) (tree_own part)) (zone_trees (from + 1) zones b.1))) (b.0.named (kept_zone_name from) ∙ same_bytes (kept_zone_name from))))
  where
    one_there : (x z : List ℕ) → Some x ≡ Some z → x ≡ z
    one_there x z e = ap (λ (o : Option (List ℕ)). or_that x o) e
      where
        or_that : List ℕ → Option (List ℕ) → List ℕ
        or_that x None = x
        or_that x (Some y) = y
find_at from (x ∷ zones) b (suc k) place z few p e =
    let rest = find_at (from + 1) zones b.1 k place z (omega (arith, few)) (omega (arith, p)) e in
    let inside : k < length zones = got_inside zones k z e in
    let differs : bytes_eq (kept_zone_name from) (kept_zone_name place) ≡ false = other_place from place (omega (arith, few)) (omega (arith, few, p, inside)) (λ same. omega (arith, p, same)) in
    let no : has_zone_name (kept_zone_name place) (tree_own b.0.part) ≡ false = b.0.named (kept_zone_name place) ∙ differs in
    (rest.0, ap (λ t. cond t (Some b.0.part) (find (λ part. has_zone_name (kept_zone_name place) (tree_own part)) (zone_trees (from + 1) zones b.1))) no ∙ rest.1)
  where
    got_inside : (zs : List (List ℕ)) (k : ℕ) (z : List ℕ) → slice_get zs k ≡ Some z → k < length zs
    got_inside [] k z e = cc
    got_inside (x ∷ zs) zero z e = omega arith
    got_inside (x ∷ zs) (suc k) z e = omega (arith, got_inside zs k z e)

-- ---- all

-- the octets of an object with these lines of its own, these zones and these VEVENTs
abbrev pub object_octets : Lines → List (List ℕ) → List Lines → List ℕ
object_octets own zones owns = written (codes "BEGIN:VCALENDAR" ∷ own) ++ zone_texts 0 zones ++ written (flat_map vevent_lines owns ++ codes "END:VCALENDAR" ∷ [])

pub record IsOpenedTree (opening : Lines) (zones : List (List ℕ)) (owns : List Lines) : Type 0 where
  pub lines : Lines
  pub text : object_octets opening zones owns ≡ written lines
  pub content : list_all is_content lines ≡ true
  pub whole : Tree
  pub object : IsObject false whole lines
  pub own : tree_own whole ≡ opening
  pub events : vevents whole ≡ owns
  pub says : (place : ℕ) (rest : List ℕ) → slice_get zones place ≡ Some rest → (zone : Zone) (t : Tree) → SaysZone t zone → IsZoneRest zone rest → SaysZoneOf (zone_named (kept_zone_name place) whole) zone

-- that of an object of this METHOD, or of none
abbrev pub IsZonedTree : Option (List ℕ) → List (List ℕ) → List Lines → Type 0
IsZonedTree method = IsOpenedTree (calendar_own method)

-- lines that may open an object
pub record AreOpening (own : Lines) : Type 0 where
  pub properties : list_all is_property own ≡ true
  pub version : has_version own ≡ true
  pub content : list_all is_content own ≡ true

pub calendar_opens : (method : Option (List ℕ)) → IsMethod method → AreOpening (calendar_own method)
calendar_opens method fine = record {
  properties = own_properties method;
  version = own_version method;
  content = and_from _ _ (fixed (codes "VERSION:2.0") refl refl refl refl) (and_from _ _ (fixed (codes "PRODID:-//iTIP room box//EN") refl refl refl refl) fine);
}

joined : (opening zones events : Lines) (text : List ℕ) → text ≡ written zones → written opening ++ text ++ written events ≡ written ((opening ++ zones) ++ events)
joined opening zones events text e =
    ap (λ t. written opening ++ t ++ written events) e
    ∙ sym (flat_map-append folded (opening ++ zones) events ∙ ap (λ x. x ++ written events) (flat_map-append folded opening zones))

pub opened_spelled : LinesBack → ZoneBack → (own : Lines) → AreOpening own → (zones : List (List ℕ)) (owns : List Lines) → ((rest : List ℕ) → Contains zones rest → IsZone rest) → length zones < 2 ^ 64
    → list_all (list_all is_property) owns ≡ true → list_all (list_all is_content) owns ≡ true → IsOpenedTree own zones owns
unfolding object_tree
opened_spelled lines_back zone_back own opens zones owns f few properties content =
    let b = all_back lines_back zone_back 0 zones f in
    let parts = zone_trees 0 zones b ++ map vevent_tree owns in
    let inner = lines_of 0 zones b in
    let events = flat_map vevent_lines owns in
    let there : trees_list (trees_of parts) ≡ parts = trees_there parts in
    let zs : BodyT 7 own (zone_trees 0 zones b) (own ++ inner) = zones_more own [] own 0 zones b (own_body 7 own opens.properties) in
    let both : BodyT 7 own parts ((own ++ inner) ++ events) = vevents_more own (zone_trees 0 zones b) (own ++ inner) owns zs properties in
    let zones_in : vtimezones (object_tree own parts) ≡ zone_trees 0 zones b =
    ap (filter is_zone) there ∙ filter-append is_zone (zone_trees 0 zones b) (map vevent_tree owns) ∙ (λ i. zones_all 0 zones b i ++ events_no_zones owns i) ∙ append-nil (zone_trees 0 zones b) in
    let opening : list_all is_content (codes "BEGIN:VCALENDAR" ∷ own) ≡ true = and_from _ _ (fixed (codes "BEGIN:VCALENDAR") refl refl refl refl) opens.content in
    let ending : list_all is_content (events ++ codes "END:VCALENDAR" ∷ []) ≡ true =
    list_all-append is_content events (codes "END:VCALENDAR" ∷ []) ∙ and_from _ _ (vevents_content owns content) (and_from _ _ (fixed (codes "END:VCALENDAR") refl refl refl refl) refl) in
    record {
      lines = ((codes "BEGIN:VCALENDAR" ∷ own) ++ inner) ++ (events ++ codes "END:VCALENDAR" ∷ []);
      text = joined (codes "BEGIN:VCALENDAR" ∷ own) inner (events ++ codes "END:VCALENDAR" ∷ []) (zone_texts 0 zones) (texts_are 0 zones b);
      whole = object_tree own parts;
      object = record {
        spelled = record {
          begin = codes "BEGIN:VCALENDAR";
          end = codes "END:VCALENDAR";
          body = (own ++ inner) ++ events;
          are = ap (λ l. codes "BEGIN:VCALENDAR" ∷ l) (sym (append_assoc (own ++ inner) events (codes "END:VCALENDAR" ∷ [])));
          opens = record { begins = refl; names = refl };
          closes = record { ends = refl; names = refl };
          holds = subst (λ (ts : List Tree). BodyT 7 own ts ((own ++ inner) ++ events)) (sym there) both;
        };
        calendar = refl;
        version = opens.version;
        events = refl;
      };
      own = refl;
      events =
          ap (λ ts. map tree_own (filter is_event ts)) there
          ∙ ap (map tree_own) (filter-append is_event (zone_trees 0 zones b) (map vevent_tree owns) ∙ ap (λ l. l ++ filter is_event (map vevent_tree owns)) (zones_no_events 0 zones b))
          ∙ events_all owns;
      content =
          list_all-append is_content ((codes "BEGIN:VCALENDAR" ∷ own) ++ inner) (events ++ codes "END:VCALENDAR" ∷ [])
          ∙ and_from _ _ (list_all-append is_content (codes "BEGIN:VCALENDAR" ∷ own) inner ∙ and_from _ _ opening (zones_content 0 zones b)) ending;
      says = λ place rest e zone t s w.
          let found = find_at 0 zones b place place rest (omega (arith, few)) (omega arith) e in
          let means : zone_named (kept_zone_name place) (object_tree own parts) ≡ Some found.0.part = ap (find (λ part. has_zone_name (kept_zone_name place) (tree_own part))) zones_in ∙ found.1 in
          subst (λ (o : Option Tree). SaysZoneOf o zone) (sym means) (found.0.says zone t s w);
    }

pub zoned_spelled : LinesBack → ZoneBack → (method : Option (List ℕ)) → IsMethod method → (zones : List (List ℕ)) (owns : List Lines) → ((rest : List ℕ) → Contains zones rest → IsZone rest) → length zones < 2 ^ 64
    → list_all (list_all is_property) owns ≡ true → list_all (list_all is_content) owns ≡ true → IsZonedTree method zones owns
zoned_spelled lines_back zone_back method fine = opened_spelled lines_back zone_back (calendar_own method) (calendar_opens method fine)

-- with at most 200 VEVENTs it is one that a message may be
pub bounded_object : (whole : Tree) (lines : Lines) (owns : List Lines) → IsObject false whole lines → vevents whole ≡ owns → length owns ≤ most_events → IsObject true whole lines
bounded_object whole lines owns o are few = record {
  spelled = o.spelled;
  calendar = o.calendar;
  version = o.version;
  events =
      let n : count_by is_event (tree_inside whole) ≡ length owns = sym (length-filter is_event (tree_inside whole)) ∙ sym (length-map (filter is_event (tree_inside whole)) tree_own) ∙ ap length are in
      ltb_false most_events (count_by is_event (tree_inside whole)) (omega (arith, n, few));
}
  where
    ltb_false : (a b : ℕ) → b ≤ a → nat_lt a b ≡ false
    ltb_false a b h = grind (arith, nat_tests)

-- one that a message may be is one of any size
pub unbounded_object : (whole : Tree) (lines : Lines) → IsObject true whole lines → IsObject false whole lines
unbounded_object whole lines o = record { spelled = o.spelled; calendar = o.calendar; version = o.version; events = refl }
