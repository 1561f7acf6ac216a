-- The octets of a content: its lines, and then its zone, which begins with the first line that begins one. And its lines under the name of the zone.
-- Cited by zone_lines.
use Rattle.std.proofs.Common.{◌≡◌, ◌∙◌, refl, sym, ap, subst, ℕ, ◌+◌, ◌<◌, ◌≤◌, Bool, true, false, not, cond, ℤ, List, [], ◌∷◌, ◌++◌, map, length, take, drop, get_or, unwrap_or, codes, Option, None, Some, arith, append_assoc, append-nil}
use Rattle.std.specs.Prelude.{◌==◌}
use Rattle.std.specs.List.{list_all, flat_map, AllZip, position_or_len}
use Rattle.std.specs.Str.{IsUtf8}
use Rattle.std.proofs.lemmas.Bool.{and_parts, and_from, not-true, true≢false}
use Rattle.std.proofs.lemmas.List.Folds.{list_all-append}
use Rattle.std.proofs.lemmas.List.{length-append, take_at, drop_at, map-append}
use Rattle.std.proofs.lemmas.List.Sums.{fails_before_first}
use Rattle.std.proofs.lemmas.Str.{IsUtf8-append}
use Rattle.memchr.specs.Find.{FindsNeedle, NoneBefore, Nowhere, OccursAt}
use Rattle.memchr.proofs.lemmas.MatchLemmas.{OccursAt-from_part, matches-none, matches-first}
use Rattle.profile.specs.events.EventComponents.{EventComponent}
use Rattle.profile.specs.events.Occurrences.{Time}
use Rattle.profile.specs.events.Properties.{BothOrNeither, Form, Fixed, Floating, WholeDay}
use Rattle.profile.specs.events.ZonedTimes.{EventTimes, SpellsMidnight, clock_of}
use Rattle.profile.specs.series.Rules.{Rule, text_in}
use Rattle.profile.specs.series.RuleTexts.{rule_text}
use Rattle.profile.specs.series.Zones.{Zone, Observance, Constant, Single, Pair, local_time}
use Rattle.profile.specs.text.Lines.{folded}
use Rattle.ical_lines.proofs.FoldLemmas.{part_written}
use Rattle.profile.specs.text.Values.{WritesLocal, WritesStamp, duration_text}
use Rattle.profile.specs.written.WrittenZones.{WritesPart, WritesParts, lines_around, keeping, rule_lines}
use Rattle.profile.specs.rooms.Messages.{Content, IsContent, IsZoneRest, StartsIn, WritesListed, WritesRule, WritesTimes, instants_in, list_lines, canonical, zone_text}
use Rattle.profile.specs.rooms.Kept.{renamed}
use Rattle.ical_lines.proofs.CleanLines.{is_shown, shown_append, clean_shown}
use Rattle.ical_values.proofs.ShownValues.{shown_local, shown_offset}
use Rattle.itip_messages.proofs.shared_lemmas.WrittenOctets.{both_pass, date_passes, stamp_passes, local_passes, duration_passes, is_early, early_time, early_shown, rule_text_early, rule_lines_shown}
use Rattle.itip_messages.specs.Body.{IsCutAtZone, crlf_lines, writes_as, zone_line, zone_octets, zone_place}
use Rattle.itip_messages.proofs.shared_lemmas.CleanBodies.{Lines, AreClean, clean_each_shown, written_utf8, utf8_ended, IsBodyOf, body_ended}

-- ---- the lines of a content

abbrev are_early : Lines → Bool
are_early = list_all (list_all is_early)

early_start : (form : Form) (zone : Option Zone) (times : EventTimes) (line : List ℕ) → StartsIn form zone times line → list_all is_early line ≡ true
early_start Fixed None times line (text, w, e) = ap (list_all is_early) e ∙ both_pass is_early (codes "DTSTART:") text refl (stamp_passes is_early early_time text times.start w)
early_start Fixed (Some zone) times line (text, w, e) = ap (list_all is_early) e ∙ both_pass is_early (codes "DTSTART;TZID=Z:") text refl (local_passes is_early early_time text times.local w)
early_start Floating _ times line (text, w, e) = ap (list_all is_early) e ∙ both_pass is_early (codes "DTSTART:") text refl (local_passes is_early early_time text times.local w)
early_start WholeDay _ times line (text, (day, d, _), e) = ap (list_all is_early) e ∙ both_pass is_early (codes "DTSTART;VALUE=DATE:") text refl (date_passes is_early early_time text day d)

early_time_text : (form : Form) (text : List ℕ) (instant : ℤ) → writes_as form text instant → list_all is_early text ≡ true
early_time_text Fixed text instant w = stamp_passes is_early early_time text instant w
early_time_text Floating text instant w = local_passes is_early early_time text instant w
early_time_text WholeDay text instant (day, d, _) = date_passes is_early early_time text day d

early_texts : (form : Form) (texts : List (List ℕ)) (instants : List ℤ) → AllZip (writes_as form) texts instants → list_all is_early (flat_map (λ other. codes "," ++ other) texts) ≡ true
early_texts form [] instants z = refl
early_texts form (t ∷ ts) [] z = absurd z
early_texts form (t ∷ ts) (i ∷ is) z =
    both_pass is_early (codes "," ++ t) (flat_map (λ other. codes "," ++ other) ts) (both_pass is_early (codes ",") t refl (early_time_text form t i z.0)) (early_texts form ts is z.1)

early_list : (form : Form) (name : List ℕ) → list_all is_early name ≡ true → (texts : List (List ℕ)) (instants : List ℤ) → AllZip (writes_as form) texts instants → are_early (list_lines name texts) ≡ true
early_list form name h [] instants z = refl
early_list form name h (t ∷ ts) [] z = absurd z
early_list form name h (t ∷ ts) (i ∷ is) z =
    let more = flat_map (λ other. codes "," ++ other) ts in
    let line = both_pass is_early (name ++ codes ":" ++ t) more (both_pass is_early (name ++ codes ":") t (both_pass is_early name (codes ":") h refl) (early_time_text form t i z.0)) (early_texts form ts is z.1) in
    and_from _ _ line refl

early_times : (form : Form) (name : List ℕ) → list_all is_early name ≡ true → (instants : List ℤ) (lines : Lines) → WritesTimes (writes_as form) name instants lines → are_early lines ≡ true
early_times form name h instants lines w = ap are_early w.is ∙ early_list form name h w.texts w.ascending w.each

early_listed : (name : List ℕ) → list_all is_early name ≡ true → (times : List Time) (lines : Lines) → WritesListed name times lines → are_early lines ≡ true
early_listed name h times lines w =
    let dated : list_all is_early (name ++ codes ";VALUE=DATE") ≡ true = both_pass is_early name (codes ";VALUE=DATE") h refl in
    let first = list_all-append (list_all is_early) w.fixed w.floating ∙ and_from _ _ (early_times Fixed name h (instants_in Fixed times) w.fixed w.in_utc) (early_times Floating name h (instants_in Floating times) w.floating w.local) in
    ap are_early w.are ∙ list_all-append (list_all is_early) (w.fixed ++ w.floating) w.days
    ∙ and_from _ _ first (early_times WholeDay (name ++ codes ";VALUE=DATE") dated (instants_in WholeDay times) w.days w.dates)

-- what says the duration
abbrev pub duration_line : EventComponent → List ℕ
duration_line event = codes "DURATION:" ++ duration_text event.times.length.days event.times.length.seconds

early_duration : (event : EventComponent) → list_all is_early (duration_line event) ≡ true
early_duration event =
    let days = event.times.length.days in
    let seconds = event.times.length.seconds in
    both_pass is_early (codes "DURATION:") (duration_text days seconds) refl (duration_passes is_early early_time.digit refl days seconds)

early_rule : (form : Form) (clock : Zone) (rule : Option Rule) (lines : Lines) → WritesRule form clock rule lines → are_early lines ≡ true
early_rule form clock None lines w = ap are_early w
early_rule form clock (Some rule) lines (end, told, e) =
    ap are_early e ∙ and_from _ _ (both_pass is_early (codes "RRULE:") (rule_text (text_in rule) end) refl (rule_text_early form clock rule.last (text_in rule) end told)) refl

-- each octet of the lines is printable, and no `G`
pub early_lines : (content : Content) (event : EventComponent) → IsContent content event → list_all (list_all is_early) content.lines ≡ true
early_lines content event c =
    ap are_early c.are
    ∙ and_from _ _ (early_start event.times.form event.times.zone event.times c.start c.starts) (and_from _ _ (early_duration event)
    (list_all-append (list_all is_early) c.rule (c.additions ++ c.exceptions) ∙ and_from _ _ (early_rule event.times.form (clock_of event.times.zone) event.rule c.rule c.recurs)
    (list_all-append (list_all is_early) c.additions c.exceptions ∙ and_from _ _ (early_listed (codes "RDATE") refl event.written.additions c.additions c.adds) (early_listed (codes "EXDATE") refl _ c.exceptions c.takes))))

all_early_shown : (lines : Lines) → are_early lines ≡ true → list_all (list_all is_shown) lines ≡ true
all_early_shown [] h = refl
all_early_shown (line ∷ lines) h = let both = and_parts (list_all is_early line) (are_early lines) h in and_from _ _ (early_shown line both.0) (all_early_shown lines both.1)

pub shown_lines : (content : Content) (event : EventComponent) → IsContent content event → list_all (list_all is_shown) content.lines ≡ true
shown_lines content event c = all_early_shown content.lines (early_lines content event c)

pub clean_lines : (content : Content) (event : EventComponent) → IsContent content event → AreClean content.lines
clean_lines content event c = clean_each_shown content.lines (shown_lines content event c)

-- ---- the zone

part_shown : (own : Lines) (o : Observance) → WritesPart own o → list_all (list_all is_shown) own ≡ true
part_shown own o w =
    let start = shown_append (codes "DTSTART:") w.start refl (shown_local w.start (local_time o.day o.second) w.writes_start) in
    let from = shown_append (codes "TZOFFSETFROM:") w.from refl (shown_offset w.from o.offset_from w.writes_from) in
    let to = shown_append (codes "TZOFFSETTO:") w.to refl (shown_offset w.to o.offset_to w.writes_to) in
    ap (list_all (list_all is_shown)) w.is
    ∙ and_from _ _ start (list_all-append (list_all is_shown) (rule_lines o.rule) ((codes "TZOFFSETFROM:" ++ w.from) ∷ (codes "TZOFFSETTO:" ++ w.to) ∷ [])
    ∙ and_from _ _ (rule_lines_shown o.rule) (and_from _ _ from (and_from _ _ to refl)))

-- a component with a printable kind
component_shown : (kind : List ℕ) (own : Lines) → list_all is_shown kind ≡ true → list_all (list_all is_shown) own ≡ true → list_all (list_all is_shown) (lines_around kind own) ≡ true
component_shown kind own k h =
    let begin = shown_append (codes "BEGIN:") kind refl k in
    let end = shown_append (codes "END:") kind refl k in
    and_from _ _ begin (list_all-append (list_all is_shown) own ((codes "END:" ++ kind) ∷ []) ∙ and_from _ _ h (and_from _ _ end refl))

pub parts_shown : (zone : Zone) (parts : Lines) → WritesParts parts zone → list_all (list_all is_shown) parts ≡ true
parts_shown (Constant k) parts (own, w, e) = ap (list_all (list_all is_shown)) e ∙ component_shown (codes "STANDARD") own refl (part_shown own (keeping k) w)
parts_shown (Single a) parts (own, w, e) = ap (list_all (list_all is_shown)) e ∙ component_shown (codes "STANDARD") own refl (part_shown own a w)
parts_shown (Pair a b) parts (own, other, w, v, e) =
    ap (list_all (list_all is_shown)) e
    ∙ list_all-append (list_all is_shown) (lines_around (codes "STANDARD") own) (lines_around (codes "DAYLIGHT") other)
    ∙ and_from _ _ (component_shown (codes "STANDARD") own refl (part_shown own a w)) (component_shown (codes "DAYLIGHT") other refl (part_shown other b v))

-- what comes after TZID is text
pub rest_utf8 : (zone : Zone) (rest : List ℕ) → IsZoneRest zone rest → IsUtf8 rest
rest_utf8 zone rest (parts, w, e) =
    let shown : list_all (list_all is_shown) (parts ++ codes "END:VTIMEZONE" ∷ []) ≡ true = list_all-append (list_all is_shown) parts (codes "END:VTIMEZONE" ∷ []) ∙ and_from _ _ (parts_shown zone parts w) refl in
    subst IsUtf8 (sym e) (written_utf8 (parts ++ codes "END:VTIMEZONE" ∷ []) (clean_each_shown (parts ++ codes "END:VTIMEZONE" ∷ []) shown))

-- what comes before it in a body
abbrev pub zone_head : List ℕ
zone_head = codes "BEGIN:VTIMEZONE\r\nTZID:Z\r\n"

-- a line that isn't folded
short_folded : (line : List ℕ) → IsUtf8 line → length line ≤ 75 → folded line ≡ line ++ codes "\r\n"
short_folded line u h = ap (λ l. l ++ codes "\r\n") (sym (part_written [] line line 0 u (omega (arith, h)) refl))

pub zone_with : (name rest : List ℕ) → list_all is_shown name ≡ true → length name ≤ 70 → zone_text name rest ≡ (codes "BEGIN:VTIMEZONE\r\nTZID:" ++ name ++ codes "\r\n") ++ rest
zone_with name rest h short =
    let begin : folded (codes "BEGIN:VTIMEZONE") ≡ codes "BEGIN:VTIMEZONE\r\n" = short_folded (codes "BEGIN:VTIMEZONE") (clean_shown (codes "BEGIN:VTIMEZONE") refl).utf8 (omega arith) in
    let id : folded (codes "TZID:" ++ name) ≡ codes "TZID:" ++ name ++ codes "\r\n" = short_folded (codes "TZID:" ++ name) (clean_shown (codes "TZID:" ++ name) (shown_append (codes "TZID:") name refl h)).utf8 (omega (arith, short)) in
    (λ i. (begin i ++ (id i ++ [])) ++ rest) ∙ ap (λ l. (codes "BEGIN:VTIMEZONE\r\n" ++ l) ++ rest) (append-nil (codes "TZID:" ++ name ++ codes "\r\n"))

pub zone_behind : (rest : List ℕ) → zone_text (codes "Z") rest ≡ zone_head ++ rest
zone_behind rest = zone_with (codes "Z") rest refl (omega arith)

zone_utf8_by : (zone : Option Zone) (rest : Option (List ℕ)) → BothOrNeither IsZoneRest zone rest → IsUtf8 (zone_octets rest)
zone_utf8_by None None b = utf8_ended [] tt
zone_utf8_by (Some zone) (Some rest) b =
    subst IsUtf8 (sym (zone_behind rest))
    (IsUtf8-append zone_head rest (utf8_ended (codes "BEGIN:VTIMEZONE" ∷ codes "TZID:Z" ∷ []) (clean_shown (codes "BEGIN:VTIMEZONE") refl, (clean_shown (codes "TZID:Z") refl, tt))) (rest_utf8 zone rest b))
zone_utf8_by None (Some rest) b = absurd b
zone_utf8_by (Some zone) None b = absurd b

-- ---- where the zone begins among the octets

abbrev pub is_g : ℕ → Bool
is_g c = c == 71

no_g_in : (line : List ℕ) → list_all is_early line ≡ true → (rest : List ℕ) → position_or_len is_g (line ++ rest) ≡ length line + position_or_len is_g rest
no_g_in [] h rest = omega arith
no_g_in (c ∷ cs) h rest =
    let both = and_parts (is_early c) (list_all is_early cs) h in
    let lacks : (c == 71) ≡ false = not-true _ (and_parts (is_shown c) (not (c == 71)) both.0).1 in
    let k = position_or_len is_g rest in
    ap (λ b. cond (not b) (1 + position_or_len is_g (cs ++ rest)) 0) lacks ∙ ap (λ n. 1 + n) (no_g_in cs both.1 rest) ∙ omega arith

past_lines : (lines : Lines) → are_early lines ≡ true → (rest : List ℕ) → position_or_len is_g (crlf_lines lines ++ rest) ≡ length (crlf_lines lines) + position_or_len is_g rest
past_lines [] h rest = omega arith
past_lines (line ∷ lines) h rest =
    let both = and_parts (list_all is_early line) (are_early lines) h in
    let more = crlf_lines lines in
    let first : position_or_len is_g (line ++ (13 ∷ 10 ∷ (more ++ rest))) ≡ length line + (1 + (1 + (length more + position_or_len is_g rest))) =
    no_g_in line both.0 (13 ∷ 10 ∷ (more ++ rest)) ∙ ap (λ n. length line + (1 + (1 + n))) (past_lines lines both.1 rest) in
    ap (position_or_len is_g) (grouped line more rest) ∙ first ∙ counted line more (position_or_len is_g rest)
  where
    grouped : (line more rest : List ℕ) → ((line ++ codes "\r\n") ++ more) ++ rest ≡ line ++ (13 ∷ 10 ∷ (more ++ rest))
    grouped line more rest = append_assoc (line ++ codes "\r\n") more rest ∙ append_assoc line (13 ∷ 10 ∷ []) (more ++ rest)

    counted : (line more : List ℕ) (n : ℕ) → length line + (1 + (1 + (length more + n))) ≡ length ((line ++ codes "\r\n") ++ more) + n
    counted line more n = omega (arith, length-append (line ++ codes "\r\n") more, length-append line (13 ∷ 10 ∷ []))

-- among what comes before them there is no `G`, the third octet of the line that begins a zone
none_before_g : (octets : List ℕ) (n : ℕ) → position_or_len is_g octets ≡ n → (k : ℕ) → k + 2 < n → OccursAt octets zone_line k → ⊥
none_before_g octets n e k l o =
    let lacks : is_g (get_or octets (k + 2) 0) ≡ false = fails_before_first is_g octets (k + 2) 0 (omega (arith, l, e)) in
    true≢false (ap is_g (sym (o.reads 2 (omega arith))) ∙ lacks)

-- the zone begins with the first line that begins one, and where there is no such line there is no zone
module _ (content : Content) (event : EventComponent) (c : IsContent content event) where
  abbrev front : List ℕ
  front = crlf_lines content.lines

  first_g : (rest : List ℕ) → zone_octets content.zone ≡ rest → position_or_len is_g (canonical content) ≡ length front + position_or_len is_g rest
  first_g rest e = past_lines content.lines (early_lines content event c) (zone_octets content.zone) ∙ ap (λ l. length front + position_or_len is_g l) e

  zone_begins_at : (zone : Option (List ℕ)) → content.zone ≡ zone → zone_place (canonical content) ≡ length front
  zone_begins_at None e =
      let none : zone_octets content.zone ≡ [] = ap zone_octets e in
      let all : length (canonical content) ≡ length front = ap (λ l. length (front ++ l)) none ∙ ap length (append-nil front) in
      let before : position_or_len is_g (canonical content) ≡ length front = first_g [] none ∙ omega arith in
      let nowhere : Nowhere (OccursAt (canonical content) zone_line) 0 (length (canonical content) + 1) = λ k low high o. none_before_g (canonical content) (length front) before k (omega (arith, all, o.fits)) o in
      ap (λ ks. get_or ks 0 (length (canonical content))) (matches-none (canonical content) zone_line 0 nowhere) ∙ all
  zone_begins_at (Some rest) e =
      let there : zone_octets content.zone ≡ zone_head ++ rest = ap zone_octets e ∙ zone_behind rest in
      let is : canonical content ≡ front ++ (zone_head ++ rest) = ap (λ l. front ++ l) there in
      let all : length (canonical content) ≡ length front + length (zone_head ++ rest) = ap length is ∙ length-append front (zone_head ++ rest) in
      let before : position_or_len is_g (canonical content) ≡ length front + 2 = first_g (zone_head ++ rest) there in
      let occurs : OccursAt (canonical content) zone_line (length front) =
      OccursAt-from_part (canonical content) zone_line (length front) (omega (arith, all)) (ap (λ l. take (length zone_line) (drop (length front) l)) is ∙ ap (take (length zone_line)) (drop_at front (zone_head ++ rest) (length front) refl)) in
      let first : NoneBefore (OccursAt (canonical content) zone_line) 0 (length (canonical content) + 1) (length front) = record { low = omega arith; high = omega (arith, all); before = λ k low high o. none_before_g (canonical content) (length front + 2) before k (omega (arith, high)) o } in
      ap (λ ks. get_or ks 0 (length (canonical content))) (matches-first (canonical content) zone_line 0 (length front) first occurs)

  pub zone_begins : zone_place (canonical content) ≡ length front
  zone_begins = zone_begins_at content.zone refl

pub cut_at_zone : (content : Content) (event : EventComponent) → IsContent content event → (place : ℕ) → place ≡ zone_place (canonical content) → IsCutAtZone content place
cut_at_zone content event c place e =
    let a = crlf_lines content.lines in
    let z = zone_octets content.zone in
    let n : length a ≡ place = sym (zone_begins content event c) ∙ sym e in
    record { inside = omega (arith, n, length-append a z); before = take_at a z place n; after = drop_at a z place n }

-- what a search for the line finds
pub place_found : (xs : List ℕ) (r : Option ℕ) → FindsNeedle xs zone_line 0 r → unwrap_or r (length xs) ≡ zone_place xs
place_found xs None h = sym (ap (λ ks. get_or ks 0 (length xs)) (matches-none xs zone_line 0 h))
place_found xs (Some k) h = sym (ap (λ ks. get_or ks 0 (length xs)) (matches-first xs zone_line 0 k h.0 h.1))

-- ---- as text

pub lines_body : (content : Content) (event : EventComponent) → IsContent content event → IsBodyOf content.lines (crlf_lines content.lines)
lines_body content event c = body_ended content.lines (clean_lines content event c)

pub zone_utf8 : (content : Content) (event : EventComponent) → IsContent content event → IsUtf8 (zone_octets content.zone)
zone_utf8 content event c = zone_utf8_by event.times.zone content.zone c.in_zone

pub content_utf8 : (content : Content) (event : EventComponent) → IsContent content event → IsUtf8 (canonical content)
content_utf8 content event c = IsUtf8-append (crlf_lines content.lines) (zone_octets content.zone) (lines_body content event c).utf8 (zone_utf8 content event c)

-- ---- under the name of its zone

-- DTSTART by its form, in UTC, in a zone of this name, without zone, or as a date
abbrev pub StartsAs : List ℕ → Form → Option Zone → EventTimes → List ℕ → Type 0
StartsAs name Fixed None times line = (text : List ℕ) × WritesStamp text times.start × (line ≡ codes "DTSTART:" ++ text)
StartsAs name Fixed (Some zone) times line = (text : List ℕ) × WritesLocal text times.local × (line ≡ codes "DTSTART;TZID=" ++ name ++ codes ":" ++ text)
StartsAs name Floating _ times line = (text : List ℕ) × WritesLocal text times.local × (line ≡ codes "DTSTART:" ++ text)
StartsAs name WholeDay _ times line = (text : List ℕ) × SpellsMidnight text times.local × (line ≡ codes "DTSTART;VALUE=DATE:" ++ text)

-- the lines, with the start under that name
pub record AreNamed (name : List ℕ) (content : Content) (event : EventComponent) (c : IsContent content event) : Type 0 where
  pub start : List ℕ
  pub starts : StartsAs name event.times.form event.times.zone event.times start
  pub are : map (renamed (codes "DTSTART;TZID=Z") (codes "DTSTART;TZID=" ++ name)) content.lines ≡ start ∷ duration_line event ∷ (c.rule ++ (c.additions ++ c.exceptions))

abbrev named : List ℕ → List ℕ → List ℕ
named name = renamed (codes "DTSTART;TZID=Z") (codes "DTSTART;TZID=" ++ name)

start_named : (name : List ℕ) (form : Form) (zone : Option Zone) (times : EventTimes) (line : List ℕ) → StartsIn form zone times line → StartsAs name form zone times (named name line)
start_named name Fixed None times line (text, w, e) = (text, w, ap (named name) e)
start_named name Fixed (Some zone) times line (text, w, e) = (text, w, ap (named name) e ∙ sym (append_assoc (codes "DTSTART;TZID=" ++ name) (codes ":") text))
start_named name Floating _ times line (text, w, e) = (text, w, ap (named name) e)
start_named name WholeDay _ times line (text, w, e) = (text, w, ap (named name) e)

-- a line of another name stays
abbrev StaysNamed : List ℕ → List ℕ → Type 0
StaysNamed name head = (texts : List (List ℕ)) → map (named name) (list_lines head texts) ≡ list_lines head texts

additions_named : (name : List ℕ) → StaysNamed name (codes "RDATE")
additions_named name [] = refl
additions_named name (t ∷ ts) = refl

added_dates_named : (name : List ℕ) → StaysNamed name (codes "RDATE" ++ codes ";VALUE=DATE")
added_dates_named name [] = refl
added_dates_named name (t ∷ ts) = refl

exceptions_named : (name : List ℕ) → StaysNamed name (codes "EXDATE")
exceptions_named name [] = refl
exceptions_named name (t ∷ ts) = refl

excepted_dates_named : (name : List ℕ) → StaysNamed name (codes "EXDATE" ++ codes ";VALUE=DATE")
excepted_dates_named name [] = refl
excepted_dates_named name (t ∷ ts) = refl

part_named : (name head : List ℕ) → StaysNamed name head → (Writes : List ℕ → ℤ → Type 0) (instants : List ℤ) (lines : Lines) → WritesTimes Writes head instants lines → map (named name) lines ≡ lines
part_named name head stays Writes instants lines w = ap (map (named name)) w.is ∙ stays w.texts ∙ sym w.is

listed_named : (name head : List ℕ) → StaysNamed name head → StaysNamed name (head ++ codes ";VALUE=DATE") → (times : List Time) (lines : Lines) → WritesListed head times lines → map (named name) lines ≡ lines
listed_named name head stays dated times lines w =
    ap (map (named name)) w.are ∙ map-append (named name) (w.fixed ++ w.floating) w.days ∙ ap (λ l. l ++ map (named name) w.days) (map-append (named name) w.fixed w.floating)
    ∙ (λ i. part_named name head stays WritesStamp (instants_in Fixed times) w.fixed w.in_utc i ++ part_named name head stays WritesLocal (instants_in Floating times) w.floating w.local i
    ++ part_named name (head ++ codes ";VALUE=DATE") dated SpellsMidnight (instants_in WholeDay times) w.days w.dates i)
    ∙ sym w.are

named_rule : (name : List ℕ) (form : Form) (clock : Zone) (rule : Option Rule) (lines : Lines) → WritesRule form clock rule lines → map (named name) lines ≡ lines
named_rule name form clock None lines w = ap (map (named name)) w ∙ sym w
named_rule name form clock (Some rule) lines (end, told, e) = ap (map (named name)) e ∙ sym e

pub named_lines : (name : List ℕ) (content : Content) (event : EventComponent) (c : IsContent content event) → AreNamed name content event c
named_lines name content event c =
    let adds = listed_named name (codes "RDATE") (additions_named name) (added_dates_named name) event.written.additions c.additions c.adds in
    let takes = listed_named name (codes "EXDATE") (exceptions_named name) (excepted_dates_named name) _ c.exceptions c.takes in
    let recurs : map (named name) c.rule ≡ c.rule = named_rule name event.times.form (clock_of event.times.zone) event.rule c.rule c.recurs in
    let lists : map (named name) (c.additions ++ c.exceptions) ≡ c.additions ++ c.exceptions = map-append (named name) c.additions c.exceptions ∙ (λ i. adds i ++ takes i) in
    let rest : map (named name) (c.rule ++ (c.additions ++ c.exceptions)) ≡ c.rule ++ (c.additions ++ c.exceptions) = map-append (named name) c.rule (c.additions ++ c.exceptions) ∙ (λ i. recurs i ++ lists i) in
    record {
      start = named name c.start;
      starts = start_named name event.times.form event.times.zone event.times c.start c.starts;
      are = ap (map (named name)) c.are ∙ ap (λ l. named name c.start ∷ duration_line event ∷ l) rest;
    }
