-- DTSTART under the name of a zone: a content line, which says its local time in the zone that the name means.
-- Behind refreshes_are_heard of law, replies_are_heard of law, requests_read_back of sent_law, shown_reads_back of sent_law, stored_texts_can_be_sent of sent_law.
use Rattle.std.proofs.Common.{◌≡◌, ◌∙◌, refl, sym, ap, subst, ℕ, ℤ, ◌+◌, ◌<◌, Bool, true, false, not, ◌&&◌, ◌||◌, cond, nat_lt, ◌-◌, List, [], ◌∷◌, ◌++◌, length, take, drop, codes, Option, None, Some, arith, lt-ltb, append_assoc, append-nil}
use Rattle.std.specs.Prelude.{◌==◌, nat_le, slice_index, option_map, unwrap_or, is_some}
use Rattle.std.specs.List.{list_all, list_any, find, onto_first}
use Rattle.std.proofs.lemmas.Bool.{and_parts, and_from, not-true, or_from}
use Rattle.std.proofs.lemmas.Bool.Decides.{nat_tests}
use Rattle.std.proofs.lemmas.List.{length-append, take_at, drop_at}
use Rattle.std.proofs.Math.Bool.{and-false}
use Rattle.std.proofs.Math.Seq.{take-length}
use Rattle.profile.specs.events.Properties.{BothOrNeither, Form, Fixed, Floating, WholeDay, allows_form, is_of, time_kind, kind_named, Unsaid}
use Rattle.profile.specs.events.ZonedTimes.{EventTimes, clock_of, is_in_zone, zone_named, SaysZoneOf, SpellsForm, SpellsZoned, SaysZonedTime}
use Rattle.profile.specs.events.EventComponents.{EventComponent}
use Rattle.profile.specs.rooms.Messages.{Content, IsContent, IsZoneRest}
use Rattle.profile.specs.rooms.Kept.{kept_zone_name, IsNamed}
use Rattle.profile.specs.series.Zones.{Means, Zone}
use Rattle.profile.specs.text.Values.{WritesStamp}
use Rattle.cal_events.proofs.shared_lemmas.Meanings.{utc_instant}
use Rattle.profile.specs.series.ZoneTexts.{SaysZone}
use Rattle.profile.specs.text.Lines.{is_content, is_name, is_same_name, is_quote, is_item, is_badly_quoted, lacks_name, has_bad_name, has_bad_quote, has_stop, outside_from, front, back, pieces_from, line_head, line_name, line_value, line_params, line_param, first_value, param_name, unquoted}
use Rattle.profile.specs.text.Objects.{is_property}
use Rattle.profile.specs.text.Trees.{Tree}
use Rattle.ical_lines.proofs.CleanLines.{is_shown, clean_shown, shown_append, valued, start_line}
use Rattle.ical_values.proofs.Readings.{stamp_written, clock_written}
use Rattle.ical_values.proofs.ShownValues.{shown_local, shown_stamp}
use Rattle.itip_messages.proofs.shared_lemmas.WrittenOctets.{date_passes, decimal_passes, early_shown, early_time, is_early}
use Rattle.itip_messages.proofs.shared_lemmas.ZoneNames.{name_shown}
use Rattle.itip_messages.proofs.body_lemmas.ZonePlaces.{StartsAs}
use Rattle.itip_messages.proofs.shared_lemmas.ObjectTree.{Lines, calendar_own}
use Rattle.itip_messages.proofs.shared_lemmas.ZonedObjects.{IsOpenedTree, IsZonedTree}

-- ---- texts without quotes and without what parts a line

-- no `"`, `,`, `:` or `;`
abbrev is_bare : ℕ → Bool
is_bare c = not (c == 34) && not (c == 44) && not (c == 58) && not (c == 59)

record Bare (c : ℕ) : Type 0 where
  quote : (c == 34) ≡ false
  comma : (c == 44) ≡ false
  colon : (c == 58) ≡ false
  semicolon : (c == 59) ≡ false

bare_at : (c : ℕ) → is_bare c ≡ true → Bare c
bare_at c h =
    let a = and_parts (not (c == 34) && not (c == 44) && not (c == 58)) (not (c == 59)) h in
    let b = and_parts (not (c == 34) && not (c == 44)) (not (c == 58)) a.0 in
    let d = and_parts (not (c == 34)) (not (c == 44)) b.0 in
    record { quote = not-true _ d.0; comma = not-true _ d.1; colon = not-true _ b.1; semicolon = not-true _ a.1 }

-- an octet at which a bare text isn't cut
abbrev IsStop : ℕ → Type 0
IsStop stop = (c : ℕ) → is_bare c ≡ true → (c == stop) ≡ false

outside_past : (stop : ℕ) → IsStop stop → (text rest : List ℕ) → list_all is_bare text ≡ true → outside_from stop false (text ++ rest) ≡ length text + outside_from stop false rest
outside_past stop s [] rest h = omega arith
outside_past stop s (c ∷ cs) rest h =
    let both = and_parts (is_bare c) (list_all is_bare cs) h in
    let k = outside_from stop false (cs ++ rest) in
    ap (λ b. cond b (1 + outside_from stop true (cs ++ rest)) (cond ((c == stop) && true) 0 (1 + k))) (bare_at c both.0).quote
    ∙ ap (λ b. cond (b && true) 0 (1 + k)) (s c both.0)
    ∙ ap (λ n. 1 + n) (outside_past stop s cs rest both.1) ∙ omega arith

pieces_one : (stop : ℕ) → IsStop stop → (text : List ℕ) → list_all is_bare text ≡ true → pieces_from stop false text ≡ text ∷ []
pieces_one stop s [] h = refl
pieces_one stop s (c ∷ cs) h =
    let both = and_parts (is_bare c) (list_all is_bare cs) h in
    let k = pieces_from stop false cs in
    ap (λ b. cond b (onto_first c (pieces_from stop true cs)) (cond ((c == stop) && true) ([] ∷ k) (onto_first c k))) (bare_at c both.0).quote
    ∙ ap (λ b. cond (b && true) ([] ∷ k) (onto_first c k)) (s c both.0)
    ∙ ap (onto_first c) (pieces_one stop s cs both.1)

colon_stop : IsStop 58
colon_stop c h = (bare_at c h).colon

comma_stop : IsStop 44
comma_stop c h = (bare_at c h).comma

semicolon_stop : IsStop 59
semicolon_stop c h = (bare_at c h).semicolon

front_all : (stop : ℕ) → IsStop stop → (text : List ℕ) → list_all is_bare text ≡ true → front stop text ≡ text
front_all stop s text h =
    let n : outside_from stop false text ≡ length text = ap (outside_from stop false) (sym (append-nil text)) ∙ outside_past stop s text [] h ∙ omega arith in
    ap (λ k. take k text) n ∙ take-length text

no_quotes : (text : List ℕ) → list_all is_bare text ≡ true → list_any is_quote text ≡ false
no_quotes [] h = refl
no_quotes (c ∷ cs) h = let both = and_parts (is_bare c) (list_all is_bare cs) h in or_from _ _ (bare_at c both.0).quote (no_quotes cs both.1)

-- a text that begins without a quote is not a quoted one
unquoted_itself : (text : List ℕ) → list_all is_bare text ≡ true → unquoted text ≡ text
unquoted_itself [] h = refl
unquoted_itself (c ∷ cs) h =
    let no = (bare_at c (and_parts (is_bare c) (list_all is_bare cs) h).0).quote in
    let long = nat_le 2 (length (c ∷ cs)) in
    let last = is_quote (slice_index (c ∷ cs) (length (c ∷ cs) - 1)) in
    ap (λ b. cond (long && (b && last)) (take (length (c ∷ cs) - 2) (drop 1 (c ∷ cs))) (c ∷ cs)) no
    ∙ ap (λ b. cond b (take (length (c ∷ cs) - 2) (drop 1 (c ∷ cs))) (c ∷ cs)) (and-false long)

before_end : (a text : List ℕ) (n : ℕ) → n ≡ length a → nat_lt n (length (a ++ 58 ∷ text)) ≡ true
before_end a text n e = lt-ltb n (length (a ++ 58 ∷ text)) (omega (arith, e, length-append a (58 ∷ text)))

-- ---- the line

-- a name that may come after `TZID=` as it is
abbrev pub is_plain_name : List ℕ → Bool
is_plain_name name = list_all is_bare name && list_all is_shown name

bare_digit : (n : ℕ) → n < 10 → is_bare (48 + n) ≡ true
bare_digit n h = grind (arith, nat_tests)

pub plain_zone_name : (place : ℕ) → is_plain_name (kept_zone_name place) ≡ true
plain_zone_name place = and_from _ _ (decimal_passes is_bare bare_digit (place + 1)) (name_shown place)

abbrev pub zoned_start : List ℕ → List ℕ → List ℕ
zoned_start name text = codes "DTSTART;TZID=" ++ name ++ codes ":" ++ text

abbrev head_of : List ℕ → List ℕ
head_of name = codes "DTSTART;TZID=" ++ name

pub record IsZonedStart (name text : List ℕ) : Type 0 where
  pub value : line_value (zoned_start name text) ≡ text
  pub zone : line_param (codes "TZID") (zoned_start name text) ≡ Some name
  pub in_zone : is_in_zone (zoned_start name text) ≡ true
  pub kind : time_kind (zoned_start name text) ≡ Unsaid
  pub property : is_property (zoned_start name text) ≡ true
  pub named : (other : List ℕ) → is_of other (zoned_start name text) ≡ is_of other (codes "DTSTART:")
  pub content : list_all is_shown text ≡ true → is_content (zoned_start name text) ≡ true

module _ (name text : List ℕ) (plain : is_plain_name name ≡ true) where
  bare : list_all is_bare name ≡ true
  bare = (and_parts (list_all is_bare name) (list_all is_shown name) plain).0

  grouped : zoned_start name text ≡ head_of name ++ 58 ∷ text
  grouped = append_assoc (head_of name) (58 ∷ []) text

  colon_at : outside_from 58 false (head_of name ++ 58 ∷ text) ≡ length (head_of name)
  colon_at = ap (λ n. 1 + (1 + (1 + (1 + (1 + (1 + (1 + (1 + (1 + (1 + (1 + (1 + (1 + n))))))))))))) (outside_past 58 colon_stop name (58 ∷ text) bare) ∙ omega arith

  head_is : line_head (zoned_start name text) ≡ head_of name
  head_is = ap (front 58) grouped ∙ ap (λ n. take n (head_of name ++ 58 ∷ text)) colon_at ∙ take_at (head_of name) (58 ∷ text) (length (head_of name)) refl

  value_is : line_value (zoned_start name text) ≡ text
  value_is =
      ap (back 58) grouped ∙ ap (λ n. drop (n + 1) (head_of name ++ 58 ∷ text)) colon_at
      ∙ ap (drop (length (head_of name) + 1)) (sym (append_assoc (head_of name) (58 ∷ []) text))
      ∙ drop_at (head_of name ++ 58 ∷ []) text (length (head_of name) + 1) (length-append (head_of name) (58 ∷ []))

  stop_there : has_stop 58 (zoned_start name text) ≡ true
  stop_there =
      ap (has_stop 58) grouped
      ∙ before_end (head_of name) text (outside_from 58 false (head_of name ++ 58 ∷ text)) colon_at

  name_is : line_name (zoned_start name text) ≡ codes "DTSTART"
  name_is = ap (front 59) head_is

  params_are : line_params (zoned_start name text) ≡ (codes "TZID=" ++ name) ∷ []
  params_are =
      ap (λ h. drop 1 (pieces_from 59 false h)) head_is
      ∙ ap (λ p. drop 1 (codes "DTSTART" ∷ onto_first 84 (onto_first 90 (onto_first 73 (onto_first 68 (onto_first 61 p)))))) (pieces_one 59 semicolon_stop name bare)

  value_of_name : first_value (codes "TZID=" ++ name) ≡ name
  value_of_name = ap unquoted (front_all 44 comma_stop name bare) ∙ unquoted_itself name bare

  quotes_good : has_bad_quote (zoned_start name text) ≡ false
  quotes_good =
      let item : is_item name ≡ true = ap (λ t. not (list_any is_quote t)) (unquoted_itself name bare) ∙ ap not (no_quotes name bare) in
      ap (list_any is_badly_quoted) params_are
      ∙ ap (λ ps. list_any (λ i. not (is_item i)) ps || false) (pieces_one 44 comma_stop name bare)
      ∙ ap (λ b. (not b || false) || false) item

  names_good : has_bad_name (zoned_start name text) ≡ false
  names_good =
      (λ i. not (is_name (name_is i)) || list_any lacks_name (params_are i))
      ∙ ap (λ b. not (b && true) || false) (lt-ltb 4 (length (codes "TZID=" ++ name)) (omega arith))

  pub zoned_start_is : IsZonedStart name text
  zoned_start_is = record {
    value = value_is;
    zone = ap (λ ps. option_map first_value (find (λ param. is_same_name (param_name param) (codes "TZID")) ps)) params_are ∙ ap Some value_of_name;
    in_zone = ap (λ ps. is_some (option_map first_value (find (λ param. is_same_name (param_name param) (codes "TZID")) ps))) params_are;
    kind = ap (λ ps. unwrap_or (option_map kind_named (option_map first_value (find (λ param. is_same_name (param_name param) (codes "VALUE")) ps))) Unsaid) params_are;
    property = ap (λ n. not (is_same_name n (codes "BEGIN")) && not (is_same_name n (codes "END"))) name_is;
    named = λ other. ap (λ n. is_same_name n other) name_is;
    content = λ h.
        let shown = (and_parts (list_all is_bare name) (list_all is_shown name) plain).1 in
        let head = shown_append (head_of name) (codes ":") (shown_append (codes "DTSTART;TZID=") name refl shown) refl in
        valued (head_of name ++ codes ":") text stop_there names_good quotes_good head (clean_shown text h);
  }

-- ---- what it says

-- a name that is written is plain; without a zone none is
abbrev pub IsPlainFor : List ℕ → Option Zone → Type 0
IsPlainFor name None = Unit {0}
IsPlainFor name (Some zone) = is_plain_name name ≡ true

-- the name means that zone in the object; without a zone no name counts
abbrev pub MeansZone : Tree → List ℕ → Option Zone → Type 0
MeansZone object name None = Unit {0}
MeansZone object name (Some zone) = SaysZoneOf (zone_named name object) zone

-- what isn't fixed is of no zone
abbrev pub IsUnzoned : Form → Option Zone → Type 0
IsUnzoned Fixed _ = Unit {0}
IsUnzoned Floating zone = zone ≡ None
IsUnzoned WholeDay zone = zone ≡ None

-- DTSTART as a date
abbrev day_start : List ℕ → List ℕ
day_start text = codes "DTSTART;VALUE=DATE:" ++ text

-- it says what the clocks of DTSTART show, in UTC the instant
pub start_says : (object : Tree) (name : List ℕ) (form : Form) (zone : Option Zone) (times : EventTimes) (line : List ℕ) → StartsAs name form zone times line → IsUnzoned form zone → Means (clock_of zone) times.local times.start
    → IsPlainFor name zone → MeansZone object name zone → SaysZonedTime object line form zone times.local
start_says object name Fixed None times line (text, w, e) u means plain m =
    subst (λ (l : List ℕ). SaysZonedTime object l Fixed None times.local) (sym e)
    (refl, stamp_written text times.local (subst (WritesStamp text) (utc_instant times.local times.start means) w))
start_says object name Fixed (Some zone) times line (text, w, e) u means plain m =
    let z = zoned_start_is name text plain in
    let spelled : SpellsZoned object (Some name) text (Some zone) times.local = (clock_written text times.local w, m) in
    subst (λ (l : List ℕ). SaysZonedTime object l Fixed (Some zone) times.local) (sym e) (
      ap (λ k. allows_form k Fixed) z.kind,
      subst (λ (o : Option (List ℕ)). SpellsZoned object o (line_value (zoned_start name text)) (Some zone) times.local) (sym z.zone)
          (subst (λ (v : List ℕ). SpellsZoned object (Some name) v (Some zone) times.local) (sym z.value) spelled),
    )
start_says object name Floating zone times line (text, w, e) u means plain m =
    subst (λ (l : List ℕ). SaysZonedTime object l Floating zone times.local) (sym e) (refl, (refl, u, clock_written text times.local w))
start_says object name WholeDay zone times line (text, w, e) u means plain m =
    subst (λ (l : List ℕ). SaysZonedTime object l WholeDay zone times.local) (sym e) (refl, (refl, u, w))

pub start_content : (name : List ℕ) (form : Form) (zone : Option Zone) (times : EventTimes) (line : List ℕ) → StartsAs name form zone times line → IsPlainFor name zone → is_content line ≡ true
start_content name Fixed None times line (text, w, e) plain = ap is_content e ∙ start_line text (clean_shown text (shown_stamp text times.start w))
start_content name Fixed (Some zone) times line (text, w, e) plain = ap is_content e ∙ (zoned_start_is name text plain).content (shown_local text times.local w)
start_content name Floating _ times line (text, w, e) plain = ap is_content e ∙ start_line text (clean_shown text (shown_local text times.local w))
start_content name WholeDay _ times line (text, (day, d, _), e) plain =
    let clean = clean_shown text (early_shown text (date_passes is_early early_time text day d)) in
    ap is_content e ∙ valued (codes "DTSTART;VALUE=DATE:") text (lt-ltb 18 (length (day_start text)) (omega arith)) refl refl refl clean

pub start_property : (name : List ℕ) (form : Form) (zone : Option Zone) (times : EventTimes) (line : List ℕ) → StartsAs name form zone times line → IsPlainFor name zone → is_property line ≡ true
start_property name Fixed None times line (text, w, e) plain = ap is_property e
start_property name Fixed (Some zone) times line (text, w, e) plain = ap is_property e ∙ (zoned_start_is name text plain).property
start_property name Floating _ times line (text, w, e) plain = ap is_property e
start_property name WholeDay _ times line (text, w, e) plain = ap is_property e

pub start_named : (other name : List ℕ) (form : Form) (zone : Option Zone) (times : EventTimes) (line : List ℕ) → StartsAs name form zone times line → IsPlainFor name zone → is_of other line ≡ is_of other (codes "DTSTART:")
start_named other name Fixed None times line (text, w, e) plain = ap (is_of other) e
start_named other name Fixed (Some zone) times line (text, w, e) plain = ap (is_of other) e ∙ (zoned_start_is name text plain).named other
start_named other name Floating _ times line (text, w, e) plain = ap (is_of other) e
start_named other name WholeDay _ times line (text, w, e) plain = ap (is_of other) e

pub start_in_zone : (name : List ℕ) (form : Form) (zone : Option Zone) (times : EventTimes) (line : List ℕ) → StartsAs name form zone times line → IsUnzoned form zone → IsPlainFor name zone → is_in_zone line ≡ is_some zone
start_in_zone name Fixed None times line (text, w, e) u plain = ap is_in_zone e
start_in_zone name Fixed (Some zone) times line (text, w, e) u plain = ap is_in_zone e ∙ (zoned_start_is name text plain).in_zone
start_in_zone name Floating _ times line (text, w, e) u plain = ap is_in_zone e ∙ sym (ap is_some u)
start_in_zone name WholeDay _ times line (text, w, e) u plain = ap is_in_zone e ∙ sym (ap is_some u)

-- ---- in an object with its zones

-- some VTIMEZONE says the zone, where there is one
abbrev pub IsSaid : Option Zone → Type 0
IsSaid None = Unit {0}
IsSaid (Some zone) = (t : Tree) × SaysZone t zone

-- a VTIMEZONE says the zone that a line names
zone_said : (object : Tree) (name : Option (List ℕ)) (text : List ℕ) (zone : Option Zone) (local : ℤ) → SpellsZoned object name text zone local → IsSaid zone
zone_said object None text None local s = tt
zone_said object (Some n) text (Some z) local s = of_part (zone_named n object) s.1
  where
    of_part : (o : Option Tree) → SaysZoneOf o z → (t : Tree) × SaysZone t z
    of_part None s = absurd s
    of_part (Some t) s = (t, s)
zone_said object None text (Some z) local s = absurd s
zone_said object (Some n) text None local s = absurd s

pub form_said : (object : Tree) (name : Option (List ℕ)) (text : List ℕ) (form : Form) (zone : Option Zone) (local : ℤ) → SpellsForm object name text form zone local → IsSaid zone
form_said object name text Fixed zone local s = zone_said object name text zone local s
form_said object name text Floating _ local s = subst IsSaid (sym s.1) tt
form_said object name text WholeDay _ local s = subst IsSaid (sym s.1) tt

-- the name that is given to the zone of a content is plain
pub name_plain : (zones : List (List ℕ)) (content : Content) (event : EventComponent) → IsContent content event → (name : List ℕ) → IsNamed zones content.zone name → IsPlainFor name event.times.zone
name_plain zones content event c name named = go event.times.zone content.zone c.in_zone named
  where
    go : (zone : Option Zone) (rest : Option (List ℕ)) → BothOrNeither IsZoneRest zone rest → IsNamed zones rest name → IsPlainFor name zone
    go None rest w n = tt
    go (Some zone) None w n = absurd w
    go (Some zone) (Some rest) w n = subst (λ (m : List ℕ). is_plain_name m ≡ true) (sym n.2) (plain_zone_name n.0)

-- and means the zone of its event
pub name_means_in : (opening : Lines) (zones : List (List ℕ)) (owns : List Lines) (k : IsOpenedTree opening zones owns) (content : Content) (event : EventComponent) → IsContent content event → IsSaid event.times.zone → (name : List ℕ) → IsNamed zones content.zone name
    → MeansZone k.whole name event.times.zone
name_means_in opening zones owns k content event c said name named = go event.times.zone content.zone said c.in_zone named
  where
    go : (zone : Option Zone) (rest : Option (List ℕ)) → IsSaid zone → BothOrNeither IsZoneRest zone rest → IsNamed zones rest name → MeansZone k.whole name zone
    go None rest s w n = tt
    go (Some zone) None s w n = absurd w
    go (Some zone) (Some rest) s w n =
        let means : SaysZoneOf (zone_named (kept_zone_name n.0) k.whole) zone = k.says n.0 rest n.1 zone s.0 s.1 w in
        subst (λ (m : List ℕ). SaysZoneOf (zone_named m k.whole) zone) (sym n.2) means

pub name_means : (method : Option (List ℕ)) (zones : List (List ℕ)) (owns : List Lines) (k : IsZonedTree method zones owns) (content : Content) (event : EventComponent) → IsContent content event → IsSaid event.times.zone → (name : List ℕ) → IsNamed zones content.zone name
    → MeansZone k.whole name event.times.zone
name_means method = name_means_in (calendar_own method)
