-- RDATE and EXDATE as they are written, a line for the times of each form: what they read back as, and what lines they are.
-- Cited by canonical_body.
use Rattle.std.proofs.Common.{◌≡◌, ◌∙◌, refl, sym, ap, subst, inl, ℕ, zero, suc, ℤ, pos, ◌+◌, ◌<◌, ◌≤◌, ◌<ℤ◌, ◌≤ℤ◌, Bool, true, false, not, T, ◌&&◌, cond, List, [], ◌∷◌, ◌++◌, map, length, get_or, codes, Option, None, arith, append_assoc, append-nil, lt-ltb}
use Rattle.std.specs.Prelude.{◌==◌, is_some, filter, Contains}
use Rattle.std.specs.List.{list_all, list_any, flat_map, slice_split, AllZip}
use Rattle.std.specs.Int.Signed.{lt_z, lt_z_yes, lt_z_no}
use Rattle.std.specs.Ordering.{int_eq}
use Rattle.std.specs.Str.{bytes_eq}
use Rattle.std.proofs.lemmas.Bool.{and_parts, and_from, not-true, or_from, false_from_ne_true, false≢true}
use Rattle.std.proofs.lemmas.Bool.Decides.{Decides-int_eq, nat_tests}
use Rattle.std.proofs.lemmas.Cmp.{int_eq_equiv}
use Rattle.std.proofs.lemmas.Grind.{flat_map-append}
use Rattle.std.proofs.lemmas.Int.{ints}
use Rattle.std.proofs.lemmas.List.{length-append, length-map}
use Rattle.std.proofs.lemmas.List.Elements.{filter-append}
use Rattle.std.proofs.lemmas.List.Folds.{list_all-append}
use Rattle.std.proofs.lemmas.List.Splits.{slice_split_at, slice_split_none}
use Rattle.std.proofs.lemmas.Map.Keys.{IsDistinct-from_apart}
use Rattle.std.proofs.lemmas.Map.Made.{length-le_from_is_member, is_member-Decides}
use Rattle.profile.specs.checker.Instances.{horizon}
use Rattle.profile.specs.events.Properties.{Form, Fixed, Floating, WholeDay, allows_form, is_fixed, is_floating, is_whole_day, first_second, is_of, lines_named, time_kind}
use Rattle.profile.specs.events.Occurrences.{ListedTime, Time, entries_of, entries_named, is_period, IsListed, IsInside}
use Rattle.profile.specs.events.ZonedTimes.{SpellsForm, SaysZonedText, is_in_zone, IsInDates}
use Rattle.profile.specs.rooms.Messages.{AreAscending, WritesListed, WritesTimes, instants_in, is_in_dates, is_of_form, list_lines}
use Rattle.profile.specs.series.Zones.{Constant, Means}
use Rattle.profile.specs.text.Lines.{line_value, line_param, is_content, is_same_name}
use Rattle.profile.specs.text.Objects.{is_property}
use Rattle.profile.specs.text.Trees.{Tree}
use Rattle.ical_lines.proofs.CleanLines.{IsClean, is_shown, clean_shown, shown_append, valued}
use Rattle.ical_values.proofs.Readings.{stamp_written, clock_written}
use Rattle.itip_messages.proofs.shared_lemmas.WrittenOctets.{IsTimeTest, date_passes, local_passes, stamp_passes}
use Rattle.cal_events.proofs.shared_lemmas.InOneOrder.{of_filtered, of_mapped}
use Rattle.itip_messages.specs.Body.{name_as, writes_as}
use Rattle.itip_messages.specs.SentLaw.{time_as, times_again}

abbrev Lines : Type 0
Lines = List (List ℕ)

-- where an event may start that is fixed
abbrev pub IsStart : ℤ → Type 0
IsStart instant = (first_second ≤ℤ instant) × (instant <ℤ horizon)

-- and of each form, without zone
abbrev pub IsPlainStart : Form → ℤ → Type 0
IsPlainStart form instant = IsInDates false form false instant instant

-- ---- how many they are

lesser_differ : (a b : ℤ) → a <ℤ b → int_eq a b ≡ false
lesser_differ a b h = false_from_ne_true (int_eq a b) (λ e. let same = (Decides-int_eq a b).0 e in omega (arith, ints, h, same))

-- each once, and all of them among the others: they are no more
pub ascending_short : (instants ascending : List ℤ) → AreAscending instants ascending → length ascending ≤ length instants
ascending_short instants ascending a =
    length-le_from_is_member int_eq_equiv ascending instants (IsDistinct-from_apart int_eq ascending (λ i j d l w. lesser_differ (get_or ascending i d) (get_or ascending j d) (a.order i j d l w)))
    (λ q h. (is_member-Decides Decides-int_eq instants q).1 ((a.exact q).0 ((is_member-Decides Decides-int_eq ascending q).0 h)))

pub filter_short : {X : Type 0} (p : X → Bool) (xs : List X) → length (filter p xs) ≤ length xs
filter_short p [] = omega arith
filter_short p (x ∷ xs) = by (p x) (filter_short p xs)
  where
    by : (b : Bool) → length (filter p xs) ≤ length xs → length (cond b (x ∷ filter p xs) (filter p xs)) ≤ length (x ∷ xs)
    by true h = omega (arith, h)
    by false h = omega (arith, h)

-- ---- the two properties

-- what a line of this property is that lists times of this form, whatever its value
pub record IsListName (name head : List ℕ) (form : Form) : Type 0 where
  pub own : (v : List ℕ) → is_of name ((head ++ codes ":") ++ v) ≡ true
  pub value : (v : List ℕ) → line_value ((head ++ codes ":") ++ v) ≡ v
  pub no_zone : (v : List ℕ) → line_param (codes "TZID") ((head ++ codes ":") ++ v) ≡ None
  pub kind : (v : List ℕ) → allows_form (time_kind ((head ++ codes ":") ++ v)) form ≡ true
  pub content : (v : List ℕ) → IsClean v → is_content ((head ++ codes ":") ++ v) ≡ true
  pub property : (v : List ℕ) → is_property ((head ++ codes ":") ++ v) ≡ true
  pub other : (other v : List ℕ) → is_of other ((head ++ codes ":") ++ v) ≡ is_same_name name other

-- of each form
abbrev pub IsListing : List ℕ → Type 0
IsListing name = (form : Form) → IsListName name (name_as form name) form

pub rdate_name : IsListing (codes "RDATE")
rdate_name Fixed = record {
  own = λ v. refl;
  value = λ v. refl;
  no_zone = λ v. refl;
  kind = λ v. refl;
  content = λ v c. valued (codes "RDATE:") v (lt-ltb 5 (length (codes "RDATE:" ++ v)) (omega arith)) refl refl refl c;
  property = λ v. refl;
  other = λ other v. refl;
}
rdate_name Floating = record {
  own = λ v. refl;
  value = λ v. refl;
  no_zone = λ v. refl;
  kind = λ v. refl;
  content = λ v c. valued (codes "RDATE:") v (lt-ltb 5 (length (codes "RDATE:" ++ v)) (omega arith)) refl refl refl c;
  property = λ v. refl;
  other = λ other v. refl;
}
rdate_name WholeDay = record {
  own = λ v. refl;
  value = λ v. refl;
  no_zone = λ v. refl;
  kind = λ v. refl;
  content = λ v c. valued (codes "RDATE;VALUE=DATE:") v (lt-ltb 16 (length (codes "RDATE;VALUE=DATE:" ++ v)) (omega arith)) refl refl refl c;
  property = λ v. refl;
  other = λ other v. refl;
}

pub exdate_name : IsListing (codes "EXDATE")
exdate_name Fixed = record {
  own = λ v. refl;
  value = λ v. refl;
  no_zone = λ v. refl;
  kind = λ v. refl;
  content = λ v c. valued (codes "EXDATE:") v (lt-ltb 6 (length (codes "EXDATE:" ++ v)) (omega arith)) refl refl refl c;
  property = λ v. refl;
  other = λ other v. refl;
}
exdate_name Floating = record {
  own = λ v. refl;
  value = λ v. refl;
  no_zone = λ v. refl;
  kind = λ v. refl;
  content = λ v c. valued (codes "EXDATE:") v (lt-ltb 6 (length (codes "EXDATE:" ++ v)) (omega arith)) refl refl refl c;
  property = λ v. refl;
  other = λ other v. refl;
}
exdate_name WholeDay = record {
  own = λ v. refl;
  value = λ v. refl;
  no_zone = λ v. refl;
  kind = λ v. refl;
  content = λ v c. valued (codes "EXDATE;VALUE=DATE:") v (lt-ltb 17 (length (codes "EXDATE;VALUE=DATE:" ++ v)) (omega arith)) refl refl refl c;
  property = λ v. refl;
  other = λ other v. refl;
}

-- ---- the texts

abbrev joined : Lines → List ℕ
joined texts = flat_map (λ other. codes "," ++ other) texts

-- the value of the line
abbrev pub list_value : Lines → List ℕ
list_value [] = []
list_value (text ∷ texts) = text ++ joined texts

-- the line
abbrev pub list_line : List ℕ → Lines → List ℕ
list_line name texts = (name ++ codes ":") ++ list_value texts

-- the property has one line, or none where nothing is listed
abbrev one_line : List ℕ → Lines → Lines
one_line name [] = []
one_line name (text ∷ texts) = list_line name (text ∷ texts) ∷ []

lines_are : (name : List ℕ) (texts : Lines) → list_lines name texts ≡ one_line name texts
lines_are name [] = refl
lines_are name (text ∷ texts) = ap (λ l. l ∷ []) (append_assoc (name ++ codes ":") text (joined texts))

-- no comma, and no slash
abbrev is_time_octet : ℕ → Bool
is_time_octet c = not (c == 44) && not (c == 47)

time_octets : IsTimeTest is_time_octet
time_octets = record { digit = λ n h. grind (arith, nat_tests); middle = refl; last = refl }

abbrev is_comma : ℕ → Bool
is_comma c = c == 44

no_comma : (text : List ℕ) → list_all is_time_octet text ≡ true → (k d : ℕ) → k < length text → is_comma (get_or text k d) ≡ false
no_comma [] h k d l = absurd (omega (arith, l))
no_comma (c ∷ cs) h zero d l = not-true _ (and_parts (not (c == 44)) (not (c == 47)) (and_parts (is_time_octet c) (list_all is_time_octet cs) h).0).0
no_comma (c ∷ cs) h (suc k) d l = no_comma cs (and_parts (is_time_octet c) (list_all is_time_octet cs) h).1 k d (omega (arith, l))

no_slash : (text : List ℕ) → list_all is_time_octet text ≡ true → list_any (λ c. c == 47) text ≡ false
no_slash [] h = refl
no_slash (c ∷ cs) h =
    let both = and_parts (is_time_octet c) (list_all is_time_octet cs) h in
    or_from _ _ (not-true _ (and_parts (not (c == 44)) (not (c == 47)) both.0).1) (no_slash cs both.1)

split_texts : (text : List ℕ) (texts : Lines) → list_all is_time_octet text ≡ true → list_all (list_all is_time_octet) texts ≡ true → slice_split is_comma (text ++ joined texts) ≡ text ∷ texts
split_texts text [] h k = ap (slice_split is_comma) (append-nil text) ∙ slice_split_none is_comma text (no_comma text h)
split_texts text (other ∷ texts) h k =
    let both = and_parts (list_all is_time_octet other) (list_all (list_all is_time_octet) texts) k in
    slice_split_at is_comma text 44 (other ++ joined texts) (no_comma text h) refl ∙ ap (λ l. text ∷ l) (split_texts other texts both.0 both.1)

pub time_passes : (test : ℕ → Bool) → IsTimeTest test → (form : Form) (text : List ℕ) (instant : ℤ) → writes_as form text instant → list_all test text ≡ true
time_passes test t Fixed text instant w = stamp_passes test t text instant w
time_passes test t Floating text instant w = local_passes test t text instant w
time_passes test t WholeDay text instant (day, w, e) = date_passes test t text day w

texts_pass : (test : ℕ → Bool) → IsTimeTest test → (form : Form) (texts : Lines) (instants : List ℤ) → AllZip (writes_as form) texts instants → list_all (list_all test) texts ≡ true
texts_pass test t form [] instants z = refl
texts_pass test t form (x ∷ xs) [] z = absurd z
texts_pass test t form (x ∷ xs) (i ∷ is) z = and_from _ _ (time_passes test t form x i z.0) (texts_pass test t form xs is z.1)

-- ---- what they read back as

-- the entries of the one line
abbrev pub list_entries : List ℕ → Lines → List ListedTime
list_entries head texts = map (λ text. (list_line head texts, text)) texts

-- the texts of the property's line are those that were written
entries_back : (name head : List ℕ) (form : Form) → IsListName name head form → (texts : Lines) (instants : List ℤ) → AllZip (writes_as form) texts instants
    → entries_named name (list_lines head texts) ≡ list_entries head texts
entries_back name head form n [] instants z = refl
entries_back name head form n (text ∷ texts) instants z =
    let line = list_line head (text ∷ texts) in
    let value = list_value (text ∷ texts) in
    let pass = texts_pass is_time_octet time_octets form (text ∷ texts) instants z in
    let both = and_parts (list_all is_time_octet text) (list_all (list_all is_time_octet) texts) pass in
    let named : lines_named name (line ∷ []) ≡ line ∷ [] = ap (λ b. cond b (line ∷ []) []) (n.own value) in
    let split : slice_split is_comma (line_value line) ≡ text ∷ texts = ap (slice_split is_comma) (n.value value) ∙ split_texts text texts both.0 both.1 in
    ap (entries_named name) (lines_are head (text ∷ texts))
    ∙ ap (flat_map entries_of) named
    ∙ append-nil (entries_of line)
    ∙ ap (map (λ t. (line, t))) split

-- UTC shows the instant itself
pub utc_means : (t : ℤ) → Means (Constant (pos 0)) t t
utc_means t = inl (record { shown = (pos 0, refl, omega (arith, ints)); least = λ other (offset, e, h). omega (arith, ints, e, h) })

spelled_as : (object : Tree) (form : Form) (text : List ℕ) (instant : ℤ) → writes_as form text instant → SpellsForm object None text form None instant
spelled_as object Fixed text instant w = stamp_written text instant w
spelled_as object Floating text instant w = (refl, refl, clock_written text instant w)
spelled_as object WholeDay text instant w = (refl, refl, w)

utc_says : (object : Tree) (name head : List ℕ) (form : Form) → IsListName name head form → (v text : List ℕ) (instant : ℤ) → writes_as form text instant → SaysZonedText object ((head ++ codes ":") ++ v) text form None instant
utc_says object name head form n v text instant w =
    (n.kind v, subst (λ (o : Option (List ℕ)). SpellsForm object o text form None instant) (sym (n.no_zone v)) (spelled_as object form text instant w))

no_period : (name text : List ℕ) → list_all is_time_octet text ≡ true → is_period name text ≡ false
no_period name text h = go (bytes_eq name (codes "RDATE")) (list_any (λ c. c == 47) text) (no_slash text h)
  where
    go : (a b : Bool) → b ≡ false → a && b ≡ false
    go true b e = e
    go false b e = refl

module _ (object : Tree) (name head : List ℕ) (form : Form) (n : IsListName name head form) where
  listed_on : (v : List ℕ) (texts : Lines) (instants : List ℤ) → AllZip (writes_as form) texts instants
      → AllZip (IsListed object name) (map (λ text. ((head ++ codes ":") ++ v, text)) texts) (map (time_as form) instants)
  listed_on v [] [] z = tt
  listed_on v [] (i ∷ is) z = absurd z
  listed_on v (x ∷ xs) [] z = absurd z
  listed_on v (x ∷ xs) (i ∷ is) z =
      ((no_period name x (time_passes is_time_octet time_octets form x i z.0), (None, i, utc_says object name head form n v x i z.0, utc_means i)), listed_on v xs is z.1)

  in_dates : (v : List ℕ) (i : ℤ) → IsPlainStart form i → IsInDates false form (is_in_zone ((head ++ codes ":") ++ v)) i i
  in_dates v i h = subst (λ (o : Option (List ℕ)). IsInDates false form (is_some o) i i) (sym (n.no_zone v)) h

  inside_on : (v : List ℕ) (texts : Lines) (instants : List ℤ) → AllZip (writes_as form) texts instants → ((i : ℤ) → Contains instants i → IsPlainStart form i)
      → AllZip (IsInside object) (map (λ text. ((head ++ codes ":") ++ v, text)) texts) (map (time_as form) instants)
  inside_on v [] [] z h = tt
  inside_on v [] (i ∷ is) z h = absurd z
  inside_on v (x ∷ xs) [] z h = absurd z
  inside_on v (x ∷ xs) (i ∷ is) z h =
      ((None, i, utc_says object name head form n v x i z.0, utc_means i, in_dates v i (h i (zero, omega arith, refl))), inside_on v xs is z.1 (λ j c. h j (suc c.0, omega (arith, c.1), c.2)))

  -- the texts list the times that they write
  part_back : (instants : List ℤ) (lines : Lines) (w : WritesTimes (writes_as form) head instants lines) → AllZip (IsListed object name) (entries_named name lines) (map (time_as form) w.ascending)
  part_back instants lines w =
      subst (λ (e : List ListedTime). AllZip (IsListed object name) e (map (time_as form) w.ascending)) (sym (ap (entries_named name) w.is ∙ entries_back name head form n w.texts w.ascending w.each))
      (listed_on (list_value w.texts) w.texts w.ascending w.each)

  part_inside : (instants : List ℤ) (lines : Lines) (w : WritesTimes (writes_as form) head instants lines) → ((i : ℤ) → Contains instants i → IsPlainStart form i)
      → AllZip (IsInside object) (entries_named name lines) (map (time_as form) w.ascending)
  part_inside instants lines w f =
      subst (λ (e : List ListedTime). AllZip (IsInside object) e (map (time_as form) w.ascending)) (sym (ap (entries_named name) w.is ∙ entries_back name head form n w.texts w.ascending w.each))
      (inside_on (list_value w.texts) w.texts w.ascending w.each (λ i c. f i ((w.are.exact i).0 c)))

-- where a fixed start may be
pub dates_start : (i : ℤ) → is_in_dates i ≡ true → IsStart i
dates_start i h =
    let both = and_parts (lt_z i horizon) (not (lt_z i first_second)) h in
    (lt_z_no (subst (λ (b : Bool). T b) (sym both.1) tt), lt_z_yes (subst (λ (b : Bool). T b) (sym both.0) tt))

pub start_dates : (i : ℤ) → IsStart i → is_in_dates i ≡ true
start_dates i h = grind (arith, ints)

filter_passes : {X : Type 0} (p : X → Bool) (xs : List X) (x : X) → Contains (filter p xs) x → p x ≡ true
filter_passes p [] x c = absurd (omega (arith, c.1))
filter_passes p (y ∷ ys) x c = by (p y) refl (λ d. filter_passes p ys x d) c
  where
    by : (b : Bool) → p y ≡ b → (Contains (filter p ys) x → p x ≡ true) → Contains (cond b (y ∷ filter p ys) (filter p ys)) x → p x ≡ true
    by true e f (zero, l, is) = ap p (sym is) ∙ e
    by true e f (suc k, l, is) = f (k, omega (arith, l), is)
    by false e f d = f d

-- ---- what lines they are

shown_time : IsTimeTest is_shown
shown_time = record { digit = λ n h. grind (arith, nat_tests); middle = refl; last = refl }

joined_shown : (texts : Lines) → list_all (list_all is_shown) texts ≡ true → list_all is_shown (joined texts) ≡ true
joined_shown [] h = refl
joined_shown (x ∷ xs) h =
    let both = and_parts (list_all is_shown x) (list_all (list_all is_shown) xs) h in
    shown_append (codes "," ++ x) (joined xs) (shown_append (codes ",") x refl both.0) (joined_shown xs both.1)

module _ (name head : List ℕ) (form : Form) (n : IsListName name head form) where
  value_clean : (texts : Lines) (instants : List ℤ) → AllZip (writes_as form) texts instants → IsClean (list_value texts)
  value_clean [] instants z = clean_shown [] refl
  value_clean (x ∷ xs) instants z =
      let both = and_parts (list_all is_shown x) (list_all (list_all is_shown) xs) (texts_pass is_shown shown_time form (x ∷ xs) instants z) in
      clean_shown (list_value (x ∷ xs)) (shown_append x (joined xs) both.0 (joined_shown xs both.1))

  list_content : (texts : Lines) (instants : List ℤ) → AllZip (writes_as form) texts instants → list_all is_content (list_lines head texts) ≡ true
  list_content [] instants z = refl
  list_content (x ∷ xs) instants z = ap (list_all is_content) (lines_are head (x ∷ xs)) ∙ and_from _ _ (n.content (list_value (x ∷ xs)) (value_clean (x ∷ xs) instants z)) refl

  list_properties : (texts : Lines) → list_all is_property (list_lines head texts) ≡ true
  list_properties [] = refl
  list_properties (x ∷ xs) = ap (list_all is_property) (lines_are head (x ∷ xs)) ∙ and_from _ _ (n.property (list_value (x ∷ xs))) refl

  -- no other property is there
  list_unnamed : (other : List ℕ) → is_same_name name other ≡ false → (texts : Lines) → lines_named other (list_lines head texts) ≡ []
  list_unnamed other f [] = refl
  list_unnamed other f (x ∷ xs) =
      let line = list_line head (x ∷ xs) in
      ap (lines_named other) (lines_are head (x ∷ xs)) ∙ ap (λ b. cond b (line ∷ []) []) (n.other other (list_value (x ∷ xs)) ∙ f)

  list_named : (texts : Lines) → lines_named name (list_lines head texts) ≡ list_lines head texts
  list_named [] = refl
  list_named (x ∷ xs) =
      let line = list_line head (x ∷ xs) in
      ap (lines_named name) (lines_are head (x ∷ xs)) ∙ ap (λ b. cond b (line ∷ []) []) (n.own (list_value (x ∷ xs))) ∙ sym (lines_are head (x ∷ xs))

  part_content : (instants : List ℤ) (lines : Lines) → WritesTimes (writes_as form) head instants lines → list_all is_content lines ≡ true
  part_content instants lines w = ap (list_all is_content) w.is ∙ list_content w.texts w.ascending w.each

  part_properties : (instants : List ℤ) (lines : Lines) → WritesTimes (writes_as form) head instants lines → list_all is_property lines ≡ true
  part_properties instants lines w = ap (list_all is_property) w.is ∙ list_properties w.texts

  part_unnamed : (other : List ℕ) → is_same_name name other ≡ false → (instants : List ℤ) (lines : Lines) → WritesTimes (writes_as form) head instants lines → lines_named other lines ≡ []
  part_unnamed other f instants lines w = ap (lines_named other) w.is ∙ list_unnamed other f w.texts

  part_named : (instants : List ℤ) (lines : Lines) → WritesTimes (writes_as form) head instants lines → lines_named name lines ≡ lines
  part_named instants lines w = ap (lines_named name) w.is ∙ list_named w.texts ∙ sym w.is

-- ---- the lines of all forms

-- the times that they read back as
abbrev pub back_times : (name : List ℕ) (times : List Time) (lines : Lines) → WritesListed name times lines → List Time
back_times name times lines w = times_again w.in_utc.ascending w.local.ascending w.dates.ascending

three_zip : {A B : Type 0} (R : A → B → Type 0) (a b c : List A) (x y z : List B) → AllZip R a x → AllZip R b y → AllZip R c z → AllZip R (a ++ b ++ c) (x ++ y ++ z)
three_zip R a b c x y z p q r = both (a ++ b) (x ++ y) c z (both a x b y p q) r
  where
    both : (xs : List _) (ys : List _) (us : List _) (vs : List _) → AllZip R xs ys → AllZip R us vs → AllZip R (xs ++ us) (ys ++ vs)
    both [] [] us vs z w = w
    both [] (y ∷ ys) us vs z w = absurd z
    both (x ∷ xs) [] us vs z w = absurd z
    both (x ∷ xs) (y ∷ ys) us vs z w = (z.0, both xs ys us vs z.1 w)

three_named : (name : List ℕ) (a b c : Lines) → lines_named name (a ++ b ++ c) ≡ lines_named name a ++ lines_named name b ++ lines_named name c
three_named name a b c = filter-append (is_of name) (a ++ b) c ∙ ap (λ l. l ++ lines_named name c) (filter-append (is_of name) a b)

three_entries : (name : List ℕ) (a b c : Lines) → entries_named name (a ++ b ++ c) ≡ entries_named name a ++ entries_named name b ++ entries_named name c
three_entries name a b c =
    ap (flat_map entries_of) (three_named name a b c) ∙ flat_map-append entries_of (lines_named name a ++ lines_named name b) (lines_named name c)
    ∙ ap (λ l. l ++ entries_named name c) (flat_map-append entries_of (lines_named name a) (lines_named name b))

three_pass : (p : List ℕ → Bool) (a b c : Lines) → list_all p a ≡ true → list_all p b ≡ true → list_all p c ≡ true → list_all p (a ++ b ++ c) ≡ true
three_pass p a b c x y z = list_all-append p (a ++ b) c ∙ and_from _ _ (list_all-append p a b ∙ and_from _ _ x y) z

-- the times of one form among them
pub of_form : (form : Form) (times : List Time) (P : Form → ℤ → Type 0) → ((time : Time) → Contains times time → P time.form time.instant) → (i : ℤ) → Contains (instants_in form times) i → P form i
of_form form times P f i c =
    let found = of_mapped (λ (time : Time). time.instant) (filter (is_of_form form) times) i c in
    let at = of_filtered (is_of_form form) times found.0 found.1 in
    let same = form_is form found.0 at.1 in
    subst (P form) found.2 (subst (λ (g : Form). P g found.0.instant) same (f found.0 at.0))
  where
    by_form : (form other : Form) (time : Time) → time.form ≡ other → is_of_form form time ≡ true → other ≡ form
    by_form Fixed Fixed time e h = refl
    by_form Fixed Floating time e h = absurd (false≢true (sym (ap is_fixed e) ∙ h))
    by_form Fixed WholeDay time e h = absurd (false≢true (sym (ap is_fixed e) ∙ h))
    by_form Floating Fixed time e h = absurd (false≢true (sym (ap is_floating e) ∙ h))
    by_form Floating Floating time e h = refl
    by_form Floating WholeDay time e h = absurd (false≢true (sym (ap is_floating e) ∙ h))
    by_form WholeDay Fixed time e h = absurd (false≢true (sym (ap is_whole_day e) ∙ h))
    by_form WholeDay Floating time e h = absurd (false≢true (sym (ap is_whole_day e) ∙ h))
    by_form WholeDay WholeDay time e h = refl

    form_is : (form : Form) (time : Time) → is_of_form form time ≡ true → time.form ≡ form
    form_is form time h = by_form form time.form time refl h

-- each is of one form
abbrev kept_in : Form → Time → List Time → Bool → List ℤ
kept_in form time times b = map (λ (t : Time). t.instant) (cond b (time ∷ filter (is_of_form form) times) (filter (is_of_form form) times))

abbrev count_in : List Time → ℕ
count_in times = length (instants_in Fixed times) + length (instants_in Floating times) + length (instants_in WholeDay times)

form_counted : (time : Time) (times : List Time) (a b c : Bool) → length (kept_in Fixed time times a) + length (kept_in Floating time times b) + length (kept_in WholeDay time times c) ≡ length (time ∷ times)
    → is_fixed time.form ≡ a → is_floating time.form ≡ b → is_whole_day time.form ≡ c → count_in (time ∷ times) ≡ length (time ∷ times)
form_counted time times a b c h e f g = (λ i. length (kept_in Fixed time times (e i)) + length (kept_in Floating time times (f i)) + length (kept_in WholeDay time times (g i))) ∙ h

forms_counted : (times : List Time) → count_in times ≡ length times
forms_counted [] = refl
forms_counted (time ∷ times) = by time.form refl (forms_counted times)
  where
    by : (form : Form) → time.form ≡ form → count_in times ≡ length times → count_in (time ∷ times) ≡ length (time ∷ times)
    by Fixed e h = form_counted time times true false false (omega (arith, h)) (ap is_fixed e) (ap is_floating e) (ap is_whole_day e)
    by Floating e h = form_counted time times false true false (omega (arith, h)) (ap is_fixed e) (ap is_floating e) (ap is_whole_day e)
    by WholeDay e h = form_counted time times false false true (omega (arith, h)) (ap is_fixed e) (ap is_floating e) (ap is_whole_day e)

module _ (name : List ℕ) (n : IsListing name) (times : List Time) (lines : Lines) (w : WritesListed name times lines) where
  pub times_back : (object : Tree) → AllZip (IsListed object name) (entries_named name lines) (back_times name times lines w)
  times_back object =
      subst (λ (e : List ListedTime). AllZip (IsListed object name) e (back_times name times lines w)) (sym (ap (entries_named name) w.are ∙ three_entries name w.fixed w.floating w.days))
      (three_zip (IsListed object name) (entries_named name w.fixed) (entries_named name w.floating) (entries_named name w.days)
      (map (time_as Fixed) w.in_utc.ascending) (map (time_as Floating) w.local.ascending) (map (time_as WholeDay) w.dates.ascending)
      (part_back object name name Fixed (n Fixed) (instants_in Fixed times) w.fixed w.in_utc)
      (part_back object name name Floating (n Floating) (instants_in Floating times) w.floating w.local)
      (part_back object name (name_as WholeDay name) WholeDay (n WholeDay) (instants_in WholeDay times) w.days w.dates))

  pub times_inside : (object : Tree) → ((time : Time) → Contains times time → IsPlainStart time.form time.instant) → AllZip (IsInside object) (entries_named name lines) (back_times name times lines w)
  times_inside object f =
      subst (λ (e : List ListedTime). AllZip (IsInside object) e (back_times name times lines w)) (sym (ap (entries_named name) w.are ∙ three_entries name w.fixed w.floating w.days))
      (three_zip (IsInside object) (entries_named name w.fixed) (entries_named name w.floating) (entries_named name w.days)
      (map (time_as Fixed) w.in_utc.ascending) (map (time_as Floating) w.local.ascending) (map (time_as WholeDay) w.dates.ascending)
      (part_inside object name name Fixed (n Fixed) (instants_in Fixed times) w.fixed w.in_utc (of_form Fixed times IsPlainStart f))
      (part_inside object name name Floating (n Floating) (instants_in Floating times) w.floating w.local (of_form Floating times IsPlainStart f))
      (part_inside object name (name_as WholeDay name) WholeDay (n WholeDay) (instants_in WholeDay times) w.days w.dates (of_form WholeDay times IsPlainStart f)))

  pub times_content : list_all is_content lines ≡ true
  times_content =
      ap (list_all is_content) w.are
      ∙ three_pass is_content w.fixed w.floating w.days
      (part_content name name Fixed (n Fixed) (instants_in Fixed times) w.fixed w.in_utc)
      (part_content name name Floating (n Floating) (instants_in Floating times) w.floating w.local)
      (part_content name (name_as WholeDay name) WholeDay (n WholeDay) (instants_in WholeDay times) w.days w.dates)

  pub times_properties : list_all is_property lines ≡ true
  times_properties =
      ap (list_all is_property) w.are
      ∙ three_pass is_property w.fixed w.floating w.days
      (part_properties name name Fixed (n Fixed) (instants_in Fixed times) w.fixed w.in_utc)
      (part_properties name name Floating (n Floating) (instants_in Floating times) w.floating w.local)
      (part_properties name (name_as WholeDay name) WholeDay (n WholeDay) (instants_in WholeDay times) w.days w.dates)

  -- no line of another property is there
  pub times_unnamed : (other : List ℕ) → is_same_name name other ≡ false → lines_named other lines ≡ []
  times_unnamed other f =
      ap (lines_named other) w.are ∙ three_named other w.fixed w.floating w.days
      ∙ (λ i. part_unnamed name name Fixed (n Fixed) other f (instants_in Fixed times) w.fixed w.in_utc i
      ++ part_unnamed name name Floating (n Floating) other f (instants_in Floating times) w.floating w.local i
      ++ part_unnamed name (name_as WholeDay name) WholeDay (n WholeDay) other f (instants_in WholeDay times) w.days w.dates i)

  pub times_named : lines_named name lines ≡ lines
  times_named =
      ap (lines_named name) w.are ∙ three_named name w.fixed w.floating w.days
      ∙ (λ i. part_named name name Fixed (n Fixed) (instants_in Fixed times) w.fixed w.in_utc i
      ++ part_named name name Floating (n Floating) (instants_in Floating times) w.floating w.local i
      ++ part_named name (name_as WholeDay name) WholeDay (n WholeDay) (instants_in WholeDay times) w.days w.dates i)
      ∙ sym w.are

  -- they are no more than the times
  pub times_short : length (back_times name times lines w) ≤ length times
  times_short =
      let a = map (time_as Fixed) w.in_utc.ascending in
      let b = map (time_as Floating) w.local.ascending in
      let c = map (time_as WholeDay) w.dates.ascending in
      omega (
        arith,
        forms_counted times,
        ascending_short (instants_in Fixed times) w.in_utc.ascending w.in_utc.are,
        ascending_short (instants_in Floating times) w.local.ascending w.local.are,
        ascending_short (instants_in WholeDay times) w.dates.ascending w.dates.are,
        length-append (a ++ b) c,
        length-append a b,
        length-map w.in_utc.ascending (time_as Fixed),
        length-map w.local.ascending (time_as Floating),
        length-map w.dates.ascending (time_as WholeDay),
      )

  -- none where there are none
  pub times_none : times ≡ [] → lines ≡ []
  times_none e =
      w.are
      ∙ (λ i. none Fixed name (instants_in Fixed times) w.fixed w.in_utc (ap (instants_in Fixed) e) i ++ none Floating name (instants_in Floating times) w.floating w.local (ap (instants_in Floating) e) i
      ++ none WholeDay (name_as WholeDay name) (instants_in WholeDay times) w.days w.dates (ap (instants_in WholeDay) e) i)
    where
      lists_none : (form : Form) (head : List ℕ) (texts : Lines) (ascending : List ℤ) → AllZip (writes_as form) texts ascending → length ascending ≤ 0 → list_lines head texts ≡ []
      lists_none form head [] ascending z h = refl
      lists_none form head (t ∷ ts) [] z h = absurd z
      lists_none form head (t ∷ ts) (a ∷ more) z h = absurd (omega (arith, h))

      none : (form : Form) (head : List ℕ) (instants : List ℤ) (part : Lines) → WritesTimes (writes_as form) head instants part → instants ≡ [] → part ≡ []
      none form head instants part p e =
          let short = ascending_short instants p.ascending p.are in
          p.is ∙ lists_none form head p.texts p.ascending p.each (omega (arith, short, ap length e))
