-- An event has one content: each of its lines, and the octets of its zone, are written in one form.
-- Cited by one_content.
use Rattle.std.proofs.Common.{◌≡◌, ◌∙◌, refl, sym, ap, subst, ℕ, ℤ, pos, ◌*ℤ◌, ◌+ℤ◌, ◌<ℤ◌, List, [], ◌∷◌, ◌++◌, codes, Option, None, Some, arith}
use Rattle.std.specs.Prelude.{Contains, filter}
use Rattle.std.specs.List.{AllZip}
use Rattle.std.proofs.lemmas.Int.{ints}
use Rattle.std.proofs.lemmas.List.{append_cancel_right}
use Rattle.profile.specs.events.EventComponents.{EventComponent}
use Rattle.profile.specs.events.EventRules.{as_end}
use Rattle.profile.specs.events.Messages.{Message, SpellsMessage}
use Rattle.profile.specs.events.Occurrences.{Time}
use Rattle.profile.specs.events.Properties.{BothOrNeither, Form, Fixed, Floating, WholeDay}
use Rattle.profile.specs.events.ZonedTimes.{EventTimes, SpellsMidnight, clock_of}
use Rattle.profile.specs.rooms.Messages.{Content, IsContent, IsZoneRest, StartsIn, WritesDay, WritesEnd, WritesFixedEnd, WritesListed, WritesRule, WritesTimes, instants_in, list_lines, may_take}
use Rattle.profile.specs.series.Days.{day_index}
use Rattle.profile.specs.series.Rules.{Rule, Until, UntilDay, UntilLocal, UntilInstant, text_in}
use Rattle.profile.specs.series.RuleTexts.{rule_text}
use Rattle.profile.specs.series.Zones.{IsOneMeaning, Observance, Zone, Constant, Single, Pair}
use Rattle.profile.specs.text.Lines.{written}
use Rattle.profile.specs.text.Values.{SpellsDate, WritesLocal, WritesOffset, WritesStamp, duration_text}
use Rattle.profile.specs.written.WrittenZones.{WritesPart, WritesParts, keeping, lines_around, rule_lines}
use Rattle.cal_events.proofs.shared_lemmas.InOneOrder.{one_order}
use Rattle.itip_messages.proofs.law_lemmas.PartTexts.{message_of}
use Rattle.itip_messages.proofs.shared_lemmas.RuleBack.{date_index}

abbrev Lines : Type 0
Lines = List (List ℕ)

-- a value is written in one form
abbrev pub HasOneForm : {V : Type 0} → (List ℕ → V → Type 0) → Type 0
HasOneForm {V} Writes = (x y : List ℕ) (value : V) → Writes x value → Writes y value → x ≡ y

all_same : {V : Type 0} (Writes : List ℕ → V → Type 0) → HasOneForm Writes → (xs ys : Lines) (values : List V) → AllZip Writes xs values → AllZip Writes ys values → xs ≡ ys
all_same W one [] [] values z w = refl
all_same W one [] (y ∷ ys) [] z w = absurd w
all_same W one [] (y ∷ ys) (v ∷ values) z w = absurd z
all_same W one (x ∷ xs) ys [] z w = absurd z
all_same W one (x ∷ xs) [] (v ∷ values) z w = absurd w
all_same W one (x ∷ xs) (y ∷ ys) (v ∷ values) z w = let first = one x y v z.0 w.0 in let rest = all_same W one xs ys values z.1 w.1 in λ i. first i ∷ rest i

both_same : {A B : Type 0} (R : A → B → Type 0) → ((a : A) (x y : B) → R a x → R a y → x ≡ y) → (a : Option A) (x y : Option B) → BothOrNeither R a x → BothOrNeither R a y → x ≡ y
both_same R one None None None p q = refl
both_same R one None None (Some y) p q = absurd q
both_same R one None (Some x) y p q = absurd p
both_same R one (Some a) None y p q = absurd p
both_same R one (Some a) (Some x) None p q = absurd q
both_same R one (Some a) (Some x) (Some y) p q = ap Some (one a x y p q)

module _ (stamp : HasOneForm WritesStamp) (local : HasOneForm WritesLocal) (offset : HasOneForm WritesOffset) where
  -- ---- DTSTART, RDATE and EXDATE

  -- a date, as the local time at which it begins
  beginning : (text : List ℕ) (number : ℤ) → SpellsDate text number → WritesLocal (text ++ codes "T" ++ codes "000000") ((number *ℤ pos 86_400) +ℤ pos 0)
  beginning text number s = record {
    date = text;
    time = codes "000000";
    number = number;
    second = 0;
    on = s;
    at_second = record { hour = 0; minute = 0; second = 0; hours = omega arith; minutes = omega arith; seconds = omega arith; spelled = refl; counted = refl };
    spelled = refl;
    counted = refl;
  }

  one_date : HasOneForm SpellsDate
  one_date x y number s t =
      append_cancel_right x y (codes "T")
      (append_cancel_right (x ++ codes "T") (y ++ codes "T") (codes "000000") (local (x ++ codes "T" ++ codes "000000") (y ++ codes "T" ++ codes "000000") ((number *ℤ pos 86_400) +ℤ pos 0) (beginning x number s) (beginning y number t)))

  one_midnight : HasOneForm SpellsMidnight
  one_midnight x y t (n, d, e) (m, f, g) = let same : m ≡ n = omega (arith, ints, e, g) in one_date x y n d (subst (SpellsDate y) same f)

  -- ---- DTSTART, RDATE and EXDATE

  one_start : (form : Form) (zone : Option Zone) (times : EventTimes) (x y : List ℕ) → StartsIn form zone times x → StartsIn form zone times y → x ≡ y
  one_start Fixed None times x y (t, v, e) (u, w, f) = e ∙ ap (λ (s : List ℕ). codes "DTSTART:" ++ s) (stamp t u times.start v w) ∙ sym f
  one_start Fixed (Some zone) times x y (t, v, e) (u, w, f) = e ∙ ap (λ (s : List ℕ). codes "DTSTART;TZID=Z:" ++ s) (local t u times.local v w) ∙ sym f
  one_start Floating _ times x y (t, v, e) (u, w, f) = e ∙ ap (λ (s : List ℕ). codes "DTSTART:" ++ s) (local t u times.local v w) ∙ sym f
  one_start WholeDay _ times x y (t, v, e) (u, w, f) = e ∙ ap (λ (s : List ℕ). codes "DTSTART;VALUE=DATE:" ++ s) (one_midnight t u times.local v w) ∙ sym f

  one_times : (Writes : List ℕ → ℤ → Type 0) → HasOneForm Writes → (name : List ℕ) (instants : List ℤ) (x y : Lines) → WritesTimes Writes name instants x → WritesTimes Writes name instants y → x ≡ y
  one_times Writes one name instants x y v w =
      let ascending : v.ascending ≡ w.ascending =
      one_order ◌<ℤ◌ (λ i h. absurd (omega (arith, ints, h))) (λ i j k h l. omega (arith, ints, h, l)) v.ascending w.ascending v.are.order w.are.order
      (λ i c. (w.are.exact i).1 ((v.are.exact i).0 c)) (λ i c. (v.are.exact i).1 ((w.are.exact i).0 c)) in
      let texts : v.texts ≡ w.texts = all_same Writes one v.texts w.texts w.ascending (subst (AllZip Writes v.texts) ascending v.each) w.each in
      v.is ∙ ap (list_lines name) texts ∙ sym w.is

  one_listed : (name : List ℕ) (times : List Time) (x y : Lines) → WritesListed name times x → WritesListed name times y → x ≡ y
  one_listed name times x y v w =
      let fixed = one_times WritesStamp stamp name (instants_in Fixed times) v.fixed w.fixed v.in_utc w.in_utc in
      let floating = one_times WritesLocal local name (instants_in Floating times) v.floating w.floating v.local w.local in
      let days = one_times SpellsMidnight one_midnight (name ++ codes ";VALUE=DATE") (instants_in WholeDay times) v.days w.days v.dates w.dates in
      v.are ∙ (λ i. fixed i ++ floating i ++ days i) ∙ sym w.are

  -- ---- RRULE

  one_day : (last : ℕ) (x y : List ℕ) → WritesDay last x → WritesDay last y → x ≡ y
  one_day last x y (n, d, e) (m, f, g) =
      let a = date_index x n d in
      let b = date_index y m f in
      let at : day_index n ≡ day_index m = sym e ∙ g in
      let same : m ≡ n = omega (arith, ints, a, b, at) in
      one_date x y n d (subst (SpellsDate y) same f)

  one_fixed_end : (clock : Zone) → IsOneMeaning clock → (until : Until) (x y : List ℕ) → WritesFixedEnd clock until x → WritesFixedEnd clock until y → x ≡ y
  one_fixed_end clock meaning (UntilDay number) x y v w = one_date x y number v w
  one_fixed_end clock meaning (UntilLocal at) x y (t, m, v) (u, n, w) = stamp x y (as_end t) v (subst (λ (z : ℤ). WritesStamp y (as_end z)) (meaning at u t n m) w)
  one_fixed_end clock meaning (UntilInstant t) x y v w = stamp x y (as_end t) v w

  one_end : (form : Form) (clock : Zone) → IsOneMeaning clock → (last : ℕ) (until : Until) (x y : List ℕ) → WritesEnd form clock last until x → WritesEnd form clock last until y → x ≡ y
  one_end Fixed clock meaning last until x y v w = one_fixed_end clock meaning until x y v w
  one_end Floating clock meaning last until x y v w = one_day last x y v w
  one_end WholeDay clock meaning last until x y v w = one_day last x y v w

  one_rule : (form : Form) (clock : Zone) → IsOneMeaning clock → (rule : Option Rule) (x y : Lines) → WritesRule form clock rule x → WritesRule form clock rule y → x ≡ y
  one_rule form clock meaning None x y v w = v ∙ sym w
  one_rule form clock meaning (Some rule) x y (end, v, e) (other, w, f) =
      e ∙ ap (λ (o : Option (List ℕ)). (codes "RRULE:" ++ rule_text (text_in rule) o) ∷ []) (both_same (WritesEnd form clock rule.last) (one_end form clock meaning rule.last) rule.until end other v w) ∙ sym f

  -- ---- the zone

  one_part : (o : Observance) (x y : Lines) → WritesPart x o → WritesPart y o → x ≡ y
  one_part o x y v w =
      let start = local v.start w.start _ v.writes_start w.writes_start in
      let from = offset v.from w.from o.offset_from v.writes_from w.writes_from in
      let to = offset v.to w.to o.offset_to v.writes_to w.writes_to in
      v.is ∙ (λ i. (codes "DTSTART:" ++ start i) ∷ (rule_lines o.rule ++ ((codes "TZOFFSETFROM:" ++ from i) ∷ (codes "TZOFFSETTO:" ++ to i) ∷ []))) ∙ sym w.is

  one_parts : (zone : Zone) (x y : Lines) → WritesParts x zone → WritesParts y zone → x ≡ y
  one_parts (Constant k) x y (p, v, e) (q, w, f) = e ∙ ap (lines_around (codes "STANDARD")) (one_part (keeping k) p q v w) ∙ sym f
  one_parts (Single a) x y (p, v, e) (q, w, f) = e ∙ ap (lines_around (codes "STANDARD")) (one_part a p q v w) ∙ sym f
  one_parts (Pair a b) x y (p, r, v, s, e) (q, u, w, t, f) =
      let standard = one_part a p q v w in
      let daylight = one_part b r u s t in
      e ∙ (λ i. lines_around (codes "STANDARD") (standard i) ++ lines_around (codes "DAYLIGHT") (daylight i)) ∙ sym f

  one_rest : (zone : Zone) (x y : List ℕ) → IsZoneRest zone x → IsZoneRest zone y → x ≡ y
  one_rest zone x y (p, v, e) (q, w, f) = e ∙ ap (λ (l : Lines). written (l ++ codes "END:VTIMEZONE" ∷ [])) (one_parts zone p q v w) ∙ sym f

  -- ---- all of it

  one_content_of : (event : EventComponent) → IsOneMeaning (clock_of event.times.zone) → (a b : Content) → IsContent a event → IsContent b event → a ≡ b
  one_content_of event meaning a b v w =
      let start = one_start event.times.form event.times.zone event.times v.start w.start v.starts w.starts in
      let rule = one_rule event.times.form (clock_of event.times.zone) meaning event.rule v.rule w.rule v.recurs w.recurs in
      let additions = one_listed (codes "RDATE") event.written.additions v.additions w.additions v.adds w.adds in
      let exceptions = one_listed (codes "EXDATE") (filter may_take event.written.exceptions) v.exceptions w.exceptions v.takes w.takes in
      let lines : a.lines ≡ b.lines =
      v.are
      ∙ (λ i. start i ∷ (codes "DURATION:" ++ duration_text event.times.length.days event.times.length.seconds) ∷ (rule i ++ (additions i ++ exceptions i)))
      ∙ sym w.are in
      let zone : a.zone ≡ b.zone = both_same IsZoneRest one_rest event.times.zone a.zone b.zone v.in_zone w.in_zone in
      λ i. record { lines = lines i; zone = zone i }

  pub one_content : (read : List ℕ) (said : Message) (event : EventComponent) (a b : Content) → SpellsMessage read said → Contains said.events event → IsContent a event → IsContent b event → a ≡ b
  one_content read said event a b s c v w = one_content_of event (message_of read said s event c).says.meaning a b v w
