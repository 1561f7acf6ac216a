-- What the RRULE of a content says: the days of the rule that it was written of, with the same end.
-- Behind one_message of law, refreshes_are_heard of law, replies_are_heard of law, Message::of of message and others.
use Rattle.std.proofs.Common.{◌≡◌, ◌∙◌, refl, sym, ap, subst, ℕ, suc, ◌<◌, ◌≤◌, ℤ, ◌≤ℤ◌, arith, true≢false, Bool, true, false, cond, List, [], ◌∷◌, ◌++◌, codes, Option, None, Some, pos, negsuc, ◌-ℤ◌, ◌+ℤ◌, unsigned_abs}
use Rattle.std.specs.Prelude.{◌↔◌}
use Rattle.std.specs.List.{list_all}
use Rattle.std.proofs.lemmas.Int.{ints}
use Rattle.std.proofs.lemmas.Option.{same_Some}
use Rattle.std.specs.Int.Signed.{lt_z}
use Rattle.profile.specs.checker.Instances.{horizon}
use Rattle.profile.specs.text.Lines.{line_value}
use Rattle.profile.specs.text.Values.{SpellsDate, SpellsTime, WritesStamp}
use Rattle.profile.specs.series.Days.{day_index, days_before, year_of, year_start}
use Rattle.profile.specs.series.Rules.{Rule, RuleText, Until, UntilDay, UntilLocal, UntilInstant, is_rule_day, last_rule_day, rule_of, text_in}
use Rattle.profile.specs.series.RuleTexts.{HandsIn, IsGivenPart, SaysOr, SpellsRule, SpellsUntil, as_written, rule_text, until_text, values_of}
use Rattle.profile.specs.series.Zones.{IsLastDay, IsOneMeaning, Means, Zone}
use Rattle.profile.specs.events.Properties.{BothOrNeither, Form, Fixed, Floating, WholeDay, first_second, is_fixed}
use Rattle.profile.specs.events.EventRules.{GivesRule, IsLastAllowed, SaysEventRule, as_end}
use Rattle.profile.specs.events.ZonedTimes.{EventTimes, clock_of}
use Rattle.profile.specs.rooms.Messages.{WritesDay, WritesEnd, WritesFixedEnd, WritesRule}
use Rattle.ical_values.proofs.Readings.{stamp_written}
use Rattle.cal_rules.proofs.InOrder.{allowed_back}
use Rattle.cal_rules.proofs.OneRule.{is_allowed}
use Rattle.cal_rules.proofs.SameDays.{same_days}
use Rattle.cal_days.proofs.Dates.{named, year_begins, year_ends}
use Rattle.cal_zones.proofs.OneDay.{year_start_grows}
use Rattle.cal_events.proofs.examples.SaidRules.{rule_found}
use Rattle.itip_messages.specs.Body.{EndIsTold, IsFixedTold, IsTold}
use Rattle.itip_messages.proofs.shared_lemmas.RuleTwice.{text_twice}
use Rattle.itip_messages.proofs.shared_lemmas.WrittenOctets.{is_early, rule_text_early}

-- ---- the end

end_twice : (t : ℤ) → as_end (as_end t) ≡ as_end t
end_twice t = by (lt_z t first_second) (lt_z t horizon) refl refl
  where
    ends : Bool → Bool → ℤ
    ends a b = cond a (first_second -ℤ pos 1) (cond b t (horizon -ℤ pos 1))

    is : (a b : Bool) → lt_z t first_second ≡ a → lt_z t horizon ≡ b → as_end t ≡ ends a b
    is a b d e = λ i. ends (d i) (e i)

    by : (a b : Bool) → lt_z t first_second ≡ a → lt_z t horizon ≡ b → as_end (as_end t) ≡ as_end t
    by true b d e = ap as_end (is true b d e) ∙ sym (is true b d e)
    by false true d e = ap as_end (is false true d e)
    by false false d e = ap as_end (is false false d e) ∙ sym (is false false d e)

-- the end that the text of UNTIL spells allows the same days
record EndBack (form : Form) (clock : Zone) (second : ℕ) (until : Option Until) (text : Option (List ℕ)) (last : ℕ) : Type 0 where
  end : Option Until
  hands : HandsIn until text end
  allowed : IsLastAllowed clock second end last
  writes : (other : Option (List ℕ)) → BothOrNeither (WritesEnd form clock last) until other ↔ BothOrNeither (WritesEnd form clock last) end other
  same : (other : Option (List ℕ)) → until_text end other ≡ until_text until other

until_same : (a b : Until) (text : Option (List ℕ)) → until_text (Some a) text ≡ until_text (Some b) text
until_same a b None = refl
until_same a b (Some text) = refl

-- a local time of UNTIL and the instant that it means have the same text
local_writes : (clock : Zone) → IsOneMeaning clock → (local t : ℤ) → Means clock local t → (text : Option (List ℕ)) → BothOrNeither (WritesFixedEnd clock) (Some (UntilLocal local)) text ↔ BothOrNeither (WritesFixedEnd clock) (Some (UntilInstant (as_end t))) text
local_writes clock one local t means None = (λ h. h, λ h. h)
local_writes clock one local t means (Some text) = (
  λ h. subst (WritesStamp text) (ap as_end (one local h.0 t h.1 means) ∙ sym (end_twice t)) h.2,
  λ h. (t, means, subst (WritesStamp text) (end_twice t) h),
)

instant_writes : (clock : Zone) (t : ℤ) (text : Option (List ℕ)) → BothOrNeither (WritesFixedEnd clock) (Some (UntilInstant t)) text ↔ BothOrNeither (WritesFixedEnd clock) (Some (UntilInstant (as_end t))) text
instant_writes clock t None = (λ h. h, λ h. h)
instant_writes clock t (Some text) = (λ h. subst (WritesStamp text) (sym (end_twice t)) h, λ h. subst (WritesStamp text) (end_twice t) h)

fixed_back : (clock : Zone) (second last : ℕ) → IsOneMeaning clock → (until : Until) (text : List ℕ) → WritesFixedEnd clock until text → IsLastAllowed clock second (Some until) last → EndBack Fixed clock second (Some until) (Some text) last
fixed_back clock second last one (UntilDay number) text w a = record { end = Some (UntilDay number); hands = w; allowed = a; writes = λ other. (λ h. h, λ h. h); same = λ other. refl }
fixed_back clock second last one (UntilLocal local) text (t, means, w) (u, meant, a) = record {
  end = Some (UntilInstant (as_end t));
  hands = stamp_written text (as_end t) w;
  allowed = subst (λ (x : ℤ). IsLastDay clock second x last) (ap as_end (one local u t meant means) ∙ sym (end_twice t)) a;
  writes = local_writes clock one local t means;
  same = until_same (UntilInstant (as_end t)) (UntilLocal local);
}
fixed_back clock second last one (UntilInstant t) text w a = record {
  end = Some (UntilInstant (as_end t));
  hands = stamp_written text (as_end t) w;
  allowed = subst (λ (x : ℤ). IsLastDay clock second x last) (sym (end_twice t)) a;
  writes = instant_writes clock t;
  same = until_same (UntilInstant (as_end t)) (UntilInstant t);
}

-- of a date of the last day that it allows nothing but the day is written
day_writes : (form : Form) (clock : Zone) (last : ℕ) (until : Until) (number : ℤ) → (form ≡ Fixed → ⊥) → (other : Option (List ℕ))
    → BothOrNeither (WritesEnd form clock last) (Some until) other ↔ BothOrNeither (WritesEnd form clock last) (Some (UntilDay number)) other
day_writes Fixed clock last until number not other = absurd (not refl)
day_writes Floating clock last until number not None = (λ h. h, λ h. h)
day_writes Floating clock last until number not (Some text) = (λ h. h, λ h. h)
day_writes WholeDay clock last until number not None = (λ h. h, λ h. h)
day_writes WholeDay clock last until number not (Some text) = (λ h. h, λ h. h)

day_back : (form : Form) (clock : Zone) (second last : ℕ) (until : Until) (text : List ℕ) → (form ≡ Fixed → ⊥) → WritesDay last text → EndBack form clock second (Some until) (Some text) last
day_back form clock second last until text not (number, d, e) = record {
  end = Some (UntilDay number);
  hands = d;
  allowed = e;
  writes = day_writes form clock last until number not;
  same = until_same (UntilDay number) until;
}

other_form : (form : Form) → is_fixed form ≡ false → form ≡ Fixed → ⊥
other_form form h e = true≢false (sym (ap is_fixed e) ∙ h)

end_back : (form : Form) (clock : Zone) (second : ℕ) → IsOneMeaning clock → (until : Option Until) (text : Option (List ℕ)) (last : ℕ) → BothOrNeither (WritesEnd form clock last) until text → IsLastAllowed clock second until last
    → EndBack form clock second until text last
end_back form clock second one None None last w a = record { end = None; hands = refl; allowed = a; writes = λ other. (λ h. h, λ h. h); same = λ other. refl }
end_back Fixed clock second one (Some until) (Some text) last w a = fixed_back clock second last one until text w a
end_back Floating clock second one (Some until) (Some text) last w a = day_back Floating clock second last until text (other_form Floating refl) w
end_back WholeDay clock second one (Some until) (Some text) last w a = day_back WholeDay clock second last until text (other_form WholeDay refl) w
end_back form clock second one None (Some text) last w a = absurd w
end_back form clock second one (Some until) None last w a = absurd w

-- ---- the rule

-- the lines are one RRULE, of printable octets, and from this local time on these clocks it gives a rule of the same days
pub record RuleBack (form : Form) (clock : Zone) (local : ℤ) (rule : Rule) (lines : List (List ℕ)) : Type 0 where
  pub value : List ℕ
  pub are : lines ≡ (codes "RRULE:" ++ value) ∷ []
  pub early : list_all is_early value ≡ true
  pub text : RuleText
  pub spelled : SpellsRule value text
  pub back : Rule
  pub gives : GivesRule clock local text back
  pub same : (day : ℕ) → is_rule_day back day ≡ is_rule_day rule day
  -- and the same is written of both
  pub writes : (other : List (List ℕ)) → WritesRule form clock (Some rule) other ↔ WritesRule form clock (Some back) other

pub rule_back : (form : Form) (clock : Zone) (local : ℤ) → IsOneMeaning clock → (value : List ℕ) (text : RuleText) (rule : Rule) (lines : List (List ℕ)) → SpellsRule value text → GivesRule clock local text rule
    → WritesRule form clock (Some rule) lines → RuleBack form clock local rule lines
rule_back form clock local one value text rule lines spelled g (end, told, e) =
    let same_until : rule.until ≡ text.until = ap (λ (r : Rule). r.until) g.is in
    let same_text : text_in rule ≡ text = ap text_in g.is in
    let same_last : rule.last ≡ g.last = ap (λ (r : Rule). r.last) g.is in
    let on_last : BothOrNeither (WritesEnd form clock g.last) rule.until end = subst (λ (n : ℕ). BothOrNeither (WritesEnd form clock n) rule.until end) same_last told in
    let told_text : BothOrNeither (WritesEnd form clock g.last) text.until end = subst (λ (u : Option Until). BothOrNeither (WritesEnd form clock g.last) u end) same_until on_last in
    let b = end_back form clock g.second one text.until end g.last told_text g.allowed in
    let written_same : (e : Option (List ℕ)) → (codes "RRULE:" ++ rule_text (text_in rule) e) ∷ [] ≡ (codes "RRULE:" ++ rule_text (as_written text b.end) e) ∷ [] =
    λ e. ap (λ (t : RuleText). (codes "RRULE:" ++ rule_text t e) ∷ []) same_text ∙ ap (λ v. (codes "RRULE:" ++ v) ∷ []) (sym (text_twice text b.end e (b.same e))) in
    let allowed = is_allowed value text spelled.says spelled.together spelled.one_end in
    let back = rule_of (as_written text b.end) g.day g.last in
    let same : (day : ℕ) → is_rule_day back day ≡ is_rule_day rule day = λ day. same_days text b.end g.day g.last day allowed ∙ ap (λ (r : Rule). is_rule_day r day) (sym g.is) in
    record {
      value = rule_text text end;
      are = e ∙ ap (λ (t : RuleText). (codes "RRULE:" ++ rule_text t end) ∷ []) same_text;
      early = rule_text_early form clock g.last text end told_text;
      text = as_written text b.end;
      spelled = allowed_back text end b.end allowed b.hands;
      back = back;
      gives = record { day = g.day; second = g.second; on = g.on; last = g.last; allowed = b.allowed; is = refl; starts = same g.day ∙ g.starts };
      same = same;
      writes = λ other. (
        λ h. (
          h.0,
          (b.writes h.0).0 (subst (λ (u : Option Until). BothOrNeither (WritesEnd form clock g.last) u h.0) same_until (subst (λ (n : ℕ). BothOrNeither (WritesEnd form clock n) rule.until h.0) same_last h.1)),
          h.2 ∙ written_same h.0,
        ),
        λ h. (
          h.0,
          subst (λ (n : ℕ). BothOrNeither (WritesEnd form clock n) rule.until h.0) (sym same_last) (subst (λ (u : Option Until). BothOrNeither (WritesEnd form clock g.last) u h.0) (sym same_until) ((b.writes h.0).1 h.1)),
          h.2 ∙ sym (written_same h.0),
        ),
      );
    }

-- ---- a date of UNTIL is at most 9999-12-31

pub date_count : (text : List ℕ) (number : ℤ) → SpellsDate text number → (n : ℕ) × (n < 3_652_425) × (number ≡ pos n -ℤ pos 719_528)
date_count text number d =
    let n = days_before d.year d.month d.day in
    let year : year_of n ≡ d.year = (named n d.year d.month d.day d.date refl).year in
    let within : n < year_start (suc (year_of n)) = year_ends n in
    let most : year_start (suc (year_of n)) ≤ year_start 10_000 = year_start_grows (suc (year_of n)) 10_000 (omega (arith, year, d.last)) in
    let is : number ≡ pos n -ℤ pos 719_528 = d.counted in
    (n, omega (arith, within, most), is)

-- at least 0001-01-01
pub date_low : (text : List ℕ) (number : ℤ) → SpellsDate text number → negsuc 719_161 ≤ℤ number
date_low text number d =
    let n = days_before d.year d.month d.day in
    let year : year_of n ≡ d.year = (named n d.year d.month d.day d.date refl).year in
    let begins : year_start (year_of n) ≤ n = year_begins n in
    let grows : 366 ≤ year_start (year_of n) = year_start_grows 1 (year_of n) (omega (arith, year, d.first)) in
    let is : number ≡ pos n -ℤ pos 719_528 = d.counted in
    omega (arith, ints, is, begins, grows)

-- a leap second counts as the one before
pub clock_second : (text : List ℕ) (second : ℕ) → SpellsTime 60 text second → second < 86_400
clock_second text second t = omega (arith, t.hours, t.minutes, t.counted)

pub date_high : (text : List ℕ) (number : ℤ) → SpellsDate text number → number ≤ℤ pos 2_932_896
date_high text number d = let (n, few, is) = date_count text number d in omega (arith, ints, is, few)

-- its index
pub date_index : (text : List ℕ) (number : ℤ) → SpellsDate text number → number +ℤ pos 719_528 ≡ pos (day_index number)
date_index text number d =
    let (n, few, is) = date_count text number d in
    let at : number +ℤ pos 719_528 ≡ pos n = omega (arith, ints, is) in
    at ∙ ap (λ x. pos (unsigned_abs x)) (sym at)

told : (values : List (List ℕ)) (until : Option Until) → SaysOr (IsGivenPart SpellsUntil) None values until → (end : Until) → until ≡ Some end → IsFixedTold end
told [] None s end e = absurd (true≢false (ap (λ (o : Option Until). elim o [ None ↦ true | Some _ ↦ false ]) e))
told [] (Some until) s end e = absurd (true≢false (ap (λ (o : Option Until). elim o [ None ↦ false | Some _ ↦ true ]) s))
told (value ∷ []) None s end e = absurd s
told (value ∷ []) (Some until) s end e = subst IsFixedTold (same_Some until end e) (one until s)
  where
    one : (until : Until) → SpellsUntil value until → IsFixedTold until
    one (UntilDay number) d = date_high value number d
    one (UntilLocal local) d = tt
    one (UntilInstant instant) d = tt
told (value ∷ other ∷ values) until s end e = absurd s

-- no day past it is allowed
until_high : (clock : Zone) (second : ℕ) (values : List (List ℕ)) (until : Option Until) (end : Until) (last : ℕ) → SaysOr (IsGivenPart SpellsUntil) None values until → until ≡ Some end → IsLastAllowed clock second (Some end) last → last ≤ last_rule_day
until_high clock second [] None end last s e a = absurd (true≢false (ap (λ (o : Option Until). elim o [ None ↦ true | Some _ ↦ false ]) e))
until_high clock second [] (Some until) end last s e a = absurd (true≢false (ap (λ (o : Option Until). elim o [ None ↦ false | Some _ ↦ true ]) s))
until_high clock second (value ∷ []) None end last s e a = absurd s
until_high clock second (value ∷ []) (Some until) end last s e a = one end (subst (SpellsUntil value) (same_Some until end e) s) a
  where
    one : (end : Until) → SpellsUntil value end → IsLastAllowed clock second (Some end) last → last ≤ last_rule_day
    one (UntilDay number) d a =
        let (n, few, is) = date_count value number d in
        let index = date_index value number d in
        let at : last ≡ day_index number = a in
        omega (arith, ints, few, is, index, at)
    one (UntilLocal local) d (t, m, a) = a.to_9999
    one (UntilInstant t) d a = a.to_9999
until_high clock second (value ∷ other ∷ values) until end last s e a = absurd s

by_form : (form : Form) (last : ℕ) (end : Until) → IsFixedTold end → last ≤ last_rule_day → IsTold form last end
by_form Fixed last end told high = told
by_form Floating last end told high = high
by_form WholeDay last end told high = high

pub rule_told : (lines : List (List ℕ)) (times : EventTimes) (rule : Option Rule) → SaysEventRule lines times rule → EndIsTold times.form rule
rule_told lines times rule s said is end e =
    let found = rule_found lines times rule s said is in
    let until : found.text.until ≡ Some end = sym (ap (λ (p : Rule). p.until) found.gives.is) ∙ e in
    let last : found.gives.last ≡ said.last = sym (ap (λ (p : Rule). p.last) found.gives.is) in
    let allowed : IsLastAllowed (clock_of times.zone) found.gives.second (Some end) found.gives.last =
    subst (λ (u : Option Until). IsLastAllowed (clock_of times.zone) found.gives.second u found.gives.last) until found.gives.allowed in
    let values = values_of (codes "UNTIL=") (line_value found.line) in
    let high : found.gives.last ≤ last_rule_day = until_high (clock_of times.zone) found.gives.second values found.text.until end found.gives.last found.spelled.says.until until allowed in
    by_form times.form said.last end (told values found.text.until found.spelled.says.until end until) (subst (λ (n : ℕ). n ≤ last_rule_day) last high)
