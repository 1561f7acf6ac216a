-- Parts that are taken one after another, and the least fault of them.
use Rattle.std.proofs.Common.{◌≡◌, ◌∙◌, ap, sym, refl, subst, ℕ, ◌+◌, ◌<◌, ◌≤◌, true, false, is_some, inl, inr, List, [], ◌∷◌, ◌++◌, length, map, All, Contains, Option, None, Some, Result, Err, option_map, option_to_list, IfSome, IfNone, IfOk, MatchOption, append_assoc, append-nil, length-append, arith}
use Rattle.std.proofs.lemmas.List.Elements.{All-nil, All-push, Contains-append_left, Contains-append_right, filter_map-append}
use Rattle.std.specs.Option.{unwrap_or, ok_or}
use Rattle.std.proofs.lemmas.Result.{IfOk-weaker, IfOk-at_ok}
use Rattle.ical_lines.specs.Fault.{RefusesBy}
use Rattle.ical_lines.specs.declared.fault.Fault.{Fault}
use Rattle.ical_lines.specs.declared.fault.Fault.TheVariants.{Memory, Refused}
use Rattle.ical_lines.specs.declared.fault.Refusal.{Refusal}
use Rattle.profile.specs.series.Days.{Frequency}
use Rattle.profile.specs.series.Rules.{RuleText, Until}
use Rattle.profile.specs.series.RuleTexts.{RuleKey, Interval, Count, EndsAt, WeekStart, ByMonth, ByMonthDay, ByDay, BySetPosition, after_key, rule_parts, SpellsFrequency, SpellsInterval, SpellsCount, SpellsUntil, SpellsWeekday, SpellsMonths, SpellsMonthDays, SpellsEntries, SpellsPositions, SpellsNone, IsKnownPart, IsGivenPart, SaysOr, SaysFrequency, SaysParts}
use Rattle.cal_days.specs.Views.{frequency_of}
use Rattle.cal_rules.specs.declared.parts.Parts as rust
use Rattle.cal_rules.specs.Views.{weekday_number_of, until_of}
use Rattle.cal_rules.specs.Taken.{word, SaidPart, SpellsRulePart, field, HasBadValue, HasNoBadValue, values_in, SayParts, HaveOneTwice, KeepsLeastFault, ArePartsTaken, Enters, IsFaultOf, Puts, PutsRead}
use Rattle.cal_rules.proofs.Parted.{one_name, good_part, known_part, known_bad}

-- ---- the values of one name

-- those with one more part
values_more : (name : Option RuleKey) (parts : List (List ℕ)) (part : List ℕ) (given : Option (List ℕ)) → after_key (word name) part ≡ given → values_in name (parts ++ part ∷ []) ≡ values_in name parts ++ option_to_list given
values_more name parts part None e = filter_map-append (after_key (word name)) parts (part ∷ []) ∙ ap (λ l. values_in name parts ++ l) (rw e refl)
values_more name parts part (Some value) e = filter_map-append (after_key (word name)) parts (part ∷ []) ∙ ap (λ l. values_in name parts ++ l) (rw e refl)

-- an empty field: the name occurs nowhere
pub no_values : {A : Type 0} (Is : List ℕ → A → Type 0) (values : List (List ℕ)) (o : Option A) → SaysOr (IsGivenPart Is) None values o → o ≡ None → values ≡ []
no_values Is [] o s e = refl
no_values Is (v ∷ []) None s e = absurd s
no_values Is (v ∷ []) (Some x) s e = cc
no_values Is (v ∷ w ∷ vs) o s e = absurd s

-- a filled one: it occurs somewhere
some_values : {A : Type 0} (Is : List ℕ → A → Type 0) (values : List (List ℕ)) (o : Option A) → SaysOr (IsGivenPart Is) None values o → is_some o ≡ true → 0 < length values
some_values Is [] o s e = let wrong : false ≡ true = ap is_some (sym s) ∙ e in cc
some_values Is (v ∷ []) o s e = omega arith
some_values Is (v ∷ w ∷ vs) o s e = omega arith

-- ---- one more part

-- the other fields are as before
abbrev pub AgreeBut : Option RuleKey → rust.Parts → rust.Parts → Type 0
AgreeBut name old new = (other : Option RuleKey) → (other ≡ name → ⊥) → field other new ≡ field other old

pub agree : (name : Option RuleKey) (old new : rust.Parts) → ((None ≡ name → ⊥) → new.frequency ≡ old.frequency) → ((Some Interval ≡ name → ⊥) → new.interval ≡ old.interval)
    → ((Some Count ≡ name → ⊥) → new.count ≡ old.count) → ((Some EndsAt ≡ name → ⊥) → new.until ≡ old.until) → ((Some WeekStart ≡ name → ⊥) → new.week_start ≡ old.week_start)
    → ((Some ByMonth ≡ name → ⊥) → new.months ≡ old.months) → ((Some ByMonthDay ≡ name → ⊥) → new.month_days ≡ old.month_days)
    → ((Some ByDay ≡ name → ⊥) → new.weekdays ≡ old.weekdays) → ((Some BySetPosition ≡ name → ⊥) → new.positions ≡ old.positions) → AgreeBut name old new
agree name old new f i c u w m d e p None differs = ap (λ o. option_map frequency_of o) (f differs)
agree name old new f i c u w m d e p (Some Interval) differs = i differs
agree name old new f i c u w m d e p (Some Count) differs = c differs
agree name old new f i c u w m d e p (Some EndsAt) differs = ap (λ o. option_map until_of o) (u differs)
agree name old new f i c u w m d e p (Some WeekStart) differs = w differs
agree name old new f i c u w m d e p (Some ByMonth) differs = ap (λ v. field (Some ByMonth) (record new { months = v })) (m differs)
agree name old new f i c u w m d e p (Some ByMonthDay) differs = ap (λ v. field (Some ByMonthDay) (record new { month_days = v })) (d differs)
agree name old new f i c u w m d e p (Some ByDay) differs = ap (λ v. field (Some ByDay) (record new { weekdays = v })) (e differs)
agree name old new f i c u w m d e p (Some BySetPosition) differs = ap (λ v. field (Some BySetPosition) (record new { positions = v })) (p differs)

pub seen : {T : Type 0} (o : Option T) → o ≡ option_map (λ x. x) o
seen None = refl
seen (Some x) = refl

module _ (name : Option RuleKey) (part value : List ℕ) (old new : rust.Parts) (here : after_key (word name) part ≡ Some value) where
  -- the empty field is filled
  says_here : (x : SaidPart name) (parts : List (List ℕ)) → SpellsRulePart name value x → field name old ≡ None → field name new ≡ Some x → SayParts parts old → SaysOr (IsGivenPart (SpellsRulePart name)) None (values_in name (parts ++ part ∷ [])) (field name new)
  says_here x parts is before after says =
      let none : values_in name parts ≡ [] = no_values (SpellsRulePart name) (values_in name parts) (field name old) (says name) before in
      let one : values_in name (parts ++ part ∷ []) ≡ value ∷ [] = values_more name parts part (Some value) here ∙ ap (λ l. l ++ value ∷ []) none in
      subst (λ (vs : List (List ℕ)). SaysOr (IsGivenPart (SpellsRulePart name)) None vs (field name new)) (sym one)
      (subst (λ (o : Option (SaidPart name)). IsGivenPart (SpellsRulePart name) value o) (sym after) is)

  -- each other says what it said
  says_more : (x : SaidPart name) (parts : List (List ℕ)) → SpellsRulePart name value x → field name old ≡ None → field name new ≡ Some x → AgreeBut name old new → SayParts parts old → SayParts (parts ++ part ∷ []) new
  says_more x parts is before after others says other =
      elim (after_key (word other) part) as (λ o. after_key (word other) part ≡ o → SaysOr (IsGivenPart (SpellsRulePart other)) None (values_in other (parts ++ part ∷ [])) (field other new)) [
        | None ↦ λ e.
            let values : values_in other (parts ++ part ∷ []) ≡ values_in other parts = values_more other parts part None e ∙ append-nil (values_in other parts) in
            let differs : other ≡ name → ⊥ = λ same. let clash : None ≡ Some value = sym e ∙ ap (λ (n : Option RuleKey). after_key (word n) part) same ∙ here in cc in
            subst (λ (vs : List (List ℕ)). SaysOr (IsGivenPart (SpellsRulePart other)) None vs (field other new)) (sym values)
            (subst (λ (o : Option (SaidPart other)). SaysOr (IsGivenPart (SpellsRulePart other)) None (values_in other parts) o) (sym (others other differs)) (says other))
        | Some w ↦ λ e.
            let same : other ≡ name = one_name name other part value w here e in
            subst (λ (n : Option RuleKey). SaysOr (IsGivenPart (SpellsRulePart n)) None (values_in n (parts ++ part ∷ [])) (field n new)) (sym same) (says_here x parts is before after says)
      ] refl

  -- a filled field: the name occurs twice now
  twice_now : (parts : List (List ℕ)) → is_some (field name old) ≡ true → SayParts parts old → HaveOneTwice (parts ++ part ∷ [])
  twice_now parts filled says =
      let one = some_values (SpellsRulePart name) (values_in name parts) (field name old) (says name) filled in
      let more : length (values_in name (parts ++ part ∷ [])) ≡ length (values_in name parts) + 1 = ap length (values_more name parts part (Some value) here) ∙ length-append (values_in name parts) (value ∷ []) in
      (name, omega (arith, more, one))

  -- what a field and its part's value come to
  pub took : {T : Type 0} (see : T → SaidPart name) (said before after : Option T) (fault : Option Refusal) → (SpellsNone (SpellsRulePart name) value → HasBadValue part) → IfSome said (λ x. SpellsRulePart name value (see x)) → IfNone said (SpellsNone (SpellsRulePart name) value)
      → field name old ≡ option_map see before → field name new ≡ option_map see after → AgreeBut name old new
      → Puts said before after fault
      → MatchOption fault (Enters part old new) (λ f. IsFaultOf part old f.number)
  took see None before after None bad is none was now others (some, empty, put) = let wrong : false ≡ true = some in cc
  took see None before after (Some f) bad is none was now others (inl (n, e)) = (known_bad part (bad none), inl (n, bad none))
  took see None before after (Some f) bad is none was now others (inr (n, some, filled)) = let wrong : false ≡ true = some in cc
  took see (Some x) before after None bad is none was now others (some, empty, put) = record {
    known = known_part name part value (see x) here is;
    good = good_part name part value (see x) here is;
    says = λ parts. says_more (see x) parts is (was ∙ ap (option_map see) empty) (now ∙ ap (option_map see) put) others;
  }
  took see (Some x) before after (Some f) bad is none was now others (inl (n, e)) = cc
  took see (Some x) None after (Some f) bad is none was now others (inr (n, some, filled)) = let wrong : false ≡ true = filled in cc
  took see (Some x) (Some y) after (Some f) bad is none was now others (inr (n, some, filled)) =
      (known_part name part value (see x) here is, inr (n, good_part name part value (see x) here is, λ parts. twice_now parts (ap is_some was)))

  -- and so of a list
  pub took_list : {T E : Type 0} (see : T → SaidPart name) (read : Result (Option T) E) (before after : Option T) (result : Result (Option Refusal) Fault) → (SpellsNone (SpellsRulePart name) value → HasBadValue part)
      → IfOk read (λ said. IfSome said (λ x. SpellsRulePart name value (see x))) → IfOk read (λ said. IfNone said (SpellsNone (SpellsRulePart name) value))
      → field name old ≡ option_map see before → field name new ≡ option_map see after → AgreeBut name old new → IfOk result (PutsRead read before after)
      → IfOk result (λ fault. MatchOption fault (Enters part old new) (λ f. IsFaultOf part old f.number))
  took_list see read before after result bad is none was now others puts = IfOk-weaker result _ _ (λ fault p.
      took see p.0 before after fault bad (IfOk-at_ok _ p.1 is) (IfOk-at_ok _ p.1 none) was now others p.2) puts

-- memory alone is a fault of any kind
pub only_memory : (P : ℕ → Type 0) (fault : Fault) → RefusesBy (λ _. ⊥) fault → RefusesBy P fault
only_memory P Memory _ = tt
only_memory P (Refused r) wrong = absurd wrong

-- ---- the least fault so far

twice_more : (parts : List (List ℕ)) (part : List ℕ) → HaveOneTwice parts → HaveOneTwice (parts ++ part ∷ [])
twice_more parts part (name, h) =
    let more = ap length (filter_map-append (after_key (word name)) parts (part ∷ [])) ∙ length-append (values_in name parts) (values_in name (part ∷ [])) in
    (name, omega (arith, more, h))

-- no part, no field and no fault
all_empty : (p : rust.Parts) → p.frequency ≡ None → p.interval ≡ None → p.count ≡ None → p.until ≡ None → p.week_start ≡ None → p.months ≡ None → p.month_days ≡ None → p.weekdays ≡ None → p.positions ≡ None → (name : Option RuleKey) → field name p ≡ None
all_empty p f i c u w m d e s None = ap (option_map frequency_of) f
all_empty p f i c u w m d e s (Some Interval) = i
all_empty p f i c u w m d e s (Some Count) = c
all_empty p f i c u w m d e s (Some EndsAt) = ap (option_map until_of) u
all_empty p f i c u w m d e s (Some WeekStart) = w
all_empty p f i c u w m d e s (Some ByMonth) = ap (option_map (λ xs. xs.items)) m
all_empty p f i c u w m d e s (Some ByMonthDay) = ap (option_map (λ xs. xs.items)) d
all_empty p f i c u w m d e s (Some ByDay) = ap (option_map (λ xs. map weekday_number_of xs.items)) e
all_empty p f i c u w m d e s (Some BySetPosition) = ap (option_map (λ xs. xs.items)) s

pub none_taken : (p : rust.Parts) → p.fault ≡ None → p.frequency ≡ None → p.interval ≡ None → p.count ≡ None → p.until ≡ None → p.week_start ≡ None → p.months ≡ None → p.month_days ≡ None → p.weekdays ≡ None → p.positions ≡ None → ArePartsTaken [] p
none_taken p fault f i c u w m d e s = record {
  known = All-nil IsKnownPart;
  kept = subst (KeepsLeastFault [] p) (sym fault) (All-nil HasNoBadValue, all_empty p f i c u w m d e s);
}

module _ (parts : List (List ℕ)) (part : List ℕ) (old new : rust.Parts) (taken : ArePartsTaken parts old) where
  more_kept : (fault : Option Refusal) → Enters part old new → KeepsLeastFault parts old fault → KeepsLeastFault (parts ++ part ∷ []) new fault
  more_kept None e (good, says) = (All-push HasNoBadValue parts part good e.good, e.says parts says)
  more_kept (Some f) e (inl (n, p, there, bad)) = inl (n, p, Contains-append_left parts (part ∷ []) p there, bad)
  more_kept (Some f) e (inr (n, twice, good)) = inr (n, twice_more parts part twice, All-push HasNoBadValue parts part good e.good)

  -- a good part
  pub entered : Enters part old new → new.fault ≡ old.fault → ArePartsTaken (parts ++ part ∷ []) new
  entered e same = record {
    known = All-push IsKnownPart parts part taken.known e.known;
    kept = subst (KeepsLeastFault (parts ++ part ∷ []) new) (sym same) (more_kept old.fault e taken.kept);
  }

  -- a fault that isn't less than the one before
  not_less : (kept f : Refusal) → KeepsLeastFault parts old (Some kept) → kept.number ≤ f.number → IsFaultOf part old f.number → KeepsLeastFault (parts ++ part ∷ []) new (Some kept)
  not_less kept f (inl (n, p, there, bad)) low fault = inl (n, p, Contains-append_left parts (part ∷ []) p there, bad)
  not_less kept f (inr (n, twice, good)) low (known, inl (m, bad)) = let wrong : ⊥ = omega arith in absurd wrong
  not_less kept f (inr (n, twice, good)) low (known, inr (m, fine, again)) = inr (n, twice_more parts part twice, All-push HasNoBadValue parts part good fine)

  pub stays : (kept f : Refusal) → old.fault ≡ Some kept → new.fault ≡ Some kept → kept.number ≤ f.number → IsFaultOf part old f.number → ArePartsTaken (parts ++ part ∷ []) new
  stays kept f before after low fault = record {
    known = All-push IsKnownPart parts part taken.known fault.0;
    kept = subst (KeepsLeastFault (parts ++ part ∷ []) new) (sym after) (not_less kept f (subst (KeepsLeastFault parts old) before taken.kept) low fault);
  }

  -- the first fault, or one that is less
  less : (before : Option Refusal) (f : Refusal) → KeepsLeastFault parts old before → MatchOption before (Unit {0}) (λ kept. f.number < kept.number) → IsFaultOf part old f.number → KeepsLeastFault (parts ++ part ∷ []) new (Some f)
  less before f kept low (known, inl (n, bad)) = inl (n, part, Contains-append_right parts (part ∷ []) part (0, omega arith, refl), bad)
  less None f (good, says) low (known, inr (n, fine, again)) = inr (n, again parts says, All-push HasNoBadValue parts part good fine)
  less (Some kept) f (inl k) low (known, inr (n, fine, again)) = let same : kept.number ≡ 31 = k.0 in let wrong : ⊥ = omega arith in absurd wrong
  less (Some kept) f (inr k) low (known, inr (n, fine, again)) = let same : kept.number ≡ 32 = k.0 in let wrong : ⊥ = omega arith in absurd wrong

  pub falls : (f : Refusal) → new.fault ≡ Some f → MatchOption old.fault (Unit {0}) (λ kept. f.number < kept.number) → IsFaultOf part old f.number → ArePartsTaken (parts ++ part ∷ []) new
  falls f now low fault = record {
    known = All-push IsKnownPart parts part taken.known fault.0;
    kept = subst (KeepsLeastFault (parts ++ part ∷ []) new) (sym now) (less old.fault f taken.kept low fault);
  }

-- ---- the rule that the fields say

frequency_said : (values : List (List ℕ)) (x : Frequency) → SaysOr (IsGivenPart SpellsFrequency) None values (Some x) → SaysFrequency values x
frequency_said [] x s = cc
frequency_said (v ∷ []) x s = ap (λ l. l ∷ []) s
frequency_said (v ∷ w ∷ vs) x s = absurd s

-- a field that is empty means what the part means where it is missing
said_or : {A : Type 0} (Is : List ℕ → A → Type 0) (missing : A) (values : List (List ℕ)) (o : Option A) (x : A) → SaysOr (IsGivenPart Is) None values o → x ≡ unwrap_or o missing → SaysOr Is missing values x
said_or Is missing [] None x s e = e
said_or Is missing [] (Some y) x s e = cc
said_or Is missing (v ∷ []) None x s e = absurd s
said_or Is missing (v ∷ []) (Some y) x s e = subst (Is v) (sym e) s
said_or Is missing (v ∷ w ∷ vs) o x s e = absurd s

-- and so where it is seen as something else
pub see_or : {T A : Type 0} (see : T → A) (o : Option T) (other result : T) (missing : A) → result ≡ unwrap_or o other → see other ≡ missing → see result ≡ unwrap_or (option_map see o) missing
see_or see None other result missing e m = ap see e ∙ m
see_or see (Some x) other result missing e m = ap see e

pub says_all : (text : List ℕ) (p : rust.Parts) (t : RuleText) → SayParts (rule_parts text) p → field None p ≡ Some t.frequency → t.interval ≡ unwrap_or (field (Some Interval) p) 1
    → t.count ≡ field (Some Count) p → t.until ≡ field (Some EndsAt) p → t.week_start ≡ unwrap_or (field (Some WeekStart) p) 0
    → t.months ≡ unwrap_or (field (Some ByMonth) p) [] → t.month_days ≡ unwrap_or (field (Some ByMonthDay) p) []
    → t.weekdays ≡ unwrap_or (field (Some ByDay) p) [] → t.positions ≡ unwrap_or (field (Some BySetPosition) p) [] → SaysParts text t
says_all text p t says f i c u w m d e s = record {
  frequency = frequency_said (values_in None (rule_parts text)) t.frequency (subst (λ (o : Option Frequency). SaysOr (IsGivenPart SpellsFrequency) None (values_in None (rule_parts text)) o) f (says None));
  interval = said_or SpellsInterval 1 (values_in (Some Interval) (rule_parts text)) (field (Some Interval) p) t.interval (says (Some Interval)) i;
  count = subst (λ (o : Option ℕ). SaysOr (IsGivenPart SpellsCount) None (values_in (Some Count) (rule_parts text)) o) (sym c) (says (Some Count));
  until = subst (λ (o : Option Until). SaysOr (IsGivenPart SpellsUntil) None (values_in (Some EndsAt) (rule_parts text)) o) (sym u) (says (Some EndsAt));
  week_start = said_or SpellsWeekday 0 (values_in (Some WeekStart) (rule_parts text)) (field (Some WeekStart) p) t.week_start (says (Some WeekStart)) w;
  months = said_or SpellsMonths [] (values_in (Some ByMonth) (rule_parts text)) (field (Some ByMonth) p) t.months (says (Some ByMonth)) m;
  month_days = said_or SpellsMonthDays [] (values_in (Some ByMonthDay) (rule_parts text)) (field (Some ByMonthDay) p) t.month_days (says (Some ByMonthDay)) d;
  weekdays = said_or SpellsEntries [] (values_in (Some ByDay) (rule_parts text)) (field (Some ByDay) p) t.weekdays (says (Some ByDay)) e;
  positions = said_or SpellsPositions [] (values_in (Some BySetPosition) (rule_parts text)) (field (Some BySetPosition) p) t.positions (says (Some BySetPosition)) s;
}

-- ---- parts of a text

-- the part that comes is the next one
pub next_part : (all done left rest : List (List ℕ)) (part : List ℕ) → all ≡ done ++ left → left ≡ part ∷ rest → all ≡ (done ++ part ∷ []) ++ rest
next_part all done left rest part h s = h ∙ ap (λ l. done ++ l) s ∙ sym (append_assoc done (part ∷ []) rest)

-- it is in the text
pub next_there : (all done left rest : List (List ℕ)) (part : List ℕ) → all ≡ done ++ left → left ≡ part ∷ rest → Contains all part
next_there all done left rest part h s =
    let e : all ≡ done ++ part ∷ rest = h ∙ ap (λ l. done ++ l) s in rw e (Contains-append_right done (part ∷ rest) part (0, omega arith, refl))

-- none is left
pub all_taken : (all done left : List (List ℕ)) (p : rust.Parts) → all ≡ done ++ left → left ≡ [] → ArePartsTaken done p → ArePartsTaken all p
all_taken all done left p h none taken =
    let e : all ≡ done = h ∙ ap (λ l. done ++ l) none ∙ append-nil done in subst (λ (l : List (List ℕ)). ArePartsTaken l p) (sym e) taken

-- without a fault all values are good, and the fields say them
pub kept_none : (parts : List (List ℕ)) (p : rust.Parts) → ArePartsTaken parts p → p.fault ≡ None → All HasNoBadValue parts × SayParts parts p
kept_none parts p taken e = subst (KeepsLeastFault parts p) e taken.kept

-- the refusal that `ok_or` gives where there is no value
pub missing_number : {T : Type 0} (r : Result T Refusal) (o : Option T) (other e : Refusal) → r ≡ ok_or o other → r ≡ Err e → o ≡ None → e.number ≡ other.number
missing_number {T} r o other e is err none =
    let same : Err e ≡ Err other = sym err ∙ is ∙ ap (λ (p : Option T). ok_or p other) none in cc
