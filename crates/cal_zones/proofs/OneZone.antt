-- A VTIMEZONE says at most one zone, and none where it has a fault.
use Rattle.std.proofs.Common.{◌≡◌, ◌∙◌, ap, sym, refl, subst, inl, inr, ◌⊎◌, ℕ, zero, suc, ◌+◌, ◌<◌, Bool, true, false, cond, List, [], ◌∷◌, ◌++◌, ◌||◌, ◌%◌, length, map, filter, codes, arith, ℤ}
use Rattle.std.specs.Prelude.{Option, Some, None, Contains, slice_index}
use Rattle.std.specs.Str.{str_to_ascii_lowercase}
use Rattle.std.proofs.lemmas.Slice.Eq.{bytes_eq-Decides}
use Rattle.std.specs.Option.{option_to_list}
use Rattle.std.proofs.lemmas.Bool.{true≢false, eqb-true}
use Rattle.jiff_core.proofs.SignedLemmas.{signed_arith}
use Rattle.profile.specs.text.Lines.{line_value, is_same_name}
use Rattle.profile.specs.text.Trees.{Tree, tree_name, tree_own, tree_inside}
use Rattle.profile.specs.text.Values.{SpellsLocal, SpellsOffset, two_digits, four_digits}
use Rattle.profile.specs.series.Rules.{RuleText}
use Rattle.profile.specs.series.RuleTexts.{SpellsRule, RuleFault}
use Rattle.profile.specs.events.Properties.{lines_named, OccursMoreThanOnce, IsMissing, BothOrNeither, Says, ends_in_z}
use Rattle.profile.specs.series.Zones.{Zone, Constant, Single, Pair, Observance, local_time}
use Rattle.profile.specs.series.ZoneTexts.{parts_by, is_part, is_standard, is_daylight, IsLocalLine, IsOffsetLine, SaysPartTimes, SaysOnce, SaysYearly, IsYearLine, YearRule, HasNoYearRule, TimesFault, PartsSay, PartsFault, OffsetsDiffer, HasForm, SaysZone, ZoneFault, KeepsOffset, AreMatched, AreSpaced, AreClose, year_pattern, is_one_day, time_names, dates, missing, twice, fixed, bad_start, bad_from, bad_to, constant, single, pair, no_part, in_part, ruled, other_parts, unruled, unmatched, close}
use Rattle.cal_zones.proofs.Named.{one_named, one_day_parts}
use Rattle.cal_zones.proofs.PartLemmas.{in_more}
use Rattle.ical_tree.proofs.OneLine.{IsFunctional, same_option, at_one, only_line}

abbrev Lines : Type 0
Lines = List (List ℕ)

abbrev pub OneLocal : Type 0
OneLocal = (text : List ℕ) (a b : ℤ) → SpellsLocal text a → SpellsLocal text b → a ≡ b

abbrev pub OneOffset : Type 0
OneOffset = (text : List ℕ) (a b : ℤ) → SpellsOffset text a → SpellsOffset text b → a ≡ b

abbrev pub OneRule : Type 0
OneRule = (text : List ℕ) (a b : RuleText) → SpellsRule text a → SpellsRule text b → a ≡ b

-- ---- one line

same_both : {V : Type 0} (R : List ℕ → V → Type 0) → IsFunctional R → (line : Option (List ℕ)) (v w : V) → BothOrNeither R line (Some v) → BothOrNeither R line (Some w) → v ≡ w
same_both R f None v w h k = absurd h
same_both R f (Some l) v w h k = f l v w h k

pub said_same : {V : Type 0} (R : List ℕ → V → Type 0) (name : List ℕ) (lines : Lines) (v w : V) → IsFunctional R → Says name true R lines (Some v) → Says name true R lines (Some w) → v ≡ w
said_same {V} R name lines v w f s t =
    same_both R f t.line v w (subst (λ (l : Option (List ℕ)). BothOrNeither R l (Some v)) (same_option s.line t.line (sym s.once ∙ t.once)) s.is) t.is

-- what the line that is there says
pub said_by : {V : Type 0} (R : List ℕ → V → Type 0) (name : List ℕ) (lines : Lines) (v : V) (line : List ℕ) → Says name true R lines (Some v) → Contains (lines_named name lines) line → R line v
said_by {V} R name lines v line s c = subst (λ (o : Option (List ℕ)). BothOrNeither R o (Some v)) (only_line name lines s.line line s.once c) s.is

pub present : {V : Type 0} (R : List ℕ → V → Type 0) (name : List ℕ) (lines : Lines) (v : V) → Says name true R lines (Some v) → IsMissing name lines → ⊥
present {V} R name lines v s h = go s.line (sym s.once ∙ h) s.is
  where
    go : (l : Option (List ℕ)) → option_to_list l ≡ [] → BothOrNeither R l (Some v) → ⊥
    go None e is = is
    go (Some x) e is = cc

pub occurs_once : {V : Type 0} (R : List ℕ → V → Type 0) (name : List ℕ) (lines : Lines) (v : V) → Says name true R lines (Some v) → OccursMoreThanOnce name lines → ⊥
occurs_once {V} R name lines v s h = go s.line (ap length s.once)
  where
    go : (l : Option (List ℕ)) → length (lines_named name lines) ≡ length (option_to_list l) → ⊥
    go None e = absurd (omega arith)
    go (Some x) e = absurd (omega arith)

-- ---- names

same_text : (x a b : List ℕ) → is_same_name x a ≡ true → is_same_name x b ≡ true → str_to_ascii_lowercase a ≡ str_to_ascii_lowercase b
same_text x a b h k =
    sym ((bytes_eq-Decides (str_to_ascii_lowercase x) (str_to_ascii_lowercase a)).0 h) ∙ (bytes_eq-Decides (str_to_ascii_lowercase x) (str_to_ascii_lowercase b)).0 k

differ : (a : ℕ) → a ≡ 115 → a ≡ 100 → ⊥
differ a p q = absurd (omega arith)

not_both : (name : List ℕ) → is_standard name ≡ true → is_daylight name ≡ true → ⊥
not_both name h k = differ 115 refl (ap (λ (l : List ℕ). slice_index l 0) (same_text name (codes "STANDARD") (codes "DAYLIGHT") h k))

-- ---- parts

abbrev by : (List ℕ → Bool) → List Tree → List Lines
by test ts = map tree_own (filter (λ part. test (tree_name part)) ts)

sizes_step : (s d : Bool) (x : Tree) (ps ss ds : List Tree) → (s ≡ true → d ≡ true → ⊥) → length (map tree_own ps) ≡ length (map tree_own ss) + length (map tree_own ds)
    → length (map tree_own (cond (s || d) (x ∷ ps) ps)) ≡ length (map tree_own (cond s (x ∷ ss) ss)) + length (map tree_own (cond d (x ∷ ds) ds))
sizes_step true true x ps ss ds f h = absurd (f refl refl)
sizes_step true false x ps ss ds f h = omega arith
sizes_step false true x ps ss ds f h = omega arith
sizes_step false false x ps ss ds f h = h

sizes : (ts : List Tree) → length (by is_part ts) ≡ length (by is_standard ts) + length (by is_daylight ts)
sizes [] = refl
sizes (t ∷ ts) =
    sizes_step (is_standard (tree_name t)) (is_daylight (tree_name t)) t (filter (λ part. is_part (tree_name part)) ts)
    (filter (λ part. is_standard (tree_name part)) ts) (filter (λ part. is_daylight (tree_name part)) ts) (not_both (tree_name t)) (sizes ts)

place : (y x : Lines) (xs : List Lines) → Contains (y ∷ xs) x → (y ≡ x) ⊎ Contains xs x
place y x xs (zero, w, e) = inl e
place y x xs (suc k, w, e) = inr (k, omega arith, e)

first_there : (y x : Lines) (xs : List Lines) → y ≡ x → Contains (y ∷ xs) x
first_there y x xs e = (zero, omega arith, e)

which_step : (s d : Bool) (t : Tree) (ps ss ds : List Tree) (x : Lines)
    → (Contains (map tree_own ps) x → Contains (map tree_own ss) x ⊎ Contains (map tree_own ds) x)
    → Contains (map tree_own (cond (s || d) (t ∷ ps) ps)) x → Contains (map tree_own (cond s (t ∷ ss) ss)) x ⊎ Contains (map tree_own (cond d (t ∷ ds) ds)) x
which_step true d t ps ss ds x f c =
    elim (place (tree_own t) x (map tree_own ps) c) [
      | inl e ↦ inl (first_there (tree_own t) x (map tree_own ss) e)
      | inr k ↦ elim (f k) [ inl h ↦ inl (in_more (tree_own t) x (map tree_own ss) h) | inr h ↦ inr (wide d h) ]
    ]
  where
    wide : (b : Bool) → Contains (map tree_own ds) x → Contains (map tree_own (cond b (t ∷ ds) ds)) x
    wide true h = in_more (tree_own t) x (map tree_own ds) h
    wide false h = h
which_step false true t ps ss ds x f c =
    elim (place (tree_own t) x (map tree_own ps) c) [
      | inl e ↦ inr (first_there (tree_own t) x (map tree_own ds) e)
      | inr k ↦ elim (f k) [ inl h ↦ inl h | inr h ↦ inr (in_more (tree_own t) x (map tree_own ds) h) ]
    ]
which_step false false t ps ss ds x f c = f c

which : (ts : List Tree) (x : Lines) → Contains (by is_part ts) x → Contains (by is_standard ts) x ⊎ Contains (by is_daylight ts) x
which [] x (k, w, e) = absurd (omega arith)
which (t ∷ ts) x c =
    which_step (is_standard (tree_name t)) (is_daylight (tree_name t)) t (filter (λ part. is_part (tree_name part)) ts)
    (filter (λ part. is_standard (tree_name part)) ts) (filter (λ part. is_daylight (tree_name part)) ts) x (which ts x) c

-- what the law needs of the parts of one VTIMEZONE
pub record AreParts (parts standards daylights : List Lines) : Type 0 where
  pub sizes : length parts ≡ length standards + length daylights
  pub which : (x : Lines) → Contains parts x → Contains standards x ⊎ Contains daylights x

pub tree_parts : (t : Tree) → AreParts (parts_by is_part t) (parts_by is_standard t) (parts_by is_daylight t)
tree_parts t = record { sizes = sizes (tree_inside t); which = λ x c. which (tree_inside t) x c }

-- ---- local times

pub no_z : (text : List ℕ) (t : ℤ) → SpellsLocal text t → ends_in_z text ≡ true → ⊥
no_z text t c z =
    let a : text ≡ (four_digits c.on.year ++ two_digits c.on.month ++ two_digits c.on.day) ++ codes "T" ++ (two_digits c.at_second.hour ++ two_digits c.at_second.minute ++ two_digits c.at_second.second) =
    c.spelled ∙ ap (λ x. x ++ codes "T" ++ c.time) c.on.spelled
    ∙ ap (λ x. (four_digits c.on.year ++ two_digits c.on.month ++ two_digits c.on.day) ++ codes "T" ++ x) c.at_second.spelled in
    let last = subst (λ (x : List ℕ). ends_in_z x ≡ true) a z in
    let e : 48 + c.at_second.second % 10 ≡ 90 = eqb-true (48 + c.at_second.second % 10) 90 last in
    absurd (omega arith)

-- ---- what a part says

pub observance_same : (a b : Observance) → a.day ≡ b.day → a.second ≡ b.second → a.rule ≡ b.rule → a.offset_from ≡ b.offset_from → a.offset_to ≡ b.offset_to → a ≡ b
observance_same a b p q r s t = λ i. record { day = p i; second = q i; rule = r i; offset_from = s i; offset_to = t i }

pub year_rule_same : (a b : YearRule) → a.month ≡ b.month → a.days ≡ b.days → a ≡ b
year_rule_same a b p q = λ i. record { month = p i; days = q i }

pub record SameTimes (a b : Observance) : Type 0 where
  pub day : a.day ≡ b.day
  pub second : a.second ≡ b.second
  pub from : a.offset_from ≡ b.offset_from
  pub to : a.offset_to ≡ b.offset_to

pub same_day : (n s m r : ℕ) → local_time n s ≡ local_time m r → s < 86_400 → r < 86_400 → n ≡ m
same_day n s m r e h k = omega (arith, signed_arith)

pub same_second : (n s m r : ℕ) → local_time n s ≡ local_time m r → s < 86_400 → r < 86_400 → s ≡ r
same_second n s m r e h k = omega (arith, signed_arith)

-- what holds of the three holds of each name of a time
pub each_name : (P : List ℕ → Type 0) (name : List ℕ) → Contains time_names name → P (codes "DTSTART") → P (codes "TZOFFSETFROM") → P (codes "TZOFFSETTO") → P name
each_name P name (zero, w, e) a b c = subst P e a
each_name P name (suc zero, w, e) a b c = subst P e b
each_name P name (suc (suc zero), w, e) a b c = subst P e c
each_name P name (suc (suc (suc k)), w, e) a b c = absurd (omega arith)

module _ (local : OneLocal) (offset : OneOffset) (rules : OneRule) (sound : (text : List ℕ) (number : ℕ) (a : RuleText) → RuleFault text number → SpellsRule text a → ⊥) where
  local_one : IsFunctional IsLocalLine
  local_one line a b h k = local (line_value line) a b h.2 k.2

  offset_one : IsFunctional IsOffsetLine
  offset_one line a b h k = offset (line_value line) a b h k

  times_same : (lines : Lines) (a b : Observance) → SaysPartTimes lines a → SaysPartTimes lines b → SameTimes a b
  times_same lines a b s t =
      let start = said_same IsLocalLine (codes "DTSTART") lines (local_time a.day a.second) (local_time b.day b.second) local_one s.start t.start in
      record {
        day = same_day a.day a.second b.day b.second start s.second t.second;
        second = same_second a.day a.second b.day b.second start s.second t.second;
        from = said_same IsOffsetLine (codes "TZOFFSETFROM") lines a.offset_from b.offset_from offset_one s.from t.from;
        to = said_same IsOffsetLine (codes "TZOFFSETTO") lines a.offset_to b.offset_to offset_one s.to t.to;
      }

  once_same : (lines : Lines) (a b : Observance) → SaysOnce lines a → SaysOnce lines b → a ≡ b
  once_same lines a b s t =
      let e = times_same lines a b s.times t.times in
      observance_same a b e.day e.second (s.is ∙ sym t.is) e.from e.to

  year_one : IsFunctional IsYearLine
  year_one line a b (r, spelled, one) (q, spelled_too, other) =
      let same = rules (line_value line) r q spelled spelled_too in
      let o = one_day_parts r a one in
      let k = one_named r a.month a.days b o.month o.days (subst (λ (x : RuleText). is_one_day x b ≡ true) (sym same) other) in
      year_rule_same a b k.0 k.1

  yearly_same : (lines : Lines) (a b : Observance) → SaysYearly lines a → SaysYearly lines b → a ≡ b
  yearly_same lines a b s t =
      let e = times_same lines a b s.times t.times in
      let each = said_same IsYearLine (codes "RRULE") lines s.each t.each year_one s.rule t.rule in
      let rule : a.rule ≡ b.rule = s.is ∙ ap (λ r. Some (year_pattern r a.day)) each ∙ ap (λ n. Some (year_pattern t.each n)) e.day ∙ sym t.is in
      observance_same a b e.day e.second rule e.from e.to

  -- ---- the forms

  keeps_one : (lines : Lines) (k : ℤ) (o : Observance) → KeepsOffset k lines → SaysPartTimes lines o → (o.offset_from ≡ k) × (o.offset_to ≡ k)
  keeps_one lines k o h s =
      let e = times_same lines o h.0 s h.1 in
      (e.from ∙ h.2, e.to ∙ h.3)

  pub all_differ : (parts : List Lines) (k : ℤ) → ((other : Lines) → Contains parts other → KeepsOffset k other) → OffsetsDiffer parts → ⊥
  all_differ parts k all d =
      let here = keeps_one d.one k d.o (all d.one d.one_in) d.says in
      let there = keeps_one d.other k d.strays.0 (all d.other d.other_in) d.strays.1 in
      d.strays.2 (there.0 ∙ sym here.0, there.1 ∙ sym here.0)

  one_of : (x y : Lines) (xs : List Lines) → xs ≡ x ∷ [] → xs ≡ y ∷ [] → x ≡ y
  one_of x y xs e f = cc

  too_many : (p q : Lines) (parts standards daylights : List Lines) → AreParts parts standards daylights → length parts ≡ 1 → standards ≡ p ∷ [] → daylights ≡ q ∷ [] → ⊥
  too_many p q parts standards daylights are one e f =
      let a : length standards ≡ 1 = ap length e in
      let b : length daylights ≡ 1 = ap length f in
      absurd (omega (arith, are.sizes))

  form_same : (parts standards daylights : List Lines) (z w : Zone) → AreParts parts standards daylights → HasForm parts standards daylights z → HasForm parts standards daylights w → z ≡ w
  form_same ps ss ds z w are (constant k p c all) (constant j q d each) =
      let o = each p c in
      ap Constant (sym (keeps_one p k o.0 (all p c) o.1).0 ∙ o.2)
  form_same ps ss ds z w are (constant k p c all) (single q b differ e t) = absurd (all_differ ps k all differ)
  form_same ps ss ds z w are (constant k p c all) (pair q r a b differ e f s t) = absurd (all_differ ps k all differ)
  form_same ps ss ds z w are (single p a differ e s) (constant j q d each) = absurd (all_differ ps j each differ)
  form_same ps ss ds z w are (single p a differ e s) (single q b differ_too f t) = ap Single (once_same q a b (subst (λ (x : Lines). SaysOnce x a) (one_of p q ps e f) s) t)
  form_same ps ss ds z w are (single p a differ e s) (pair q r b d differ_too f g t u) = absurd (too_many q r ps ss ds are (ap length e) f g)
  form_same ps ss ds z w are (pair p q a b differ e f s t) (constant j r d each) = absurd (all_differ ps j each differ)
  form_same ps ss ds z w are (pair p q a b differ e f s t) (single r d differ_too g u) = absurd (too_many p q ps ss ds are (ap length g) e f)
  form_same ps ss ds z w are (pair p q a b differ e f s t) (pair u v c d differ_too g h x y) =
      let first = yearly_same u a c (subst (λ (l : Lines). SaysYearly l a) (one_of p u ss e g) s) x in
      let second = yearly_same v b d (subst (λ (l : Lines). SaysYearly l b) (one_of q v ds f h) t) y in
      ap (λ o. Pair o b) first ∙ ap (Pair c) second

  -- ---- faults

  part_says : (parts standards daylights : List Lines) (z : Zone) → AreParts parts standards daylights → HasForm parts standards daylights z → (x : Lines) → Contains parts x → (o : Observance) × SaysPartTimes x o
  part_says ps ss ds z are (constant k p c all) x there = let h = all x there in (h.0, h.1)
  part_says ps ss ds z are (single p a differ e s) x there =
      (a, subst (λ (l : Lines). SaysPartTimes l a) (at_one p x (subst (λ (ls : List Lines). Contains ls x) e there)) s.times)
  part_says ps ss ds z are (pair p q a b differ e f s t) x there =
      elim (are.which x there) [
        | inl h ↦ (a, subst (λ (l : Lines). SaysPartTimes l a) (at_one p x (subst (λ (ls : List Lines). Contains ls x) e h)) s.times)
        | inr h ↦ (b, subst (λ (l : Lines). SaysPartTimes l b) (at_one q x (subst (λ (ls : List Lines). Contains ls x) f h)) t.times)
      ]

  times_sound : (lines : Lines) (o : Observance) (n : ℕ) → SaysPartTimes lines o → TimesFault lines n → ⊥
  times_sound lines o n s (dates f) = f s.no_dates
  times_sound lines o n s (missing name c h) =
      each_name (λ x. IsMissing x lines → ⊥) name c (present IsLocalLine (codes "DTSTART") lines (local_time o.day o.second) s.start)
      (present IsOffsetLine (codes "TZOFFSETFROM") lines o.offset_from s.from) (present IsOffsetLine (codes "TZOFFSETTO") lines o.offset_to s.to) h
  times_sound lines o n s (twice name c h) =
      each_name (λ x. OccursMoreThanOnce x lines → ⊥) name c (occurs_once IsLocalLine (codes "DTSTART") lines (local_time o.day o.second) s.start)
      (occurs_once IsOffsetLine (codes "TZOFFSETFROM") lines o.offset_from s.from) (occurs_once IsOffsetLine (codes "TZOFFSETTO") lines o.offset_to s.to) h
  times_sound lines o n s (fixed (line, c, inl z)) =
      let said = said_by IsLocalLine (codes "DTSTART") lines (local_time o.day o.second) line s.start c in no_z (line_value line) (local_time o.day o.second) said.2 z
  times_sound lines o n s (fixed (line, c, inr zone)) =
      let said = said_by IsLocalLine (codes "DTSTART") lines (local_time o.day o.second) line s.start c in zone said.1
  times_sound lines o n s (bad_start (line, c, inl other)) =
      let said = said_by IsLocalLine (codes "DTSTART") lines (local_time o.day o.second) line s.start c in true≢false (sym said.0 ∙ other)
  times_sound lines o n s (bad_start (line, c, inr none)) =
      let said = said_by IsLocalLine (codes "DTSTART") lines (local_time o.day o.second) line s.start c in none (local_time o.day o.second) said.2
  times_sound lines o n s (bad_from (line, c, none)) = none o.offset_from (said_by IsOffsetLine (codes "TZOFFSETFROM") lines o.offset_from line s.from c)
  times_sound lines o n s (bad_to (line, c, none)) = none o.offset_to (said_by IsOffsetLine (codes "TZOFFSETTO") lines o.offset_to line s.to c)

  year_sound : (lines : Lines) (o : Observance) → SaysYearly lines o → HasNoYearRule lines → ⊥
  year_sound lines o s (inl h) = present IsYearLine (codes "RRULE") lines s.each s.rule h
  year_sound lines o s (inr (inl h)) = occurs_once IsYearLine (codes "RRULE") lines s.each s.rule h
  year_sound lines o s (inr (inr (line, c, inl (n, fault)))) =
      let said = said_by IsYearLine (codes "RRULE") lines s.each line s.rule c in sound (line_value line) n said.0 fault said.1
  year_sound lines o s (inr (inr (line, c, inr (rule, spelled, none)))) =
      let said = said_by IsYearLine (codes "RRULE") lines s.each line s.rule c in
      none s.each (subst (λ (r : RuleText). is_one_day r s.each ≡ true) (rules (line_value line) said.0 rule said.1 spelled) said.2)

  some_part : (parts standards daylights : List Lines) (z : Zone) → AreParts parts standards daylights → HasForm parts standards daylights z → parts ≡ [] → ⊥
  some_part ps ss ds z are (constant k p c all) none = let h = subst (λ (ls : List Lines). Contains ls p) none c in absurd (omega (arith, h.1))
  some_part ps ss ds z are (single p a differ e s) none = let f : p ∷ [] ≡ [] = sym e ∙ none in cc
  some_part ps ss ds z are (pair p q a b differ e f s t) none =
      let x : length ps ≡ 0 = ap length none in
      let y : length ss ≡ 1 = ap length e in
      absurd (omega (arith, are.sizes))

  apart_sound : (z : Zone) → AreSpaced z → AreClose z → ⊥
  apart_sound (Constant k) s h = h
  apart_sound (Single a) s h = h
  apart_sound (Pair a b) s (x, y, h, j, near) = absurd (omega (arith, s x y h j))

  ruled_sound : (parts standards daylights : List Lines) (z : Zone) (part : Lines) → AreParts parts standards daylights → HasForm parts standards daylights z → OffsetsDiffer parts → parts ≡ part ∷ [] → (IsMissing (codes "RRULE") part → ⊥) → ⊥
  ruled_sound ps ss ds z part are (constant k p c all) differ one h = all_differ ps k all differ
  ruled_sound ps ss ds z part are (single p a other e s) differ one h = h (subst (λ (l : Lines). IsMissing (codes "RRULE") l) (one_of p part ps e one) s.no_rule)
  ruled_sound ps ss ds z part are (pair p q a b other e f s t) differ one h = too_many p q ps ss ds are (ap length one) e f

  other_sound : (parts standards daylights : List Lines) (z : Zone) → AreParts parts standards daylights → HasForm parts standards daylights z → OffsetsDiffer parts → (length parts ≡ 1 → ⊥) → ((length standards ≡ 1) × (length daylights ≡ 1) → ⊥) → ⊥
  other_sound ps ss ds z are (constant k p c all) differ one two = all_differ ps k all differ
  other_sound ps ss ds z are (single p a other e s) differ one two = one (ap length e)
  other_sound ps ss ds z are (pair p q a b other e f s t) differ one two = two (ap length e, ap length f)

  unruled_sound : (parts standards daylights : List Lines) (z : Zone) (u v : Lines) → AreParts parts standards daylights → HasForm parts standards daylights z → OffsetsDiffer parts → standards ≡ u ∷ [] → daylights ≡ v ∷ [] → HasNoYearRule u ⊎ HasNoYearRule v → ⊥
  unruled_sound ps ss ds z u v are (constant k p c all) differ g h none = all_differ ps k all differ
  unruled_sound ps ss ds z u v are (single p a other e s) differ g h none = too_many u v ps ss ds are (ap length e) g h
  unruled_sound ps ss ds z u v are (pair p q a b other e f s t) differ g h (inl none) = year_sound p a s (subst HasNoYearRule (one_of u p ss g e) none)
  unruled_sound ps ss ds z u v are (pair p q a b other e f s t) differ g h (inr none) = year_sound q b t (subst HasNoYearRule (one_of v q ds h f) none)

  no_fault : (parts standards daylights : List Lines) (z : Zone) (n : ℕ) → AreParts parts standards daylights → PartsSay parts standards daylights z → PartsFault parts standards daylights n → ⊥
  no_fault ps ss ds z n are s (no_part e) = some_part ps ss ds z are s.form e
  no_fault ps ss ds z n are s (in_part part c f) = let o = part_says ps ss ds z are s.form part c in times_sound part o.0 n o.1 f
  no_fault ps ss ds z n are s (ruled part differ e h) = ruled_sound ps ss ds z part are s.form differ e h
  no_fault ps ss ds z n are s (other_parts differ one two) = other_sound ps ss ds z are s.form differ one two
  no_fault ps ss ds z n are s (unruled p q differ e f h) = unruled_sound ps ss ds z p q are s.form differ e f h
  no_fault ps ss ds z n are s (unmatched w form h) = h (subst AreMatched (form_same ps ss ds z w are s.form form) s.matched)
  no_fault ps ss ds z n are s (close w form h) = apart_sound w (subst AreSpaced (form_same ps ss ds z w are s.form form) s.spaced) h

  pub one_zone : (t : Tree) (a b : Zone) → SaysZone t a → SaysZone t b → a ≡ b
  one_zone t a b s u = form_same (parts_by is_part t) (parts_by is_standard t) (parts_by is_daylight t) a b (tree_parts t) s.form u.form

  pub or_a_fault : (t : Tree) (a : Zone) (n : ℕ) → SaysZone t a → ZoneFault t n → ⊥
  or_a_fault t a n s f = no_fault (parts_by is_part t) (parts_by is_standard t) (parts_by is_daylight t) a n (tree_parts t) s f
