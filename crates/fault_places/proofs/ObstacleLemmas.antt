-- What of a VTIMEZONE is in the way: what is left where nothing of a part's times is.
use Rattle.std.proofs.Common.{◌≡◌, ◌∙◌, ap, sym, refl, subst, ℕ, zero, suc, ◌+◌, ◌-◌, ◌<◌, Bool, true, false, cond, List, [], ◌∷◌, length, map, filter, get_or, take, drop, codes, arith}
use Rattle.std.specs.Prelude.{Option, Some, None, IfSome, Contains, ◌||◌}
use Rattle.std.specs.Option.{is_none}
use Rattle.std.proofs.lemmas.List.{take_rest}
use Rattle.ical_tree.specs.Tree.{component_name, component_lines, component_children}
use Rattle.ical_tree.specs.declared.component.Component.{Component}
use Rattle.profile.specs.events.Properties.{lines_named}
use Rattle.profile.specs.series.ZoneTexts.{OffsetsDiffer, PartsFault, TimesFault, is_part, is_standard, is_daylight, time_names, no_part, in_part, ruled, other_parts, unruled, unmatched, close}
use Rattle.cal_zones.specs.Read.{HasZoneFault, daylights_of, standards_of, zone_parts, parts_in}
use Rattle.cal_zones.proofs.PartLemmas.{all_left, drop_other, drop_part}
use Rattle.fault_places.specs.Obstacles.{StandsBehind, IsFirstLine, IsLocalOnce, IsOnce, IsNthPart, IsSecondLine, named}

-- ---- a property that occurs once

pub one_of : {A : Type 0} (xs : List A) (x : A) → StandsBehind 0 xs x → drop 1 xs ≡ [] → xs ≡ x ∷ []
one_of [] x (others, e) none = cc
one_of (y ∷ ys) x (others, e) none = e ∙ ap (λ zs. x ∷ zs) (sym (ap (drop 1) e) ∙ none)

never_none : {A : Type 0} (x : A) (xs : List A) → x ∷ xs ≡ [] → ⊥
never_none x xs e = cc

-- one that is there, and no second
pub once_there : {X : Type 0} (text : X → List ℕ) (name one two : List ℕ) (lines : List (List ℕ)) (r : Option X) → one ≡ name → two ≡ name → is_none r ≡ false
    → IfSome r (λ x. IsFirstLine one lines (text x)) → drop 1 (lines_named two lines) ≡ [] → IsOnce name lines
once_there text name one two lines None e f some found none = cc
once_there text name one two lines (Some x) e f some found none =
    (text x, one_of (lines_named name lines) (text x) (subst (λ (n : List ℕ). IsFirstLine n lines (text x)) e found) (subst (λ (n : List ℕ). drop 1 (lines_named n lines) ≡ []) f none))

-- the second line is the first behind the first
pub is_second : (name : List ℕ) (lines left later rest : List (List ℕ)) (first line : List ℕ) → left ≡ lines → lines_named name left ≡ first ∷ later → later ≡ line ∷ rest → IsSecondLine name lines line
is_second name lines left later rest first line same e f = (rest, ap (λ l. drop 1 (lines_named name l)) (sym same) ∙ ap (drop 1) e ∙ f)

-- so is the second component of a name
pub second_of : (zone : Component) (name : List ℕ) (all again rest : List Component) (place : ℕ) (first second : Component) → all ≡ component_children zone → again ≡ component_children zone
    → named name all ≡ first ∷ named name (drop (place + 1) all) → named name (take (length again - (place + 1)) (drop (place + 1) again)) ≡ second ∷ rest → IsNthPart zone name 1 second
second_of zone name all again rest place first second e f one two =
    (rest, ap (λ l. drop 1 (named name l)) (sym e) ∙ ap (drop 1) one ∙ ap (λ l. named name (drop (place + 1) l)) (e ∙ sym f) ∙ ap (named name) (sym (take_rest again (place + 1))) ∙ two)

-- ---- the times of a part

each_once : (part : List (List ℕ)) → IsLocalOnce part → IsOnce (codes "TZOFFSETFROM") part → IsOnce (codes "TZOFFSETTO") part → (name : List ℕ) → Contains time_names name → IsOnce name part
each_once part (line, once, local) from to name (zero, w, e) = subst (λ (n : List ℕ). IsOnce n part) e (line, once)
each_once part start from to name (suc zero, w, e) = subst (λ (n : List ℕ). IsOnce n part) e from
each_once part start from to name (suc (suc zero), w, e) = subst (λ (n : List ℕ). IsOnce n part) e to
each_once part start from to name (suc (suc (suc k)), w, e) = absurd (omega arith)

-- ---- the offsets differ, where a VTIMEZONE is refused and the times of its parts are right

abbrev pub AreRight : List (List (List ℕ)) → Type 0
AreRight parts = (part : List (List ℕ)) → Contains parts part → TimesFault part 40 → ⊥

-- the next component is a part that is right, or no part
pub right_further : (children : List Component) (i : ℕ) (c : Component) (all : List (List (List ℕ))) → i < length children → c ≡ get_or children i c → is_part (component_name c) ≡ true
    → (TimesFault (component_lines c) 40 → ⊥) → (AreRight (parts_in is_part (drop i children)) → AreRight all) → AreRight (parts_in is_part (drop (i + 1) children)) → AreRight all
right_further children i c all within here is right so_far later =
    so_far (all_left (λ part. TimesFault part 40 → ⊥) (component_lines c) (parts_in is_part (drop (i + 1) children)) (parts_in is_part (drop i children)) (drop_part is_part children i c within here is) right later)

pub right_past : (children : List Component) (i : ℕ) (c : Component) (all : List (List (List ℕ))) → i < length children → c ≡ get_or children i c → is_part (component_name c) ≡ false
    → (AreRight (parts_in is_part (drop i children)) → AreRight all) → AreRight (parts_in is_part (drop (i + 1) children)) → AreRight all
right_past children i c all within here is so_far later = so_far (subst AreRight (sym (drop_other is_part children i c within here is)) later)

differ_by : (parts standards daylights : List (List (List ℕ))) (n : ℕ) → n ≡ 40 → AreRight parts → (parts ≡ [] → ⊥) → PartsFault parts standards daylights n → OffsetsDiffer parts
differ_by parts standards daylights n e right some (no_part none) = absurd (some none)
differ_by parts standards daylights n e right some (in_part part there fault) = absurd (right part there (subst (TimesFault part) e fault))
differ_by parts standards daylights n e right some (ruled part differ is has) = differ
differ_by parts standards daylights n e right some (other_parts differ one both) = differ
differ_by parts standards daylights n e right some (unruled standard daylight differ one other rule) = differ
differ_by parts standards daylights n e right some (unmatched zone form h) = absurd (omega (arith, e))
differ_by parts standards daylights n e right some (close zone form h) = absurd (omega (arith, e))

pub differ : (zone : Component) → HasZoneFault zone 40 → AreRight (zone_parts zone) → (zone_parts zone ≡ [] → ⊥) → OffsetsDiffer (zone_parts zone)
differ zone fault right some = differ_by (zone_parts zone) (standards_of zone) (daylights_of zone) 40 refl right some fault

-- ---- the parts by their names

left_step : {A : Type 0} (a b : Bool) (x : A) (fq fo fp : List A) → cond b (x ∷ fq) fq ≡ [] → (fq ≡ [] → fo ≡ fp) → cond (a || b) (x ∷ fo) fo ≡ cond a (x ∷ fp) fp
left_step a true x fq fo fp e k = cc
left_step true false x fq fo fp e k = ap (λ l. x ∷ l) (k e)
left_step false false x fq fo fp e k = k e

left_alone : {A : Type 0} (p q : A → Bool) (xs : List A) → filter q xs ≡ [] → filter (λ x. p x || q x) xs ≡ filter p xs
left_alone p q [] e = refl
left_alone p q (x ∷ xs) e = left_step (p x) (q x) x (filter q xs) (filter (λ y. p y || q y) xs) (filter p xs) e (left_alone p q xs)

right_step : {A : Type 0} (a b : Bool) (x : A) (fp fo fq : List A) → cond a (x ∷ fp) fp ≡ [] → (fp ≡ [] → fo ≡ fq) → cond (a || b) (x ∷ fo) fo ≡ cond b (x ∷ fq) fq
right_step true b x fp fo fq e k = cc
right_step false true x fp fo fq e k = ap (λ l. x ∷ l) (k e)
right_step false false x fp fo fq e k = k e

right_alone : {A : Type 0} (p q : A → Bool) (xs : List A) → filter p xs ≡ [] → filter (λ x. p x || q x) xs ≡ filter q xs
right_alone p q [] e = refl
right_alone p q (x ∷ xs) e = right_step (p x) (q x) x (filter p xs) (filter (λ y. p y || q y) xs) (filter q xs) e (right_alone p q xs)

left_none : {A : Type 0} (a b : Bool) (x : A) (fo fp : List A) → cond (a || b) (x ∷ fo) fo ≡ [] → (fo ≡ [] → fp ≡ []) → cond a (x ∷ fp) fp ≡ []
left_none true b x fo fp e k = cc
left_none false true x fo fp e k = cc
left_none false false x fo fp e k = k e

none_left : {A : Type 0} (p q : A → Bool) (xs : List A) → filter (λ x. p x || q x) xs ≡ [] → filter p xs ≡ []
none_left p q [] e = refl
none_left p q (x ∷ xs) e = left_none (p x) (q x) x (filter (λ y. p y || q y) xs) (filter p xs) e (none_left p q xs)

right_none : {A : Type 0} (a b : Bool) (x : A) (fo fq : List A) → cond (a || b) (x ∷ fo) fo ≡ [] → (fo ≡ [] → fq ≡ []) → cond b (x ∷ fq) fq ≡ []
right_none true b x fo fq e k = cc
right_none false true x fo fq e k = cc
right_none false false x fo fq e k = k e

none_right : {A : Type 0} (p q : A → Bool) (xs : List A) → filter (λ x. p x || q x) xs ≡ [] → filter q xs ≡ []
none_right p q [] e = refl
none_right p q (x ∷ xs) e = right_none (p x) (q x) x (filter (λ y. p y || q y) xs) (filter q xs) e (none_right p q xs)

none_mapped : {A B : Type 0} (f : A → B) (xs : List A) → map f xs ≡ [] → xs ≡ []
none_mapped f [] e = refl
none_mapped f (x ∷ xs) e = cc

none_dropped : {A : Type 0} (n : ℕ) (xs : List A) (x : A) → StandsBehind n xs x → xs ≡ [] → ⊥
none_dropped zero xs x (others, e) none = never_none x others (sym e ∙ none)
none_dropped (suc n) xs x (others, e) none = never_none x others (sym e ∙ ap (drop (suc n)) none)

abbrev pub standard_of : Component → Bool
standard_of c = is_standard (component_name c)

abbrev pub daylight_of : Component → Bool
daylight_of c = is_daylight (component_name c)

-- a part is there
pub some_standard : (zone part : Component) (n : ℕ) → IsNthPart zone (codes "STANDARD") n part → zone_parts zone ≡ [] → ⊥
some_standard zone part n is none =
    none_dropped n (filter standard_of (component_children zone)) part is (none_left standard_of daylight_of (component_children zone) (none_mapped component_lines (filter (λ c. is_part (component_name c)) (component_children zone)) none))

pub some_daylight : (zone part : Component) (n : ℕ) → IsNthPart zone (codes "DAYLIGHT") n part → zone_parts zone ≡ [] → ⊥
some_daylight zone part n is none =
    none_dropped n (filter daylight_of (component_children zone)) part is (none_right standard_of daylight_of (component_children zone) (none_mapped component_lines (filter (λ c. is_part (component_name c)) (component_children zone)) none))

-- the only part
pub only_standard : (zone part : Component) → IsNthPart zone (codes "STANDARD") 0 part → drop 1 (filter standard_of (component_children zone)) ≡ [] → filter daylight_of (component_children zone) ≡ [] → zone_parts zone ≡ component_lines part ∷ []
only_standard zone part is once none =
    ap (map component_lines) (left_alone standard_of daylight_of (component_children zone) none ∙ one_of (filter standard_of (component_children zone)) part is once)

pub only_daylight : (zone part : Component) → IsNthPart zone (codes "DAYLIGHT") 0 part → drop 1 (filter daylight_of (component_children zone)) ≡ [] → filter standard_of (component_children zone) ≡ [] → zone_parts zone ≡ component_lines part ∷ []
only_daylight zone part is once none =
    ap (map component_lines) (right_alone standard_of daylight_of (component_children zone) none ∙ one_of (filter daylight_of (component_children zone)) part is once)

pub no_parts : (zone : Component) → filter standard_of (component_children zone) ≡ [] → filter daylight_of (component_children zone) ≡ [] → zone_parts zone ≡ []
no_parts zone none other = ap (map component_lines) (left_alone standard_of daylight_of (component_children zone) other ∙ none)

-- one of each name
pub one_named : (zone part : Component) (test : Component → Bool) → StandsBehind 0 (filter test (component_children zone)) part → drop 1 (filter test (component_children zone)) ≡ [] → map component_lines (filter test (component_children zone)) ≡ component_lines part ∷ []
one_named zone part test is once = ap (map component_lines) (one_of (filter test (component_children zone)) part is once)
