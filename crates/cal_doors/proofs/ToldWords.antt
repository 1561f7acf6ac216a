-- Words of an object for an answer, and lines that are told in them.
use Rattle.std.proofs.Common.{◌≡◌, ◌∙◌, ◌⊎◌, inl, inr, ℕ, ◌<◌, ℤ, true, List, [], ◌∷◌, length, get_or, codes, sym, ap, subst}
use Rattle.std.specs.Prelude.{Contains, Some, None, option_map, unwrap_or}
use Rattle.std.specs.List.{AllZip}
use Rattle.std.proofs.lemmas.List.Elements.{Contains-push_cases, Contains-append_cases, All-get_or, All-head, All-tail, All-contains_itself, All-contains}
use Rattle.profile.specs.text.Lines.{line_name, line_value, line_param}
use Rattle.profile.specs.text.Trees.{Tree, vevents}
use Rattle.profile.specs.events.Properties.{Fixed, Unsaid, is_of, kind_named, time_kind}
use Rattle.profile.specs.events.ZonedTimes.{SaysInstant}
use Rattle.profile.specs.doors.Uses.{is_time_line, IsLineIn}
use Rattle.profile.specs.doors.Returning.{TellsSame}
use Rattle.profile.specs.doors.Returning.TellsSame.{kept, instance, in_zone}
use Rattle.cal_doors.specs.declared.words.Instance.{Instance}
use Rattle.cal_doors.specs.declared.words.Words.{Words}
use Rattle.ical_tree.specs.declared.component.Component.{Component}
use Rattle.ical_tree.specs.Tree.{component_lines, component_children, tree_of}
use Rattle.cal_doors.proofs.UsesEvents.{events_are}
use Rattle.cal_doors.proofs.UsesScans.{none_in}
use Rattle.cal_doors.proofs.ToldEvents.{event_in}
use Rattle.cal_doors.specs.Told.{is_event, events_among, IsInstanceOf, AreAllInstancesOf, NamesInstance, AreWordsOf, NamesSame, AreSameZone}

-- the instance that stands at a place
pub instance_at : (read answer : Tree) (words : Words) (items : List Instance) (line : List ℕ) (i : ℕ) (d : Instance) (t : ℤ) → items ≡ words.instances.items → i < length items
    → (get_or items i d).instant ≡ t → is_of (codes "RECURRENCE-ID") line ≡ true → SaysInstant answer line Fixed t → AreWordsOf read answer words
    → NamesSame read answer line (get_or items i d).text.now
instance_at read answer words items line i d t all w same is says are = record {
  instant = t;
  is = is;
  says = says;
  names = subst (NamesInstance read (get_or items i d).text.now) same (All-get_or (IsInstanceOf read) items i d w (subst (AreAllInstancesOf read) (sym all) are.instances));
}

-- a VEVENT that stands at a place of an object
pub event_of : (object : Component) (items : List Component) (i : ℕ) (d : Component) → items ≡ component_children object → i < length items → is_event (get_or items i d) ≡ true
    → Contains (vevents (tree_of object)) (component_lines (get_or items i d))
event_of object items i d are w is =
    subst (λ l. Contains l (component_lines (get_or items i d))) (ap events_among are ∙ sym (events_are object)) (event_in items i d w is)

-- ---- a line is told

pub told_kept : (read answer : Tree) (line other : List ℕ) → line ≡ other → None ≡ line_param (codes "TZID") line → TellsSame read answer line other
told_kept read answer line other same none = kept (sym same) (sym none)

pub told_instance : (read answer : Tree) (line other text : List ℕ) → text ≡ other → NamesSame read answer line text → TellsSame read answer line other
told_instance read answer line other text same n =
    subst (TellsSame read answer line) same (instance n.names.lines n.instant n.is n.names.is n.names.event n.names.among n.says n.names.says)

pub told_in_zone : (read answer : Tree) (line other name new : List ℕ) → is_time_line line ≡ true → line_name other ≡ line_name line → line_value other ≡ line_value line
    → time_kind other ≡ time_kind line → Some name ≡ line_param (codes "TZID") line → Some new ≡ line_param (codes "TZID") other → AreSameZone read answer name new
    → TellsSame read answer line other
told_in_zone read answer line other name new is n v k named news (zone, here, there) = in_zone name new zone is n v k (sym named) (sym news) here there

pub same_kind : (line other : List ℕ) → line_param (codes "VALUE") line ≡ line_param (codes "VALUE") other → time_kind other ≡ time_kind line
same_kind line other same = sym (ap (λ o. unwrap_or (option_map kind_named o) Unsaid) same)

-- ---- lines one by one

-- a line among some, which begin with another, is that one or is among the others
pub among_first : (x : List ℕ) (rest : List (List ℕ)) (y : List ℕ) → Contains rest y → Contains (x ∷ rest) y
among_first x rest y h = All-contains (Contains (x ∷ rest)) rest y (All-tail (Contains (x ∷ rest)) x rest (All-contains_itself (x ∷ rest))) h

pub is_first : (x : List ℕ) (rest : List (List ℕ)) → Contains (x ∷ rest) x
is_first x rest = All-head (Contains (x ∷ rest)) x rest (All-contains_itself (x ∷ rest))

pub alone : {X : Type 0} (x y : X) → Contains (x ∷ []) y → x ≡ y
alone x y h = elim (Contains-push_cases [] x y h) [ inl none ↦ absurd (none_in y none) | inr same ↦ same ]

first_or : {X : Type 0} (x : X) (rest : List X) (y : X) → Contains (x ∷ rest) y → (x ≡ y) ⊎ Contains rest y
first_or x rest y h = elim (Contains-append_cases (x ∷ []) rest y h) [ inl one ↦ inl (alone x y one) | inr later ↦ inr later ]

pub no_line : (name line : List ℕ) → IsLineIn name [] line → ⊥
no_line name line is = none_in line is.among

-- what is so of the first line and of the others is so of all
pub each_line : (P : List ℕ → Type 0) (x : List ℕ) (rest : List (List ℕ)) → ((name : List ℕ) → is_time_line x ≡ true → line_param (codes "TZID") x ≡ Some name → P name)
    → ((name line : List ℕ) → IsLineIn name rest line → P name) → (name line : List ℕ) → IsLineIn name (x ∷ rest) line → P name
each_line P x rest here there name line is = go (first_or x rest line is.among)
  where
    go : (x ≡ line) ⊎ Contains rest line → P name
    go (inl same) = here name (subst (λ l. is_time_line l ≡ true) (sym same) is.says_times) (subst (λ l. line_param (codes "TZID") l ≡ Some name) (sym same) is.in_zone)
    go (inr later) = there name line (record { among = later; says_times = is.says_times; in_zone = is.in_zone })

-- pairs of lines
pub zip_first : {A B : Type 0} (R : A → B → Type 0) (xs more : List A) (ys others : List B) (x : A) (y : B) → xs ≡ x ∷ more → ys ≡ y ∷ others → R x y → AllZip R more others
    → AllZip R xs ys
zip_first R xs more ys others x y e f r rest = subst (λ l. AllZip R l ys) (sym e) (subst (AllZip R (x ∷ more)) (sym f) (r, rest))

pub zip_end : {A B : Type 0} (R : A → B → Type 0) (xs : List A) (ys : List B) → xs ≡ [] → ys ≡ [] → AllZip R xs ys
zip_end R xs ys e f = subst (λ l. AllZip R l ys) (sym e) (subst (AllZip R []) (sym f) tt)
