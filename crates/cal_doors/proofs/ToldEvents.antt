-- The VEVENTs among components, while these are gone through.
use Rattle.std.proofs.Common.{◌≡◌, ◌∙◌, ℕ, ◌<◌, Bool, true, false, cond, List, [], ◌∷◌, ◌++◌, ◌+◌, map, filter, codes, drop, length, get_or, sym, refl, ap, subst}
use Rattle.std.specs.Prelude.{Contains, All, Vec}
use Rattle.std.specs.List.{AllZip}
use Rattle.std.proofs.lemmas.List.Elements.{All-nil, All-cons, All-head, All-tail, All-weaker, All-get_or, All-contains_itself, All-contains}
use Rattle.ical_tree.specs.declared.component.Component.{Component}
use Rattle.ical_tree.specs.Tree.{component_lines, component_children, tree_of}
use Rattle.ical_tree.proofs.TreeOfLemmas.{tree_of-name, tree_of-inside}
use Rattle.profile.specs.text.Lines.{is_same_name}
use Rattle.profile.specs.text.Trees.{Tree, tree_name}
use Rattle.profile.specs.doors.Returning.{event_trees}
use Rattle.ical_tree.proofs.OneLine.{at_place}
use Rattle.cal_doors.specs.Told.{is_event, events_among, trees_among, IsEventFirst, BeginsWithEvent}

abbrev Event : Type 0
Event = List (List ℕ)

pub event_first : (c : Component) (cs : List Component) → is_event c ≡ true → events_among (c ∷ cs) ≡ component_lines c ∷ events_among cs
event_first c cs is = ap (λ b. map component_lines (cond b (c ∷ filter is_event cs) (filter is_event cs))) is

pub other_first : (c : Component) (cs : List Component) → is_event c ≡ false → events_among (c ∷ cs) ≡ events_among cs
other_first c cs is = ap (λ b. map component_lines (cond b (c ∷ filter is_event cs) (filter is_event cs))) is

-- ---- what all of them are

module _ (P : Event → Type 0) where
  pub all_more : (rest later : List Component) (c : Component) → rest ≡ c ∷ later → is_event c ≡ true → P (component_lines c) → All P (events_among later) → All P (events_among rest)
  all_more rest later c is event p h =
      subst (All P) (sym (ap events_among is ∙ event_first c later event)) (All-cons P (component_lines c) (events_among later) p h)

  pub all_other : (rest later : List Component) (c : Component) → rest ≡ c ∷ later → is_event c ≡ false → All P (events_among later) → All P (events_among rest)
  all_other rest later c is other h = subst (All P) (sym (ap events_among is ∙ other_first c later other)) h

  pub all_none : (rest : List Component) → rest ≡ [] → All P (events_among rest)
  all_none rest none = subst (All P) (sym (ap events_among none)) (All-nil P)

-- ---- one of them

abbrev Is_in : List Component → Component → Type 0
Is_in cs x = is_event x ≡ true → Contains (events_among cs) (component_lines x)

more_in : (c : Component) (cs : List Component) (l : Event) → Contains (events_among cs) l → Contains (events_among (c ∷ cs)) l
more_in c cs l h = go (is_event c) refl
  where
    go : (b : Bool) → is_event c ≡ b → Contains (events_among (c ∷ cs)) l
    go true e = subst (λ ls. Contains ls l) (sym (event_first c cs e))
        (All-contains (Contains (component_lines c ∷ events_among cs)) (events_among cs) l
        (All-tail (Contains (component_lines c ∷ events_among cs)) (component_lines c) (events_among cs) (All-contains_itself (component_lines c ∷ events_among cs))) h)
    go false e = subst (λ ls. Contains ls l) (sym (other_first c cs e)) h

first_in : (c : Component) (cs : List Component) → Is_in (c ∷ cs) c
first_in c cs is = subst (λ ls. Contains ls (component_lines c)) (sym (event_first c cs is))
    (All-head (Contains (component_lines c ∷ events_among cs)) (component_lines c) (events_among cs) (All-contains_itself (component_lines c ∷ events_among cs)))

each_in : (cs : List Component) → All (Is_in cs) cs
each_in [] = All-nil (Is_in [])
each_in (c ∷ cs) = All-cons (Is_in (c ∷ cs)) c cs (first_in c cs)
    (All-weaker (Is_in cs) (Is_in (c ∷ cs)) (λ x h is. more_in c cs (component_lines x) (h is)) cs (each_in cs))

-- a VEVENT that stands at a place is among them
pub event_in : (cs : List Component) (i : ℕ) (d : Component) → i < length cs → is_event (get_or cs i d) ≡ true → Contains (events_among cs) (component_lines (get_or cs i d))
event_in cs i d w is = All-get_or (Is_in cs) cs i d w (each_in cs) is

-- ---- a slice from its first VEVENT on

pub pass_other : (all left later : List Component) (c : Component) → left ≡ c ∷ later → is_event c ≡ false → events_among left ≡ events_among all
    → events_among later ≡ events_among all
pass_other all left later c is other same = sym (other_first c later other) ∙ sym (ap events_among is) ∙ same

pub begin_here : (all left later : List Component) (c : Component) → left ≡ c ∷ later → is_event c ≡ true → events_among left ≡ events_among all → BeginsWithEvent all left
begin_here all left later c is event same = record { same = same; first = subst IsEventFirst (sym is) event }

pub begin_none : (all left : List Component) → left ≡ [] → events_among left ≡ events_among all → BeginsWithEvent all left
begin_none all left none same = record { same = same; first = subst IsEventFirst (sym none) tt }

-- the VEVENTs of a slice that begins with one
pub first_of : (all begin later : List Component) (c : Component) → BeginsWithEvent all begin → begin ≡ c ∷ later → events_among all ≡ component_lines c ∷ events_among later
first_of all begin later c b is = sym b.same ∙ ap events_among is ∙ event_first c later (subst IsEventFirst is b.first)

pub none_of : (all begin : List Component) → BeginsWithEvent all begin → begin ≡ [] → events_among all ≡ []
none_of all begin b none = sym b.same ∙ ap events_among none

-- ---- pairs of them

module _ (R : Event → Event → Type 0) where
  pub told_more : (rest more left begin later : List Component) (c d : Component) → rest ≡ c ∷ more → is_event c ≡ true → BeginsWithEvent left begin → begin ≡ d ∷ later
      → R (component_lines c) (component_lines d) → AllZip R (events_among more) (events_among later) → AllZip R (events_among rest) (events_among left)
  told_more rest more left begin later c d is event b begins r h =
      subst (λ l. AllZip R l (events_among left)) (sym (ap events_among is ∙ event_first c more event))
      (subst (AllZip R (component_lines c ∷ events_among more)) (sym (first_of left begin later d b begins)) (r, h))

  pub told_other : (rest more left : List Component) (c : Component) → rest ≡ c ∷ more → is_event c ≡ false → AllZip R (events_among more) (events_among left)
      → AllZip R (events_among rest) (events_among left)
  told_other rest more left c is other h = subst (λ l. AllZip R l (events_among left)) (sym (ap events_among is ∙ other_first c more other)) h

  pub told_none : (rest left begin : List Component) → rest ≡ [] → BeginsWithEvent left begin → begin ≡ [] → AllZip R (events_among rest) (events_among left)
  told_none rest left begin none b empty =
      subst (λ l. AllZip R l (events_among left)) (sym (ap events_among none)) (subst (AllZip R []) (sym (none_of left begin b empty)) tt)

-- ---- what is made of each, one by one

-- a child of an object, where it stands
pub child_at : (items all : List Component) (i : ℕ) (c : Component) → items ≡ all → i < length items → c ≡ get_or items i c → drop i all ≡ c ∷ drop (i + 1) all
child_at items all i c same w is = subst (λ l. drop i l ≡ c ∷ drop (i + 1) l) same (at_place items i c w is)

abbrev pub octets_each : {Z : Type 0} → List (Vec ℕ Z) → List (List ℕ)
octets_each made = map (λ part. part.items) made

unended : (xs : List (List ℕ)) → xs ++ [] ≡ xs
unended [] = refl
unended (x ∷ xs) = ap (λ l. x ∷ l) (unended xs)

event_tree_first : (c : Component) (cs : List Component) → is_event c ≡ true → trees_among (c ∷ cs) ≡ tree_of c ∷ trees_among cs
event_tree_first c cs is = ap (λ b. map tree_of (cond b (c ∷ filter is_event cs) (filter is_event cs))) is

other_tree_first : (c : Component) (cs : List Component) → is_event c ≡ false → trees_among (c ∷ cs) ≡ trees_among cs
other_tree_first c cs is = ap (λ b. map tree_of (cond b (c ∷ filter is_event cs) (filter is_event cs))) is

-- the VEVENTs of an object are those among its components
one_tree : (p q : Bool) (c : Component) (t : Tree) (cs : List Component) (ts : List Tree) → p ≡ q → t ≡ tree_of c → ts ≡ map tree_of cs
    → cond p (t ∷ ts) ts ≡ map tree_of (cond q (c ∷ cs) cs)
one_tree p true c t cs ts e here later = ap (λ b. cond b (t ∷ ts) ts) e ∙ ap (λ x. x ∷ ts) here ∙ ap (λ xs. tree_of c ∷ xs) later
one_tree p false c t cs ts e here later = ap (λ b. cond b (t ∷ ts) ts) e ∙ later

trees_as : (cs : List Component) → filter (λ part. is_same_name (tree_name part) (codes "VEVENT")) (map tree_of cs) ≡ trees_among cs
trees_as [] = refl
trees_as (c ∷ cs) =
    one_tree (is_same_name (tree_name (tree_of c)) (codes "VEVENT")) (is_event c) c (tree_of c) (filter is_event cs)
    (filter (λ part. is_same_name (tree_name part) (codes "VEVENT")) (map tree_of cs)) (ap (λ n. is_same_name n (codes "VEVENT")) (tree_of-name c)) refl (trees_as cs)

pub trees_are : (c : Component) → event_trees (tree_of c) ≡ trees_among (component_children c)
trees_are c = ap (filter (λ part. is_same_name (tree_name part) (codes "VEVENT"))) (tree_of-inside c) ∙ trees_as (component_children c)

module _ {Z : Type 0} (R : Tree → List ℕ → Type 0) (all : List Tree) where
  -- what comes for those that are left makes it one for each
  abbrev pub MadeSofar : List Component → List (Vec ℕ Z) → Type 0
  MadeSofar rest made = (more : List (List ℕ)) → AllZip R (trees_among rest) more → AllZip R all (octets_each made ++ more)

  pub none_made : (rest : List Component) (made : List (Vec ℕ Z)) → made ≡ [] → trees_among rest ≡ all → MadeSofar rest made
  none_made rest made none is more h = subst (λ m. AllZip R all (octets_each m ++ more)) (sym none) (subst (λ l. AllZip R l more) is h)

  mapped : (old : List (Vec ℕ Z)) (v : Vec ℕ Z) (more : List (List ℕ)) → octets_each (old ++ v ∷ []) ++ more ≡ octets_each old ++ v.items ∷ more
  mapped [] v more = refl
  mapped (x ∷ old) v more = ap (λ l. x.items ∷ l) (mapped old v more)

  pub one_made : (rest later : List Component) (c : Component) (old new : List (Vec ℕ Z)) (v : Vec ℕ Z) → rest ≡ c ∷ later → is_event c ≡ true → new ≡ old ++ v ∷ [] → R (tree_of c) (v.items)
      → MadeSofar rest old → MadeSofar later new
  one_made rest later c old new v is event made r sofar more h =
      subst (λ m. AllZip R all (octets_each m ++ more)) (sym made) (subst (AllZip R all) (sym (mapped old v more))
      (sofar (v.items ∷ more) (subst (λ l. AllZip R l (v.items ∷ more)) (sym (ap trees_among is ∙ event_tree_first c later event)) (r, h))))

  pub other_made : (rest later : List Component) (c : Component) (made : List (Vec ℕ Z)) → rest ≡ c ∷ later → is_event c ≡ false → MadeSofar rest made → MadeSofar later made
  other_made rest later c made is other sofar more h = sofar more (subst (λ l. AllZip R l more) (sym (ap trees_among is ∙ other_tree_first c later other)) h)

  pub all_made : (rest : List Component) (made : List (Vec ℕ Z)) → rest ≡ [] → MadeSofar rest made → AllZip R all (octets_each made)
  all_made rest made none sofar = subst (AllZip R all) (unended (octets_each made)) (sofar [] (subst (λ l. AllZip R l []) (sym (ap trees_among none)) tt))
