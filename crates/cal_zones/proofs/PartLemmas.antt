-- The parts of a VTIMEZONE among the components inside.
use Rattle.std.proofs.Common.{◌≡◌, ◌∙◌, ap, sym, refl, subst, ℕ, zero, suc, ◌+◌, ◌<◌, ◌≤◌, Bool, true, false, cond, List, [], ◌∷◌, ◌++◌, length, map, filter, get_or, take, drop, arith}
use denote.Ref.{Bor}
use Rattle.std.specs.Prelude.{Option, Some, None, IfSome, IfNone, option_map, Contains, find}
use Rattle.std.proofs.lemmas.Bool.{true≢false, or_left, or_right}
use Rattle.std.proofs.lemmas.List.{map-append, length-map, get_or-map, take-append-drop, drop_all}
use Rattle.std.proofs.lemmas.List.Elements.{Contains-append_right, filter-append}
use Rattle.std.proofs.lemmas.Option.{same_Some}
use Rattle.ical_tree.specs.Tree.{component_name, component_lines, component_children, tree_of}
use Rattle.ical_tree.proofs.TreeOfLemmas.{tree_of-name, tree_of-own, tree_of-inside}
use Rattle.ical_tree.specs.declared.component.Component.{Component}
use Rattle.ical_tree.proofs.OneLine.{at_place}
use Rattle.profile.specs.text.Trees.{Tree, tree_name, tree_own}
use Rattle.profile.specs.series.ZoneTexts.{parts_by, is_part, is_standard, is_daylight}
use Rattle.cal_zones.specs.Read.{parts_in}

abbrev Lines : Type 0
Lines = List (List ℕ)

-- ---- the first that passes a test

first_of : {A : Type 0} (b : Bool) (y x : A) (f : Option A) (zs : List A) → cond b (Some y) f ≡ Some x → (f ≡ Some x → (rest : List A) × (zs ≡ x ∷ rest))
    → (rest : List A) × (cond b (y ∷ zs) zs ≡ x ∷ rest)
first_of true y x f zs h k = (zs, ap (λ v. v ∷ zs) (same_Some y x h))
first_of false y x f zs h k = k h

pub find_first : {A : Type 0} (p : A → Bool) (xs : List A) (x : A) → find p xs ≡ Some x → (rest : List A) × (filter p xs ≡ x ∷ rest)
find_first p [] x h = cc
find_first p (y ∷ ys) x h = first_of (p y) y x (find p ys) (filter p ys) h (find_first p ys x)

none_of : {A : Type 0} (b : Bool) (y : A) (f : Option A) (zs : List A) → cond b (Some y) f ≡ None → (f ≡ None → zs ≡ []) → cond b (y ∷ zs) zs ≡ []
none_of true y f zs h k = cc
none_of false y f zs h k = k h

pub find_none : {A : Type 0} (p : A → Bool) (xs : List A) → find p xs ≡ None → filter p xs ≡ []
find_none p [] h = refl
find_none p (y ∷ ys) h = none_of (p y) y (find p ys) (filter p ys) h (find_none p ys)

-- ---- components

abbrev named : (List ℕ → Bool) → Component → Bool
named test c = test (component_name c)

pub first_in : (test : List ℕ → Bool) (cs : List Component) (c : Component) → find (λ c. test (component_name c)) cs ≡ Some c → Contains (parts_in test cs) (component_lines c)
first_in test cs c h =
    let w = find_first (named test) cs c h in
    subst (λ (l : List Lines). Contains l (component_lines c)) (sym (ap (map component_lines) w.1)) (zero, omega arith, refl)

pub none_in : (test : List ℕ → Bool) (cs : List Component) → find (λ c. test (component_name c)) cs ≡ None → parts_in test cs ≡ []
none_in test cs h = ap (map component_lines) (find_none (named test) cs h)

-- what the search for one gives

abbrev IsFound : (List ℕ → Bool) → List Component → Option (Bor Component) → Type 0
IsFound test cs r = option_map (λ c. c.now) r ≡ find (λ c. test (component_name c)) cs

pub found_in : (test : List ℕ → Bool) (cs : List Component) (r : Option (Bor Component)) → IsFound test cs r → IfSome r (λ part. Contains (parts_in test cs) (component_lines part.now))
found_in test cs (Some b) e = first_in test cs b.now (sym e)
found_in test cs None e = tt

pub nothing_in : (test : List ℕ → Bool) (cs : List Component) (r : Option (Bor Component)) → IsFound test cs r → IfNone r (parts_in test cs ≡ [])
nothing_in test cs (Some b) e = tt
nothing_in test cs None e = none_in test cs (sym e)

-- it is one of them
found_step : {A : Type 0} (b : Bool) (y x : A) (f : Option A) (ys : List A) → cond b (Some y) f ≡ Some x → (f ≡ Some x → Contains ys x) → Contains (y ∷ ys) x
found_step true y x f ys h k = (zero, omega arith, same_Some y x h)
found_step false y x f ys h k = let w = k h in (suc w.0, omega (arith, w.1), w.2)

pub find_among : {A : Type 0} (p : A → Bool) (xs : List A) (x : A) → find p xs ≡ Some x → Contains xs x
find_among p [] x h = cc
find_among p (y ∷ ys) x h = found_step (p y) y x (find p ys) ys h (find_among p ys x)

pub mapped : {A B : Type 0} (f : A → B) (xs : List A) (x : A) → Contains xs x → Contains (map f xs) (f x)
mapped f xs x there = (there.0, omega (arith, length-map xs f, there.1), get_or-map f xs there.0 x (f x) there.1 ∙ ap f there.2)

mapped_step : {A B : Type 0} (f : A → B) (x : A) (ys : List B) (zs : List A) (b : Bool) → ys ≡ map f zs → cond b (f x ∷ ys) ys ≡ map f (cond b (x ∷ zs) zs)
mapped_step f x ys zs true e = ap (λ l. f x ∷ l) e
mapped_step f x ys zs false e = e

pub filter_mapped : {A B : Type 0} (f : A → B) (p : B → Bool) (xs : List A) → filter p (map f xs) ≡ map f (filter (λ x. p (f x)) xs)
filter_mapped f p [] = refl
filter_mapped f p (x ∷ xs) = mapped_step f x _ _ (p (f x)) (filter_mapped f p xs)

-- ---- those up to a place

other_first : (test : List ℕ → Bool) (c : Component) (cs : List Component) → test (component_name c) ≡ false → parts_in test (c ∷ cs) ≡ parts_in test cs
other_first test c cs h = ap (λ b. map component_lines (cond b (c ∷ filter (named test) cs) (filter (named test) cs))) h

part_first : (test : List ℕ → Bool) (c : Component) (cs : List Component) → test (component_name c) ≡ true → parts_in test (c ∷ cs) ≡ component_lines c ∷ parts_in test cs
part_first test c cs h = ap (λ b. map component_lines (cond b (c ∷ filter (named test) cs) (filter (named test) cs))) h

split : (test : List ℕ → Bool) (cs : List Component) (i : ℕ) → parts_in test cs ≡ parts_in test (take i cs) ++ parts_in test (drop i cs)
split test cs i =
    ap (parts_in test) (sym (take-append-drop i cs)) ∙ ap (map component_lines) (filter-append (named test) (take i cs) (drop i cs))
    ∙ map-append component_lines (filter (named test) (take i cs)) (filter (named test) (drop i cs))

-- a part that the loop comes to is one of them
pub is_among : (test : List ℕ → Bool) (cs : List Component) (i : ℕ) (c : Component) → i < length cs → c ≡ get_or cs i c → test (component_name c) ≡ true
    → Contains (parts_in test cs) (component_lines c)
is_among test cs i c w e h =
    let whole : parts_in test cs ≡ parts_in test (take i cs) ++ component_lines c ∷ parts_in test (drop (i + 1) cs) =
    split test cs i ∙ ap (λ l. parts_in test (take i cs) ++ l) (ap (parts_in test) (at_place cs i c w e) ∙ part_first test c (drop (i + 1) cs) h) in
    subst (λ (l : List Lines). Contains l (component_lines c)) (sym whole)
    (Contains-append_right (parts_in test (take i cs)) (component_lines c ∷ parts_in test (drop (i + 1) cs)) (component_lines c) (zero, omega arith, refl))

pub drop_other : (test : List ℕ → Bool) (cs : List Component) (i : ℕ) (c : Component) → i < length cs → c ≡ get_or cs i c → test (component_name c) ≡ false
    → parts_in test (drop i cs) ≡ parts_in test (drop (i + 1) cs)
drop_other test cs i c w e h = ap (parts_in test) (at_place cs i c w e) ∙ other_first test c (drop (i + 1) cs) h

pub drop_part : (test : List ℕ → Bool) (cs : List Component) (i : ℕ) (c : Component) → i < length cs → c ≡ get_or cs i c → test (component_name c) ≡ true
    → parts_in test (drop i cs) ≡ component_lines c ∷ parts_in test (drop (i + 1) cs)
drop_part test cs i c w e h = ap (parts_in test) (at_place cs i c w e) ∙ part_first test c (drop (i + 1) cs) h

-- ---- the one that passes a test

-- what was found so far
abbrev pub seen : Option (Bor Component) → List Lines
seen None = []
seen (Some part) = component_lines part.now ∷ []

-- what was found, and what is left, are all that pass; what was found is one of them
abbrev pub FoundSofar : (List ℕ → Bool) → List Component → ℕ → Option (Bor Component) → Type 0
FoundSofar test cs i only = (parts_in test cs ≡ seen only ++ parts_in test (drop i cs)) × IfSome only (λ part. Contains cs part.now)

-- what holds of all that are left, and of the one before them
pub one_more : (P : Lines → Type 0) (part : Lines) (rest : List Lines) → P part → ((other : Lines) → Contains rest other → P other) → (other : Lines) → Contains (part ∷ rest) other → P other
one_more P part rest here later other (zero, w, e) = subst P e here
one_more P part rest here later other (suc k, w, e) = later other (k, omega arith, e)

pub all_left : (P : Lines → Type 0) (part : Lines) (rest whole : List Lines) → whole ≡ part ∷ rest → P part → ((other : Lines) → Contains rest other → P other)
    → (other : Lines) → Contains whole other → P other
all_left P part rest whole e here later other there = one_more P part rest here later other (subst (λ (l : List Lines). Contains l other) e there)

pub none_left : (test : List ℕ → Bool) (cs : List Component) (i : ℕ) (part : Lines) → length cs ≤ i → Contains (parts_in test (drop i cs)) part → ⊥
none_left test cs i part done there =
    let h = subst (λ (l : List Component). Contains (parts_in test l) part) (drop_all i cs done) there in
    absurd (omega (arith, h.1))

-- what is one by a narrower test is one by a wider
pub in_more : (y x : Lines) (xs : List Lines) → Contains xs x → Contains (y ∷ xs) x
in_more y x xs (k, w, e) = (suc k, omega arith, e)

here_or_later : (y x : Lines) (xs ys : List Lines) → (Contains xs x → Contains ys x) → Contains (y ∷ xs) x → Contains (y ∷ ys) x
here_or_later y x xs ys f (zero, w, e) = (zero, omega arith, e)
here_or_later y x xs ys f (suc k, w, e) = in_more y x ys (f (k, omega arith, e))

wider_first : (p q : Bool) (c : Component) (xs ys : List Component) (x : Lines) → (p ≡ true → q ≡ true) → (Contains (map component_lines xs) x → Contains (map component_lines ys) x)
    → Contains (map component_lines (cond p (c ∷ xs) xs)) x → Contains (map component_lines (cond q (c ∷ ys) ys)) x
wider_first true true c xs ys x f g h = here_or_later (component_lines c) x (map component_lines xs) (map component_lines ys) g h
wider_first true false c xs ys x f g h = absurd (true≢false (sym (f refl)))
wider_first false true c xs ys x f g h = in_more (component_lines c) x (map component_lines ys) (g h)
wider_first false false c xs ys x f g h = g h

pub wider : (p q : List ℕ → Bool) (cs : List Component) (x : Lines) → ((n : List ℕ) → p n ≡ true → q n ≡ true) → Contains (parts_in p cs) x → Contains (parts_in q cs) x
wider p q [] x f h = h
wider p q (c ∷ cs) x f h = wider_first (p (component_name c)) (q (component_name c)) c (filter (named p) cs) (filter (named q) cs) x (f (component_name c)) (wider p q cs x f) h

one_there : (x : Lines) (ys : List Lines) → ys ≡ x ∷ [] → Contains ys x
one_there x ys e = subst (λ (l : List Lines). Contains l x) (sym e) (zero, omega arith, refl)

pub standard_is_part : (cs : List Component) (x : Lines) → parts_in is_standard cs ≡ x ∷ [] → Contains (parts_in is_part cs) x
standard_is_part cs x e = wider is_standard is_part cs x (λ n h. or_left (is_standard n) (is_daylight n) h) (one_there x (parts_in is_standard cs) e)

pub daylight_is_part : (cs : List Component) (x : Lines) → parts_in is_daylight cs ≡ x ∷ [] → Contains (parts_in is_part cs) x
daylight_is_part cs x e = wider is_daylight is_part cs x (λ n h. or_right (is_standard n) (is_daylight n) h) (one_there x (parts_in is_daylight cs) e)

-- ---- as trees

kept : (p q : Bool) (t : Tree) (ts : List Tree) (c : Component) (cs : List Component) → p ≡ q → tree_own t ≡ component_lines c
    → map tree_own ts ≡ map component_lines cs → map tree_own (cond p (t ∷ ts) ts) ≡ map component_lines (cond q (c ∷ cs) cs)
kept p true t ts c cs h own rest =
    ap (λ x. map tree_own (cond x (t ∷ ts) ts)) h ∙ ap (λ l. l ∷ map tree_own ts) own ∙ ap (λ ls. component_lines c ∷ ls) rest
kept p false t ts c cs h own rest = ap (λ x. map tree_own (cond x (t ∷ ts) ts)) h ∙ rest

same_parts : (test : List ℕ → Bool) (cs : List Component) → map tree_own (filter (λ t. test (tree_name t)) (map tree_of cs)) ≡ parts_in test cs
same_parts test [] = refl
same_parts test (c ∷ cs) =
    kept (test (tree_name (tree_of c))) (test (component_name c)) (tree_of c) (filter (λ t. test (tree_name t)) (map tree_of cs)) c (filter (named test) cs)
    (ap test (tree_of-name c)) (tree_of-own c) (same_parts test cs)

pub parts_tree : (test : List ℕ → Bool) (c : Component) → parts_by test (tree_of c) ≡ parts_in test (component_children c)
parts_tree test c = ap (λ (ts : List Tree). map tree_own (filter (λ t. test (tree_name t)) ts)) (tree_of-inside c) ∙ same_parts test (component_children c)
