-- A table of VTIMEZONEs by their names grows by one component at a time, and what it has of a name.
-- Behind NamedZones of cal_doors and ZonesOfObject of cal_events.
use Rattle.std.proofs.Common.{◌≡◌, ◌∙◌, ap, sym, refl, subst, ℕ, Bool, true, false, cond, codes, ◌&&◌, List, [], ◌∷◌, ◌++◌, map, filter}
use Rattle.std.specs.Prelude.{Option, Some, None, is_some, find, option_map, unwrap_or, String, string_bytes}
use Rattle.std.specs.Map.{lookup}
use Rattle.std.specs.Str.{bytes_eq}
use Rattle.std.proofs.lemmas.Bool.{true≢false}
use Rattle.std.proofs.lemmas.Option.{none-some, same_Some}
use Rattle.std.proofs.lemmas.Slice.Eq.{bytes_eq-Decides}
use Rattle.ical_tree.specs.Tree.{component_name, component_lines, component_children, tree_of}
use Rattle.ical_tree.proofs.TreeOfLemmas.{tree_of-name, tree_of-own, tree_of-inside}
use Rattle.ical_tree.specs.declared.component.Component.{Component}
use Rattle.profile.specs.text.Lines.{is_same_name}
use Rattle.profile.specs.text.Trees.{Tree, tree_name, tree_own}
use Rattle.profile.specs.events.Properties.{BothOrNeither}
use Rattle.profile.specs.events.ZonedTimes.{zone_name, has_zone_name, zone_named}
use Rattle.cal_zones.specs.ZoneNames.{zone_name_said, is_zone_called, AreByName}

-- ---- a search in a list with one more item

abbrev or_else : {A : Type 0} → Option A → Option A → Option A
or_else (Some x) other = Some x
or_else None other = other

find_push : {A : Type 0} (p : A → Bool) (x : A) (xs : List A) → find p (xs ++ x ∷ []) ≡ or_else (find p xs) (cond (p x) (Some x) None)
find_push p x [] = refl
find_push p x (y ∷ ys) = go (p y) (find_push p x ys)
  where
    go : (b : Bool) → find p (ys ++ x ∷ []) ≡ or_else (find p ys) (cond (p x) (Some x) None)
        → cond b (Some y) (find p (ys ++ x ∷ [])) ≡ or_else (cond b (Some y) (find p ys)) (cond (p x) (Some x) None)
    go true h = refl
    go false h = h

lookup_push : {K V : Type 0} (q : K → Bool) (k : K) (v : V) (es : List (K × V)) → lookup q (es ++ (k, v) ∷ []) ≡ or_else (lookup q es) (cond (q k) (Some v) None)
lookup_push q k v [] = refl
lookup_push q k v (e ∷ es) = go (q e.0) (lookup_push q k v es)
  where
    go : (b : Bool) → lookup q (es ++ (k, v) ∷ []) ≡ or_else (lookup q es) (cond (q k) (Some v) None)
        → cond b (Some e.1) (lookup q (es ++ (k, v) ∷ [])) ≡ or_else (cond b (Some e.1) (lookup q es)) (cond (q k) (Some v) None)
    go true h = refl
    go false h = h

both_pushed : {A B : Type 0} (R : A → B → Type 0) (x : A) (v : B) (oa : Option A) (ob : Option B) (b : Bool) → R x v → BothOrNeither R oa ob
    → BothOrNeither R (or_else oa (cond b (Some x) None)) (or_else ob (cond b (Some v) None))
both_pushed R x v (Some a) (Some w) b r h = h
both_pushed R x v None None true r h = r
both_pushed R x v None None false r h = tt
both_pushed R x v (Some a) None b r h = absurd h
both_pushed R x v None (Some w) b r h = absurd h

both_kept : {A B : Type 0} (R : A → B → Type 0) (x : A) (oa : Option A) (ob : Option B) (b : Bool) → (b ≡ true → is_some ob ≡ true) → BothOrNeither R oa ob
    → BothOrNeither R (or_else oa (cond b (Some x) None)) ob
both_kept R x (Some a) (Some w) b there h = h
both_kept R x None None true there h = absurd (true≢false (sym (there refl)))
both_kept R x None None false there h = tt
both_kept R x (Some a) None b there h = absurd h
both_kept R x None (Some w) b there h = absurd h

-- ---- the name of a component

not_called : (c : Component) (name : List ℕ) → zone_name_said c ≡ None → is_zone_called name c ≡ false
not_called c name e = go (is_same_name (component_name c) (codes "VTIMEZONE")) (zone_name (component_lines c)) e
  where
    go : (b : Bool) (o : Option (List ℕ)) → cond b o None ≡ None → (b && unwrap_or (option_map (λ given. bytes_eq given name) o) false) ≡ false
    go true None h = refl
    go true (Some given) h = absurd (none-some given (sym h))
    go false o h = refl

called : (c : Component) (name given : List ℕ) → zone_name_said c ≡ Some given → is_zone_called name c ≡ bytes_eq given name
called c name given e = go (is_same_name (component_name c) (codes "VTIMEZONE")) (zone_name (component_lines c)) e
  where
    go : (b : Bool) (o : Option (List ℕ)) → cond b o None ≡ Some given → (b && unwrap_or (option_map (λ g. bytes_eq g name) o) false) ≡ bytes_eq given name
    go true (Some g) h = ap (λ x. bytes_eq x name) (same_Some g given h)
    go true None h = absurd (none-some given h)
    go false o h = absurd (none-some given h)

bytes_sym : (a b : List ℕ) → bytes_eq a b ≡ bytes_eq b a
bytes_sym a b = go (bytes_eq a b) (bytes_eq b a) refl refl
  where
    go : (p q : Bool) → bytes_eq a b ≡ p → bytes_eq b a ≡ q → p ≡ q
    go true true e f = refl
    go false false e f = refl
    go true false e f = absurd (true≢false (sym ((bytes_eq-Decides b a).1 (sym ((bytes_eq-Decides a b).0 e))) ∙ f))
    go false true e f = absurd (true≢false (sym ((bytes_eq-Decides a b).1 (sym ((bytes_eq-Decides b a).0 f))) ∙ e))

pub none_from : {A : Type 0} (o : Option A) → is_some o ≡ false → o ≡ None
none_from None h = refl
none_from (Some x) h = absurd (true≢false h)

-- ---- one more component

module _ {V Y : Type 0} (Is : Component → V → Type 0) where
  pub no_zone_more : (c : Component) (earlier : List Component) (zones : List (String Y × V)) → zone_name_said c ≡ None → AreByName Is earlier zones
      → AreByName Is (earlier ++ c ∷ []) zones
  no_zone_more c earlier zones none h name =
      let kept = both_kept Is c (find (is_zone_called name) earlier) (lookup (λ key. bytes_eq name (string_bytes key)) zones) (is_zone_called name c)
      (λ here. absurd (true≢false (sym here ∙ not_called c name none))) (h name) in
      subst (λ o. BothOrNeither Is o (lookup (λ key. bytes_eq name (string_bytes key)) zones)) (sym (find_push (is_zone_called name) c earlier)) kept

  -- a name that is there already
  pub same_name_more : (c : Component) (earlier : List Component) (zones : List (String Y × V)) (given : List ℕ) → zone_name_said c ≡ Some given
      → is_some (lookup (λ key. bytes_eq given (string_bytes key)) zones) ≡ true → AreByName Is earlier zones → AreByName Is (earlier ++ c ∷ []) zones
  same_name_more c earlier zones given said there h name =
      let o = lookup (λ key. bytes_eq name (string_bytes key)) zones in
      let also : is_zone_called name c ≡ true → is_some o ≡ true =
      λ here. subst (λ (n : List ℕ). is_some (lookup (λ key. bytes_eq n (string_bytes key)) zones) ≡ true) ((bytes_eq-Decides given name).0 (sym (called c name given said) ∙ here)) there in
      let kept = both_kept Is c (find (is_zone_called name) earlier) o (is_zone_called name c) also (h name) in
      subst (λ f. BothOrNeither Is f o) (sym (find_push (is_zone_called name) c earlier)) kept

  -- the first of a name
  pub zone_more : (c : Component) (earlier : List Component) (old new : List (String Y × V)) (k : String Y) (v : V) → zone_name_said c ≡ Some (string_bytes k)
      → Is c v
      → new ≡ old ++ (k, v) ∷ [] → AreByName Is earlier old → AreByName Is (earlier ++ c ∷ []) new
  zone_more c earlier old new k v said read is h name =
      let q : String Y → Bool = λ key. bytes_eq name (string_bytes key) in
      let both = both_pushed Is c v (find (is_zone_called name) earlier) (lookup q old) (is_zone_called name c) read (h name) in
      let same : is_zone_called name c ≡ q k = called c name (string_bytes k) said ∙ bytes_sym (string_bytes k) name in
      let looked : lookup q new ≡ or_else (lookup q old) (cond (is_zone_called name c) (Some v) None) =
      ap (lookup q) is ∙ lookup_push q k v old ∙ ap (λ b. or_else (lookup q old) (cond b (Some v) None)) (sym same) in
      subst (λ o. BothOrNeither Is (find (is_zone_called name) (earlier ++ c ∷ [])) o) (sym looked)
      (subst (λ f. BothOrNeither Is f (or_else (lookup q old) (cond (is_zone_called name c) (Some v) None))) (sym (find_push (is_zone_called name) c earlier)) both)

-- ---- the first component of a name

find_kept : (q : Tree → Bool) (p : Bool) (c : Component) (ts : List Tree) (y : Option Component) → find q ts ≡ option_map tree_of y
    → find q (cond p (tree_of c ∷ ts) ts) ≡ option_map tree_of (cond (p && q (tree_of c)) (Some c) y)
find_kept q true c ts y h = go (q (tree_of c))
  where
    go : (b : Bool) → cond b (Some (tree_of c)) (find q ts) ≡ option_map tree_of (cond b (Some c) y)
    go true = refl
    go false = h
find_kept q false c ts y h = h

find_both : (p q : Tree → Bool) (r : Component → Bool) → ((c : Component) → (p (tree_of c) && q (tree_of c)) ≡ r c) → (cs : List Component)
    → find q (filter p (map tree_of cs)) ≡ option_map tree_of (find r cs)
find_both p q r e [] = refl
find_both p q r e (c ∷ cs) =
    find_kept q (p (tree_of c)) c (filter p (map tree_of cs)) (find r cs) (find_both p q r e cs)
    ∙ ap (λ b. option_map tree_of (cond b (Some c) (find r cs))) (e c)

called_tree : (name : List ℕ) (c : Component) → (is_same_name (tree_name (tree_of c)) (codes "VTIMEZONE") && has_zone_name name (tree_own (tree_of c))) ≡ is_zone_called name c
called_tree name c =
    ap (λ n. is_same_name n (codes "VTIMEZONE") && has_zone_name name (tree_own (tree_of c))) (tree_of-name c)
    ∙ ap (λ own. is_same_name (component_name c) (codes "VTIMEZONE") && has_zone_name name own) (tree_of-own c)

-- the VTIMEZONE of a name is the first component that is one of this name
pub zone_among : (name : List ℕ) (object : Component) → zone_named name (tree_of object) ≡ option_map tree_of (find (is_zone_called name) (component_children object))
zone_among name object =
    ap (λ (ts : List Tree). find (λ part. has_zone_name name (tree_own part)) (filter (λ part. is_same_name (tree_name part) (codes "VTIMEZONE")) ts)) (tree_of-inside object)
    ∙ find_both (λ part. is_same_name (tree_name part) (codes "VTIMEZONE")) (λ part. has_zone_name name (tree_own part)) (is_zone_called name) (called_tree name) (component_children object)
