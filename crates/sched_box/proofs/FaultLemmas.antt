-- A fault of what was read of an object is a fault of the object.
use Rattle.std.proofs.Common.{◌≡◌, inl, inr, ℕ, ◌<◌, ◌≤◌, Bool, true, false, not, ◌&&◌, ◌||◌, ◌==◌, nat_lt, List, length, codes, refl, sym, ap, subst, ◌∙◌, arith, take_all, length-take}
use Rattle.ical_lines.specs.Fault.{RefusesBy}
use Rattle.std.proofs.lemmas.Bool.{not-true}
use Rattle.std.proofs.lemmas.Bool.Decides.{nat_tests}
use Rattle.std.proofs.Math.Bool.{or-true}
use Rattle.ical_lines.specs.declared.fault.Fault.{Fault}
use Rattle.ical_lines.specs.declared.fault.Fault.TheVariants.{Refused, Memory}
use Rattle.ical_tree.proofs.TreeOfLemmas.{tree_of-own, spells_tree, count_tree}
use Rattle.ical_tree.specs.Tree.{component_name, component_lines, tree_of, count_children}
use Rattle.ical_tree.specs.Reading.{SpellsOf, calendar_has, ObjectHas}
use Rattle.ical_tree.specs.declared.component.Component.{Component}
use Rattle.itip_messages.specs.Message.{ReadFault}
use Rattle.profile.specs.text.Lines.{logical_lines, text_has}
use Rattle.profile.specs.text.Objects.{is_calendar_name, has_version}
use Rattle.profile.specs.streams.Streams.{TreeFault, ObjectFault}
use Rattle.sched_box.specs.Objects.{kept_of}

-- ---- what a tree has

abbrev Lines : Type 0
Lines = List (List ℕ)

-- 25 is reported only where there is no fault 24
weaker : (k a b d v : Bool) → (k && (a || (b && (d && v)))) ≡ true → (a || (b && d)) ≡ true
weaker false a b d v h = absurd (cc)
weaker true true b d v h = refl
weaker true false false d v h = h
weaker true false true false v h = h
weaker true false true true v h = refl

tree_fault : (n : ℕ) (lines : Lines) (c : Component) → SpellsOf 7 c lines → calendar_has true n c ≡ true → TreeFault n lines
tree_fault n lines c s h =
    at ((n == 24) && not (has_version (component_lines c))) ((n == 25) && nat_lt 200 count) refl refl
    (weaker (is_calendar_name (component_name c)) ((n == 24) && not (has_version (component_lines c))) (n == 25) (nat_lt 200 count) (has_version (component_lines c)) h)
  where
    count : ℕ
    count = count_children (codes "VEVENT") c

    at : (a b : Bool) → ((n == 24) && not (has_version (component_lines c))) ≡ a → ((n == 25) && nat_lt 200 count) ≡ b → (a || b) ≡ true → TreeFault n lines
    at true b e f g =
        let v : not (has_version (component_lines c)) ≡ true = grind (arith, nat_tests) in
        let is : n ≡ 24 = grind (arith, nat_tests) in
        (tree_of c, spells_tree 7 c lines s, inl (is, ap has_version (tree_of-own c) ∙ not-true (has_version (component_lines c)) v))
    at false true e f g =
        let many : 200 < count = grind (arith, nat_tests) in
        let is : n ≡ 25 = grind (arith, nat_tests) in
        (tree_of c, spells_tree 7 c lines s, inr (is, subst (λ k. 200 < k) (sym (count_tree (codes "VEVENT") c)) many))
    at false false e f g = absurd (cc)

object_has : (n : ℕ) (octets : List ℕ) → ObjectHas true n octets → ObjectFault n octets
object_has n octets (inl h) = inl h
object_has n octets (inr (inl h)) = inr (inl h)
object_has n octets (inr (inr h)) = inr (inr (inl (tree_fault n (logical_lines octets) h.0 h.1.0 h.1.1)))

-- what a message that is refused has
pub object_fault : (octets : List ℕ) (f : Fault) → ReadFault octets f → RefusesBy (λ n. ObjectFault n octets) f
object_fault octets Memory h = tt
object_fault octets (Refused r) (inl h) = object_has r.number octets h
object_fault octets (Refused r) (inr h) = inr (inr (inr h))

-- ---- what is kept

pub kept_whole : (octets object : List ℕ) → octets ≡ kept_of object → length octets < 1_048_577 → octets ≡ object
kept_whole octets object is short =
    let long : length octets ≡ length (kept_of object) = ap length is in
    is ∙ take_all 1_048_577 object (omega (arith, length-take 1_048_577 object))

kept_long : (octets object : List ℕ) → octets ≡ kept_of object → 1_048_577 ≤ length octets → 1_048_576 < length object
kept_long octets object is long =
    let same : length octets ≡ length (kept_of object) = ap length is in
    omega (arith, length-take 1_048_577 object)

pub long_fault : (octets object : List ℕ) → octets ≡ kept_of object → 1_048_577 ≤ length octets → ObjectFault 6 object
long_fault octets object is long =
    let more' : 1_048_576 < length object = kept_long octets object is long in
    let lt : nat_lt 1_048_576 (length object) ≡ true = grind (arith, nat_tests) in
    inl (at lt)
  where
    at : nat_lt 1_048_576 (length object) ≡ true → text_has true 6 object ≡ true
    at lt = rw lt (or-true _)
