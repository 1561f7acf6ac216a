-- What a name means in an object that was made of another. For `is_given`, `is_right` and `are_same_but_zones`.
use Rattle.std.proofs.Common.{◌≡◌, ◌∙◌, ap, sym, subst, ℕ, true, List, Bor, Result, Ok, Err}
use Rattle.std.specs.Prelude.{Option, Some, None, String, option_map, IfOk, IfSome}
use Rattle.std.proofs.lemmas.Option.{none-some, same_Some}
use Rattle.ical_tree.specs.Tree.{component_lines, component_children, tree_of}
use Rattle.ical_tree.specs.declared.component.Component.{Component}
use Rattle.ical_tree.proofs.TreeOfLemmas.{tree_of-own}
use Rattle.profile.specs.text.Lines.{logical_lines, reads_as_lines}
use Rattle.profile.specs.text.Objects.{IsObject}
use Rattle.profile.specs.text.Trees.{Tree, tree_own}
use Rattle.profile.specs.series.ZoneTexts.{SaysZone}
use Rattle.profile.specs.events.ZonedTimes.{zone_named}
use Rattle.profile.specs.doors.Adapting.{IsOf, without_zones}
use Rattle.cal_zones.specs.Kinds.{zone_of}
use Rattle.cal_doors.specs.Adapted.{MeansNow, AllMeanNow, IsRightlyAdapted, others_among}
use Rattle.cal_doors.specs.declared.uses.Use.{Use}
use Rattle.cal_doors.specs.declared.choice.Choice.{Choice}
use Rattle.cal_doors.proofs.ChangesNamed.{tree_at}
use Rattle.cal_doors.proofs.RightOthers.{without}
use Rattle.cal_doors.proofs.AdaptWhole as whole

-- ---- a result that is handed on

pub when_ok : {T E : Type 0} (r : Result T E) (P Q : T → Type 0) → ((x : T) → P x → Q x) → IfOk r P → IfOk r Q
when_ok (Ok x) P Q f h = f x h
when_ok (Err e) P Q f h = tt

pub when_found : {T E : Type 0} (r : Result (Option T) E) (P Q : T → Type 0) → ((x : T) → P x → Q x) → IfOk r (λ f. IfSome f P) → IfOk r (λ f. IfSome f Q)
when_found (Ok (Some x)) P Q f h = f x h
when_found (Ok None) P Q f h = tt
when_found (Err e) P Q f h = tt

-- ---- a name

-- it means its change
pub change_means : (before after : Tree) (name : List ℕ) (o : Option Choice) (c : Choice) (found : Option (Bor Component)) (part : Bor Component) → o ≡ Some c → found ≡ Some part
    → option_map tree_at found ≡ zone_named name after → SaysZone (tree_of part.now) (zone_of c.zone) → MeansNow before after name o
change_means before after name o c found part is there e says =
    subst (MeansNow before after name) (sym is) (tree_of part.now, sym e ∙ ap (option_map tree_at) there, says)

-- it means the same as before
pub same_means : (before after : Tree) (name : List ℕ) (o : Option Choice) (found earlier : Option (Bor Component)) (part old : Bor Component) → o ≡ None → found ≡ Some part
    → option_map tree_at found ≡ zone_named name after → earlier ≡ Some old → option_map tree_at earlier ≡ zone_named name before → tree_of part.now ≡ tree_of old.now
    → MeansNow before after name o
same_means before after name o found earlier part old is there e was f same =
    subst (MeansNow before after name) (sym is)
    (tree_of part.now, sym e ∙ ap (option_map tree_at) there, sym f ∙ ap (option_map tree_at) was ∙ ap Some (sym same))

-- ---- the object

pub own_same : (before after : Component) → component_lines before ≡ component_lines after → tree_own (tree_of after) ≡ tree_own (tree_of before)
own_same before after e = tree_of-own after ∙ sym e ∙ sym (tree_of-own before)

pub others_same : (before after : Component) → others_among (component_children before) ≡ others_among (component_children after)
    → without_zones (tree_of after) ≡ without_zones (tree_of before)
others_same before after e = without after ∙ sym e ∙ sym (without before)

pub is_of : (octets : List ℕ) (text : List (List ℕ)) (object : Component) → (text ≡ logical_lines octets) × (reads_as_lines true octets ≡ true) → IsObject true (tree_of object) text
    → IsOf octets (tree_of object)
is_of octets text object read spelled = record { lines = read.1; spelled = subst (IsObject true (tree_of object)) read.0 spelled }

pub judged : {X Y : Type 0} (before zoned after now : Component) (uses : List (String X × Use)) (changes : List (String Y × Choice)) (octets : List ℕ) → zoned ≡ before → now ≡ after
    → IsOf octets (tree_of after) → tree_own (tree_of after) ≡ tree_own (tree_of before) → without_zones (tree_of after) ≡ without_zones (tree_of before)
    → AllMeanNow (tree_of zoned) (tree_of now) uses changes → IsRightlyAdapted (tree_of before) uses changes octets
judged before zoned after now uses changes octets b a is own others means =
    whole.is_right (tree_of before) (tree_of after) uses changes octets is own others
    (subst (λ (c : Component). AllMeanNow (tree_of before) (tree_of c) uses changes) a
    (subst (λ (c : Component). AllMeanNow (tree_of c) (tree_of now) uses changes) b means))

-- what is known of a value that is there
pub of_some : {T : Type 0} (o : Option T) (x : T) (P : T → Type 0) → o ≡ Some x → IfSome o P → P x
of_some (Some y) x P is h = subst P (same_Some y x is) h
of_some None x P is h = absurd (none-some x is)

-- two things are known of a value that is handed on
pub when_both : {T E : Type 0} (r : Result (Option T) E) (P Q R : T → Type 0) → ((x : T) → P x → Q x → R x) → IfOk r (λ f. IfSome f P) → IfOk r (λ f. IfSome f Q)
    → IfOk r (λ f. IfSome f R)
when_both (Ok (Some x)) P Q R f g h = f x g h
when_both (Ok None) P Q R f g h = tt
when_both (Err e) P Q R f g h = tt
