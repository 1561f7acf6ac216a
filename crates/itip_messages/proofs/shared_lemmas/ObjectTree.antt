-- The lines of an object around some VEVENTs spell one VCALENDAR with those VEVENTs in it.
-- Behind answers_read_back of law, refreshes_are_heard of law, refreshes_read_back of law, replies_are_heard of law, replies_read_back of law, cancels_read_back of sent_law and 3 more.
use Rattle.std.proofs.Common.{◌≡◌, ℕ, suc, true, false, List, [], ◌∷◌, ◌++◌, codes, Option, None, Some, refl, sym, ap, subst, append_assoc, append-nil}
use Rattle.std.specs.List.{flat_map, list_all, filter}
use Rattle.std.specs.Prelude.{map}
use Rattle.std.proofs.lemmas.Bool.{and_parts}
use Rattle.ical_tree.proofs.TreeOfLemmas.{BodyT}
use Rattle.ical_tree.proofs.PropertyLemmas.{own_body}
use Rattle.profile.specs.text.Lines.{is_same_name}
use Rattle.profile.specs.text.Trees.{Tree, Trees, tree, none, more, trees_list, tree_name, tree_own, vevents}
use Rattle.profile.specs.text.Objects.{is_property, has_version, Opens, Closes, IsObject}
use Rattle.profile.specs.text.Objects.SpellsBody.{component}
use Rattle.profile.specs.rooms.Messages.{method_lines, object_lines}

abbrev pub Lines : Type 0
Lines = List (List ℕ)

-- a VEVENT with these own lines
abbrev pub vevent_lines : Lines → Lines
vevent_lines own = codes "BEGIN:VEVENT" ∷ (own ++ codes "END:VEVENT" ∷ [])

abbrev pub vevent_tree : Lines → Tree
vevent_tree own = tree (codes "VEVENT") own none

abbrev pub vevent_trees : List Lines → Trees
vevent_trees [] = none
vevent_trees (own ∷ owns) = more (vevent_tree own) (vevent_trees owns)

-- the own lines of the calendar
abbrev pub calendar_own : Option (List ℕ) → Lines
calendar_own method = codes "VERSION:2.0" ∷ codes "PRODID:-//iTIP room box//EN" ∷ method_lines method

-- the calendar of this METHOD, or of none, with these VEVENTs
abbrev pub calendar_tree : Option (List ℕ) → List Lines → Tree
calendar_tree method owns = tree (codes "VCALENDAR") (calendar_own method) (vevent_trees owns)

vevents_are : (owns : List Lines) → map tree_own (filter (λ part. is_same_name (tree_name part) (codes "VEVENT")) (trees_list (vevent_trees owns))) ≡ owns
vevents_are [] = refl
vevents_are (own ∷ owns) = ap (λ x. own ∷ x) (vevents_are owns)

pub calendar_vevents : (method : Option (List ℕ)) (owns : List Lines) → vevents (calendar_tree method owns) ≡ owns
calendar_vevents method owns = vevents_are owns

opens : Opens (codes "BEGIN:VEVENT") (codes "VEVENT")
opens = record { begins = refl; names = refl }

closes : Closes (codes "END:VEVENT") (codes "VEVENT")
closes = record { ends = refl; names = refl }

-- VEVENTs, one after another
pub parts_more : (depth : ℕ) (own : Lines) (parts : List Tree) (body : Lines) (owns : List Lines) → BodyT (suc depth) own parts body → list_all (list_all is_property) owns ≡ true
    → BodyT (suc depth) own (parts ++ trees_list (vevent_trees owns)) (body ++ flat_map vevent_lines owns)
parts_more depth own parts body [] b h =
    subst (λ (l : List Tree). BodyT (suc depth) own l (body ++ [])) (sym (append-nil parts)) (subst (λ (l : Lines). BodyT (suc depth) own parts l) (sym (append-nil body)) b)
parts_more depth own parts body (v ∷ owns) b h =
    let both = and_parts (list_all is_property v) (list_all (list_all is_property) owns) h in
    let here : BodyT (suc depth) own (parts ++ vevent_tree v ∷ []) (body ++ vevent_lines v) = component (vevent_tree v) (codes "BEGIN:VEVENT") (codes "END:VEVENT") v refl opens closes (own_body depth v both.0) b in
    let all = parts_more depth own (parts ++ vevent_tree v ∷ []) (body ++ vevent_lines v) owns here both.1 in
    subst (λ (l : List Tree). BodyT (suc depth) own l (body ++ flat_map vevent_lines (v ∷ owns))) (append_assoc parts (vevent_tree v ∷ []) (trees_list (vevent_trees owns)))
    (subst (λ (l : Lines). BodyT (suc depth) own ((parts ++ vevent_tree v ∷ []) ++ trees_list (vevent_trees owns)) l) (append_assoc body (vevent_lines v) (flat_map vevent_lines owns)) all)

pub own_properties : (method : Option (List ℕ)) → list_all is_property (calendar_own method) ≡ true
own_properties None = refl
own_properties (Some name) = refl

pub own_version : (method : Option (List ℕ)) → has_version (calendar_own method) ≡ true
own_version None = refl
own_version (Some name) = refl

-- the whole object
pub object_spelled : (method : Option (List ℕ)) (owns : List Lines) → list_all (list_all is_property) owns ≡ true → IsObject false (calendar_tree method owns) (object_lines method (flat_map vevent_lines owns))
object_spelled method owns h = record {
  spelled = record {
    begin = codes "BEGIN:VCALENDAR";
    end = codes "END:VCALENDAR";
    body = calendar_own method ++ flat_map vevent_lines owns;
    are = refl;
    opens = record { begins = refl; names = refl };
    closes = record { ends = refl; names = refl };
    holds = parts_more 6 (calendar_own method) [] (calendar_own method) owns (own_body 7 (calendar_own method) (own_properties method)) h;
  };
  calendar = refl;
  version = own_version method;
  events = refl;
}
