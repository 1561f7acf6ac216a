-- What was read again and compared is right.
use Rattle.std.proofs.Common.{◌≡◌, ◌∙◌, inl, inr, ℕ, true, List, [], ◌∷◌, ap, sym, subst}
use Rattle.std.specs.Prelude.{Contains, Option}
use Rattle.std.specs.List.{AllZip}
use Rattle.profile.specs.text.Lines.{logical_lines, reads_as_lines}
use Rattle.profile.specs.text.Objects.{IsObject}
use Rattle.profile.specs.text.Trees.{Tree, tree_own, vevents}
use Rattle.profile.specs.events.ZonedTimes.{zone_named}
use Rattle.profile.specs.doors.Adapting.{IsOf, IsAdapted, without_zones}
use Rattle.profile.specs.doors.Uses.{IsLineIn, NamesZone}
use Rattle.profile.specs.doors.Returning.{TellsSame, IsRead, IsReturned, IsSplit}
use Rattle.ical_tree.specs.declared.component.Component.{Component}
use Rattle.ical_tree.specs.Tree.{component_lines, component_children, tree_of}
use Rattle.ical_tree.proofs.TreeOfLemmas.{tree_of-own}
use Rattle.cal_doors.proofs.UsesEvents.{events_are}
use Rattle.cal_doors.proofs.ToldWords.{alone}
use Rattle.cal_doors.proofs.ToldEvents.{trees_are}
use Rattle.cal_doors.proofs.RightOthers.{without}
use Rattle.cal_doors.specs.Adapted.{others_among}
use Rattle.cal_doors.specs.Told.{events_among, trees_among, HasItsZone, TellsAnswer, IsAnswerTold, IsReturnedBy, IsSingleOf}

-- octets that were read as an object
pub object_there : (octets : List ℕ) (text : List (List ℕ)) (object : Component) → text ≡ logical_lines octets → reads_as_lines true octets ≡ true → IsObject true (tree_of object) text
    → IsOf octets (tree_of object)
object_there octets text object lines reads spelled = record { lines = reads; spelled = subst (IsObject true (tree_of object)) lines spelled }

same_own : (one other : Component) → component_lines one ≡ component_lines other → tree_own (tree_of one) ≡ tree_own (tree_of other)
same_own one other same = tree_of-own one ∙ same ∙ sym (tree_of-own other)

-- what is so of each name in a VEVENT of an object
each_name : (P : List ℕ → Type 0) (object : Component)
    → ((name line : List ℕ) (lines : List (List ℕ)) → Contains (events_among (component_children object)) lines → IsLineIn name lines line → P name)
    → (name : List ℕ) → NamesZone (tree_of object) name → P name
each_name P object each name (lines, line, c, is) = each name line lines (subst (λ l. Contains l lines) (events_are object) c) is

pub told_right : (asked read : Tree) (told given : Component) (octets : List ℕ) (text : List (List ℕ)) → text ≡ logical_lines octets → reads_as_lines true octets ≡ true
    → IsObject true (tree_of given) text → component_lines given ≡ component_lines told
    → AllZip (AllZip (TellsSame read (tree_of told))) (events_among (component_children told)) (events_among (component_children given))
    → ((name line : List ℕ) (lines : List (List ℕ)) → Contains (events_among (component_children given)) lines → IsLineIn name lines line → HasItsZone (tree_of given) asked read name)
    → TellsAnswer asked read (tree_of told) octets
told_right asked read told given octets text lines reads spelled own events zones = record {
  given = tree_of given;
  is_given = object_there octets text given lines reads spelled;
  own = same_own given told own;
  events = subst (λ l. AllZip (AllZip (TellsSame read (tree_of told))) l (vevents (tree_of given))) (sym (events_are told))
      (subst (AllZip (AllZip (TellsSame read (tree_of told))) (events_among (component_children told))) (sym (events_are given)) events);
  zones = each_name (HasItsZone (tree_of given) asked read) given zones;
}

pub answered_right : (asked read : Tree) (told : Component) (answer octets : List ℕ) (text : List (List ℕ)) → text ≡ logical_lines answer → reads_as_lines true answer ≡ true
    → IsObject true (tree_of told) text → TellsAnswer asked read (tree_of told) octets → IsAnswerTold asked read answer octets
answered_right asked read told answer octets text lines reads spelled right =
    record { told = tree_of told; is_told = object_there answer text told lines reads spelled; right = right }

pub returned_by : (asked read : Component) (original readable answer octets : List ℕ) (text other : List (List ℕ)) → text ≡ logical_lines original → reads_as_lines true original ≡ true
    → IsObject true (tree_of asked) text → other ≡ logical_lines readable → reads_as_lines true readable ≡ true → IsObject true (tree_of read) other
    → IsAnswerTold (tree_of asked) (tree_of read) answer octets → IsReturnedBy original readable answer octets
returned_by asked read original readable answer octets text other al ar at rl rr rt answered = record {
  asked = tree_of asked;
  is_asked = object_there original text asked al ar at;
  read = tree_of read;
  is_read = object_there readable other read rl rr rt;
  answered = answered;
}

back : (listed : Option Tree) (original readable answer octets : List ℕ) → ((object : Tree) → IsOf readable object → IsRead listed original object)
    → IsReturnedBy original readable answer octets → IsReturned listed original answer octets
back listed original readable answer octets reads r = record {
  asked = r.asked;
  is_asked = r.is_asked;
  read = r.read;
  is_read = reads r.read r.is_read;
  told = r.answered.told;
  is_told = r.answered.is_told;
  given = r.answered.right.given;
  is_given = r.answered.right.is_given;
  own = r.answered.right.own;
  events = r.answered.right.events;
  zones = r.answered.right.zones;
}

-- a room reads the original as it is
pub returned_plain : (listed : Option Tree) (original answer octets : List ℕ) → IsReturnedBy original original answer octets → IsReturned listed original answer octets
returned_plain listed original answer octets r = back listed original original answer octets (λ object is. inl is) r

-- it reads what was made of it
pub returned_adapted : (listed : Option Tree) (original readable answer octets : List ℕ) (going_on : List (List ℕ)) → IsAdapted listed original going_on readable
    → IsReturnedBy original readable answer octets → IsReturned listed original answer octets
returned_adapted listed original readable answer octets going_on adapted r =
    back listed original readable answer octets (λ object is. inr (going_on, readable, adapted, is)) r

-- ---- objects of one VEVENT

pub single_right : (whole part event : Component) (octets : List ℕ) (text : List (List ℕ)) → text ≡ logical_lines octets → reads_as_lines true octets ≡ true
    → IsObject true (tree_of part) text → component_lines part ≡ component_lines whole → events_among (component_children part) ≡ component_lines event ∷ []
    → others_among (component_children part) ≡ tree_of event ∷ []
    → ((name line : List ℕ) → IsLineIn name (component_lines event) line → zone_named name (tree_of part) ≡ zone_named name (tree_of whole))
    → IsSingleOf (tree_of whole) (tree_of event) octets
single_right whole part event octets text lines reads spelled own only others zones = (
  tree_of part,
  object_there octets text part lines reads spelled,
  record {
    only = events_are part ∙ only ∙ ap (λ ls. ls ∷ []) (sym (tree_of-own event));
    others = without part ∙ others;
    own = same_own part whole own;
    zones = λ name (ls, line, c, is). zones name line (subst (λ l. IsLineIn name l line) (sym (alone (component_lines event) ls (subst (λ l. Contains l ls) (events_are part ∙ only) c))) is);
  },
)

abbrev Fits : Tree → Tree → Tree → Type 0
Fits object event part = (vevents part ≡ tree_own event ∷ []) × (without_zones part ≡ event ∷ []) × (tree_own part ≡ tree_own object)
    × ((name : List ℕ) → NamesZone part name → zone_named name part ≡ zone_named name object)

trees_of_parts : (whole : Tree) (events : List Tree) (parts : List (List ℕ)) → AllZip (IsSingleOf whole) events parts
    → (trees : List Tree) × AllZip IsOf parts trees × AllZip (Fits whole) events trees
trees_of_parts whole [] [] h = ([], tt, tt)
trees_of_parts whole [] (p ∷ ps) h = absurd h
trees_of_parts whole (e ∷ es) [] h = absurd h
trees_of_parts whole (e ∷ es) (p ∷ ps) ((t, is, s), rest) =
    let (ts, are, fit) = trees_of_parts whole es ps rest in (t ∷ ts, (is, are), ((s.only, s.others, s.own, s.zones), fit))

pub split_right : (whole : Component) (octets : List ℕ) (text : List (List ℕ)) (parts : List (List ℕ)) → text ≡ logical_lines octets → reads_as_lines true octets ≡ true
    → IsObject true (tree_of whole) text → AllZip (IsSingleOf (tree_of whole)) (trees_among (component_children whole)) parts → IsSplit octets parts
split_right whole octets text parts lines reads spelled each =
    let (trees, are, fit) = trees_of_parts (tree_of whole) (trees_among (component_children whole)) parts each in
    record {
      whole = tree_of whole;
      is_whole = object_there octets text whole lines reads spelled;
      trees = trees;
      are = are;
      each = subst (λ l. AllZip (Fits (tree_of whole)) l trees) (sym (trees_are whole)) fit;
    }
