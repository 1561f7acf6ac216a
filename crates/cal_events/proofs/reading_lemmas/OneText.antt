-- Octets spell at most one calendar for a room, and none where they have a fault.
-- Cited by one_calendar_text.
use Rattle.std.proofs.Common.{◌≡◌, ℕ, Bool, true, false, List, subst, sym, ap, ◌∙◌}
use Rattle.std.proofs.lemmas.Bool.{true≢false}
use Rattle.ical_lines.proofs.ContentLemmas.{read_fine}
use Rattle.profile.specs.text.Lines.{logical_lines}
use Rattle.profile.specs.text.Objects.{SpellsTree, IsObject, has_version, lines_have}
use Rattle.profile.specs.text.Trees.{Tree, tree_own}
use Rattle.profile.specs.events.Confirmed.{Confirmed}
use Rattle.profile.specs.checker.Calendars.{SaysCalendar, CalendarFault, SpellsCalendar, CalendarTextFault, in_lines, in_tree, no_version, in_vevents}

abbrev Lines : Type 0
Lines = List (List ℕ)

abbrev pub OneTree : Type 0
OneTree = (d e : ℕ) (lines : Lines) (a b : Tree) → SpellsTree d a lines → SpellsTree e b lines → a ≡ b

abbrev pub PairsUp : Type 0
PairsUp = (bounded : Bool) (t : Tree) (lines : Lines) (n : ℕ) → IsObject bounded t lines → lines_have n lines ≡ true → ⊥

abbrev OneCalendar : Type 0
OneCalendar = (room : List ℕ) (object : Tree) (a b : Confirmed) → SaysCalendar room object a → SaysCalendar room object b → a ≡ b

abbrev NoFault : Type 0
NoFault = (room : List ℕ) (object : Tree) (a : Confirmed) (n : ℕ) → SaysCalendar room object a → CalendarFault object n → ⊥

pub one_spelled : OneTree → OneCalendar → (room octets : List ℕ) (a b : Confirmed) → SpellsCalendar room octets a → SpellsCalendar room octets b → a ≡ b
one_spelled tree calendar room octets a b s t =
    let same : s.tree ≡ t.tree = tree 7 7 (logical_lines octets) s.tree t.tree s.object.spelled t.object.spelled in
    calendar room t.tree a b (subst (λ (x : Tree). SaysCalendar room x a) same s.says) t.says

-- ---- octets that read have no fault

pub no_fault : OneTree → PairsUp → NoFault → (room octets : List ℕ) (all : Confirmed) (n : ℕ) → SpellsCalendar room octets all → CalendarTextFault octets n → ⊥
no_fault one pairs none room octets all n s (in_lines h) = true≢false (sym h ∙ read_fine false octets n s.lines)
no_fault one pairs none room octets all n s (in_tree h) = pairs false s.tree (logical_lines octets) n s.object h
no_fault one pairs none room octets all n s (no_version t spelled h) =
    let same : s.tree ≡ t = one 7 7 (logical_lines octets) s.tree t s.object.spelled spelled in
    true≢false (sym s.object.version ∙ (ap (λ (x : Tree). has_version (tree_own x)) same ∙ h))
no_fault one pairs none room octets all n s (in_vevents t object fault) =
    let same : s.tree ≡ t = one 7 7 (logical_lines octets) s.tree t s.object.spelled object.spelled in
    none room t all n (subst (λ (x : Tree). SaysCalendar room x all) same s.says) fault
