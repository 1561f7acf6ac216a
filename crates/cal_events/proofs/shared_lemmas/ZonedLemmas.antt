-- The VTIMEZONE that a name means, among the components of an object, and what is read of it.
-- Cited by EventComponent::read of component, Draft::into_calendar of draft, SaidRule::judge of event_rule, SaidRule::read of event_rule, MeetingComponents::read of meeting_components, MeetingComponents::read_in_order of meeting_components and 4 more.
use Rattle.std.proofs.Common.{◌≡◌, ◌⊎◌, inl, inr, sym, refl, subst, ℕ, true, List, codes, ℤ}
use Rattle.std.specs.Prelude.{Option, Some, None, option_map, Result, Ok, Err, IfOk, IfErr}
use Rattle.cal_zones.specs.Kinds.{zone_of}
use Rattle.cal_zones.specs.declared.zone.Zone.{Zone}
use Rattle.ical_lines.specs.Fault.{RefusesBy, RefusesWhere, fault_at}
use Rattle.ical_lines.specs.declared.fault.Fault.{Fault}
use Rattle.ical_lines.specs.declared.fault.Fault.TheVariants.{Refused, Memory}
use Rattle.ical_lines.specs.declared.fault.Refusal.{Refusal}
use Rattle.ical_tree.specs.Tree.{tree_of}
use Rattle.ical_tree.specs.declared.component.Component.{Component}
use Rattle.profile.specs.text.Lines.{line_param}
use Rattle.profile.specs.text.Trees.{Tree}
use Rattle.profile.specs.series.Zones as zones
use Rattle.profile.specs.events.Properties.{BothOrNeither, Form, Fixed, Floating, WholeDay, allows_form, time_kind, KindFault}
use Rattle.profile.specs.events.ZonedTimes.{SaysZoneOf, SpellsForm, SaysZonedText, NamedFault, InZoneFault, LocalFault, FaultIn, ZonedTextFault}
use Rattle.profile.specs.events.EventBlame.{NamedBlame}
use Rattle.profile.specs.series.ZoneBlame.{NumberedZone}
use Rattle.cal_events.specs.Blame.{TextBlame}
use Rattle.cal_events.specs.Forms.{IsAlone}
use Rattle.cal_events.specs.Zones.{IsZoneRead}

-- ---- what the table has of a name

pub zone_read : (f : Option Component) (r : Result Zone Refusal) → BothOrNeither IsZoneRead f (Some r)
    → IfOk r (λ z. SaysZoneOf (option_map tree_of f) (zone_of z)) × IfErr r (λ e. NamedFault (option_map tree_of f) e.number)
zone_read (Some c) (Ok z) h = (h, tt)
zone_read (Some c) (Err e) h = (tt, h.0)
zone_read None r h = absurd h

pub no_zone_read : (f : Option Component) → BothOrNeither IsZoneRead f None → NamedFault (option_map tree_of f) 43
no_zone_read None h = refl
no_zone_read (Some c) h = absurd h

-- ---- refusals

pub weaker_fault : (f : Fault) (P Q : ℕ → Type 0) → ((n : ℕ) → P n → Q n) → RefusesBy P f → RefusesBy Q f
weaker_fault Memory P Q g h = tt
weaker_fault (Refused e) P Q g h = g e.number h

-- at another line it has the same number
pub still_by : (P : ℕ → Type 0) (line : ℕ) (f : Fault) → RefusesBy P f → RefusesBy P (fault_at line f)
still_by P line Memory h = tt
still_by P line (Refused e) h = h

pub weaker_where : (f : Fault) (P Q : ℕ → ℕ → Type 0) → ((n at : ℕ) → P n at → Q n at) → RefusesWhere P f → RefusesWhere Q f
weaker_where Memory P Q g h = tt
weaker_where (Refused e) P Q g h = g e.number e.line h

-- ---- a text of a line

-- of a line with TZID
pub zoned_said : (object : Tree) (line text name : List ℕ) (form : Form) (zone : Option zones.Zone) (local : ℤ) → line_param (codes "TZID") line ≡ Some name
    → allows_form (time_kind line) form ≡ true → SpellsForm object (Some name) text form zone local → SaysZonedText object line text form zone local
zoned_said object line text name form zone local e a h = (a, subst (λ (o : Option (List ℕ)). SpellsForm object o text form zone local) (sym e) h)

pub zoned_fault : (object : Tree) (line text name : List ℕ) (n : ℕ) → line_param (codes "TZID") line ≡ Some name → InZoneFault object name (time_kind line) text n
    → ZonedTextFault object line text n
zoned_fault object line text name n e h = subst (λ (o : Option (List ℕ)). FaultIn object o (time_kind line) text n) (sym e) h

-- of one without
alone_spelled : (object : Tree) (text : List ℕ) (form : Form) (zone : Option zones.Zone) (local : ℤ) → zone ≡ None → IsAlone text form local → SpellsForm object None text form zone local
alone_spelled object text Fixed None local e h = h
alone_spelled object text Fixed (Some zone) local e h = cc
alone_spelled object text Floating a local e h = (refl, e, h)
alone_spelled object text WholeDay a local e h = (refl, e, h)

pub alone_said : (object : Tree) (line text : List ℕ) (form : Form) (zone : Option zones.Zone) (local : ℤ) → line_param (codes "TZID") line ≡ None
    → allows_form (time_kind line) form ≡ true → (zone ≡ None) × IsAlone text form local → SaysZonedText object line text form zone local
alone_said object line text form zone local e a h =
    (a, subst (λ (o : Option (List ℕ)). SpellsForm object o text form zone local) (sym e) (alone_spelled object text form zone local h.0 h.1))

pub alone_fault : (object : Tree) (line text : List ℕ) (n : ℕ) → line_param (codes "TZID") line ≡ None → KindFault (time_kind line) text n → ZonedTextFault object line text n
alone_fault object line text n e h = subst (λ (o : Option (List ℕ)). FaultIn object o (time_kind line) text n) (sym e) h

-- ---- at which line a text is refused

pub zoned_blame : (zones : List NumberedZone) (line : ℕ × List ℕ) (text name : List ℕ) (n at : ℕ) → line_param (codes "TZID") line.1 ≡ Some name
    → ((at ≡ line.0) × LocalFault (time_kind line.1) text n) ⊎ NamedBlame zones line.0 name n at → TextBlame zones line text n at
zoned_blame zones line text name n at e (inl (here, fault)) = inl (here, λ object. zoned_fault object line.1 text name n e (inl fault))
zoned_blame zones line text name n at e (inr blame) = inr (name, e, blame)
