-- A line says at most one local time of one form in one zone, and none where it has a fault.
-- Cited by one_zoned_time.
use Rattle.std.proofs.Common.{◌≡◌, ◌∙◌, ap, sym, refl, inl, inr, ℕ, true, List, ℤ, pos, ◌*ℤ◌, codes, length, length-append, arith}
use Rattle.std.specs.Prelude.{Option, Some, None}
use Rattle.std.proofs.lemmas.Bool.{false≢true}
use Rattle.profile.specs.text.Lines.{line_param}
use Rattle.profile.specs.text.Trees.{Tree}
use Rattle.profile.specs.text.Values.{SpellsStamp, SpellsLocal}
use Rattle.profile.specs.series.Zones.{Zone}
use Rattle.profile.specs.series.ZoneTexts.{SaysZone, ZoneFault}
use Rattle.profile.specs.events.Properties.{TimeKind, Unsaid, DateTime, Date, Period, Other, Form, Fixed, Floating, WholeDay, allows_form, time_kind, KindFault}
use Rattle.profile.specs.events.ZonedTimes.{zone_named, SaysZoneOf, SpellsZoned, SpellsMidnight, SpellsForm, SaysZonedText, LocalFault, NamedFault, FaultIn, ZonedTextFault}
use Rattle.ical_values.proofs.Spelled.{date_length, clock_parts}
use Rattle.ical_values.proofs.Readings.{date_same}
use Rattle.cal_events.specs.Forms.{IsAlone}

abbrev OneStamp : Type 0
OneStamp = (text : List ℕ) (a b : ℤ) → SpellsStamp text a → SpellsStamp text b → a ≡ b

abbrev OneLocal : Type 0
OneLocal = (text : List ℕ) (a b : ℤ) → SpellsLocal text a → SpellsLocal text b → a ≡ b

abbrev OneZone : Type 0
OneZone = (t : Tree) (a b : Zone) → SaysZone t a → SaysZone t b → a ≡ b

abbrev NoFault : Type 0
NoFault = (t : Tree) (a : Zone) (n : ℕ) → SaysZone t a → ZoneFault t n → ⊥

-- ---- one time of a form

same_zone : OneZone → (o : Option Tree) (a b : Zone) → SaysZoneOf o a → SaysZoneOf o b → a ≡ b
same_zone f None a b h k = absurd h
same_zone f (Some t) a b h k = f t a b h k

same_spelled : OneStamp → OneLocal → OneZone → (object : Tree) (o : Option (List ℕ)) (text : List ℕ) (a b : Option Zone) (s t : ℤ)
    → SpellsZoned object o text a s → SpellsZoned object o text b t → (a ≡ b) × (s ≡ t)
same_spelled f g z object None text None None s t h k = (refl, f text s t h k)
same_spelled f g z object None text (Some a) b s t h k = absurd h
same_spelled f g z object None text None (Some b) s t h k = absurd k
same_spelled f g z object (Some name) text None b s t h k = absurd h
same_spelled f g z object (Some name) text (Some a) None s t h k = absurd k
same_spelled f g z object (Some name) text (Some a) (Some b) s t (h, p) (k, q) = (ap Some (same_zone z (zone_named name object) a b p q), g text s t h k)

same_midnight : (text : List ℕ) (s t : ℤ) → SpellsMidnight text s → SpellsMidnight text t → s ≡ t
same_midnight text s t (d, h, p) (e, k, q) = p ∙ ap (λ (day : ℤ). day *ℤ pos 86_400) (date_same text d e h k) ∙ sym q

-- ---- its form, by the length of the text: a date has 8 octets, a local time 15, a stamp 16

local_length : (text : List ℕ) (s : ℤ) → SpellsLocal text s → length text ≡ 15
local_length text s h = (clock_parts 60 text s h).long

stamp_length : (text : List ℕ) (s : ℤ) → SpellsStamp text s → length text ≡ 16
stamp_length text s (local, h, e) = let l = local_length local s h in omega (arith, l, ap length e, length-append local (codes "Z"))

midnight_length : (text : List ℕ) (s : ℤ) → SpellsMidnight text s → length text ≡ 8
midnight_length text s (day, h, e) = date_length text day h

zoned_length : (object : Tree) (o : Option (List ℕ)) (text : List ℕ) (a : Option Zone) (s : ℤ) → o ≡ None → SpellsZoned object o text a s → length text ≡ 16
zoned_length object None text None s e h = stamp_length text s h
zoned_length object None text (Some a) s e h = absurd h
zoned_length object (Some name) text a s e h = cc

same_form : OneStamp → OneLocal → OneZone → (object : Tree) (o : Option (List ℕ)) (text : List ℕ) (f g : Form) (a b : Option Zone) (s t : ℤ)
    → SpellsForm object o text f a s → SpellsForm object o text g b t → (f ≡ g) × (a ≡ b) × (s ≡ t)
same_form one local z object o text Fixed Fixed a b s t h k = let e = same_spelled one local z object o text a b s t h k in (refl, e.0, e.1)
same_form one local z object o text Floating Floating a b s t h k = (refl, h.1 ∙ sym k.1, local text s t h.2 k.2)
same_form one local z object o text WholeDay WholeDay a b s t h k = (refl, h.1 ∙ sym k.1, same_midnight text s t h.2 k.2)
same_form one local z object o text Fixed Floating a b s t h k =
    let p = zoned_length object o text a s k.0 h in let q = local_length text t k.2 in absurd (omega (arith, p, q))
same_form one local z object o text Fixed WholeDay a b s t h k =
    let p = zoned_length object o text a s k.0 h in let q = midnight_length text t k.2 in absurd (omega (arith, p, q))
same_form one local z object o text Floating Fixed a b s t h k =
    let p = local_length text s h.2 in let q = zoned_length object o text b t h.0 k in absurd (omega (arith, p, q))
same_form one local z object o text Floating WholeDay a b s t h k =
    let p = local_length text s h.2 in let q = midnight_length text t k.2 in absurd (omega (arith, p, q))
same_form one local z object o text WholeDay Fixed a b s t h k =
    let p = midnight_length text s h.2 in let q = zoned_length object o text b t h.0 k in absurd (omega (arith, p, q))
same_form one local z object o text WholeDay Floating a b s t h k =
    let p = midnight_length text s h.2 in let q = local_length text t k.2 in absurd (omega (arith, p, q))

pub one : OneStamp → OneLocal → OneZone → (object : Tree) (line text : List ℕ) (f g : Form) (a b : Option Zone) (s t : ℤ)
    → SaysZonedText object line text f a s → SaysZonedText object line text g b t → (f ≡ g) × (a ≡ b) × (s ≡ t)
one stamp local z object line text f g a b s t h k = same_form stamp local z object (line_param (codes "TZID") line) text f g a b s t h.1 k.1

-- ---- no fault

no_named : NoFault → (o : Option Tree) (a : Zone) (n : ℕ) → SaysZoneOf o a → NamedFault o n → ⊥
no_named f None a n h k = h
no_named f (Some t) a n h k = f t a n h k

-- with TZID
no_local : (kind : TimeKind) (text : List ℕ) (s : ℤ) (n : ℕ) → allows_form kind Fixed ≡ true → SpellsLocal text s → LocalFault kind text n → ⊥
no_local Unsaid text s n e h f = f.0 (s, h)
no_local DateTime text s n e h f = f.0 (s, h)
no_local Date text s n e h f = false≢true e
no_local Period text s n e h f = false≢true e
no_local Other text s n e h f = false≢true e

-- without
alone_form : (object : Tree) (text : List ℕ) (form : Form) (a : Option Zone) (s : ℤ) → SpellsForm object None text form a s → IsAlone text form s
alone_form object text Fixed None s h = h
alone_form object text Fixed (Some a) s h = absurd h
alone_form object text Floating a s h = h.2
alone_form object text WholeDay a s h = h.2

no_alone : (kind : TimeKind) (text : List ℕ) (form : Form) (s : ℤ) (n : ℕ) → allows_form kind form ≡ true → IsAlone text form s → KindFault kind text n → ⊥
no_alone Unsaid text Fixed s n e h f = f.1.0 s h
no_alone Unsaid text Floating s n e h f = f.1.1 (s, h)
no_alone Unsaid text WholeDay s n e h f = f.0 (h.0, h.1)
no_alone DateTime text Fixed s n e h f = f.0 s h
no_alone DateTime text Floating s n e h f = f.1 (s, h)
no_alone DateTime text WholeDay s n e h f = false≢true e
no_alone Date text Fixed s n e h f = false≢true e
no_alone Date text Floating s n e h f = false≢true e
no_alone Date text WholeDay s n e h f = f.0 (h.0, h.1)
no_alone Period text Fixed s n e h f = false≢true e
no_alone Period text Floating s n e h f = false≢true e
no_alone Period text WholeDay s n e h f = false≢true e
no_alone Other text Fixed s n e h f = false≢true e
no_alone Other text Floating s n e h f = false≢true e
no_alone Other text WholeDay s n e h f = false≢true e

no_spelled : NoFault → (object : Tree) (o : Option (List ℕ)) (kind : TimeKind) (text : List ℕ) (form : Form) (a : Option Zone) (s : ℤ) (n : ℕ) → allows_form kind form ≡ true
    → SpellsForm object o text form a s → FaultIn object o kind text n → ⊥
no_spelled z object None kind text form a s n k h f = no_alone kind text form s n k (alone_form object text form a s h) f
no_spelled z object (Some name) kind text Fixed None s n k h f = absurd h
no_spelled z object (Some name) kind text Fixed (Some a) s n k (h, p) (inl f) = no_local kind text s n k h f
no_spelled z object (Some name) kind text Fixed (Some a) s n k (h, p) (inr (_, _, f)) = no_named z (zone_named name object) a n p f
no_spelled z object (Some name) kind text Floating a s n k (e, _, _) f = cc
no_spelled z object (Some name) kind text WholeDay a s n k (e, _, _) f = cc

pub or_a_fault : NoFault → (object : Tree) (line text : List ℕ) (form : Form) (a : Option Zone) (s : ℤ) (n : ℕ) → SaysZonedText object line text form a s → ZonedTextFault object line text n → ⊥
or_a_fault z object line text form a s n h f = no_spelled z object (line_param (codes "TZID") line) (time_kind line) text form a s n h.0 h.1 f
