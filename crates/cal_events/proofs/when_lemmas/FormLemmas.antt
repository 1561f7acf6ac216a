-- What a text of a time spells, and what is wrong with it, by what VALUE says and with TZID or without.
-- Cited by When::read_text, judge_time, read_local.
use Rattle.std.proofs.Common.{◌≡◌, sym, subst, inl, inr, ◌⊎◌, ℕ, true, false, List, ℤ}
use Rattle.std.proofs.lemmas.Bool.{false≢true, true≢false}
use Rattle.std.specs.Prelude.{Option, Some, None, is_some, MatchOption, Result, Ok, Err, IfOk, IfErr, OnErr}
use Rattle.ical_lines.specs.declared.fault.Refusal.{Refusal}
use Rattle.profile.specs.text.Trees.{Tree}
use Rattle.profile.specs.text.Values.{SpellsLocal}
use Rattle.profile.specs.events.Properties.{TimeKind, Unsaid, DateTime, Form, Fixed, allows_form, IsLocalText, KindFault}
use Rattle.profile.specs.events.ZonedTimes.{LocalFault, FaultIn}
use Rattle.cal_events.specs.Forms.{IsAlone}

-- what two clauses say of a value
pub ok_both : {T E : Type 0} (r : Result T E) (P Q R : T → Type 0) → ((x : T) → P x → Q x → R x) → IfOk r P → IfOk r Q → IfOk r R
ok_both (Ok x) P Q R f p q = f x p q
ok_both (Err e) P Q R f p q = tt

-- where VALUE allows a local time, a text that is none has the number 11
pub local_fault : (kind : TimeKind) (text : List ℕ) → (kind ≡ Unsaid) ⊎ (kind ≡ DateTime) → (r : Result ℤ Refusal) → IfErr r (λ e. e.number ≡ 11)
    → OnErr r ((local : ℤ) → SpellsLocal text local → ⊥) → IfErr r (λ e. LocalFault kind text e.number)
local_fault kind text is (Ok local) n none = tt
local_fault kind text (inl is) (Err e) n none = subst (λ (k : TimeKind). LocalFault k text e.number) (sym is) ((λ l. none l.0 l.1), n)
local_fault kind text (inr is) (Err e) n none = subst (λ (k : TimeKind). LocalFault k text e.number) (sym is) ((λ l. none l.0 l.1), n)

-- ---- of a line with this TZID, or without

abbrev pub IsReadableIn : Option (List ℕ) → TimeKind → List ℕ → Type 0
IsReadableIn zone kind text =
    MatchOption zone ((form : Form) × (local : ℤ) × (allows_form kind form ≡ true) × IsAlone text form local) (λ _. (allows_form kind Fixed ≡ true) × IsLocalText text)

pub local_in : (zone : Option (List ℕ)) (kind : TimeKind) (text : List ℕ) (local : ℤ) → is_some zone ≡ true → allows_form kind Fixed ≡ true → SpellsLocal text local → IsReadableIn zone kind text
local_in (Some name) kind text local e a h = (a, (local, h))
local_in None kind text local e a h = absurd (false≢true e)

pub alone_in : (zone : Option (List ℕ)) (kind : TimeKind) (text : List ℕ) (form : Form) (local : ℤ) → is_some zone ≡ false → allows_form kind form ≡ true → IsAlone text form local
    → IsReadableIn zone kind text
alone_in (Some name) kind text form local e a h = absurd (true≢false e)
alone_in None kind text form local e a h = (form, local, a, h)

pub local_fault_in : (object : Tree) (zone : Option (List ℕ)) (kind : TimeKind) (text : List ℕ) (n : ℕ) → is_some zone ≡ true → LocalFault kind text n → FaultIn object zone kind text n
local_fault_in object (Some name) kind text n e h = inl h
local_fault_in object None kind text n e h = absurd (false≢true e)

pub alone_fault_in : (object : Tree) (zone : Option (List ℕ)) (kind : TimeKind) (text : List ℕ) (n : ℕ) → is_some zone ≡ false → KindFault kind text n → FaultIn object zone kind text n
alone_fault_in object (Some name) kind text n e h = absurd (true≢false e)
alone_fault_in object None kind text n e h = h
