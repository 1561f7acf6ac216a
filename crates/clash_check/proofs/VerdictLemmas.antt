-- A verdict is yes exactly where the certificate holds.
use Rattle.std.proofs.Common.{◌≡◌, ℕ, zero, List, ◌∷◌, ◌⊎◌, refl, sym, subst, inl, inr, arith}
use Rattle.std.specs.Prelude.{◌↔◌, All, Contains, Result, Ok, Err, IfOk}
use Rattle.std.proofs.lemmas.List.Elements.{All-contains, Contains-append_right}
use Rattle.profile.specs.events.Confirmed.{Confirmed}
use Rattle.profile.specs.checker.Certificates.{Claims, Statement, SpellsCertificate, HasCounts, StatementHolds, CertificateHoldsFor, IsWrongText, IsWrongCount, HasFailingStatement, HasClashes, IsFirstFailing, statements}
use Rattle.profile.specs.checker.Calendars.{SpellsCalendar, CalendarTextFault, CertificateHolds}
use Rattle.cal_events.specs.Calendar.{HaveDifferentKeys, HaveOwnKeys}
use Rattle.clash_check.specs.declared.verdict.Checked.{Checked}
use Rattle.clash_check.specs.declared.verdict.Verdict.{Verdict}
use Rattle.clash_check.specs.declared.verdict.Verdict.TheVariants.{Yes, No}
use Rattle.clash_check.specs.declared.verdict.Why.{Why}
use Rattle.clash_check.specs.Verdicts.{IsVerdict, IsNo, MakesFew, IsRefusedCalendar, IsJudgement}
use Rattle.clash_check.proofs.NeverBoth.{never_both}

no_is_not_yes : (why : Why) → No why ≡ Yes → ⊥
no_is_not_yes why e = cc

-- a text spells one certificate
abbrev OneCertificate : Type 0
OneCertificate = (text : List ℕ) (c d : Claims) → SpellsCertificate text c → SpellsCertificate text d → d ≡ c

-- where all hold, none is the first that doesn't
none_fails : (all : Confirmed) (those : List Statement) → All (StatementHolds all) those → (failing : Statement) → IsFirstFailing all those failing → ⊥
none_fails all those hold failing f =
    never_both all failing
    (All-contains (StatementHolds all) those failing hold
    (subst (λ l. Contains l failing) (sym f.are) (Contains-append_right f.before (failing ∷ f.after) failing (zero, omega arith, refl)))) f.fails

-- none of the reasons holds of a certificate that holds
fails : OneCertificate → (all : Confirmed) (text : List ℕ) (number line second : ℕ)
    → ((second ≡ 0) × (IsWrongText text number line ⊎ IsWrongCount all text number line ⊎ HasClashes all text number line)) ⊎ HasFailingStatement all text number line second
    → CertificateHoldsFor all text → ⊥
fails one all text number line second (inr f) s =
    let same : f.c ≡ s.c = one text s.c f.c s.spells f.spells in
    none_fails all (statements s.c) s.statements f.failing (subst (λ (c : Claims). IsFirstFailing all (statements c) f.failing) same f.first_failing)
fails one all text number line second (inl h) s =
    elim h.1 [
      | inl t ↦ t.wrong.none s.c s.spells
      | inr w ↦ elim w [
        | inl n ↦ n.other (subst (HasCounts all) (one text n.c s.c n.spells s.spells) s.counts)
        | inr k ↦ s.singles k.clash.a k.clash.b k.clash.t k.clash.first k.clash.second k.clash.clash
      ]
    ]

yes_iff : OneCertificate → (all : Confirmed) (text : List ℕ) (v : Verdict) → IsVerdict all text v → (v ≡ Yes) ↔ CertificateHoldsFor all text
yes_iff one all text Yes h = (λ e. h, λ s. refl)
yes_iff one all text (No why) h = (λ e. absurd (no_is_not_yes why e), λ s. absurd (fails one all text why.number why.first why.second h s))

pub yes_of : OneCertificate → (all : Confirmed) (text : List ℕ) {E : Type 0} (r : Result Checked E) → IfOk r (λ checked. IsVerdict all text checked.verdict)
    → IfOk r (λ checked. (checked.verdict ≡ Yes) ↔ CertificateHoldsFor all text)
yes_of one all text (Ok checked) h = yes_iff one all text checked.verdict h
yes_of one all text (Err e) h = h

-- ---- of a calendar's octets

abbrev OneText : Type 0
OneText = (room octets : List ℕ) (a b : Confirmed) → SpellsCalendar room octets a → SpellsCalendar room octets b → a ≡ b

abbrev NoFault : Type 0
NoFault = (room octets : List ℕ) (all : Confirmed) (n : ℕ) → SpellsCalendar room octets all → CalendarTextFault octets n → ⊥

-- the octets spell these instances and no others, so a certificate that holds for the octets holds for them
pub holds_iff : OneText → (room calendar text : List ℕ) (all : Confirmed) {E : Type 0} (r : Result Checked E) → SpellsCalendar room calendar all
    → IfOk r (λ checked. (checked.verdict ≡ Yes) ↔ CertificateHoldsFor all text) → IfOk r (λ checked. (checked.verdict ≡ Yes) ↔ CertificateHolds room calendar text)
holds_iff one room calendar text all (Ok checked) s h = (
  λ e. record { confirmed = all; spells = s; holds = h.0 e },
  λ c. h.1 (subst (λ (l : Confirmed). CertificateHoldsFor l text) (one room calendar c.confirmed all c.spells s) c.holds),
)
holds_iff one room calendar text all (Err e) s h = h

-- no certificate holds for a calendar that has a fault
pub refused_iff : NoFault → (room calendar text : List ℕ) (n : ℕ) (v : Verdict) → CalendarTextFault calendar n → IsNo 80 0 0 v → (v ≡ Yes) ↔ CertificateHolds room calendar text
refused_iff none room calendar text n Yes f h = absurd h
refused_iff none room calendar text n (No why) f h = (λ e. absurd (no_is_not_yes why e), λ c. absurd (none room calendar c.confirmed n c.spells f))

-- ---- what a yes means

-- where the yes says this, it says what follows
pub yes_says : (C F : Type 0) {E : Type 0} (r : Result Checked E) → (C → F) → IfOk r (λ checked. (checked.verdict ≡ Yes) ↔ C) → IfOk r (λ checked. checked.verdict ≡ Yes → F)
yes_says C F (Ok checked) f h = λ e. f (h.0 e)
yes_says C F (Err e) f h = h

-- a no isn't a yes
pub no_yes : (F : Type 0) (n first second : ℕ) (v : Verdict) → IsNo n first second v → v ≡ Yes → F
no_yes F n first second Yes h e = absurd h
no_yes F n first second (No why) h e = absurd (no_is_not_yes why e)

-- ---- answers

pub judgement_of : (room calendar text : List ℕ) (all : Confirmed) {E : Type 0} (r : Result Checked E) → SpellsCalendar room calendar all → HaveDifferentKeys all.singles → HaveOwnKeys all
    → IfOk r (λ checked. IsVerdict all text checked.verdict) → IfOk r (MakesFew all text) → IfOk r (λ checked. IsRefusedCalendar calendar checked ⊎ IsJudgement room calendar text checked)
judgement_of room calendar text all (Ok checked) s keys own v m = inr (record { all = all; spells = s; keys = keys; own = own; verdict = v; made = m })
judgement_of room calendar text all (Err e) s keys own v m = v
