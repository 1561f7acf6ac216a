-- What is said of a certificate, whatever text spells it.
use Rattle.std.specs.Prelude.{◌≡◌, ℕ, List}
use Rattle.profile.specs.checker.Certificates.{Claims, SpellsCertificate}
use Rattle.profile.specs.events.Confirmed.{Confirmed}
use Rattle.clash_check.specs.declared.verdict.Checked.{Checked}
use Rattle.clash_check.specs.declared.verdict.Verdict.{Verdict}
use Rattle.clash_check.specs.Verdicts.{IsVerdict, MakesFew}

-- the text spells this certificate and no other
abbrev pub SpellsOnly : List ℕ → Claims → Type 0
SpellsOnly text c = SpellsCertificate text c × ((d : Claims) → SpellsCertificate text d → d ≡ c)

-- this is the verdict on each text of it
abbrev pub IsVerdictOf : Confirmed → Claims → Verdict → Type 0
IsVerdictOf all c verdict = (text : List ℕ) → SpellsOnly text c → IsVerdict all text verdict

-- and so many instances were made
abbrev pub MakesFewOf : Confirmed → Claims → Checked → Type 0
MakesFewOf all c checked = (text : List ℕ) → SpellsOnly text c → MakesFew all text checked
