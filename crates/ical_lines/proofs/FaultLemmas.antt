-- What a reading that was placed at a line says of the reading.
use Rattle.std.proofs.Common.{◌≡◌, refl, ap, subst, ℕ, Result, Ok, Err, IfOk, IfErr, MatchResult}
use Rattle.ical_lines.specs.Fault.{RefusesBy, RefusesWhere, IsPlacedAt, IsFaultAt}
use Rattle.ical_lines.specs.declared.fault.Fault.{Fault}
use Rattle.ical_lines.specs.declared.fault.Fault.TheVariants.{Refused, Memory}
use Rattle.ical_lines.specs.declared.fault.Refusal.{Refusal}

-- what holds of each value that was read holds where the reading is placed
pub placed_ok : {T E : Type 0} (P : T → Type 0) (Q : E → Type 0) (read placed : Result T E) → MatchResult placed (λ v. read ≡ Ok v) Q → IfOk read P → IfOk placed P
placed_ok P Q read (Ok v) is holds = subst (λ found. IfOk found P) is holds
placed_ok P Q read (Err e) is holds = tt

-- what holds of the number of each refusal of a reading holds of it where it is placed, at the line
pub placed_where : {T : Type 0} (P : ℕ → Type 0) (line : ℕ) (read : Result T Refusal) (placed : Refusal)
    → IsPlacedAt line read placed → IfErr read (λ r. P r.number) → P placed.number × (placed.line ≡ line)
placed_where P line read placed (r, is, so) holds =
    let here : P r.number = subst (λ found. IfErr found (λ r. P r.number)) is holds in
    rw so (here, refl)

pub fault_where : {T : Type 0} (P : ℕ → Type 0) (line : ℕ) (read : Result T Fault) (placed : Fault)
    → IsFaultAt line read placed → IfErr read (RefusesBy P) → RefusesWhere (λ n at. P n × (at ≡ line)) placed
fault_where P line read placed (Memory, is, so) holds = rw so tt
fault_where P line read placed (Refused r, is, so) holds =
    let here : P r.number = subst (λ found. IfErr found (RefusesBy P)) is holds in
    rw so (here, refl)

pub placed_number : {T : Type 0} (P : ℕ → Type 0) (line : ℕ) (read placed : Result T Refusal)
    → MatchResult placed (λ v. read ≡ Ok v) (IsPlacedAt line read) → IfErr read (λ r. P r.number) → IfErr placed (λ r. P r.number)
placed_number P line read (Ok v) is holds = tt
placed_number P line read (Err e) is holds = (placed_where P line read e is holds).0

pub placed_line : {T : Type 0} (line : ℕ) (read placed : Result T Refusal)
    → MatchResult placed (λ v. read ≡ Ok v) (IsPlacedAt line read) → IfErr placed (λ r. r.line ≡ line)
placed_line line read (Ok v) is = tt
placed_line line read (Err e) (r, is, so) = ap (λ x. x.line) so
