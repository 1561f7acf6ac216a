-- What a clause says where a call ends in an `Err`.
use Rattle.std.proofs.Common.{◌≡◌, sym, ℕ, subst, Result, Ok, Err, Option, Some, None, IfNone, IfErr, OnErr, IsErrAnd}
use Rattle.ical_lines.specs.declared.fault.Refusal.{Refusal}

-- the exit of a `?`: what holds of the error that came holds of the one that is returned
pub err_exit : {T E : Type 0} (r : Result T E) (P : E → Type 0) (e : E) → IsErrAnd r (λ f. f ≡ e) → P e → IfErr r P
err_exit (Ok x) P e h p = tt
err_exit (Err f) P e h p = subst P (sym h) p

-- the same of a refusal, by its number
pub refusal_exit : {T : Type 0} (r : Result T Refusal) (P : ℕ → Type 0) (e : Refusal) → IsErrAnd r (λ f. f ≡ e) → P e.number → IfErr r (λ f. P f.number)
refusal_exit r P e h p = err_exit r (λ (f : Refusal). P f.number) e h p

-- what two clauses say of an error
pub err_both : {T E : Type 0} (r : Result T E) (P Q R : E → Type 0) → ((e : E) → P e → Q e → R e) → IfErr r P → IfErr r Q → IfErr r R
err_both (Ok x) P Q R f p q = tt
err_both (Err e) P Q R f p q = f e p q

-- what holds anyway holds where there is an error
pub any_err : {T E : Type 0} (r : Result T E) (P : Type 0) → P → OnErr r P
any_err (Ok x) P p = tt
any_err (Err e) P p = p

-- what holds anyway holds where there is no value
pub if_none : {A P : Type 0} (r : Option A) → P → IfNone r P
if_none (Some x) p = tt
if_none None p = p
