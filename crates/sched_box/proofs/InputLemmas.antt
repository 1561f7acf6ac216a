-- What is taken of an input, from what it lends.
use Rattle.std.proofs.Common.{◌≡◌, ◌≤◌, ℕ, List, [], ◌++◌, take, length, sym, subst}

-- what was lent, and then taken in part
pub lent_then_taken : {Reader : Type 0} (Takes : Reader → List ℕ → Reader → Type 0) (a b c : Reader) (lent shown : List ℕ) (count : ℕ) → lent ≡ shown → count ≤ length lent
    → ((a b c : Reader) (first second : List ℕ) → Takes a first b → Takes b second c → Takes a (first ++ second) c)
    → Takes a [] b → (count ≤ length shown → Takes b (take count shown) c) → Takes a (take count lent) c
lent_then_taken Takes a b c lent shown count is within more nothing taken =
    let few : count ≤ length shown = subst (λ (z : List ℕ). count ≤ length z) is within in
    subst (λ z. Takes a (take count z) c) (sym is) (more a b c [] (take count shown) nothing (taken few))
