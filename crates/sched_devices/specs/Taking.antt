-- Why octets that are taken in turn are taken together, and what may follow them.
use Rattle.std.proofs.Common.{◌∙◌, ◌==◌, ℕ, Bool, true, false, if◌then◌else◌, List, [], ◌++◌, Option, Some, None, IfSome, refl, sym, ap, subst, append-nil, true≢false}
use Rattle.std.proofs.lemmas.List.{append_assoc}
use Rattle.std.proofs.Math.Seq.{take-append_seam, take-length}
use Rattle.std.specs.Io.KnownBytes.{prepend_known}
use Rattle.std.proofs.KnownBytes.{Consumes-nil, Consumes-trans}
use Rattle.sched_devices.specs.Input.{Coming, KeepsTaken, MayFollow, TakesOctets}

-- all of them may follow where all are lent
pub known_follows : (octets : List ℕ) → MayFollow octets true octets
known_follows octets = record { begins = take-length octets; ends = λ _. refl }

-- of a device with a buffer
pub device_follows : (lent : List ℕ) (has_ended : Bool) (capacity : ℕ) (inner : Option (List ℕ))
    → IfSome (if has_ended then Some lent else (if capacity == 0 then None else prepend_known lent inner)) (MayFollow lent has_ended)
device_follows lent true capacity inner = known_follows lent
device_follows lent false capacity inner = at (capacity == 0) inner
  where
    at : (b : Bool) (inner : Option (List ℕ)) → IfSome (if b then None else prepend_known lent inner) (MayFollow lent false)
    at true inner = tt
    at false None = tt
    at false (Some rest) = record { begins = take-append_seam lent rest; ends = λ e. absurd (true≢false (sym e)) }

pub taken_nothing : (a : Coming) → TakesOctets a [] a
taken_nothing a = record { consumed = Consumes-nil a.known; follows = λ octets h. h }

pub taken_more : (a b c : Coming) (first second : List ℕ) → TakesOctets a first b → TakesOctets b second c → TakesOctets a (first ++ second) c
taken_more a b c first second one two = record {
  consumed = Consumes-trans a.known b.known c.known first second one.consumed two.consumed;
  follows = λ octets h.
      let P : List ℕ → Type 0 = MayFollow a.lent a.has_ended in
      subst P (sym (append_assoc first second octets)) (one.follows (second ++ octets) (two.follows octets h));
}

pub kept_nothing : (octets : List ℕ) (lost : Bool) → KeepsTaken octets lost [] octets lost
kept_nothing octets lost e = (e, sym (append-nil octets))

pub kept_more : (a b c : List ℕ) (p q r : Bool) (first second : List ℕ) → KeepsTaken a p first b q → KeepsTaken b q second c r → KeepsTaken a p (first ++ second) c r
kept_more a b c p q r first second one two e =
    let (kept, is) = two e in
    let (was, are) = one kept in
    (was, is ∙ ap (λ z. z ++ second) are ∙ append_assoc a first second)
