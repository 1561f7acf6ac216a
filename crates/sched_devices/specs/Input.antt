-- What a reader lends, what may come next of it, and how often it is filled.
use Rattle.std.specs.Prelude.{◌≡◌, ◌≤◌, ◌+◌, ℕ, Bool, true, false, if◌then◌else◌, List, ◌++◌, length, Option, Some, IfSome}
use Rattle.std.specs.Io.{StartsWith}
use Rattle.std.specs.Io.KnownBytes.{Consumes, prepend_known}
use Rattle.std.specs.Io.Buffered.{reader_buffer, reader_remaining}
use Rattle.std.specs.declared.io.buffered.BufReader.{BufReader}

-- of a reader whose octets are known: at most once for each octet that was consumed, and this often more
abbrev pub IsFilledWithin : ℕ → ℕ → ℕ → Option (List ℕ) → Option (List ℕ) → Type 0
IsFilledWithin more old new input left = IfSome input (λ octets. IfSome left (λ rest. new + length rest ≤ old + length octets + more))

-- octets that may come next of a reader that lends these: they begin with them, and where its input has ended they are all
pub record MayFollow (lent : List ℕ) (has_ended : Bool) (octets : List ℕ) : Type 0 where
  pub begins : StartsWith octets lent
  pub ends : has_ended ≡ true → octets ≡ lent

-- what is known of the octets that are to come: all of them, perhaps; those that are lent; and whether these are all
pub record Coming : Type 0 where
  pub known : Option (List ℕ)
  pub lent : List ℕ
  pub has_ended : Bool

-- of octets in memory all are lent
abbrev pub in_memory : List ℕ → Coming
in_memory octets = record { known = Some octets; lent = octets; has_ended = true }

-- of a device what its buffer holds is lent, and where its input has ended that is all
abbrev pub of_device : {T A : Type 0} → (T → Option (List ℕ)) → BufReader T A → Bool → Coming
of_device remaining reader has_ended =
    record { known = if has_ended then Some (reader_buffer reader) else reader_remaining remaining reader; lent = reader_buffer reader; has_ended = has_ended }

-- octets were taken: whatever may follow then, behind these it might follow before
pub record TakesOctets (old : Coming) (taken : List ℕ) (new : Coming) : Type 0 where
  pub consumed : Consumes old.known new.known taken
  pub follows : (octets : List ℕ) → MayFollow new.lent new.has_ended octets → MayFollow old.lent old.has_ended (taken ++ octets)

-- they were added to those that are kept, unless some are lost
abbrev pub KeepsTaken : List ℕ → Bool → List ℕ → List ℕ → Bool → Type 0
KeepsTaken old was_lost taken new is_lost = is_lost ≡ false → (was_lost ≡ false) × (new ≡ old ++ taken)

-- of the octets that were taken between two states of a reader, and of whatever may follow then, this holds
pub record ForTaken {Reader : Type 0} (Takes : Reader → List ℕ → Reader → Type 0) (lent : Reader → List ℕ) (has_ended : Reader → Bool) (old new : Reader)
    (Holds : Option (List ℕ) → Option (List ℕ) → Type 0) : Type 0 where
  pub taken : List ℕ
  pub takes : Takes old taken new
  pub holds : (left : Option (List ℕ)) → IfSome left (MayFollow (lent new) (has_ended new)) → Holds (prepend_known taken left) left
