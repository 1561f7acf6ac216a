-- Why nothing is kept.
use Rattle.std.proofs.Common.{◌≡◌, ◌⊎◌, ◌++◌, subst, take, ℕ, ℤ, Bool, arith, List, Contains, Option, IfSome, Result, Ok, Err, IfOk, IfErr, inl, inr}
use Rattle.profile.specs.checker.Calendars.{CertificateHolds}
use Rattle.profile.specs.streams.Streams.{Config, addresses}
use Rattle.sched_box.specs.Faults.{IfRefusedStream, IsReadFault, RefusesPreamble}
use Rattle.sched_box.specs.Preamble.{OpensStream, OpensNot, StopsInPreamble}
use Rattle.sched_box.specs.Serving.{KeepsTexts, StopsKeeping}
use Rattle.sched_box.specs.declared.fault.ServeFault.TheVariants.{Read, Write, TooLong, Memory}
use Rattle.sched_box.specs.declared.fault.StreamFault.{StreamFault}
use Rattle.sched_box.specs.declared.fault.StreamFault.TheVariants.{Refused, Serve}
use Rattle.sched_devices.specs.Input.{ForTaken, MayFollow}
use Rattle.sched_devices.proofs.InputLemmas.{for_both}
use Rattle.sched_cli.specs.Commands.{CutsKept, KeepsBoth, KeepsNone, fault_status, kept_text}
use Rattle.sched_cli.specs.declared.commands.KeptText.{KeptText}
use Rattle.std.specs.Io.KnownBytes.{Appends, Keeps}

-- where the preamble is refused
pub unopened : (input left : Option (List ℕ)) (room : List ℕ) (f : StreamFault) → RefusesPreamble f → IsReadFault f → IfRefusedStream (IfSome input OpensNot) f → StopsInPreamble input left
    → KeepsNone input left room f
unopened input left room (Refused r) number read none stops = (number, inl (none, stops))
unopened input left room (Serve Read) number read none stops = tt
unopened input left room (Serve Write) number read none stops = tt
unopened input left room (Serve TooLong) number read none stops = absurd read
unopened input left room (Serve Memory) number read none stops = tt

-- behind it
pub unkept : {T : Type 0} (r : Result T StreamFault) (input rest left : Option (List ℕ)) (room : List ℕ) (moment : ℤ) (hosts : Config) → OpensStream input rest moment hosts
    → IfErr r RefusesPreamble → IfErr r (IfRefusedStream (Contains (addresses hosts.rooms) room → ⊥)) → IfErr r (StopsKeeping rest left)
    → {X : Type 0} → ((Contains (addresses hosts.rooms) room → ⊥) → X × Keeps rest left) → IfErr r (KeepsNone input left room)
unkept (Ok x) input rest left room moment hosts opens number none bound unhosted = tt
unkept (Err (Refused e)) input rest left room moment hosts opens number none bound unhosted = (number, inr (moment, hosts, rest, opens, none, (unhosted none).1))
unkept (Err (Serve Read)) input rest left room moment hosts opens number none bound unhosted = tt
unkept (Err (Serve Write)) input rest left room moment hosts opens number none bound unhosted = tt
unkept (Err (Serve TooLong)) input rest left room moment hosts opens number none bound unhosted = (moment, hosts, rest, opens, bound)
unkept (Err (Serve Memory)) input rest left room moment hosts opens number none bound unhosted = tt

-- where both texts are there
pub kept_both : {T : Type 0} (r : Result T StreamFault) (calendar certificate : T → List ℕ) (input rest left : Option (List ℕ)) (room : List ℕ) (moment : ℤ) (hosts : Config)
    → OpensStream input rest moment hosts → IfOk r (λ k. KeepsTexts moment hosts rest left room (calendar k) (certificate k))
    → IfOk r (λ k. CertificateHolds room (calendar k) (certificate k)) → IfOk r (λ k. KeepsBoth input left room (calendar k) (certificate k))
kept_both (Ok k) calendar certificate input rest left room moment hosts opens keeps passes =
    record { moment = moment; hosts = hosts; rest = rest; opens = opens; keeps = keeps; passes = passes }
kept_both (Err e) calendar certificate input rest left room moment hosts opens keeps passes = tt

-- the same of the octets that were taken
pub kept_taken : {T Reader : Type 0} (Takes : Reader → List ℕ → Reader → Type 0) (lent : Reader → List ℕ) (has_ended : Reader → Bool) (a b c : Reader) (r : Result T StreamFault) (calendar certificate : T → List ℕ)
    (room : List ℕ) (moment : ℤ) (hosts : Config)
    → ((a b c : Reader) (first second : List ℕ) → Takes a first b → Takes b second c → Takes a (first ++ second) c)
    → ((a b : Reader) (taken octets : List ℕ) → Takes a taken b → MayFollow (lent b) (has_ended b) octets → MayFollow (lent a) (has_ended a) (taken ++ octets))
    → ForTaken Takes lent has_ended a b (λ input left. OpensStream input left moment hosts)
    → IfOk r (λ k. ForTaken Takes lent has_ended b c (λ input left. KeepsTexts moment hosts input left room (calendar k) (certificate k)))
    → IfOk r (λ k. CertificateHolds room (calendar k) (certificate k))
    → IfOk r (λ k. ForTaken Takes lent has_ended a c (λ input left. KeepsBoth input left room (calendar k) (certificate k)))
kept_taken Takes lent has_ended a b c (Ok k) calendar certificate room moment hosts more back opens keeps passes =
    for_both Takes lent has_ended a b c _ _ _ more back opens keeps (λ x y z o kept follows. record { moment = moment; hosts = hosts; rest = y; opens = o; keeps = kept; passes = passes })
kept_taken Takes lent has_ended a b c (Err e) calendar certificate room moment hosts more back opens keeps passes = tt

-- a stream that ends early isn't done
pub not_done : (fault : StreamFault) → fault_status fault ≡ 0 → ⊥
not_done (Refused refusal) e = absurd (omega arith)
not_done (Serve Read) e = absurd (omega arith)
not_done (Serve Write) e = absurd (omega arith)
not_done (Serve TooLong) e = absurd (omega arith)
not_done (Serve Memory) e = absurd (omega arith)

-- where a beginning of the text that was asked for was written
pub cut_kept : (kept : KeptText) (input left output written : Option (List ℕ)) (room calendar certificate octets : List ℕ) (status : ℕ) → KeepsBoth input left room calendar certificate
    → octets ≡ kept_text kept calendar certificate → (status ≡ 4 → (n : ℕ) × Appends output written (take n octets)) → status ≡ 4
    → Keeps output written ⊎ CutsKept kept room (record { input = input; left = left; output = output; written = written })
cut_kept kept input left output written room calendar certificate octets status keeps is cut e =
    let (n, begun) = cut e in
    inr (record { calendar = calendar; certificate = certificate; keeps = keeps; count = n; written = subst (λ (o : List ℕ). Appends output written (take n o)) is begun })
