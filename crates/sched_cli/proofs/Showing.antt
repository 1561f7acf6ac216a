-- What an organiser has stored after a stream, and why it isn't shown.
use Rattle.std.proofs.Common.{◌≡◌, ◌⊎◌, ◌++◌, subst, take, ℕ, ℤ, Bool, List, Contains, Option, IfSome, Result, Ok, Err, IfOk, IfErr, inl, inr}
use Rattle.std.specs.Io.KnownBytes.{Appends, Keeps}
use Rattle.profile.specs.streams.Streams.{Config}
use Rattle.sched_box.specs.Faults.{IfRefusedStream, IsReadFault, RefusesPreamble}
use Rattle.sched_box.specs.Meetings.{KeepsMeetings}
use Rattle.sched_box.specs.Preamble.{OpensStream, OpensNot, StopsInPreamble}
use Rattle.sched_box.specs.Serving.{StopsKeeping}
use Rattle.sched_box.specs.declared.fault.ServeFault.TheVariants.{Read, Write, TooLong, Memory}
use Rattle.sched_box.specs.declared.fault.StreamFault.{StreamFault}
use Rattle.sched_box.specs.declared.fault.StreamFault.TheVariants.{Refused, Serve}
use Rattle.sched_devices.specs.Input.{ForTaken, MayFollow}
use Rattle.sched_devices.proofs.InputLemmas.{for_both}
use Rattle.sched_cli.specs.Meetings.{CutsMeetings, IsShownAfter, ShowsNone}

-- where the preamble is refused
pub unopened : (input left : Option (List ℕ)) (organiser : List ℕ) (f : StreamFault) → RefusesPreamble f → IsReadFault f → IfRefusedStream (IfSome input OpensNot) f → StopsInPreamble input left
    → ShowsNone input left organiser f
unopened input left organiser (Refused r) number read none stops = (number, inl (none, stops))
unopened input left organiser (Serve Read) number read none stops = tt
unopened input left organiser (Serve Write) number read none stops = tt
unopened input left organiser (Serve TooLong) number read none stops = absurd read
unopened input left organiser (Serve Memory) number read none stops = tt

-- behind it
pub unshown : {T : Type 0} (r : Result T StreamFault) (input rest left : Option (List ℕ)) (organiser : List ℕ) (moment : ℤ) (hosts : Config) → OpensStream input rest moment hosts
    → IfErr r RefusesPreamble → IfErr r (IfRefusedStream (Contains hosts.organisers organiser → ⊥)) → IfErr r (StopsKeeping rest left)
    → {X : Type 0} → ((Contains hosts.organisers organiser → ⊥) → X × Keeps rest left) → IfErr r (ShowsNone input left organiser)
unshown (Ok x) input rest left organiser moment hosts opens number none bound unhosted = tt
unshown (Err (Refused e)) input rest left organiser moment hosts opens number none bound unhosted = (number, inr (moment, hosts, rest, opens, none, (unhosted none).1))
unshown (Err (Serve Read)) input rest left organiser moment hosts opens number none bound unhosted = tt
unshown (Err (Serve Write)) input rest left organiser moment hosts opens number none bound unhosted = tt
unshown (Err (Serve TooLong)) input rest left organiser moment hosts opens number none bound unhosted = (moment, hosts, rest, opens, bound)
unshown (Err (Serve Memory)) input rest left organiser moment hosts opens number none bound unhosted = tt

pub shown_after : {T : Type 0} (r : Result T StreamFault) (texts : T → List ℕ) (input rest left : Option (List ℕ)) (organiser : List ℕ) (moment : ℤ) (hosts : Config)
    → OpensStream input rest moment hosts → IfOk r (λ k. KeepsMeetings moment hosts rest left organiser (texts k)) → IfOk r (λ k. IsShownAfter input left organiser (texts k))
shown_after (Ok k) texts input rest left organiser moment hosts opens keeps = record { moment = moment; hosts = hosts; rest = rest; opens = opens; keeps = keeps }
shown_after (Err e) texts input rest left organiser moment hosts opens keeps = tt

-- the same of the octets that were taken
pub shown_taken : {T Reader : Type 0} (Takes : Reader → List ℕ → Reader → Type 0) (lent : Reader → List ℕ) (has_ended : Reader → Bool) (a b c : Reader) (r : Result T StreamFault) (texts : T → List ℕ)
    (organiser : List ℕ) (moment : ℤ) (hosts : Config)
    → ((a b c : Reader) (first second : List ℕ) → Takes a first b → Takes b second c → Takes a (first ++ second) c)
    → ((a b : Reader) (taken octets : List ℕ) → Takes a taken b → MayFollow (lent b) (has_ended b) octets → MayFollow (lent a) (has_ended a) (taken ++ octets))
    → ForTaken Takes lent has_ended a b (λ input left. OpensStream input left moment hosts)
    → IfOk r (λ k. ForTaken Takes lent has_ended b c (λ input left. KeepsMeetings moment hosts input left organiser (texts k)))
    → IfOk r (λ k. ForTaken Takes lent has_ended a c (λ input left. IsShownAfter input left organiser (texts k)))
shown_taken Takes lent has_ended a b c (Ok k) texts organiser moment hosts more back opens keeps =
    for_both Takes lent has_ended a b c _ _ _ more back opens keeps (λ x y z o kept follows. record { moment = moment; hosts = hosts; rest = y; opens = o; keeps = kept })
shown_taken Takes lent has_ended a b c (Err e) texts organiser moment hosts more back opens keeps = tt

-- where a beginning of the texts was written
pub cut_meetings : (input left output written : Option (List ℕ)) (organiser texts octets : List ℕ) (status : ℕ) → IsShownAfter input left organiser texts → octets ≡ texts
    → (status ≡ 4 → (n : ℕ) × Appends output written (take n octets)) → status ≡ 4
    → Keeps output written ⊎ CutsMeetings organiser (record { input = input; left = left; output = output; written = written })
cut_meetings input left output written organiser texts octets status shown is cut e =
    let (n, begun) = cut e in
    inr (record { texts = texts; shown = shown; count = n; written = subst (λ (o : List ℕ). Appends output written (take n o)) is begun })
