use Rattle.std.proofs.Common.{◌≡◌, ◌++◌, ◌∷◌, [], refl, subst, ℤ, to_z, of_z, w64, to_z-of_z, FitsSigned, rules}
use Rattle.std.proofs.lemmas.Bool.{false≢true}
use Rattle.profile.specs.text.Values.{WritesStamp}
use Rattle.cal_events.specs.Calendar.{instance_of}
use Rattle.sched_cli.proofs.Printing.{line_there, no_line}
use Rattle.sched_cli.proofs.expand.InstanceLines.append.Goals as goal

pub returns-in_default : goal.returns-in_default
returns-in_default c =
    let fits : FitsSigned w64 c.args.instance.key.slot = search rules in
    let same : to_z w64 (of_z w64 c.args.instance.key.slot) ≡ c.args.instance.key.slot = to_z-of_z fits in
    let found = rw same at c.in_default.ensures.found in
    no_line (instance_of c.args.instance) c.args.self.now.text.items (λ has. false≢true (found.1 has.slot))

pub returns-in_default-of_instant : goal.returns-in_default-of_instant
returns-in_default-of_instant c =
    let fits : FitsSigned w64 c.args.instance.start = search rules in
    let same : to_z w64 (of_z w64 c.args.instance.start) ≡ c.args.instance.start = to_z-of_z fits in
    let found = rw same at c.in_default-of_instant.ensures.found in
    no_line (instance_of c.args.instance) c.args.self.now.text.items (λ has. false≢true (found.1 has.start))

pub returns : goal.returns
returns c =
    let i = c.args.instance in
    let slot_fits : FitsSigned w64 i.key.slot = search rules in
    let slot : to_z w64 (of_z w64 i.key.slot) ≡ i.key.slot = to_z-of_z slot_fits in
    let start_fits : FitsSigned w64 i.start = search rules in
    let start : to_z w64 (of_z w64 i.start) ≡ i.start = to_z-of_z start_fits in
    let end_fits : FitsSigned w64 i.end = search rules in
    let end : to_z w64 (of_z w64 i.end) ≡ i.end = to_z-of_z end_fits in
    let (first, second, writes, also, grown) = c.in_ok-append_starts.ensures in
    line_there (instance_of i) c.args.self.now.text.items (c.args.self.now.text.items ++ (first ++ 32 ∷ [])) c.append_starts.new.out.items c.append_seconds.new.out.items first second c.abs_diff-seconds.result
    (subst (λ (t : ℤ). WritesStamp first t) (rw slot at c.in-Some.ensures.value) writes)
    (subst (λ (t : ℤ). WritesStamp second t) (rw start at c.in-Some-of_instant.ensures.value) also)
    (rw start at (rw end at c.abs_diff-seconds.ensures)) refl grown c.in_ok-append_seconds.ensures
