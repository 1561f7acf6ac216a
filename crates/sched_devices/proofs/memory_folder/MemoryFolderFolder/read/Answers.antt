-- How each way out of a read is noted.
use Rattle.std.proofs.Common.{◌≡◌, ◌∙◌, ◌<◌, ℕ, List, Some, Vec, Global, IsErrAnd, ap, length, refl, subst, sym}
use Rattle.std.specs.Prelude.{option_map}
use Rattle.std.proofs.Common.{arith}
use Rattle.std.proofs.lemmas.Bool.Decides.{nat_tests}
use Rattle.sched_devices.specs.Memory.{HeldFile, image_of}
use Rattle.sched_devices.specs.Noted.{IsReadOf, IsTooLong}
use Rattle.sched_devices.specs.declared.call_log.Call.TheVariants.{Read}
use Rattle.sched_devices.specs.declared.folder.FolderFault.{FolderFault}
use Rattle.sched_devices.specs.declared.folder.FolderFault.TheVariants.{Missing}
use Rattle.sched_devices.proofs.NotedCalls.{ended_failing, ended_for, ended_otherwise, ended_well, missing_device, missing_memory, not_begun}
use Rattle.sched_devices.proofs.memory_folder.MemoryFolderFolder.read.Goals as goal

pub returns-in_err-begin-clause-noted : goal.returns-in_err-begin-clause-noted
returns-in_err-begin-clause-noted c =
    let name = c.in_ok-from_str.field-0 in
    not_begun (IsReadOf c.args.name.now) c.args.self.now.log c.begin.new.self (Read name) (name, refl, c.in_ok-from_str.ensures.ok) (IsTooLong (image_of c.args.self.now.files.items c.args.name.now))
    c.in_err-begin.field-0.0 c.from_residual-in_err-begin.result c.in_err-begin.ensures.stops c.in_err-begin.ensures.plan c.from_residual-in_err-begin.ensures.1

pub returns-in_err-end-clause-noted : goal.returns-in_err-end-clause-noted
returns-in_err-end-clause-noted c =
    let name = c.in_ok-from_str.field-0 in
    let noted = c.in_ok-begin.ensures.noted in
    let fault = subst (λ (e : FolderFault). IsErrAnd c.from_residual-in_err-end.result (λ f. f ≡ e)) c.in_err-end.ensures.fault c.from_residual-in_err-end.ensures.1 in
    ended_failing (IsReadOf c.args.name.now) c.args.self.now.log c.end.new.self (Read name) (name, refl, c.in_ok-from_str.ensures.ok) (IsTooLong (image_of c.args.self.now.files.items c.args.name.now))
    (c.in_err-end.ensures.calls ∙ noted) (c.in_err-end.ensures.plan ∙ c.in_ok-begin.ensures.plan) c.begin.new.self.plan c.begin.new.self.calls.items c.in_ok-begin.ensures.plan noted
    c.from_residual-in_err-end.result c.in_err-end.ensures.failed.0 fault

pub returns-in-None-clause-noted : goal.returns-in-None-clause-noted
returns-in-None-clause-noted c =
    let name = c.in_ok-from_str.field-0 in
    let noted = c.in_ok-begin.ensures.noted in
    ended_otherwise (IsReadOf c.args.name.now) c.args.self.now.log c.end.new.self (Read name) (name, refl, c.in_ok-from_str.ensures.ok) (IsTooLong (image_of c.args.self.now.files.items c.args.name.now))
    (c.in_ok-end.ensures.calls ∙ noted) (c.in_ok-end.ensures.plan ∙ c.in_ok-begin.ensures.plan) c.begin.new.self.plan c.begin.new.self.calls.items c.in_ok-begin.ensures.plan noted
    c.in_ok-begin.ensures.planned c.in_ok-end.ensures.planned Missing missing_memory missing_device

pub returns-in-Some-clause-noted : goal.returns-in-Some-clause-noted
returns-in-Some-clause-noted c =
    let name = c.in_ok-from_str.field-0 in
    let noted = c.in_ok-begin.ensures.noted in
    ended_well (IsReadOf c.args.name.now) c.args.self.now.log c.end.new.self (Read name) (name, refl, c.in_ok-from_str.ensures.ok) (IsTooLong (image_of c.args.self.now.files.items c.args.name.now))
    (c.in_ok-end.ensures.calls ∙ noted) (c.in_ok-end.ensures.plan ∙ c.in_ok-begin.ensures.plan) c.begin.new.self.plan c.begin.new.self.calls.items c.in_ok-begin.ensures.plan noted
    c.in_ok-begin.ensures.planned c.in_ok-end.ensures.planned c.in-Some.octets

pub returns-in-Some-2-clause-noted : goal.returns-in-Some-2-clause-noted
returns-in-Some-2-clause-noted c =
    let name = c.in_ok-from_str.field-0 in
    let noted = c.in_ok-begin.ensures.noted in
    let test = c.if-len-le-MOST_OCTETS.false in
    let count = c.len.ensures in
    let long : 1_073_741_824 < length c.in-Some.octets.items = grind (arith, nat_tests, test, count) in
    let image : Some c.in-Some.octets.items ≡ image_of c.args.self.now.files.items c.args.name.now =
    sym (ap (option_map (λ (list : Vec ℕ Global). list.items)) c.in-Some.is) ∙ c.in_ok-octets.ensures ∙ ap (λ (files : List HeldFile). image_of files c.args.name.now) c.deref.ensures.value in
    ended_for (IsReadOf c.args.name.now) c.args.self.now.log c.fail.new.self (Read name) (name, refl, c.in_ok-from_str.ensures.ok) (IsTooLong (image_of c.args.self.now.files.items c.args.name.now))
    (c.fail.ensures.calls ∙ c.in_ok-end.ensures.calls ∙ noted) (c.fail.ensures.plan ∙ c.in_ok-end.ensures.plan ∙ c.in_ok-begin.ensures.plan) c.begin.new.self.plan c.begin.new.self.calls.items c.in_ok-begin.ensures.plan noted
    c.in_ok-begin.ensures.planned c.in_ok-end.ensures.planned c.fail.result c.fail.ensures.fault (subst IsTooLong image long)
