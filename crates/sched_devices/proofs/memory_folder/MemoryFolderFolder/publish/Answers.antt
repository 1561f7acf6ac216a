use Rattle.std.proofs.Common.{◌≡◌, ◌∙◌, ◌++◌, ◌∷◌, [], IsErrAnd, List, ap, None, inr, refl, subst}
use Rattle.std.specs.Option.{is_some}
use Rattle.sched_devices.specs.Memory.{HeldFile, file_named}
use Rattle.sched_devices.proofs.HeldFiles.{apart_pushed, is_free, may_published, published}
use Rattle.sched_devices.proofs.HeldPast.{elapses_from}
use Rattle.sched_devices.proofs.NotedCalls.{ended_failing, ended_otherwise, ended_well, exists_device, exists_memory, not_begun}
use Rattle.sched_devices.proofs.OutputLemmas.{any_err}
use Rattle.sched_devices.specs.Noted.{IsPublishOf}
use Rattle.sched_devices.specs.declared.call_log.Call.TheVariants.{Publish}
use Rattle.sched_devices.specs.declared.folder.FolderFault.{FolderFault}
use Rattle.sched_devices.specs.declared.folder.FolderFault.TheVariants.{Exists}
use Rattle.sched_devices.proofs.memory_folder.MemoryFolderFolder.publish.Goals as goal

pub invariant_of-self-2 : goal.invariant_of-self-2
invariant_of-self-2 c =
    let old = c.args.self.now.files.items in
    let is = c.in_ok-files.ensures ∙ ap (λ (l : List HeldFile). l ++ c.in_ok-file.file ∷ []) c.deref-2.ensures.value in
    let free : file_named c.args.name.now old ≡ None =
    is_free c.args.name.now old _ (c.has_file.ensures ∙ ap (λ (l : List HeldFile). is_some (file_named c.args.name.now l)) c.deref.ensures.value) c.if-has_file.false in
    record { apart = apart_pushed old c.in_ok-files.files.items c.in_ok-file.file c.args.name.now is (ap (λ (f : HeldFile). f.name) c.in_ok-file.ensures) free c.args.self.now.apart }

pub returns-in_err-end-2-clause-whole : goal.returns-in_err-end-2-clause-whole
returns-in_err-end-2-clause-whole c =
    let old = c.args.self.now.files.items in
    let is = c.in_ok-files.ensures ∙ ap (λ (l : List HeldFile). l ++ c.in_ok-file.file ∷ []) c.deref-2.ensures.value in
    let free : file_named c.args.name.now old ≡ None =
    is_free c.args.name.now old _ (c.has_file.ensures ∙ ap (λ (l : List HeldFile). is_some (file_named c.args.name.now l)) c.deref.ensures.value) c.if-has_file.false in
    any_err c.from_residual-in_err-end-2.result _ (inr (published old c.in_ok-files.files.items c.in_ok-file.file c.args.name.now c.args.self.now.temporary is c.in_ok-file.ensures free))

pub returns-in_err-end-2-clause-stop : goal.returns-in_err-end-2-clause-stop
returns-in_err-end-2-clause-stop c =
    let old = c.args.self.now.files.items in
    let is = c.in_ok-files.ensures ∙ ap (λ (l : List HeldFile). l ++ c.in_ok-file.file ∷ []) c.deref-2.ensures.value in
    let free : file_named c.args.name.now old ≡ None =
    is_free c.args.name.now old _ (c.has_file.ensures ∙ ap (λ (l : List HeldFile). is_some (file_named c.args.name.now l)) c.deref.ensures.value) c.if-has_file.false in
    may_published old c.in_ok-files.files.items c.in_ok-file.file c.args.name.now c.args.self.now.temporary is c.in_ok-file.ensures free

pub returns-in_err-end-2-clause-time : goal.returns-in_err-end-2-clause-time
returns-in_err-end-2-clause-time c =
    elapses_from c.args.self.now.past.items c.keep.new.past.items c.deref-3.result.now c.args.self.now.files.items c.in_ok-files.files.items c.deref-3.ensures.value (c.in_ok-keep.ensures.change c.in_ok-files.files.items)

pub returns-clause-published : goal.returns-clause-published
returns-clause-published c =
    let old = c.args.self.now.files.items in
    let is = c.in_ok-files.ensures ∙ ap (λ (l : List HeldFile). l ++ c.in_ok-file.file ∷ []) c.deref-2.ensures.value in
    let free : file_named c.args.name.now old ≡ None =
    is_free c.args.name.now old _ (c.has_file.ensures ∙ ap (λ (l : List HeldFile). is_some (file_named c.args.name.now l)) c.deref.ensures.value) c.if-has_file.false in
    published old c.in_ok-files.files.items c.in_ok-file.file c.args.name.now c.args.self.now.temporary is c.in_ok-file.ensures free

pub returns-clause-stop : goal.returns-clause-stop
returns-clause-stop c =
    let old = c.args.self.now.files.items in
    let is = c.in_ok-files.ensures ∙ ap (λ (l : List HeldFile). l ++ c.in_ok-file.file ∷ []) c.deref-2.ensures.value in
    let free : file_named c.args.name.now old ≡ None =
    is_free c.args.name.now old _ (c.has_file.ensures ∙ ap (λ (l : List HeldFile). is_some (file_named c.args.name.now l)) c.deref.ensures.value) c.if-has_file.false in
    may_published old c.in_ok-files.files.items c.in_ok-file.file c.args.name.now c.args.self.now.temporary is c.in_ok-file.ensures free

pub returns-clause-time : goal.returns-clause-time
returns-clause-time c =
    elapses_from c.args.self.now.past.items c.keep.new.past.items c.deref-3.result.now c.args.self.now.files.items c.in_ok-files.files.items c.deref-3.ensures.value (c.in_ok-keep.ensures.change c.in_ok-files.files.items)

pub returns-in_err-begin-clause-noted : goal.returns-in_err-begin-clause-noted
returns-in_err-begin-clause-noted c =
    let name = c.in_ok-from_str.field-0 in
    not_begun (IsPublishOf c.args.name.now) c.args.self.now.log c.begin.new.self (Publish name) (name, refl, c.in_ok-from_str.ensures.ok) ⊥ c.in_err-begin.field-0.0 c.from_residual-in_err-begin.result
    c.in_err-begin.ensures.stops c.in_err-begin.ensures.plan c.from_residual-in_err-begin.ensures.1

pub returns-in_err-end-clause-noted : goal.returns-in_err-end-clause-noted
returns-in_err-end-clause-noted c =
    let name = c.in_ok-from_str.field-0 in
    let noted = c.in_ok-begin.ensures.noted in
    let fault = subst (λ (e : FolderFault). IsErrAnd c.from_residual-in_err-end.result (λ f. f ≡ e)) c.in_err-end.ensures.fault c.from_residual-in_err-end.ensures.1 in
    ended_failing (IsPublishOf c.args.name.now) c.args.self.now.log c.end.new.self (Publish name) (name, refl, c.in_ok-from_str.ensures.ok) ⊥
    (c.in_err-end.ensures.calls ∙ noted) (c.in_err-end.ensures.plan ∙ c.in_ok-begin.ensures.plan) c.begin.new.self.plan c.begin.new.self.calls.items c.in_ok-begin.ensures.plan noted
    c.from_residual-in_err-end.result c.in_err-end.ensures.failed.0 fault

pub returns-then-has_file-clause-noted : goal.returns-then-has_file-clause-noted
returns-then-has_file-clause-noted c =
    let name = c.in_ok-from_str.field-0 in
    let noted = c.in_ok-begin.ensures.noted in
    ended_otherwise (IsPublishOf c.args.name.now) c.args.self.now.log c.end.new.self (Publish name) (name, refl, c.in_ok-from_str.ensures.ok) ⊥
    (c.in_ok-end.ensures.calls ∙ noted) (c.in_ok-end.ensures.plan ∙ c.in_ok-begin.ensures.plan) c.begin.new.self.plan c.begin.new.self.calls.items c.in_ok-begin.ensures.plan noted
    c.in_ok-begin.ensures.planned c.in_ok-end.ensures.planned Exists exists_memory exists_device

pub returns-in_err-begin-2-clause-noted : goal.returns-in_err-begin-2-clause-noted
returns-in_err-begin-2-clause-noted c =
    let name = c.in_ok-from_str.field-0 in
    not_begun (IsPublishOf c.args.name.now) c.args.self.now.log c.begin-2.new.self (Publish name) (name, refl, c.in_ok-from_str.ensures.ok) ⊥ c.in_err-begin-2.field-0.0 c.from_residual-in_err-begin-2.result
    c.in_err-begin-2.ensures.stops c.in_err-begin-2.ensures.plan c.from_residual-in_err-begin-2.ensures.1

pub returns-in_err-end-2-clause-noted : goal.returns-in_err-end-2-clause-noted
returns-in_err-end-2-clause-noted c =
    let name = c.in_ok-from_str.field-0 in
    let noted = c.in_ok-begin-2.ensures.noted in
    let fault = subst (λ (e : FolderFault). IsErrAnd c.from_residual-in_err-end-2.result (λ f. f ≡ e)) c.in_err-end-2.ensures.fault c.from_residual-in_err-end-2.ensures.1 in
    ended_failing (IsPublishOf c.args.name.now) c.args.self.now.log c.end-2.new.self (Publish name) (name, refl, c.in_ok-from_str.ensures.ok) ⊥
    (c.in_err-end-2.ensures.calls ∙ noted) (c.in_err-end-2.ensures.plan ∙ c.in_ok-begin-2.ensures.plan) c.begin-2.new.self.plan c.begin-2.new.self.calls.items c.in_ok-begin-2.ensures.plan noted
    c.from_residual-in_err-end-2.result c.in_err-end-2.ensures.failed.0 fault

pub returns-clause-noted : goal.returns-clause-noted
returns-clause-noted c =
    let name = c.in_ok-from_str.field-0 in
    let noted = c.in_ok-begin-2.ensures.noted in
    ended_well (IsPublishOf c.args.name.now) c.args.self.now.log c.end-2.new.self (Publish name) (name, refl, c.in_ok-from_str.ensures.ok) ⊥
    (c.in_ok-end-2.ensures.calls ∙ noted) (c.in_ok-end-2.ensures.plan ∙ c.in_ok-begin-2.ensures.plan) c.begin-2.new.self.plan c.begin-2.new.self.calls.items c.in_ok-begin-2.ensures.plan noted
    c.in_ok-begin-2.ensures.planned c.in_ok-end-2.ensures.planned tt
