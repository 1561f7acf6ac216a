use Rattle.std.proofs.Common.{◌≡◌, ◌∙◌, ap, List, None}
use Rattle.std.specs.Option.{is_some}
use Rattle.sched_devices.specs.Memory.{HeldFile, file_named}
use Rattle.sched_devices.proofs.HeldFiles.{apart_either, image_pushed, is_free, named_pushed}
use Rattle.sched_devices.proofs.HeldPast.{elapses_from}
use Rattle.sched_devices.proofs.memory_folder.MemoryFolder.add.Goals as goal

pub invariant_of-self-2 : goal.invariant_of-self-2
invariant_of-self-2 c =
    let old = c.args.self.now.files.items in
    let free : file_named c.args.name.now old ≡ None =
    is_free c.args.name.now old _ (c.has_file.ensures ∙ ap (λ (l : List HeldFile). is_some (file_named c.args.name.now l)) c.deref.ensures.value) c.if-has_file.false in
    record { apart = apart_either old c.push.new.self.items c.in_ok-file.file c.args.name.now _ c.push.ensures.items (ap (λ (f : HeldFile). f.name) c.in_ok-file.ensures) free c.args.self.now.apart }

pub returns-clause-added : goal.returns-clause-added
returns-clause-added c =
    image_pushed c.args.self.now.files.items c.push.new.self.items c.in_ok-file.file c.args.name.now c.args.octets.now c.in_ok-push.ensures.items (ap (λ (f : HeldFile). f.name) c.in_ok-file.ensures) (ap (λ (f : HeldFile). f.octets) c.in_ok-file.ensures)

pub returns-clause-held : goal.returns-clause-held
returns-clause-held c = named_pushed c.args.self.now.files.items c.push.new.self.items c.in_ok-file.file _ c.in_ok-push.ensures.items c.in_ok-file.ensures

pub returns-clause-time : goal.returns-clause-time
returns-clause-time c =
    elapses_from c.args.self.now.past.items c.keep.new.past.items c.deref-2.result.now c.args.self.now.files.items c.push.new.self.items c.deref-2.ensures.value (c.in_ok-keep.ensures.change c.push.new.self.items)
