use Rattle.std.proofs.Common.{◌∙◌, ap, map, refl}
use Rattle.sched_devices.specs.Memory.{with_name_synced}
use Rattle.sched_devices.proofs.HeldFiles.{apart_is_synced, image_is_synced, may_is_synced, may_still}
use Rattle.sched_devices.proofs.HeldPast.{elapses_from}
use Rattle.sched_devices.proofs.memory_folder.MemoryFolderFolder.sync_dir.Goals as goal

pub invariant_of-self-2 : goal.invariant_of-self-2
invariant_of-self-2 c =
    let is = c.in_ok-files.ensures ∙ ap (map with_name_synced) c.deref.ensures.value in
    record { apart = apart_is_synced c.args.self.now.files.items c.in_ok-files.files.items is c.args.self.now.apart }

pub returns-in_err-end-clause-kept : goal.returns-in_err-end-clause-kept
returns-in_err-end-clause-kept c =
    let is = c.in_ok-files.ensures ∙ ap (map with_name_synced) c.deref.ensures.value in
    record {
      known = refl;
      same = image_is_synced c.args.self.now.files.items c.in_ok-files.files.items is;
      temporary_is = refl;
      stop = may_still c.args.self.now.files.items c.in_ok-files.files.items is;
    }

pub returns-in_err-end-clause-time : goal.returns-in_err-end-clause-time
returns-in_err-end-clause-time c =
    elapses_from c.args.self.now.past.items c.keep.new.past.items c.deref-2.result.now c.args.self.now.files.items c.in_ok-files.files.items c.deref-2.ensures.value (c.in_ok-keep.ensures.change c.in_ok-files.files.items)

pub returns-clause-synced : goal.returns-clause-synced
returns-clause-synced c =
    let is = c.in_ok-files.ensures ∙ ap (map with_name_synced) c.deref.ensures.value in
    may_is_synced c.args.self.now.files.items c.in_ok-files.files.items is

pub returns-clause-kept : goal.returns-clause-kept
returns-clause-kept c =
    let is = c.in_ok-files.ensures ∙ ap (map with_name_synced) c.deref.ensures.value in
    record {
      known = refl;
      same = image_is_synced c.args.self.now.files.items c.in_ok-files.files.items is;
      temporary_is = refl;
      stop = may_still c.args.self.now.files.items c.in_ok-files.files.items is;
    }

pub returns-clause-time : goal.returns-clause-time
returns-clause-time c =
    elapses_from c.args.self.now.past.items c.keep.new.past.items c.deref-2.result.now c.args.self.now.files.items c.in_ok-files.files.items c.deref-2.ensures.value (c.in_ok-keep.ensures.change c.in_ok-files.files.items)
