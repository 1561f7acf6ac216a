use Rattle.std.proofs.Common.{◌∙◌, ap, subst, sym}
use Rattle.sched_devices.specs.Memory.{image_of, names_held}
use Rattle.profile.specs.streams.Folders.{AreNames}
use Rattle.sched_devices.proofs.HeldFiles.{all_names}
use Rattle.sched_devices.proofs.memory_folder.MemoryFolderFolder.names.Goals as goal

pub returns-clause-names : goal.returns-clause-names
returns-clause-names c =
    let files = c.args.self.now.files.items in
    subst (AreNames (image_of files)) (sym (c.in_ok-names.ensures ∙ ap names_held c.deref.ensures.value)) (all_names files c.args.self.now.apart)
