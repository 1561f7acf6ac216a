use Rattle.std.proofs.Common.{◌∙◌, ap, List, subst, sym}
use Rattle.profile.specs.streams.Folders.{AreSame, Image}
use Rattle.sched_devices.specs.Memory.{AreApart, HeldFile, MayLeave, files_left, image_of}
use Rattle.sched_devices.proofs.HeldFiles.{apart_left, image_left, may_be_left, only_this}
use Rattle.sched_devices.proofs.memory_folder.MemoryFolder.restart.Goals as goal

pub invariant_of-result : goal.invariant_of-result
invariant_of-result c =
    let is = c.in_ok-files.ensures ∙ ap (files_left c.args.lost c.args.torn.now) c.deref.ensures.value in
    record { apart = subst AreApart (sym is) (apart_left c.args.lost c.args.torn.now c.args.self.now.files.items c.args.self.now.apart) }

pub returns-clause-possible : goal.returns-clause-possible
returns-clause-possible c =
    let is = c.in_ok-files.ensures ∙ ap (files_left c.args.lost c.args.torn.now) c.deref.ensures.value in
    subst (λ (l : List HeldFile). MayLeave c.args.self.now.files.items (image_of l)) (sym is) (may_be_left c.args.lost c.args.torn.now c.args.self.now.files.items c.args.self.now.apart)

pub returns-clause-only : goal.returns-clause-only
returns-clause-only c =
    let is = c.in_ok-files.ensures ∙ ap (files_left c.args.lost c.args.torn.now) c.deref.ensures.value in
    subst (λ (l : List HeldFile). (image : Image) → MayLeave l image → AreSame image (image_of l)) (sym is) (only_this c.args.lost c.args.torn.now c.args.self.now.files.items)

pub returns-clause-under : goal.returns-clause-under
returns-clause-under c name =
    let is = c.in_ok-files.ensures ∙ ap (files_left c.args.lost c.args.torn.now) c.deref.ensures.value in
    ap (λ (l : List HeldFile). image_of l name) is ∙ image_left c.args.lost c.args.torn.now c.args.self.now.files.items c.args.self.now.apart name
