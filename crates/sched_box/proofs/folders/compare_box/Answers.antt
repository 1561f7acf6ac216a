use Rattle.std.proofs.Common.{◌∙◌, List, map, sym, subst}
use Rattle.profile.specs.streams.Folders.{AreMessageFiles, Image}
use Rattle.sched_box.specs.Boxes.{Compares}
use Rattle.sched_box.specs.Config.{config_hosts}
use Rattle.sched_box.specs.Running.{Course, file_of}
use Rattle.sched_box.specs.declared.file_names.MessageName.{MessageName}
use Rattle.sched_box.proofs.FolderLemmas.{compares_over}
use Rattle.sched_box.proofs.folders.compare_box.Goals as goal

pub returns-clause-compares : goal.returns-clause-compares
returns-clause-compares g c = λ in_known out_known.
    let messages = c.in_ok-files.ensures in
    let listed = c.in_ok-theirs.ensures in
    let hosts = config_hosts c.args.config.now in
    let first = g.I.Folder.image c.args.inbox.now in
    let inbox = g.I.Folder.image c.message_files.new.inbox in
    let outbox = g.O.Folder.image c.sorted_names.new.place in
    let Are : Image → Type 0 = λ i. AreMessageFiles i (map (file_of i) c.deref.result.now) in
    let Files : List MessageName → Type 0 = λ files. AreMessageFiles first (map (file_of first) files) in
    let are = subst Are (sym messages.kept.same) (subst Files (sym c.deref.ensures.value) (messages.messages in_known)) in
    let course : Course = record { known = g.I.Folder.is_known c.message_files.new.inbox; inbox = inbox; books = c.in_ok-books.books; start = outbox; first = g.O.Folder.moment c.sorted_names.new.place } in
    let found = compares_over course c.deref.result.now c.compare_all.new.books hosts c.compare_all.result (messages.kept.known ∙ in_known) c.in_ok-books.ensures.kept are (c.compare_all.ensures.compares (listed.kept.known ∙ out_known)) c.compare_all.ensures.no_difference in
    let In : Image → Type 0 = λ i. Compares i hosts outbox c.compare_all.result in
    let Out : Image → Type 0 = λ i. Compares first hosts i c.compare_all.result in
    subst Out listed.kept.same (subst In messages.kept.same found)
