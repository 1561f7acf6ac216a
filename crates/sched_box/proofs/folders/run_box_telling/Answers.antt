use Rattle.std.proofs.Common.{◌≡◌, ◌∙◌, List, ℕ, map, string_bytes, ap, sym, subst, arith}
use Rattle.profile.specs.streams.Folders.{AreMessageFiles, AreNames, Image}
use Rattle.sched_box.specs.Boxes.{Runs}
use Rattle.sched_box.specs.Config.{config_hosts}
use Rattle.sched_box.specs.Running.{Course, LeavesHeld, file_of}
use Rattle.sched_box.specs.declared.file_names.MessageName.{MessageName}
use Rattle.sched_box.proofs.FolderLemmas.{leaves_synced, quiet_between, run_over, stops_between}
use Rattle.sched_box.proofs.TellingLemmas.{inbox_told, on_ok_then}
use Rattle.sched_box.proofs.folders.run_box_telling.Goals as goal

pub returns-clause-runs : goal.returns-clause-runs
returns-clause-runs g c = λ in_known out_known loses.
    let s0 = c.args.outbox.now in
    let s1 = c.sync_names.new.place in
    let s2 = c.sorted_names.new.place in
    let s3 = c.answer_all.new.outbox in
    let synced = c.in_ok-sync_names.ensures in
    let listed = c.in_ok-theirs.ensures in
    let messages = c.in_ok-files.ensures in
    let hosts = config_hosts c.args.config.now in
    let inbox = g.I.Folder.image c.message_files.new.inbox in
    let image = g.O.Folder.image s2 in
    let known1 : g.O.Folder.is_known s2 ≡ _ = listed.kept.known ∙ synced.kept.known ∙ out_known in
    let same : image ≡ g.O.Folder.image s0 = listed.kept.same ∙ synced.kept.same in
    let Leaves : Image → Type 0 = λ i. LeavesHeld i (g.O.Folder.may_leave s1) in
    let leaves = subst Leaves (sym same) (leaves_synced _ _ _ loses synced.synced) in
    let Are : Image → Type 0 = λ i. AreMessageFiles i (map (file_of i) c.deref.result.now) in
    let Files : List MessageName → Type 0 = λ files. AreMessageFiles (g.I.Folder.image c.args.inbox.now) (map (file_of (g.I.Folder.image c.args.inbox.now)) files) in
    let are = subst Are (sym messages.kept.same) (subst Files (sym c.deref.ensures.value) (messages.messages in_known)) in
    let course : Course = record { known = g.I.Folder.is_known c.message_files.new.inbox; inbox = inbox; books = c.in_ok-books.books; start = image; first = g.O.Folder.moment s2 } in
    let runs = run_over hosts (g.O.Folder.image s3) course c.deref.result.now c.answer_all.new.books (g.O.Folder.moment s0) (g.O.Folder.moment s3) (g.O.Folder.may_leave s2) (g.O.Folder.left_since s2) (g.O.Folder.left_since s3) (g.O.Folder.may_leave s0) (g.O.Folder.may_leave s3)
    (messages.kept.known ∙ in_known) c.in_ok-books.ensures.kept are (λ left may. leaves left (listed.kept.stop left may))
    (λ answers goes. stops_between image answers (g.O.Folder.moment s0) (g.O.Folder.moment s1) (g.O.Folder.moment s2) (g.O.Folder.moment s3) (g.O.Folder.left_since s0) (g.O.Folder.left_since s1) (g.O.Folder.left_since s2) (g.O.Folder.left_since s3)
    (g.O.Folder.may_leave s0) (g.O.Folder.may_leave s1) (g.O.Folder.may_leave s2) synced.time listed.time goes (g.met.O.Folder.only_now s0) (λ left may. g.met.O.Folder.counts_now s1 (g.O.Folder.moment s1) left (omega arith) may) (g.met.O.Folder.only_now s1) listed.kept.stop leaves)
    (quiet_between course (g.O.Folder.image s3) (g.O.Folder.moment s0) (g.O.Folder.moment s1) (g.O.Folder.moment s3) (g.O.Folder.left_since s0) (g.O.Folder.left_since s1) (g.O.Folder.left_since s2) (g.O.Folder.left_since s3)
    (g.O.Folder.may_leave s0) (g.O.Folder.may_leave s1) (g.O.Folder.may_leave s2) synced.time listed.time (g.met.O.Folder.only_now s0) synced.kept.stop listed.kept.stop)
    c.answer_all.result (c.answer_all.ensures.runs known1) in
    let In : Image → Type 0 = λ i. Runs i hosts (record { start = image; now = g.O.Folder.image s3; first = g.O.Folder.moment s0; last = g.O.Folder.moment s3 }) (g.O.Folder.may_leave s0) (g.O.Folder.may_leave s3) (g.O.Folder.left_since s3) c.answer_all.result in
    let Out : Image → Type 0 = λ i. Runs (g.I.Folder.image c.args.inbox.now) hosts (record { start = i; now = g.O.Folder.image s3; first = g.O.Folder.moment s0; last = g.O.Folder.moment s3 }) (g.O.Folder.may_leave s0) (g.O.Folder.may_leave s3) (g.O.Folder.left_since s3) c.answer_all.result in
    subst Out same (subst In messages.kept.same runs)

pub returns-clause-tells : goal.returns-clause-tells
returns-clause-tells g c = λ in_known out_known.
    let synced = c.in_ok-sync_names.ensures in
    let listed = c.in_ok-theirs.ensures in
    let messages = c.in_ok-files.ensures in
    let inbox = g.I.Folder.image c.args.inbox.now in
    let outbox = g.O.Folder.image c.args.outbox.now in
    let named = g.O.Folder.image c.sync_names.new.place in
    let Files : List MessageName → Type 0 = λ files. AreMessageFiles inbox (map (file_of inbox) files) in
    let Names : List (List ℕ) → Type 0 = AreNames named in
    let at = c.message_files.new.journal in
    on_ok_then c.answer_all.result _ _ (λ tells. (at, messages.passes in_known, tells))
    (inbox_told g.J.Journal.begins g.J.Journal.tells at c.answer_all.new.journal inbox (g.I.Folder.image c.message_files.new.inbox) outbox named (config_hosts c.args.config.now) c.deref.result.now (map string_bytes c.deref-2.result.now) c.in_ok-books.books c.answer_all.new.books c.answer_all.result
    messages.kept.same synced.kept.same (subst Files (sym c.deref.ensures.value) (messages.messages in_known)) (subst Names (sym (ap (map string_bytes) c.deref-2.ensures.value)) (listed.names (synced.kept.known ∙ out_known))) c.in_ok-books.ensures.kept
    (on_ok_then c.answer_all.result _ _ (λ told. told (messages.kept.known ∙ in_known)) c.answer_all.ensures.tells))
