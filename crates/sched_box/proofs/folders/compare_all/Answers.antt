use Rattle.std.proofs.Common.{◌≡◌, ◌∙◌, ◌+◌, ◌++◌, ◌∷◌, [], refl, take, take_all, map, sym, ap, subst, arith, Contains, string_bytes}
use Rattle.std.proofs.lemmas.List.{take_more}
use Rattle.profile.specs.streams.Folders.{Image, IsMessageFile}
use Rattle.cal_events.proofs.shared_lemmas.InOneOrder.{in_mapped}
use Rattle.sched_box.specs.Running.{Course, HasFound, IsStanding, file_in, file_of}
use Rattle.sched_box.proofs.FolderLemmas.{answered_as, found_more, free_listed, held_listed, kept_none, kept_on, never_failed, none_found}
use Rattle.sched_box.proofs.folders.compare_all.Goals as goal

pub loop-file-init : goal.loop-file-init
loop-file-init g c = record {
  inbox_kept = kept_none _ _ _ _ _;
  inbox_still = λ left may. may;
  inbox_told = refl;
  outbox_kept = kept_none _ _ _ _ _;
  outbox_still = λ left may. may;
  outbox_told = refl;
  files = refl;
  missing = omega arith;
  so = λ known.
      let course : Course = record { known = g.I.Folder.is_known c.args.inbox.now; inbox = g.I.Folder.image c.args.inbox.now; books = c.args.books.now; start = g.O.Folder.image c.args.outbox.now; first = g.O.Folder.moment c.args.outbox.now } in
      none_found course c.args.books.now _ refl refl refl (ap (map string_bytes) c.new.ensures.items);
}

pub compare_file-requires-clause-message : goal.compare_file-requires-clause-message
compare_file-requires-clause-message g c = λ known.
    let name = c.file-item.result in
    let inv = c.loop-file.invariant in
    let among : Contains c.args.files.now name = (c.loop-file.file-index, omega arith, sym c.file-item.is) in
    let P : Image → Type 0 = λ image. IsMessageFile image (file_of image name) in
    let are = c.requires.messages (sym inv.inbox_kept.known ∙ known) in
    subst P (sym inv.inbox_kept.same) (are.each _ (in_mapped (file_of (g.I.Folder.image c.args.inbox.now)) c.args.files.now name among))

pub compare_file-requires-clause-there : goal.compare_file-requires-clause-there
compare_file-requires-clause-there g c = λ known.
    let inv = c.loop-file.invariant in
    held_listed _ _ _ _ inv.outbox_kept.same (c.requires.names (sym inv.outbox_kept.known ∙ known))

pub compare_file-requires-clause-free : goal.compare_file-requires-clause-free
compare_file-requires-clause-free g c = λ known.
    let inv = c.loop-file.invariant in
    free_listed _ _ _ _ inv.outbox_kept.same (c.requires.names (sym inv.outbox_kept.known ∙ known))

pub loop-file-preserved : goal.loop-file-preserved
loop-file-preserved g c =
    let inv = c.loop-file.invariant in
    let name = c.file-item.result in
    let files = c.args.files.now in
    let i = c.loop-file.file-index in
    let file = file_in c.in_ok-compared.compared.answer in
    let front : take (i + 1) files ≡ take i files ++ name ∷ [] = take_more files i name (omega arith) ∙ ap (λ x. take i files ++ x ∷ []) (sym c.file-item.is) in
    record {
      inbox_kept = kept_on g.I.Folder.is_known g.I.Folder.image g.I.Folder.temporary g.I.Folder.may_leave _ _ _ inv.inbox_kept c.in_ok-compared.ensures.kept;
      inbox_still = λ left may. c.in_ok-compared.ensures.still left (inv.inbox_still left may);
      inbox_told = (c.in_ok-compared.ensures.told (never_failed _ _)).0 ∙ inv.inbox_told;
      outbox_kept = kept_on g.O.Folder.is_known g.O.Folder.image g.O.Folder.temporary g.O.Folder.may_leave _ _ _ inv.outbox_kept c.in_ok-compared.ensures.out_kept;
      outbox_still = λ left may. c.in_ok-compared.ensures.out_still left (inv.outbox_still left may);
      outbox_told = (c.in_ok-compared.ensures.told (never_failed _ _)).1 ∙ inv.outbox_told;
      files = c.in_ok-add.ensures.counted ∙ ap (λ n. n + 1) inv.files;
      missing = omega (arith, inv.missing, c.in_ok-add.ensures.few);
      so = λ known.
          let course : Course = record { known = g.I.Folder.is_known c.args.inbox.now; inbox = g.I.Folder.image c.args.inbox.now; books = c.args.books.now; start = g.O.Folder.image c.args.outbox.now; first = g.O.Folder.moment c.args.outbox.now } in
          let Stands : Image → Type 0 = λ image. IsStanding image file c.in_ok-compared.compared.standing in
          let stands = subst Stands inv.outbox_kept.same (c.in_ok-compared.ensures.stands (inv.outbox_kept.known ∙ known)) in
          let one = answered_as _ _ _ _ name c.loop-file.books c.compare_file.new.books file.octets inv.inbox_kept.known inv.inbox_kept.same c.in_ok-compared.ensures.answers in
          subst (λ l. HasFound course l c.compare_file.new.books c.add.new.self) (sym front)
          (found_more course (take i files) name c.loop-file.books c.compare_file.new.books c.loop-file.found c.add.new.self file (inv.so known) c.in_ok-compared.ensures.named one (c.in_ok-add.ensures.finds course.start stands));
    }

pub returns-clause-compares : goal.returns-clause-compares
returns-clause-compares g c = λ known.
    let course : Course = record { known = g.I.Folder.is_known c.args.inbox.now; inbox = g.I.Folder.image c.args.inbox.now; books = c.args.books.now; start = g.O.Folder.image c.args.outbox.now; first = g.O.Folder.moment c.args.outbox.now } in
    subst (λ l. HasFound course l c.loop-file.books c.loop-file.found) (take_all c.loop-file.file-index c.args.files.now (omega arith)) (c.loop-file.invariant.so known)
