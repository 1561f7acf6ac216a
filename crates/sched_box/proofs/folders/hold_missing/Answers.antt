use Rattle.std.proofs.Common.{◌≡◌, ◌∙◌, ◌+◌, ◌++◌, ◌∷◌, [], List, refl, take, take_all, length, map, sym, ap, subst, arith, Contains, string_bytes}
use Rattle.std.proofs.lemmas.List.{take_more}
use Rattle.std.proofs.lemmas.Result.{err_from_is_err_and}
use Rattle.profile.specs.streams.Folders.{Image, IsMessageFile}
use Rattle.sched_box.specs.Running.{Course, HasCompared, IsStanding, file_in, file_of}
use Rattle.sched_box.specs.Telling.{FilesTold}
use Rattle.sched_box.specs.declared.file_names.MessageName.{MessageName}
use Rattle.sched_box.proofs.TellingLemmas.{files_told, no_file_told}
use Rattle.sched_box.proofs.FolderLemmas.{answered_as, broken_between, broke, compared_more, differs_more, free_listed, goes_later, goes_none, held_listed, kept_none, kept_on, never_failed, none_compared}
use Rattle.sched_box.proofs.folders.hold_missing.Goals as goal

pub loop-file-init : goal.loop-file-init
loop-file-init g c = record {
  inbox_kept = kept_none _ _ _ _ _;
  inbox_told = refl;
  outbox_kept = kept_none _ _ _ _ _;
  outbox_told = refl;
  time = goes_none _ _ _;
  few = omega (arith, ap length c.new-held.ensures.items);
  so = λ known.
      let course : Course = record { known = g.I.Folder.is_known c.args.inbox.now; inbox = g.I.Folder.image c.args.inbox.now; books = c.args.books.now; start = g.O.Folder.image c.args.outbox.now; first = g.O.Folder.moment c.args.outbox.now } in
      subst (λ l. HasCompared course [] c.args.books.now (map file_in l)) (sym c.new-held.ensures.items) (none_compared course c.args.books.now refl);
  files_told = λ known. no_file_told g.J.Journal.begins g.J.Journal.tells (g.I.Folder.image c.args.inbox.now) (map string_bytes c.args.theirs.now) c.args.journal.now c.args.books.now;
}

pub compare_file-requires-clause-message : goal.compare_file-requires-clause-message
compare_file-requires-clause-message g c = λ known.
    let name = c.file-item.result in
    let inv = c.loop-file.invariant in
    let among : Contains c.args.files.now name = (c.loop-file.file-index, omega arith, sym c.file-item.is) in
    let P : Image → Type 0 = λ image. IsMessageFile image (file_of image name) in
    subst P (sym inv.inbox_kept.same) (c.requires.messages (sym inv.inbox_kept.known ∙ known) name among)

pub compare_file-requires-clause-there : goal.compare_file-requires-clause-there
compare_file-requires-clause-there g c = λ known.
    let inv = c.loop-file.invariant in
    held_listed _ _ _ _ inv.outbox_kept.same (c.requires.names (sym inv.outbox_kept.known ∙ known))

pub compare_file-requires-clause-free : goal.compare_file-requires-clause-free
compare_file-requires-clause-free g c = λ known.
    let inv = c.loop-file.invariant in
    free_listed _ _ _ _ inv.outbox_kept.same (c.requires.names (sym inv.outbox_kept.known ∙ known))

pub returns-in_err-compared-clause-breaks : goal.returns-in_err-compared-clause-breaks
returns-in_err-compared-clause-breaks g c = λ known.
    let p = err_from_is_err_and c.from_residual.result c.from_residual.ensures.1 in
    broke _ _ _ _ _ p.1 p.2
    (broken_between _ c.args.files.now c.loop-file.file-index _ c.loop-file.books _ c.in_err-compared.field-0.0 refl (omega arith) (c.loop-file.invariant.so known) c.in_err-compared.ensures.no_difference)

pub returns-in_err-hold-clause-breaks : goal.returns-in_err-hold-clause-breaks
returns-in_err-hold-clause-breaks g c = λ known.
    let p = err_from_is_err_and c.from_residual-in_err-hold.result c.from_residual-in_err-hold.ensures.1 in
    let inv = c.loop-file.invariant in
    let name = c.file-item.result in
    let files = c.args.files.now in
    let i = c.loop-file.file-index in
    let file = file_in c.in_ok-compared.compared.answer in
    let course : Course = record { known = g.I.Folder.is_known c.args.inbox.now; inbox = g.I.Folder.image c.args.inbox.now; books = c.args.books.now; start = g.O.Folder.image c.args.outbox.now; first = g.O.Folder.moment c.args.outbox.now } in
    let front : take (i + 1) files ≡ take i files ++ name ∷ [] = take_more files i name (omega arith) ∙ ap (λ x. take i files ++ x ∷ []) (sym c.file-item.is) in
    let Stands : Image → Type 0 = λ image. IsStanding image file c.in_ok-compared.compared.standing in
    let stands = subst Stands inv.outbox_kept.same (c.in_ok-compared.ensures.stands (inv.outbox_kept.known ∙ known)) in
    let one = answered_as _ _ _ _ name c.loop-file.books c.compare_file.new.books file.octets inv.inbox_kept.known inv.inbox_kept.same c.in_ok-compared.ensures.answers in
    broke _ _ _ _ _ p.1 p.2
    (differs_more course (take i files) name c.loop-file.books c.compare_file.new.books (map file_in c.loop-file.held.items) file (inv.so known) c.in_ok-compared.ensures.named one c.in_err-hold.field-0.0 files (i + 1)
    (c.in_err-hold.ensures.holds course.start stands) front (omega arith))

pub loop-file-preserved : goal.loop-file-preserved
loop-file-preserved g c =
    let inv = c.loop-file.invariant in
    let name = c.file-item.result in
    let files = c.args.files.now in
    let i = c.loop-file.file-index in
    let file = file_in c.in_ok-compared.compared.answer in
    let front : take (i + 1) files ≡ take i files ++ name ∷ [] = take_more files i name (omega arith) ∙ ap (λ x. take i files ++ x ∷ []) (sym c.file-item.is) in
    record {
      inbox_kept = kept_on g.I.Folder.is_known g.I.Folder.image g.I.Folder.temporary g.I.Folder.may_leave _ _ _ inv.inbox_kept c.in_ok-compared.ensures.kept;
      inbox_told = (c.in_ok-compared.ensures.told (never_failed _ _)).0 ∙ inv.inbox_told;
      outbox_kept = kept_on g.O.Folder.is_known g.O.Folder.image g.O.Folder.temporary g.O.Folder.may_leave _ _ _ inv.outbox_kept c.in_ok-compared.ensures.out_kept;
      outbox_told = (c.in_ok-compared.ensures.told (never_failed _ _)).1 ∙ inv.outbox_told;
      time = goes_later _ _ _ _ _ _ _ _ inv.time inv.outbox_kept.stop c.in_ok-compared.ensures.time;
      few = omega (arith, inv.few, c.in_ok-hold.ensures.few);
      so = λ known.
          let course : Course = record { known = g.I.Folder.is_known c.args.inbox.now; inbox = g.I.Folder.image c.args.inbox.now; books = c.args.books.now; start = g.O.Folder.image c.args.outbox.now; first = g.O.Folder.moment c.args.outbox.now } in
          let Stands : Image → Type 0 = λ image. IsStanding image file c.in_ok-compared.compared.standing in
          let stands = subst Stands inv.outbox_kept.same (c.in_ok-compared.ensures.stands (inv.outbox_kept.known ∙ known)) in
          let one = answered_as _ _ _ _ name c.loop-file.books c.compare_file.new.books file.octets inv.inbox_kept.known inv.inbox_kept.same c.in_ok-compared.ensures.answers in
          subst (λ l. HasCompared course l c.compare_file.new.books (map file_in c.hold.new.held.items)) (sym front)
          (compared_more course (take i files) name c.loop-file.books c.compare_file.new.books (map file_in c.loop-file.held.items) file (inv.so known) c.in_ok-compared.ensures.named one _ (c.in_ok-hold.ensures.holds course.start stands));
      files_told = λ known.
          let Tells : Image → Type 0 = λ image. FilesTold g.J.Journal.begins g.J.Journal.tells image (map string_bytes c.args.theirs.now) c.loop-file.journal (name ∷ []) c.loop-file.books c.compare_file.new.books c.compare_file.new.journal in
          files_told g.J.Journal.begins g.J.Journal.tells (g.I.Folder.image c.args.inbox.now) (map string_bytes c.args.theirs.now) c.args.journal.now c.loop-file.journal c.compare_file.new.journal (take (i + 1) files) (take i files) (name ∷ []) c.args.books.now c.loop-file.books c.compare_file.new.books
          front (inv.files_told known) (subst Tells inv.inbox_kept.same (c.in_ok-compared.ensures.tells (inv.inbox_kept.known ∙ known)));
    }

pub returns-clause-compares : goal.returns-clause-compares
returns-clause-compares g c = λ known.
    let course : Course = record { known = g.I.Folder.is_known c.args.inbox.now; inbox = g.I.Folder.image c.args.inbox.now; books = c.args.books.now; start = g.O.Folder.image c.args.outbox.now; first = g.O.Folder.moment c.args.outbox.now } in
    subst (λ l. HasCompared course l c.loop-file.books (map file_in c.loop-file.held.items)) (take_all c.loop-file.file-index c.args.files.now (omega arith)) (c.loop-file.invariant.so known)

pub returns-clause-tells : goal.returns-clause-tells
returns-clause-tells g c = λ known.
    let P : List MessageName → Type 0 = λ l. FilesTold g.J.Journal.begins g.J.Journal.tells (g.I.Folder.image c.args.inbox.now) (map string_bytes c.args.theirs.now) c.args.journal.now l c.args.books.now c.loop-file.books c.loop-file.journal in
    subst P (take_all c.loop-file.file-index c.args.files.now (omega arith)) (c.loop-file.invariant.files_told known)
