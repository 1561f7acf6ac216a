use Rattle.std.proofs.Common.{◌≡◌, ◌∙◌, ◌+◌, ◌++◌, ◌∷◌, [], List, refl, take, take_all, drop, length, map, sym, ap, subst, arith, Contains, string_bytes}
use Rattle.std.proofs.lemmas.List.{length-map, take_more}
use Rattle.std.proofs.lemmas.Result.{err_from_is_err_and}
use Rattle.profile.specs.streams.Folders.{File, Image, IsMessageFile}
use Rattle.cal_events.proofs.shared_lemmas.InOneOrder.{in_mapped}
use Rattle.sched_box.specs.Running.{AreApart, AreMessagesOf, AreNamedApart, Course, GoesOn, HasAnswered, HasBroken, HasCompared, HasPublished, HasPublishedSome, IsGained, IsWhole, LeavesHeld, MayGain, NoneStands, answers_name, file_in, file_of}
use Rattle.sched_box.specs.Telling.{FilesTold}
use Rattle.sched_box.specs.declared.file_names.MessageName.{MessageName}
use Rattle.sched_box.specs.declared.folders.Answer.{Answer}
use Rattle.sched_box.specs.declared.folders.BoxFault.TheVariants.{Memory}
use Rattle.sched_box.proofs.TellingLemmas.{files_told}
use Rattle.sched_box.proofs.FolderLemmas.{answered_as, broken_more, broken_publishing, broken_quiet, ended_between, ended_first, file_same, first_apart, first_messages, gained_more, held_where_listed, kept_loses, kept_on, later_stands, missing_apart, missing_free, never_failed, next_at, next_free, none_is, none_stands, published_answered, published_from, published_some_from, quiet_more, run_ended}
use Rattle.sched_box.proofs.folders.answer_all.Goals as goal

pub returns-in_err-place-clause-runs : goal.returns-in_err-place-clause-runs
returns-in_err-place-clause-runs g c = λ known.
    let p = err_from_is_err_and c.from_residual.result c.from_residual.ensures.1 in
    let course : Course = record { known = g.I.Folder.is_known c.args.inbox.now; inbox = g.I.Folder.image c.args.inbox.now; books = c.args.books.now; start = g.O.Folder.image c.args.outbox.now; first = g.O.Folder.moment c.args.outbox.now } in
    run_ended _ _ _ _ _ _ _ _ _ _ _ Memory p.1 p.2 (ended_first course c.args.files.now _ (g.O.Folder.may_leave c.args.outbox.now) (g.O.Folder.left_since c.args.outbox.now) Memory refl tt)

pub hold_missing-requires-clause-messages : goal.hold_missing-requires-clause-messages
hold_missing-requires-clause-messages g c = λ known.
    let P : List MessageName → Type 0 = AreMessagesOf (g.I.Folder.image c.args.inbox.now) in
    subst P (sym c.split_at.ensures.front) (first_messages (g.I.Folder.image c.args.inbox.now) c.in_ok-place.place c.args.files.now (c.requires.messages known))

pub returns-in_err-held-clause-runs : goal.returns-in_err-held-clause-runs
returns-in_err-held-clause-runs g c = λ known.
    let p = err_from_is_err_and c.from_residual-in_err-held.result c.from_residual-in_err-held.ensures.1 in
    let course : Course = record { known = g.I.Folder.is_known c.args.inbox.now; inbox = g.I.Folder.image c.args.inbox.now; books = c.args.books.now; start = g.O.Folder.image c.args.outbox.now; first = g.O.Folder.moment c.args.outbox.now } in
    let held = c.in_err-held.ensures in
    let fault = c.in_err-held.field-0.0 in
    let P : List MessageName → Type 0 = λ l. HasBroken course l fault in
    run_ended _ _ _ _ _ _ _ _ _ _ _ fault p.1 p.2
    (broken_quiet course c.args.files.now c.in_ok-place.place (g.O.Folder.image c.hold_missing.new.outbox) (g.O.Folder.moment c.hold_missing.new.outbox) (g.O.Folder.may_leave c.args.outbox.now) (g.O.Folder.left_since c.args.outbox.now) (g.O.Folder.left_since c.hold_missing.new.outbox) fault
    (record { same = λ name. ap (λ (i : Image). i name) held.out_kept.same; time = held.time }) (subst P c.split_at.ensures.front (held.breaks known)))

pub publish_all-requires-clause-free : goal.publish_all-requires-clause-free
publish_all-requires-clause-free g c = λ known file among.
    let held = c.in_ok-held.ensures in
    let so = held.compares (sym held.out_kept.known ∙ known) in
    let P : List File → Type 0 = λ l. Contains l file in
    ap (λ (i : Image). i file.name) held.out_kept.same
    ∙ missing_free (g.O.Folder.image c.args.outbox.now) so.answers file (subst P (ap (map file_in) c.deref.ensures.value ∙ so.missing_are) among)

pub publish_all-requires-clause-apart : goal.publish_all-requires-clause-apart
publish_all-requires-clause-apart g c = λ known.
    let held = c.in_ok-held.ensures in
    let so = held.compares (sym held.out_kept.known ∙ known) in
    let P : List MessageName → Type 0 = AreApart in
    let Q : List Answer → Type 0 = AreNamedApart in
    subst Q (sym c.deref.ensures.value) (missing_apart _ _ _ _ (subst P (sym c.split_at.ensures.front) (first_apart c.in_ok-place.place c.args.files.now c.requires.apart)) so)

pub returns-in_err-publish_all-clause-runs : goal.returns-in_err-publish_all-clause-runs
returns-in_err-publish_all-clause-runs g c = λ known.
    let p = err_from_is_err_and c.from_residual-in_err-publish_all.result c.from_residual-in_err-publish_all.ensures.1 in
    let course : Course = record { known = g.I.Folder.is_known c.args.inbox.now; inbox = g.I.Folder.image c.args.inbox.now; books = c.args.books.now; start = g.O.Folder.image c.args.outbox.now; first = g.O.Folder.moment c.args.outbox.now } in
    let held = c.in_ok-held.ensures in
    let missing = map file_in c.in_ok-held.held.items in
    let place = c.in_ok-place.place in
    let out1 = c.hold_missing.new.outbox in
    let out2 = c.publish_all.new.outbox in
    let P : List MessageName → Type 0 = λ l. HasCompared course l c.hold_missing.new.books missing in
    let Q : List Answer → Type 0 = λ l. HasPublishedSome (g.O.Folder.image out1) (map file_in l) (g.O.Folder.moment out1) (g.O.Folder.image out2) (g.O.Folder.moment out2) (LeavesHeld (g.O.Folder.image out1) (g.O.Folder.may_leave out1)) (g.O.Folder.left_since out1) (g.O.Folder.left_since out2) in
    let some = published_some_from _ _ missing _ _ _ (g.O.Folder.may_leave c.args.outbox.now) (g.O.Folder.may_leave out1) _ _ held.out_kept.same held.out_kept.stop
    (subst Q c.deref.ensures.value (c.in_err-publish_all.ensures.ended (held.out_kept.known ∙ known))) in
    run_ended _ _ _ _ _ _ _ _ _ _ _ _ p.1 p.2
    (broken_publishing course c.args.files.now place c.hold_missing.new.books missing (g.O.Folder.image out2) (g.O.Folder.moment out1) (g.O.Folder.moment out2) (g.O.Folder.may_leave c.args.outbox.now) _ (g.O.Folder.left_since c.args.outbox.now) (g.O.Folder.left_since out1) (g.O.Folder.left_since out2) c.in_err-publish_all.field-0.0
    (subst P c.split_at.ensures.front (held.compares known)) (none_stands (g.O.Folder.image c.args.outbox.now) (map string_bytes c.args.theirs.now) (drop c.in_ok-place.place c.args.files.now) (c.requires.names known) c.in_ok-place.ensures.behind) held.time some)

pub loop-file-init : goal.loop-file-init
loop-file-init g c =
    let held = c.in_ok-held.ensures in
    let published = c.in_ok-publish_all.ensures in
    let files = c.args.files.now in
    let place = c.in_ok-place.place in
    let front : c.split_at.result.0.now ≡ take (place + 0) files = c.split_at.ensures.front ∙ ap (λ n. take n files) (omega arith) in
    record {
      inbox_kept = held.kept;
      inbox_told = (held.told (never_failed _ _)).0;
      outbox_known = published.known ∙ held.out_kept.known;
      outbox_told = published.told (never_failed _ _) ∙ (held.told (never_failed _ _)).1;
      outbox_goes_on = λ known loses. published.goes_on (held.out_kept.known ∙ known) (kept_loses _ _ _ _ held.out_kept.same held.out_kept.stop loses);
      counted = c.of-report.ensures.files ∙ c.split_at.ensures.front_len ∙ omega arith;
      fewer =
          let few = held.few in
          let written : c.of-report.result.written ≡ length c.in_ok-held.held.items = c.of-report.ensures.written ∙ ap length c.deref-2.ensures.value in
          let counted = c.of-report.ensures.files in
          omega arith;
      so = λ known.
          let course : Course = record { known = g.I.Folder.is_known c.args.inbox.now; inbox = g.I.Folder.image c.args.inbox.now; books = c.args.books.now; start = g.O.Folder.image c.args.outbox.now; first = g.O.Folder.moment c.args.outbox.now } in
          let missing = map file_in c.in_ok-held.held.items in
          let out1 = c.hold_missing.new.outbox in
          let out2 = c.publish_all.new.outbox in
          let Q : List Answer → Type 0 = λ l. HasPublished (g.O.Folder.image out1) (map file_in l) (g.O.Folder.moment out1) (g.O.Folder.image out2) (g.O.Folder.moment out2) (LeavesHeld (g.O.Folder.image out1) (g.O.Folder.may_leave out1)) (g.O.Folder.left_since out1) (g.O.Folder.left_since out2) (g.O.Folder.may_leave out2) in
          let all = published_from _ _ missing _ _ _ (g.O.Folder.may_leave c.args.outbox.now) (g.O.Folder.may_leave out1) _ _ _ held.out_kept.same held.out_kept.stop (subst Q c.deref.ensures.value (published.published (held.out_kept.known ∙ known))) in
          let P : List MessageName → Type 0 = λ l. HasCompared course l c.hold_missing.new.books missing in
          let report = c.of-report.result in
          let counted : report.files ≡ length (take (place + 0) files) = c.of-report.ensures.files ∙ ap length front in
          let written : report.written ≡ length missing = c.of-report.ensures.written ∙ ap length c.deref-2.ensures.value ∙ sym (length-map c.in_ok-held.held.items file_in) in
          published_answered course (take (place + 0) files) c.hold_missing.new.books missing _ _ _ _ _ _ _ _ report (first_apart (place + 0) files c.requires.apart) (subst P front (held.compares known)) held.time all counted written;
      files_told = λ known.
          let P : List MessageName → Type 0 = λ l. FilesTold g.J.Journal.begins g.J.Journal.tells (g.I.Folder.image c.args.inbox.now) (map string_bytes c.args.theirs.now) c.args.journal.now l c.args.books.now c.hold_missing.new.books c.hold_missing.new.journal in
          subst P front (held.tells known);
    }

pub returns-in_err-publish_all-clause-goes_on : goal.returns-in_err-publish_all-clause-goes_on
returns-in_err-publish_all-clause-goes_on g c = λ known loses.
    let kept = c.in_ok-held.ensures.out_kept in
    c.in_err-publish_all.ensures.goes_on (kept.known ∙ known) (kept_loses _ _ _ _ kept.same kept.stop loses)

pub returns-in_err-publish_answers-clause-goes_on : goal.returns-in_err-publish_answers-clause-goes_on
returns-in_err-publish_answers-clause-goes_on g c = λ known loses.
    let inv = c.loop-file.invariant in
    let kept = c.in_ok-compared.ensures.out_kept in
    c.in_err-publish_answers.ensures.goes_on (kept.known ∙ inv.outbox_known ∙ known) (kept_loses _ _ _ _ kept.same kept.stop (inv.outbox_goes_on known loses))

pub compare_file-requires-clause-message : goal.compare_file-requires-clause-message
compare_file-requires-clause-message g c = λ known.
    let inv = c.loop-file.invariant in
    let name = c.file-item.result in
    let files = c.args.files.now in
    let place = c.in_ok-place.place in
    let i = c.loop-file.file-index in
    let back = c.split_at.ensures.back in
    let course : Course = record { known = g.I.Folder.is_known c.args.inbox.now; inbox = g.I.Folder.image c.args.inbox.now; books = c.args.books.now; start = g.O.Folder.image c.args.outbox.now; first = g.O.Folder.moment c.args.outbox.now } in
    let (at, within) = next_at files place i name _ back (omega arith) c.file-item.is in
    let P : Image → Type 0 = λ image. IsMessageFile image (file_of image name) in
    let are = c.requires.messages (sym inv.inbox_kept.known ∙ known) in
    let among : Contains files name = (place + i, within, sym at) in
    subst P (sym inv.inbox_kept.same) (are.each _ (in_mapped (file_of (g.I.Folder.image c.args.inbox.now)) files name among))

pub compare_file-requires-clause-there : goal.compare_file-requires-clause-there
compare_file-requires-clause-there g c = λ known among none.
    let inv = c.loop-file.invariant in
    let name = c.file-item.result in
    let files = c.args.files.now in
    let place = c.in_ok-place.place in
    let i = c.loop-file.file-index in
    let back = c.split_at.ensures.back in
    let course : Course = record { known = g.I.Folder.is_known c.args.inbox.now; inbox = g.I.Folder.image c.args.inbox.now; books = c.args.books.now; start = g.O.Folder.image c.args.outbox.now; first = g.O.Folder.moment c.args.outbox.now } in
    let known' = sym inv.outbox_known ∙ known in
    let so = inv.so known' in
    held_where_listed _ _ _ so.answers (answers_name name) (c.requires.names known') so.held among (none_is _ none)

pub compare_file-requires-clause-free : goal.compare_file-requires-clause-free
compare_file-requires-clause-free g c = λ known lacks.
    let inv = c.loop-file.invariant in
    let name = c.file-item.result in
    let files = c.args.files.now in
    let place = c.in_ok-place.place in
    let i = c.loop-file.file-index in
    let back = c.split_at.ensures.back in
    let course : Course = record { known = g.I.Folder.is_known c.args.inbox.now; inbox = g.I.Folder.image c.args.inbox.now; books = c.args.books.now; start = g.O.Folder.image c.args.outbox.now; first = g.O.Folder.moment c.args.outbox.now } in
    let known' = sym inv.outbox_known ∙ known in
    let so = inv.so known' in
    (next_free _ _ _ files place i name _ so.answers back c.requires.apart (c.requires.names known') c.in_ok-place.ensures.behind (omega arith) c.file-item.is so.held so.named).0

pub publish_answers-requires : goal.publish_answers-requires
publish_answers-requires g c = λ known.
    let inv = c.loop-file.invariant in
    let name = c.file-item.result in
    let files = c.args.files.now in
    let place = c.in_ok-place.place in
    let i = c.loop-file.file-index in
    let back = c.split_at.ensures.back in
    let course : Course = record { known = g.I.Folder.is_known c.args.inbox.now; inbox = g.I.Folder.image c.args.inbox.now; books = c.args.books.now; start = g.O.Folder.image c.args.outbox.now; first = g.O.Folder.moment c.args.outbox.now } in
    let compared = c.in_ok-compared.ensures in
    let known' = sym inv.outbox_known ∙ sym compared.out_kept.known ∙ known in
    let so = inv.so known' in
    let free = (next_free _ _ _ files place i name _ so.answers back c.requires.apart (c.requires.names known') c.in_ok-place.ensures.behind (omega arith) c.file-item.is so.held so.named).0 in
    ap (g.O.Folder.image c.compare_file.new.outbox) (c.as_str.ensures.value ∙ compared.named) ∙ ap (λ (image : Image). image (answers_name name)) compared.out_kept.same ∙ free

pub returns-in_err-compared-clause-runs : goal.returns-in_err-compared-clause-runs
returns-in_err-compared-clause-runs g c = λ known.
    let inv = c.loop-file.invariant in
    let name = c.file-item.result in
    let files = c.args.files.now in
    let place = c.in_ok-place.place in
    let i = c.loop-file.file-index in
    let back = c.split_at.ensures.back in
    let course : Course = record { known = g.I.Folder.is_known c.args.inbox.now; inbox = g.I.Folder.image c.args.inbox.now; books = c.args.books.now; start = g.O.Folder.image c.args.outbox.now; first = g.O.Folder.moment c.args.outbox.now } in
    let p = err_from_is_err_and c.from_residual-in_err-compared.result c.from_residual-in_err-compared.ensures.1 in
    let compared = c.in_err-compared.ensures in
    let so = quiet_more course (take (place + i) files) c.loop-file.books _ _ _ _ _ _ _ _ _ _ _ compared.out_kept.same compared.out_kept.stop compared.time (inv.so known) in
    let none = later_stands (g.O.Folder.image c.args.outbox.now) files place i (none_stands (g.O.Folder.image c.args.outbox.now) (map string_bytes c.args.theirs.now) (drop c.in_ok-place.place c.args.files.now) (c.requires.names known) c.in_ok-place.ensures.behind) in
    run_ended _ _ _ _ _ _ _ _ _ _ _ c.in_err-compared.field-0.0 p.1 p.2
    (ended_between course files (place + i) (take (place + i) files) c.loop-file.books _ _ _ _ _ _ _ c.loop-file.report _ refl none so compared.no_difference)

pub returns-in_err-publish_answers-clause-runs : goal.returns-in_err-publish_answers-clause-runs
returns-in_err-publish_answers-clause-runs g c = λ known.
    let inv = c.loop-file.invariant in
    let name = c.file-item.result in
    let files = c.args.files.now in
    let place = c.in_ok-place.place in
    let i = c.loop-file.file-index in
    let back = c.split_at.ensures.back in
    let course : Course = record { known = g.I.Folder.is_known c.args.inbox.now; inbox = g.I.Folder.image c.args.inbox.now; books = c.args.books.now; start = g.O.Folder.image c.args.outbox.now; first = g.O.Folder.moment c.args.outbox.now } in
    let p = err_from_is_err_and c.from_residual-in_err-publish_answers.result c.from_residual-in_err-publish_answers.ensures.1 in
    let compared = c.in_ok-compared.ensures in
    let out1 = c.compare_file.new.outbox in
    let out2 = c.publish_answers.new.outbox in
    let so = quiet_more course (take (place + i) files) c.loop-file.books _ _ _ _ _ _ _ _ _ _ _ compared.out_kept.same compared.out_kept.stop compared.time (inv.so known) in
    let known1 = compared.out_kept.known ∙ inv.outbox_known ∙ known in
    let (at, within) = next_at files place i name _ back (omega arith) c.file-item.is in
    let (free, apart) = next_free _ _ _ files place i name _ so.answers back c.requires.apart (c.requires.names known) c.in_ok-place.ensures.behind (omega arith) c.file-item.is so.held so.named in
    let one = answered_as _ _ _ _ name c.loop-file.books c.compare_file.new.books (file_in c.in_ok-compared.compared.answer).octets inv.inbox_kept.known inv.inbox_kept.same compared.answers in
    let same = file_same _ _ _ _ (c.as_str.ensures.value ∙ compared.named) c.deref-in-loop-file.ensures.value in
    let Whole : File → Type 0 = λ file. IsWhole file (g.O.Folder.image out1) (g.O.Folder.image out2) in
    let Goes : File → Type 0 = λ file. GoesOn (g.O.Folder.moment out1) (g.O.Folder.moment out2) (g.O.Folder.left_since out1) (g.O.Folder.left_since out2) (MayGain file (g.O.Folder.may_leave out1)) in
    let front : take (place + i + 1) files ≡ take (place + i) files ++ name ∷ [] = take_more files (place + i) name within ∙ ap (λ x. take (place + i) files ++ x ∷ []) (sym at) in
    let none = later_stands (g.O.Folder.image c.args.outbox.now) files place (i + 1) (none_stands (g.O.Folder.image c.args.outbox.now) (map string_bytes c.args.theirs.now) (drop c.in_ok-place.place c.args.files.now) (c.requires.names known) c.in_ok-place.ensures.behind) in
    run_ended _ _ _ _ _ _ _ _ _ _ _ _ p.1 p.2
    (broken_more course (take (place + i) files) name c.loop-file.books c.compare_file.new.books _ _ _ _ _ _ _ _ (g.O.Folder.may_leave out1) (g.O.Folder.may_leave out2) c.loop-file.report (file_in c.in_ok-compared.compared.answer).octets so apart
    (subst Goes same (c.in_err-publish_answers.ensures.time known1)) c.in_err-publish_answers.field-0.0 _ one files (place + i + 1) front free (subst (λ n. NoneStands course.start (drop n files)) (omega arith) none) (subst Whole same (c.in_err-publish_answers.ensures.whole known1)))

pub loop-file-preserved : goal.loop-file-preserved
loop-file-preserved g c =
    let inv = c.loop-file.invariant in
    let name = c.file-item.result in
    let files = c.args.files.now in
    let place = c.in_ok-place.place in
    let i = c.loop-file.file-index in
    let back = c.split_at.ensures.back in
    let compared = c.in_ok-compared.ensures in
    let published = c.in_ok-publish_answers.ensures in
    let (at, within) = next_at files place i name _ back (omega arith) c.file-item.is in
    let front : take (place + (i + 1)) files ≡ take (place + i) files ++ name ∷ [] = ap (λ n. take n files) (omega arith) ∙ take_more files (place + i) name within ∙ ap (λ x. take (place + i) files ++ x ∷ []) (sym at) in
    record {
      inbox_kept = kept_on g.I.Folder.is_known g.I.Folder.image g.I.Folder.temporary g.I.Folder.may_leave _ _ _ inv.inbox_kept compared.kept;
      inbox_told = (compared.told (never_failed _ _)).0 ∙ inv.inbox_told;
      outbox_known = published.known ∙ compared.out_kept.known ∙ inv.outbox_known;
      outbox_told = published.told (never_failed _ _) ∙ (compared.told (never_failed _ _)).1 ∙ inv.outbox_told;
      outbox_goes_on = λ known loses. published.goes_on (compared.out_kept.known ∙ inv.outbox_known ∙ known) (kept_loses _ _ _ _ compared.out_kept.same compared.out_kept.stop (inv.outbox_goes_on known loses));
      counted = let counts = c.with_file-report.ensures.files in let before = inv.counted in omega arith;
      fewer = let counts = c.with_file-report.ensures.files in let written = c.with_file-report.ensures.written in let before = inv.fewer in omega arith;
      so = λ known.
          let course : Course = record { known = g.I.Folder.is_known c.args.inbox.now; inbox = g.I.Folder.image c.args.inbox.now; books = c.args.books.now; start = g.O.Folder.image c.args.outbox.now; first = g.O.Folder.moment c.args.outbox.now } in
          let out1 = c.compare_file.new.outbox in
          let out2 = c.publish_answers.new.outbox in
          let so = quiet_more course (take (place + i) files) c.loop-file.books _ _ _ _ _ _ _ _ _ _ _ compared.out_kept.same compared.out_kept.stop compared.time (inv.so known) in
          let known1 = compared.out_kept.known ∙ inv.outbox_known ∙ known in
          let (free, apart) = next_free _ _ _ files place i name _ so.answers back c.requires.apart (c.requires.names known) c.in_ok-place.ensures.behind (omega arith) c.file-item.is so.held so.named in
          let one = answered_as _ _ _ _ name c.loop-file.books c.compare_file.new.books (file_in c.in_ok-compared.compared.answer).octets inv.inbox_kept.known inv.inbox_kept.same compared.answers in
          let same = file_same _ _ _ _ (c.as_str.ensures.value ∙ compared.named) c.deref-in-loop-file.ensures.value in
          let Gained : File → Type 0 = λ file. IsGained file (g.O.Folder.image out1) (g.O.Folder.image out2) (g.O.Folder.may_leave out1) (g.O.Folder.may_leave out2) in
          let Goes : File → Type 0 = λ file. GoesOn (g.O.Folder.moment out1) (g.O.Folder.moment out2) (g.O.Folder.left_since out1) (g.O.Folder.left_since out2) (MayGain file (g.O.Folder.may_leave out1)) in
          let more = gained_more course (take (place + i) files) name c.loop-file.books c.compare_file.new.books _ _ _ _ _ _ _ _ (g.O.Folder.may_leave out1) (g.O.Folder.may_leave out2) c.loop-file.report (file_in c.in_ok-compared.compared.answer).octets so apart
          (subst Goes same (published.time known1)) c.with_file-report.result one (subst Gained same (published.published known1)) c.with_file-report.ensures.files c.with_file-report.ensures.written in
          let P : List MessageName → Type 0 = λ l. HasAnswered course l c.compare_file.new.books (g.O.Folder.image out2) (g.O.Folder.moment out2) (LeavesHeld course.start (g.O.Folder.may_leave c.args.outbox.now))
          (g.O.Folder.left_since c.args.outbox.now) (g.O.Folder.left_since out2) (g.O.Folder.may_leave out2) c.with_file-report.result in
          subst P (sym front) more;
      files_told = λ known.
          let Tells : Image → Type 0 = λ image. FilesTold g.J.Journal.begins g.J.Journal.tells image (map string_bytes c.args.theirs.now) c.loop-file.journal (name ∷ []) c.loop-file.books c.compare_file.new.books c.compare_file.new.journal in
          files_told g.J.Journal.begins g.J.Journal.tells (g.I.Folder.image c.args.inbox.now) (map string_bytes c.args.theirs.now) c.args.journal.now c.loop-file.journal c.compare_file.new.journal (take (place + (i + 1)) files) (take (place + i) files) (name ∷ []) c.args.books.now c.loop-file.books c.compare_file.new.books
          front (inv.files_told known) (subst Tells inv.inbox_kept.same (compared.tells (inv.inbox_kept.known ∙ known)));
    }

pub returns-clause-runs : goal.returns-clause-runs
returns-clause-runs g c = λ known.
    let course : Course = record { known = g.I.Folder.is_known c.args.inbox.now; inbox = g.I.Folder.image c.args.inbox.now; books = c.args.books.now; start = g.O.Folder.image c.args.outbox.now; first = g.O.Folder.moment c.args.outbox.now } in
    let out = c.loop-file.outbox in
    let P : List MessageName → Type 0 = λ l. HasAnswered course l c.loop-file.books (g.O.Folder.image out) (g.O.Folder.moment out) (LeavesHeld course.start (g.O.Folder.may_leave c.args.outbox.now))
    (g.O.Folder.left_since c.args.outbox.now) (g.O.Folder.left_since out) (g.O.Folder.may_leave out) c.loop-file.report in
    subst P (take_all (c.in_ok-place.place + c.loop-file.file-index) c.args.files.now (omega (arith, c.split_at.ensures.back_len))) (c.loop-file.invariant.so known)

pub returns-clause-tells : goal.returns-clause-tells
returns-clause-tells g c = λ known.
    let P : List MessageName → Type 0 = λ l. FilesTold g.J.Journal.begins g.J.Journal.tells (g.I.Folder.image c.args.inbox.now) (map string_bytes c.args.theirs.now) c.args.journal.now l c.args.books.now c.loop-file.books c.loop-file.journal in
    subst P (take_all (c.in_ok-place.place + c.loop-file.file-index) c.args.files.now (omega (arith, c.split_at.ensures.back_len))) (c.loop-file.invariant.files_told known)
