-- Several boxes of folders, and one: the law of objects, over files.
use Rattle.std.proofs.Common.{◌≡◌, ◌∙◌, List, [], ◌∷◌, ◌++◌, map, refl, sym, ap, subst, arith}
use Rattle.std.specs.Prelude.{All}
use Rattle.std.specs.List.{AllZip, flat_map}
use Rattle.std.proofs.lemmas.List.Elements.{All-cons, All-head, All-nil, All-tail}
use Rattle.profile.specs.streams.Divisions.{AreTold, IsDivided, IsServed, KeepsAll, Served, Told, told_from}
use Rattle.profile.specs.streams.Folders.{AnswersFiles, File, MessageFile}
use Rattle.profile.specs.streams.Streams.{Box, Config, new_box}
use Rattle.box_laws.specs.Inboxes.{Answering, InboxesActAsOne, IsAnswering, IsAnsweredByOne, IsSeenAs}
use Rattle.box_laws.proofs.law_lemmas.FileByFile.{file_by_file}
use Rattle.box_laws.proofs.law_lemmas.Lists.{map_map}
use Rattle.box_laws.proofs.law_lemmas.NewBoxes.{new_boxes}
use Rattle.box_laws.proofs.law_lemmas.OneStep.{Laws}
use Rattle.box_laws.proofs.law_lemmas.Runs.{act_as_one}

-- the objects that a box has answered are those of the files
told_of : (files : List MessageFile) (before after : Box) (written : List File) → AnswersFiles files before after written → (objects : List Told) × AreTold files objects
told_of [] before after written all = ([], refl)
told_of (file ∷ files) before after [] all = absurd all
told_of (file ∷ files) before after (answer ∷ written) (mid, first, others) =
    let (rest, told) = told_of files mid after written others in
    (told_from file.moment 1 first.objects ++ rest, (first.objects, rest, first.are, refl, told))

module _ (files : List MessageFile) (objects : List Told) (told : AreTold files objects) where
  -- each box, object by object
  seen_each : (several : List Answering) → All (IsAnswering files) several
      → (each : List Served) × AllZip IsSeenAs several each × All (IsServed objects) each × (map (λ box. box.before) each ≡ map (λ box. new_box box.hosts) several)
  seen_each [] h = ([], tt, All-nil (IsServed objects), refl)
  seen_each (box ∷ several) h =
      let (each, seen, served, befores_are) = seen_each several (All-tail (IsAnswering files) box several h) in
      let octets = flat_map (λ (file : File). file.octets) box.written in
      let (answers, by_object, are) = (file_by_file files objects told (new_box box.hosts) box.after octets).0 (box.written, All-head (IsAnswering files) box several h, refl) in
      let own : Served = record { before = new_box box.hosts; after = box.after; answers = answers } in (
        own ∷ each,
        (record { before = refl; after = refl; octets = are }, seen),
        All-cons (IsServed objects) own each by_object served,
        ap (λ l. new_box box.hosts ∷ l) befores_are,
      )

  one_answers : Laws → (several : List Answering) (whole : Config) → IsDivided (map (λ box. box.hosts) several) whole → All (IsAnswering files) several
      → (one : Answering) × (one.hosts ≡ whole) × IsAnsweredByOne files several one
  one_answers laws several whole divided h =
      let (each, seen, served, befores_are) = seen_each several h in
      let parts = map (λ (box : Answering). box.hosts) several in
      let keeps = subst (λ (l : List Box). KeepsAll l (new_box whole)) (map_map new_box (λ (box : Answering). box.hosts) several ∙ sym befores_are) (new_boxes parts whole divided) in
      let (run, same, done) = act_as_one laws objects each (new_box whole) served keeps in
      let octets = flat_map (λ answer. answer.octets) run.answers in
      let by_object = subst (λ (b : Box). IsServed objects (record { before = b; after = run.after; answers = run.answers })) same done.served in
      let (written, all, are) = (file_by_file files objects told (new_box whole) run.after octets).1 (run.answers, by_object, refl) in (
        record { hosts = whole; after = run.after; written = written },
        refl,
        record {
          objects = objects;
          told = told;
          each = each;
          seen = seen;
          whole = run;
          also_seen = record { before = same; after = refl; octets = sym are };
          answers = all;
          done = done;
        },
      )

pub inboxes_act_as_one : Laws → InboxesActAsOne
inboxes_act_as_one laws files [] whole divided h = absurd (omega (arith, divided.some))
inboxes_act_as_one laws files (box ∷ several) whole divided h =
    let (objects, told) = told_of files (new_box box.hosts) box.after box.written (All-head (IsAnswering files) box several h) in
    one_answers files objects told laws (box ∷ several) whole divided h
