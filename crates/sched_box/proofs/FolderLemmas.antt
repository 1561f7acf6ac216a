-- What an outbox holds and may lose, while the answers to one file after another are published in it.
use Rattle.std.proofs.Common.{◌≡◌, ◌≢◌, ◌⊎◌, ◌∙◌, inl, inr, ℕ, zero, suc, ◌+◌, ◌-◌, ◌<◌, ◌≤◌, Bool, true, false, cond, if◌then◌else◌, List, [], ◌∷◌, ◌++◌, AllPairs, length, get_or, take, drop, filter, map, string_bytes, Contains, Option, Some, None, IfErr, IfOk, IsNone, not, Result, Ok, Err, refl, sym, ap, subst, arith, true≢false}
use Rattle.std.proofs.Math.Seq.{take-append_seam, take-length}
use Rattle.std.proofs.lemmas.Bool.{cases_lt}
use Rattle.std.proofs.lemmas.List.{get_or-drop, get_or-take, length-append, length-drop, length-map, length-take, map-append, append-nil, take-append-le, take-append-drop, take_all, take_more, drop_more}
use Rattle.std.proofs.lemmas.List.Elements.{Contains-append_left, Contains-push, Contains-push_cases, at_from_Contains, filter-append}
use Rattle.std.proofs.lemmas.List.Kept.{AllPairs-filter}
use Rattle.std.proofs.lemmas.Slice.Eq.{bytes_eq-Decides}
use Rattle.std.specs.Option.{is_none, option_or, unwrap_or}
use Rattle.std.specs.Result.{is_ok}
use Rattle.std.specs.Str.{bytes_eq}
use Rattle.sched_devices.specs.Folder.{IsKept}
use Rattle.sched_devices.specs.declared.folder.FolderFault.{FolderFault}
use Rattle.sched_devices.specs.declared.folder.FolderFault.TheVariants as folder
use Rattle.profile.specs.streams.Comparing.{AreCompared, AreEqual, IsAsFound, is_other, names_differing}
use Rattle.profile.specs.streams.Folders.{AnswersFile, AnswersFiles, AreMessageFiles, AreNames, AreNamesSynced, AreSame, Elapses, File, Image, IsBeginning, LosesNamesAlone, MayBePublished, MessageFile, StopsBetweenFiles, Temporary, count_missing, octets_of, outbox_name, with_files}
use Rattle.profile.specs.streams.Streams.{Box, Config as SaidConfig, new_box}
use Rattle.sched_box.specs.Books.{AreBooksOf}
use Rattle.sched_box.specs.Boxes.{Compares, IsBreak, IsNoDifference, NoneBeside, NoneDiffers, Runs}
use Rattle.sched_box.specs.Running.{AnswersMessage, AnswersSofar, AreApart, AreMessagesOf, AreNamedApart, Course, FindsMore, GoesOn, HasAnswered, HasBroken, HasCompared, HasEnded, HasFound, HasPublished, HasPublishedSome, HoldsNone, HoldsOne, IsGained, IsLast, IsQuiet, IsWhole, LeavesHeld, MayGain, NoneAmong, NoneStands, RunsOver, StandsOther, answers_name, box_fault, file_in, file_of, missing_files}
use Rattle.sched_box.specs.declared.books.Books.{Books}
use Rattle.sched_box.specs.declared.file_names.MessageName.{MessageName}
use Rattle.sched_box.specs.declared.folders.Answer.{Answer}
use Rattle.sched_box.specs.declared.folders.BoxFault.{BoxFault}
use Rattle.sched_box.specs.declared.folders.BoxFault.TheVariants.{Device, Differs, Memory}
use Rattle.sched_box.specs.declared.folders.BoxReport.{BoxReport}
use Rattle.sched_box.specs.declared.folders.Comparison.{Comparison}
use Rattle.cal_events.proofs.shared_lemmas.InOneOrder.{first_or_later, head_pairs, in_mapped, none_in, of_filtered, of_mapped, tail_pairs}
use Rattle.sched_box.proofs.NameOrder.{pairs_mapped, pairs_of_mapped}

-- ---- images with files published in them

or_none : (o : Option (List ℕ)) → option_or o None ≡ o
or_none None = refl
or_none (Some x) = refl

or_assoc : (a b c : Option (List ℕ)) → option_or a (option_or b c) ≡ option_or (option_or a b) c
or_assoc None b c = refl
or_assoc (Some x) b c = refl

octets_more : (name : List ℕ) (files : List File) (file : File) → octets_of name (files ++ file ∷ []) ≡ option_or (octets_of name files) (octets_of name (file ∷ []))
octets_more name [] file = refl
octets_more name (f ∷ fs) file = at (bytes_eq f.name name) f.octets (octets_of name fs) (octets_of name (fs ++ file ∷ [])) (octets_of name (file ∷ [])) (octets_more name fs file)
  where
    at : (b : Bool) (x : List ℕ) (o p q : Option (List ℕ)) → p ≡ option_or o q → (if b then Some x else p) ≡ option_or (if b then Some x else o) q
    at true x o p q e = refl
    at false x o p q e = e

pub with_none : (image : Image) → AreSame image (with_files image [])
with_none image name = sym (or_none (image name))

with_more : (image : Image) (files : List File) (file : File) → AreSame (with_files image (files ++ file ∷ [])) (with_files (with_files image files) (file ∷ []))
with_more image files file name = ap (option_or (image name)) (octets_more name files file) ∙ or_assoc (image name) (octets_of name files) (octets_of name (file ∷ []))

with_same : (a b : Image) (files : List File) → AreSame a b → AreSame (with_files a files) (with_files b files)
with_same a b files same name = ap (λ o. option_or o (octets_of name files)) (same name)

-- a file was published after others
gained_held : (start now new : Image) (answers : List File) (file : File) → AreSame now (with_files start answers) → AreSame new (with_files now (file ∷ [])) → AreSame new (with_files start (answers ++ file ∷ []))
gained_held start now new answers file held added name = added name ∙ with_same now (with_files start answers) (file ∷ []) held name ∙ sym (with_more start answers file name)

file_there : (now new : Image) (file : File) → now file.name ≡ None → AreSame new (with_files now (file ∷ [])) → new file.name ≡ Some file.octets
file_there now new file free added =
    let P : Bool → Option (List ℕ) = λ b. if b then Some file.octets else None in
    added file.name ∙ ap (λ o. option_or o (octets_of file.name (file ∷ []))) free ∙ ap P ((bytes_eq-Decides file.name file.name).1 refl)

stays_there : (now new : Image) (files : List File) (name octets : List ℕ) → now name ≡ Some octets → AreSame new (with_files now files) → new name ≡ Some octets
stays_there now new files name octets there added = added name ∙ ap (λ o. option_or o (octets_of name files)) there

-- ---- no answer has this name

no_answer : (answers : List File) (name : List ℕ) → ((answer : File) → Contains answers answer → answer.name ≢ name) → octets_of name answers ≡ None
no_answer [] name apart = refl
no_answer (a ∷ answers) name apart =
    at (bytes_eq a.name name) (λ e. apart a (0, omega arith, refl) ((bytes_eq-Decides a.name name).0 e)) (no_answer answers name (λ answer (k, l, is). apart answer (suc k, omega arith, is)))
  where
    at : (b : Bool) → (b ≡ true → ⊥) → octets_of name answers ≡ None → (if b then Some a.octets else octets_of name answers) ≡ None
    at true h rest = absurd (h refl)
    at false h rest = rest

held_at_first : (start now : Image) (answers : List File) (name : List ℕ) → AreSame now (with_files start answers) → octets_of name answers ≡ None → now name ≡ start name
held_at_first start now answers name held none = held name ∙ ap (option_or (start name)) none ∙ or_none (start name)

abbrev pub file_name : File → List ℕ
file_name file = file.name

pub not_named : (files : List MessageName) (i : ℕ) (name : MessageName) → AreApart files → i < length files → name ≡ get_or files i name → (answers : List File) → map file_name answers ≡ map answers_name (take i files)
    → (answer : File) → Contains answers answer → answer.name ≢ answers_name name
not_named files i name apart within is answers named answer among same =
    let P : List (List ℕ) → Type 0 = λ l. Contains l answer.name in
    let (m, there, e) = of_mapped answers_name (take i files) answer.name (subst P named (in_mapped file_name answers answer among)) in
    let (k, l, at) = at_from_Contains (take i files) m there in
    let few : k < i = omega (arith, length-take i files) in
    let earlier : get_or files k name ≡ m = sym (get_or-take i files k name few) ∙ at name in
    apart k i name few within (ap answers_name earlier ∙ e ∙ same ∙ ap answers_name is)

-- ---- beginnings

whole_beginning : (start left : Image) (answers : List File) → AreSame left (with_files start answers) → IsBeginning start answers left
whole_beginning start left answers same = (length answers, λ name. same name ∙ ap (λ l. with_files start l name) (sym (take-length answers)))

begins_more : (start left : Image) (answers : List File) (file : File) → IsBeginning start answers left → IsBeginning start (answers ++ file ∷ []) left
begins_more start left answers file (count, same) =
    elim (cases_lt (length answers) count) [
      | inl less ↦ (length answers, λ name. same name ∙ ap (λ l. with_files start l name) (take_all count answers (omega arith) ∙ sym (take-append_seam answers (file ∷ []))))
      | inr few ↦ (count, λ name. same name ∙ ap (λ l. with_files start l name) (sym (take-append-le count answers (file ∷ []) few)))
    ]

-- what a stop may leave while one more file is published
may_begin : (start now left : Image) (answers : List File) (file : File) (may_leave : Image → Type 0) → AreSame now (with_files start answers) → LeavesHeld now may_leave → MayGain file may_leave left
    → IsBeginning start (answers ++ file ∷ []) left
may_begin start now left answers file may_leave held leaves (earlier, before, inl same) =
    begins_more start left answers file (whole_beginning start left answers (λ name. same name ∙ leaves earlier before name ∙ held name))
may_begin start now left answers file may_leave held leaves (earlier, before, inr same) =
    whole_beginning start left (answers ++ file ∷ [])
    (λ name. same name ∙ with_same earlier (with_files start answers) (file ∷ []) (λ n. leaves earlier before n ∙ held n) name ∙ sym (with_more start answers file name))

-- once it is published, and the folder synced, a stop leaves it
leaves_gained : (now new : Image) (file : File) (before after : Image → Type 0) → LeavesHeld now before → IsGained file now new before after → LeavesHeld new after
leaves_gained now new file before after leaves g left may name = let (gain, none) = g.stop left may in at gain (none name)
  where
    same : (a b c : Option (List ℕ)) (more : Option (List ℕ)) → a ≡ b → c ≡ option_or b more → (a ≡ None → c ≡ None) → a ≡ c
    same a None c more e f h = e ∙ sym (h e)
    same a (Some x) c more e f h = e ∙ sym f

    at : MayGain file before left → (left name ≡ None → new name ≡ None) → left name ≡ new name
    at (earlier, old, inl unchanged) none = same (left name) (now name) (new name) (octets_of name (file ∷ [])) (unchanged name ∙ leaves earlier old name) (g.added name) none
    at (earlier, old, inr gained) none = gained name ∙ with_same earlier now (file ∷ []) (leaves earlier old) name ∙ sym (g.added name)

-- ---- the files that are missing

none_some : (x : List ℕ) → Some x ≡ None → ⊥
none_some x e = true≢false (sym (ap is_none e))

missing_cons : (start : Image) (file : File) (files : List File) (o : Option (List ℕ)) → start file.name ≡ o → missing_files start (file ∷ files) ≡ cond (is_none o) (file ∷ missing_files start files) (missing_files start files)
missing_cons start file files o e = ap (λ (z : Option (List ℕ)). cond (is_none z) (file ∷ missing_files start files) (missing_files start files)) e

some_stays : (o a b : Option (List ℕ)) → (o ≡ None → ⊥) → option_or o a ≡ option_or o b
some_stays None a b h = absurd (h refl)
some_stays (Some x) a b h = refl

-- a file under whose name something stands adds nothing
passed_over : (start : Image) (file : File) (files more : List File) → (start file.name ≡ None → ⊥) → AreSame (with_files start more) (with_files start files) → AreSame (with_files start more) (with_files start (file ∷ files))
passed_over start file files more stands same name = at (bytes_eq file.name name) (λ e. (bytes_eq-Decides file.name name).0 e)
  where
    at : (b : Bool) → (b ≡ true → file.name ≡ name) → option_or (start name) (octets_of name more) ≡ option_or (start name) (if b then Some file.octets else octets_of name files)
    at true is = some_stays (start name) (octets_of name more) (Some file.octets) (λ none. stands (ap start (is refl) ∙ none))
    at false is = same name

put_in_front : (start : Image) (file : File) (files more : List File) → AreSame (with_files start more) (with_files start files) → AreSame (with_files start (file ∷ more)) (with_files start (file ∷ files))
put_in_front start file files more same name = at (bytes_eq file.name name)
  where
    at : (b : Bool) → option_or (start name) (if b then Some file.octets else octets_of name more) ≡ option_or (start name) (if b then Some file.octets else octets_of name files)
    at true = refl
    at false = same name

-- to publish those that are missing is to publish all
missing_added : (start : Image) (files : List File) → AreSame (with_files start (missing_files start files)) (with_files start files)
missing_added start [] name = refl
missing_added start (file ∷ files) name = at (start file.name) refl (missing_added start files)
  where
    at : (o : Option (List ℕ)) → start file.name ≡ o → AreSame (with_files start (missing_files start files)) (with_files start files)
        → with_files start (missing_files start (file ∷ files)) name ≡ with_files start (file ∷ files) name
    at None e so = ap (λ l. with_files start l name) (missing_cons start file files None e) ∙ put_in_front start file files (missing_files start files) so name
    at (Some x) e so = ap (λ l. with_files start l name) (missing_cons start file files (Some x) e) ∙ passed_over start file files (missing_files start files) (λ none. none_some x (sym e ∙ none)) so name

first_kept : {X : Type 0} (p : X → Bool) (xs : List X) (k : ℕ) → (count : ℕ) × (take k (filter p xs) ≡ filter p (take count xs))
first_kept p [] k = (0, take_all k [] (omega arith))
first_kept {X} p (x ∷ xs) k = at (p x) refl k (λ n. first_kept p xs n)
  where
    kept : (b : Bool) → p x ≡ b → (ys : List X) → filter p (x ∷ ys) ≡ cond b (x ∷ filter p ys) (filter p ys)
    kept b e ys = ap (λ (z : Bool). cond z (x ∷ filter p ys) (filter p ys)) e

    at : (b : Bool) → p x ≡ b → (k : ℕ) → ((n : ℕ) → (count : ℕ) × (take n (filter p xs) ≡ filter p (take count xs))) → (count : ℕ) × (take k (filter p (x ∷ xs)) ≡ filter p (take count (x ∷ xs)))
    at false e k rest = let (count, same) = rest k in (suc count, ap (take k) (kept false e xs) ∙ same ∙ sym (kept false e (take count xs)))
    at true e zero rest = (0, refl)
    at true e (suc k) rest = let (count, same) = rest k in (suc count, ap (take (suc k)) (kept true e xs) ∙ ap (λ l. x ∷ l) same ∙ sym (kept true e (take count xs)))

-- a beginning of those that are missing is one of all
missing_first : (start : Image) (files : List File) (left : Image) → IsBeginning start (missing_files start files) left → IsBeginning start files left
missing_first start files left (k, same) =
    let (count, is) = first_kept (λ (file : File). is_none (start file.name)) files k in
    (count, λ name. same name ∙ ap (λ l. with_files start l name) is ∙ missing_added start (take count files) name)

missing_counted : (start : Image) (files : List File) → length (missing_files start files) ≡ count_missing start files
missing_counted start [] = refl
missing_counted start (file ∷ files) = at (is_none (start file.name)) (missing_counted start files)
  where
    at : (b : Bool) → length (missing_files start files) ≡ count_missing start files
        → length (cond b (file ∷ missing_files start files) (missing_files start files)) ≡ (if b then 1 else 0) + count_missing start files
    at true e = omega arith
    at false e = omega arith

is_free : (o : Option (List ℕ)) → is_none o ≡ true → o ≡ None
is_free None t = refl
is_free (Some x) t = absurd (true≢false (sym t))

pub missing_free : (start : Image) (files : List File) (file : File) → Contains (missing_files start files) file → start file.name ≡ None
missing_free start files file among = is_free (start file.name) (of_filtered (λ (f : File). is_none (start f.name)) files file among).1

-- ---- names that differ from each other

abbrev pub OthersNamed : File → File → Type 0
OthersNamed a b = a.name ≢ b.name

files_apart : (names : List MessageName) (files : List File) → map file_name files ≡ map answers_name names → AreApart names → AllPairs OthersNamed files
files_apart names files named apart =
    let P : List (List ℕ) → Type 0 = AllPairs ◌≢◌ in
    pairs_of_mapped file_name ◌≢◌ files (subst P (sym named) (pairs_mapped answers_name ◌≢◌ names apart))

octets_there : (files : List File) (file : File) → AllPairs OthersNamed files → Contains files file → octets_of file.name files ≡ Some file.octets
octets_there [] file apart among = absurd (none_in file among)
octets_there (f ∷ files) file apart among =
    at (bytes_eq f.name file.name) (bytes_eq-Decides f.name file.name) (first_or_later f file files among) (λ later. octets_there files file (tail_pairs OthersNamed f files apart) later)
  where
    at : (b : Bool) → ((b ≡ true → f.name ≡ file.name) × (f.name ≡ file.name → b ≡ true)) → (f ≡ file) ⊎ Contains files file → (Contains files file → octets_of file.name files ≡ Some file.octets)
        → (if b then Some f.octets else octets_of file.name files) ≡ Some file.octets
    at true d (inl same) rest = ap (λ (x : File). Some x.octets) same
    at false d (inl same) rest = absurd (true≢false (sym (d.1 (ap file_name same))))
    at true d (inr later) rest = absurd (head_pairs OthersNamed f file files apart later (d.0 refl))
    at false d (inr later) rest = rest later

-- ---- answers that the outbox held already

same_octets : (a b : List ℕ) → Some a ≡ Some b → a ≡ b
same_octets a b e = ap (λ o. unwrap_or o []) e

-- what the outbox held under their names are the answers, as it holds them now
all_equal : (start now : Image) (answers : List File) → AreSame now (with_files start answers) → ((answer : File) → Contains answers answer → now answer.name ≡ Some answer.octets) → AreEqual start answers
all_equal start now answers held equal answer among octets was =
    same_octets octets answer.octets (sym (held answer.name ∙ ap (λ o. option_or o (octets_of answer.name answers)) was) ∙ equal answer among)

-- once those that are missing are published, each stands under its name
equal_after : (start now : Image) (answers : List File) → AreSame now (with_files start answers) → AreEqual start answers → AllPairs OthersNamed answers → (answer : File) → Contains answers answer → now answer.name ≡ Some answer.octets
equal_after start now answers held equal apart answer among = held answer.name ∙ at (start answer.name) refl
  where
    at : (o : Option (List ℕ)) → start answer.name ≡ o → option_or (start answer.name) (octets_of answer.name answers) ≡ Some answer.octets
    at None e = ap (λ o. option_or o (octets_of answer.name answers)) e ∙ octets_there answers answer apart among
    at (Some x) e = ap (λ o. option_or o (octets_of answer.name answers)) e ∙ ap Some (equal answer among x e)

-- one more is equal where it stands
equal_one : (start : Image) (answers : List File) (file : File) → AreEqual start answers → ((octets : List ℕ) → start file.name ≡ Some octets → octets ≡ file.octets) → AreEqual start (answers ++ file ∷ [])
equal_one start answers file equal one answer among octets was =
    elim (Contains-push_cases answers file answer among) [
      | inl old ↦ equal answer old octets was
      | inr same ↦ let P : File → Type 0 = λ f. (o : List ℕ) → start f.name ≡ Some o → o ≡ f.octets in subst P same one octets was
    ]

-- the first of them too
first_equal : (start : Image) (answers : List File) (count : ℕ) → AreEqual start answers → AreEqual start (take count answers)
first_equal start answers count equal answer among =
    let P : List File → Type 0 = λ l. Contains l answer in
    equal answer (subst P (take-append-drop count answers) (Contains-append_left (take count answers) (drop count answers) answer among))

-- whatever the last one is
last_differs : (start : Image) (answers : List File) (file : File) → AreEqual start answers → NoneDiffers start (answers ++ file ∷ [])
last_differs start answers file equal =
    let few : length (answers ++ file ∷ []) - 1 ≡ length answers = omega (arith, length-append answers (file ∷ [])) in
    subst (AreEqual start) (sym (ap (λ n. take n (answers ++ file ∷ [])) few ∙ take-append_seam answers (file ∷ []))) equal

-- ---- what isn't said to have failed

pub never_failed : {T E : Type 0} (x : T) (e : E) → Ok x ≡ Err e → ⊥
never_failed x e same = true≢false (ap is_ok same)

-- ---- a folder of which nothing has changed

pub kept_on : {F : Type 0} (is_known : F → Bool) (image : F → Image) (temporary : F → Temporary) (may_leave : F → Image → Type 0) (a b c : F)
    → IsKept is_known image temporary may_leave a b → IsKept is_known image temporary may_leave b c → IsKept is_known image temporary may_leave a c
kept_on is_known image temporary may_leave a b c one two = record {
  known = two.known ∙ one.known;
  same = two.same ∙ one.same;
  temporary_is = two.temporary_is ∙ one.temporary_is;
  stop = λ left may. one.stop left (two.stop left may);
}

-- ---- time

pub goes_none : (m : ℕ) (past : ℕ → Image → Type 0) (May : Image → Type 0) → GoesOn m m past past May
goes_none m past May = record {
  later = omega arith;
  between = λ first synced left f s since. inl since;
  leaves = λ synced left s since. inl since;
  keeps = λ moment left s since. since;
}

goes_on : (a b c : ℕ) (past mid since : ℕ → Image → Type 0) (May Might Both : Image → Type 0) → GoesOn a b past mid May → GoesOn b c mid since Might
    → ((left : Image) → May left → Both left) → ((left : Image) → Might left → Both left) → GoesOn a c past since Both
goes_on a b c past mid since May Might Both one two into onto =
    let ab = one.later in
    let bc = two.later in
    record {
      later = omega arith;
      between = λ first synced left f s after.
          elim (two.between first synced left f (omega arith) after) [
            | inl middle ↦ elim (one.between first synced left f s middle) [ inl before ↦ inl before | inr there ↦ inr (two.keeps synced left (omega arith) there) ]
            | inr there ↦ inr there
          ];
      leaves = λ synced left s after.
          elim (two.leaves synced left (omega arith) after) [
            | inl middle ↦ elim (one.leaves synced left s middle) [ inl before ↦ inl before | inr may ↦ inr (into left may) ]
            | inr might ↦ inr (onto left might)
          ];
      keeps = λ moment left s before. two.keeps moment left (omega arith) (one.keeps moment left s before);
    }

-- a call that takes time: a stop during it leaves what it may leave then
goes_elapsed : (b c : ℕ) (mid since : ℕ → Image → Type 0) (may_leave : Image → Type 0) → Elapses b c mid since may_leave → ((moment : ℕ) (left : Image) → moment ≤ c → may_leave left → since moment left)
    → GoesOn b c mid since may_leave
goes_elapsed b c mid since may_leave call counts =
    let later = call.later in
    record {
      later = call.later;
      between = λ first synced left f s after. elim (call.nothing_else first left (omega arith) after) [ inl past ↦ inl past | inr may ↦ inr (counts synced left (omega arith) may) ];
      leaves = λ synced left s after. call.nothing_else synced left s after;
      keeps = call.keeps;
    }

-- the temporary was written and synced, and then it was given a name, or the call failed
pub goes_published : (a b c : ℕ) (past mid since : ℕ → Image → Type 0) (ml0 ml1 ml2 : Image → Type 0) (t : Temporary) (name octets : List ℕ) → GoesOn a b past mid ml0 → ((left : Image) → ml1 left → ml0 left)
    → t.is_synced ≡ true → t.octets ≡ octets → MayBePublished t name ml1 ml2 → Elapses b c mid since ml2 → ((moment : ℕ) (left : Image) → moment ≤ c → ml2 left → since moment left)
    → GoesOn a c past since (MayGain (record { name = name; octets = octets }) ml0)
goes_published a b c past mid since ml0 ml1 ml2 t name octets one fewer synced is stop call counts =
    goes_on a b c past mid since ml0 ml2 (MayGain (record { name = name; octets = octets }) ml0) one (goes_elapsed b c mid since ml2 call counts) (λ left may. (left, may, inl (λ n. refl))) (λ left may. at left (stop left may))
  where
    at : (left : Image) → ((earlier : Image) × ml1 earlier × (AreSame left earlier ⊎ ((o : List ℕ) × (t.is_synced ≡ true → o ≡ t.octets)
        × AreSame left (with_files earlier (record { name = name; octets = o } ∷ []))))) → MayGain (record { name = name; octets = octets }) ml0 left
    at left (earlier, was, inl same) = (earlier, fewer earlier was, inl same)
    at left (earlier, was, inr (o, are, gained)) =
        let P : List ℕ → Type 0 = λ z. AreSame left (with_files earlier (record { name = name; octets = z } ∷ [])) in
        (earlier, fewer earlier was, inr (subst P (are synced ∙ is) gained))

-- ---- so far

pub none_answered : (course : Course) (books : Books) (exact : Type 0) (past : ℕ → Image → Type 0) (may_leave : Image → Type 0) (report : BoxReport) → course.books ≡ books → (exact → LeavesHeld course.start may_leave)
    → report.files ≡ 0 → report.written ≡ 0 → HasAnswered course [] books course.start course.first exact past past may_leave report
none_answered course books exact past may_leave report same leaves no_files none_written = record {
  answers = [];
  named = refl;
  held = with_none course.start;
  equal = λ answer (k, l, is). absurd (omega arith);
  files = no_files;
  written = none_written;
  stops = λ e. (goes_none course.first past (IsBeginning course.start []), leaves e);
  answered = λ known before have. let P : Books → Type 0 = λ b. AreBooksOf b before in (before, subst P same have, (refl, refl));
}

files_more : (files : List MessageFile) (file : MessageFile) (before mid after : Box) (answers : List File) (answer : File) → AnswersFiles files before mid answers → AnswersFile file mid after answer
    → AnswersFiles (files ++ file ∷ []) before after (answers ++ answer ∷ [])
files_more [] file before mid after [] answer (same, none) a = let P : Box → Type 0 = λ b. AnswersFile file b after answer in (after, subst P same a, (refl, refl))
files_more [] file before mid after (x ∷ answers) answer (same, none) a = absurd (cc)
files_more (f ∷ files) file before mid after [] answer h a = absurd h
files_more (f ∷ files) file before mid after (x ∷ answers) answer (box, one, rest) a = (box, one, files_more files file box mid after answers answer rest a)

missing_more : (image : Image) (files : List File) (file : File) → count_missing image (files ++ file ∷ []) ≡ count_missing image files + (if is_none (image file.name) then 1 else 0)
missing_more image [] file = omega arith
missing_more image (f ∷ files) file =
    let rest = missing_more image files file in
    omega arith

-- from whatever the books were, one more message was answered
answers_more : (course : Course) (names : List MessageName) (name : MessageName) (news newer : Books) (answers : List File) (octets : List ℕ) → AnswersSofar course names news answers
    → (course.known ≡ true → AnswersMessage course.inbox name news newer octets) → AnswersSofar course (names ++ name ∷ []) newer (answers ++ record { name = answers_name name; octets = octets } ∷ [])
answers_more course names name news newer answers octets so one known before have =
    let (mid, there, rest) = so known before have in
    let (after, here, answer) = one known mid there in
    let file : File = record { name = answers_name name; octets = octets } in
    let P : List MessageFile → Type 0 = λ l. AnswersFiles l before after (answers ++ file ∷ []) in
    (after, here, subst P (sym (map-append (file_of course.inbox) names (name ∷ []))) (files_more (map (file_of course.inbox) names) (file_of course.inbox name) before mid after answers file rest answer))

none_begun : (start : Image) (answers : List File) (left : Image) → AreSame left start → IsBeginning start answers left
none_begun start answers left same = (0, λ name. same name ∙ with_none start name)

none_breaks : (fault : BoxFault) (start : Image) (answers : List File) → IsNoDifference fault → NoneDiffers start answers → IsBreak start answers fault
none_breaks Device start answers h none = none
none_breaks Memory start answers h none = none
none_breaks (Differs name) start answers h none = absurd h

folder_breaks : (f : FolderFault) (start : Image) (answers : List File) → NoneDiffers start answers → IsBreak start answers (box_fault f)
folder_breaks folder.Device start answers none = none
folder_breaks folder.Missing start answers none = none
folder_breaks folder.Exists start answers none = none
folder_breaks folder.Memory start answers none = none

-- first all were compared, and then those that were held published
published_stops : (course : Course) (news : Books) (missing : List File) (mid last : ℕ) (before : Image → Type 0) (past middle since : ℕ → Image → Type 0) (names : List MessageName) (so : HasCompared course names news missing)
    → GoesOn course.first mid past middle before → GoesOn mid last middle since (IsBeginning course.start missing) → LeavesHeld course.start before
    → GoesOn course.first last past since (IsBeginning course.start so.answers)
published_stops course news missing mid last before past middle since names so first second held =
    let P : List File → Image → Type 0 = λ l left. IsBeginning course.start l left in
    goes_on course.first mid last past middle since before (IsBeginning course.start missing) (IsBeginning course.start so.answers) first second
    (λ left may. none_begun course.start so.answers left (held left may))
    (λ left begun. missing_first course.start so.answers left (subst (λ l. P l left) so.missing_are begun))

abbrev pub answers_file : MessageName → List ℕ → File
answers_file name octets = record { name = answers_name name; octets = octets }

-- a message whose name no answer so far has
module _ (course : Course) (names : List MessageName) (name : MessageName) (news newer : Books) (now new : Image) (mid last : ℕ) (exact : Type 0) (past middle since : ℕ → Image → Type 0) (before after : Image → Type 0)
    (report : BoxReport) (octets : List ℕ) (so : HasAnswered course names news now mid exact past middle before report)
    (apart : (answer : File) → Contains so.answers answer → answer.name ≢ answers_name name)
    (goes : GoesOn mid last middle since (MayGain (answers_file name octets) before)) where
  stops_more : exact → GoesOn course.first last past since (IsBeginning course.start (so.answers ++ answers_file name octets ∷ []))
  stops_more e =
      let (first, leaves) = so.stops e in
      goes_on course.first mid last past middle since (IsBeginning course.start so.answers) (MayGain (answers_file name octets) before) (IsBeginning course.start (so.answers ++ answers_file name octets ∷ [])) first goes
      (λ left. begins_more course.start left so.answers (answers_file name octets))
      (λ left. may_begin course.start now left so.answers (answers_file name octets) before so.held leaves)

  first_image : now (answers_name name) ≡ course.start (answers_name name)
  first_image = held_at_first course.start now so.answers (answers_name name) so.held (no_answer so.answers (answers_name name) apart)

  named_more : map file_name (so.answers ++ answers_file name octets ∷ []) ≡ map answers_name (names ++ name ∷ [])
  named_more = map-append file_name so.answers (answers_file name octets ∷ []) ∙ ap (λ l. l ++ answers_name name ∷ []) so.named ∙ sym (map-append answers_name names (name ∷ []))

  equal_more : ((n x : List ℕ) → now n ≡ Some x → new n ≡ Some x) → new (answers_name name) ≡ Some octets → (answer : File) → Contains (so.answers ++ answers_file name octets ∷ []) answer → new answer.name ≡ Some answer.octets
  equal_more stays there answer among =
      elim (Contains-push_cases so.answers (answers_file name octets) answer among) [
        | inl old ↦ stays answer.name answer.octets (so.equal answer old)
        | inr same ↦ let P : File → Type 0 = λ f. new f.name ≡ Some f.octets in subst P same there
      ]

  counted_more : (next : BoxReport) (one : ℕ) → next.written ≡ report.written + one → (if is_none (course.start (answers_name name)) then 1 else 0) ≡ one
      → next.written ≡ count_missing course.start (so.answers ++ answers_file name octets ∷ [])
  counted_more next one e is =
      let rest = missing_more course.start so.answers (answers_file name octets) in
      let count = so.written in
      omega arith

  pub gained_more : (next : BoxReport) → (course.known ≡ true → AnswersMessage course.inbox name news newer octets) → IsGained (answers_file name octets) now new before after → next.files ≡ report.files + 1 → next.written ≡ report.written + 1
      → HasAnswered course (names ++ name ∷ []) newer new last exact past since after next
  gained_more next one g files written = record {
    answers = so.answers ++ answers_file name octets ∷ [];
    named = named_more;
    held = gained_held course.start now new so.answers (answers_file name octets) so.held g.added;
    equal = equal_more (λ n x there. stays_there now new (answers_file name octets ∷ []) n x there g.added) (file_there now new (answers_file name octets) g.free g.added);
    files = files ∙ ap (λ n. n + 1) so.files ∙ sym (length-append so.answers (answers_file name octets ∷ []));
    written = counted_more next 1 written (ap (λ o. if is_none o then 1 else 0) (sym first_image ∙ g.free));
    stops = λ e. (stops_more e, leaves_gained now new (answers_file name octets) before after (so.stops e).1 g);
    answered = answers_more course names name news newer so.answers octets so.answered one;
  }

  -- the run ends with it
  pub broken_more : (f : FolderFault) (quiet : Type 0) → (course.known ≡ true → AnswersMessage course.inbox name news newer octets) → (all : List MessageName) (count : ℕ) → take count all ≡ names ++ name ∷ []
      → now (answers_name name) ≡ None → NoneStands course.start (drop count all) → IsWhole (answers_file name octets) now new → HasEnded course all new last exact quiet past since (box_fault f)
  broken_more f quiet one all count front free none whole = record {
    answers = so.answers ++ answers_file name octets ∷ [];
    count = count;
    left = whole_left whole;
    stops = stops_more;
    breaks = folder_breaks f course.start (so.answers ++ answers_file name octets ∷ []) (last_differs course.start so.answers (answers_file name octets) equal);
    beside = inr (equal_one course.start so.answers (answers_file name octets) equal (λ o was. absurd (none_some o (sym was ∙ sym first_image ∙ free))), none);
    answered = λ known start have.
        let (box, there, all_answered) = answers_more course names name news newer so.answers octets so.answered one known start have in
        let P : List MessageName → Type 0 = λ l. AnswersFiles (map (file_of course.inbox) l) start box (so.answers ++ answers_file name octets ∷ []) in
        (box, subst P (sym front) all_answered);
  }
    where
      equal : AreEqual course.start so.answers
      equal = all_equal course.start now so.answers so.held so.equal

      whole_left : IsWhole (answers_file name octets) now new → IsBeginning course.start (so.answers ++ answers_file name octets ∷ []) new
      whole_left (inl same) = begins_more course.start new so.answers (answers_file name octets) (whole_beginning course.start new so.answers (λ n. same n ∙ so.held n))
      whole_left (inr gained) = whole_beginning course.start new (so.answers ++ answers_file name octets ∷ []) (gained_held course.start now new so.answers (answers_file name octets) so.held gained)

-- the run ends before the next message is answered
pub ended_between : (course : Course) (all : List MessageName) (count : ℕ) (names : List MessageName) (news : Books) (now : Image) (last : ℕ) (exact quiet : Type 0) (past since : ℕ → Image → Type 0) (may_leave : Image → Type 0) (report : BoxReport) (fault : BoxFault)
    → take count all ≡ names → NoneStands course.start (drop count all) → HasAnswered course names news now last exact past since may_leave report → IsNoDifference fault → HasEnded course all now last exact quiet past since fault
ended_between course all count names news now last exact quiet past since may_leave report fault front none so quietly = record {
  answers = so.answers;
  count = count;
  left = whole_beginning course.start now so.answers so.held;
  stops = λ e. (so.stops e).0;
  breaks = none_breaks fault course.start so.answers quietly (first_equal course.start so.answers _ equal);
  beside = inr (equal, none);
  answered = λ known start have.
      let (box, there, all_answered) = so.answered known start have in
      let P : List MessageName → Type 0 = λ l. AnswersFiles (map (file_of course.inbox) l) start box so.answers in
      (box, subst P (sym front) all_answered);
}
  where
    equal : AreEqual course.start so.answers
    equal = all_equal course.start now so.answers so.held so.equal

-- nothing was published
quiet_stops : (course : Course) (now : Image) (last : ℕ) (before : Image → Type 0) (past since : ℕ → Image → Type 0) (answers : List File) → IsQuiet course now last before past since
    → LeavesHeld course.start before → GoesOn course.first last past since (IsBeginning course.start answers)
quiet_stops course now last before past since answers quiet held =
    goes_on course.first course.first last past past since before before (IsBeginning course.start answers) (goes_none course.first past before) quiet.time
    (λ left may. none_begun course.start answers left (held left may)) (λ left may. none_begun course.start answers left (held left may))

-- the run ends while it compares
pub broken_quiet : (course : Course) (all : List MessageName) (place : ℕ) (now : Image) (last : ℕ) (before : Image → Type 0) (past since : ℕ → Image → Type 0) (fault : BoxFault)
    → IsQuiet course now last before past since → HasBroken course (take place all) fault
    → HasEnded course all now last (LeavesHeld course.start before) (IsQuiet course now last before past since) past since fault
broken_quiet course all place now last before past since fault quiet so = record {
  answers = so.answers;
  count = so.count;
  left = none_begun course.start so.answers now quiet.same;
  stops = quiet_stops course now last before past since so.answers quiet;
  breaks = so.breaks;
  beside = inl quiet;
  answered =
      let front : take so.count all ≡ take so.count (take place all) = ap (take so.count) (sym (take-append-drop place all)) ∙ take-append-le so.count (take place all) (drop place all) so.few in
      let P : List MessageName → Type 0 = λ l. course.known ≡ true → (box : Box) → AreBooksOf course.books box → (after : Box) × AnswersFiles (map (file_of course.inbox) l) box after so.answers in
      subst P (sym front) so.answered;
}

-- it ends before it has compared one
pub ended_first : (course : Course) (all : List MessageName) (now : Image) (before : Image → Type 0) (past : ℕ → Image → Type 0) (fault : BoxFault) → now ≡ course.start → IsNoDifference fault
    → HasEnded course all now course.first (LeavesHeld course.start before) (IsQuiet course now course.first before past past) past past fault
ended_first course all now before past fault same quietly =
    let quiet : IsQuiet course now course.first before past past = record { same = λ name. ap (λ (i : Image). i name) same; time = goes_none course.first past before } in
    record {
      answers = [];
      count = 0;
      left = none_begun course.start [] now quiet.same;
      stops = quiet_stops course now course.first before past past [] quiet;
      breaks = none_breaks fault course.start [] quietly (λ answer among. absurd (none_in answer among));
      beside = inl quiet;
      answered = λ known start have. (start, (refl, refl));
    }

-- it ends while it publishes those that were held
pub broken_publishing : (course : Course) (all : List MessageName) (place : ℕ) (news : Books) (missing : List File) (now : Image) (mid last : ℕ) (before : Image → Type 0) (quiet : Type 0) (past middle since : ℕ → Image → Type 0) (f : FolderFault)
    → HasCompared course (take place all) news missing → NoneStands course.start (drop place all) → GoesOn course.first mid past middle before
    → HasPublishedSome course.start missing mid now last (LeavesHeld course.start before) middle since
    → HasEnded course all now last (LeavesHeld course.start before) quiet past since (box_fault f)
broken_publishing course all place news missing now mid last before quiet past middle since f so none first some =
    let P : List File → Type 0 = λ l. IsBeginning course.start l now in
    record {
      answers = so.answers;
      count = place;
      left = missing_first course.start so.answers now (subst P so.missing_are some.left);
      stops = λ e. published_stops course news missing mid last before past middle since (take place all) so first (some.stops e) e;
      breaks = folder_breaks f course.start so.answers (first_equal course.start so.answers _ so.equal);
      beside = inr (so.equal, none);
      answered = λ known start have. let (box, there, all_answered) = so.answered known start have in (box, all_answered);
    }

-- all that were held are published
pub published_answered : (course : Course) (names : List MessageName) (news : Books) (missing : List File) (now : Image) (mid last : ℕ) (before may_leave : Image → Type 0) (past middle since : ℕ → Image → Type 0) (report : BoxReport)
    → AreApart names → HasCompared course names news missing → GoesOn course.first mid past middle before
    → HasPublished course.start missing mid now last (LeavesHeld course.start before) middle since may_leave → report.files ≡ length names → report.written ≡ length missing
    → HasAnswered course names news now last (LeavesHeld course.start before) past since may_leave report
published_answered course names news missing now mid last before may_leave past middle since report apart so first all files written = record {
  answers = so.answers;
  named = so.named;
  held = held;
  equal = equal_after course.start now so.answers held so.equal (files_apart names so.answers so.named apart);
  files = files ∙ sym (length-map names answers_name) ∙ ap length (sym so.named) ∙ length-map so.answers file_name;
  written = written ∙ ap length so.missing_are ∙ missing_counted course.start so.answers;
  stops = λ e. (published_stops course news missing mid last before past middle since names so first (all.stops e).0 e, (all.stops e).1);
  answered = so.answered;
}
  where
    held : AreSame now (with_files course.start so.answers)
    held name = all.held name ∙ ap (λ l. with_files course.start l name) so.missing_are ∙ missing_added course.start so.answers name

-- time goes on, and nothing changes
pub quiet_more : (course : Course) (names : List MessageName) (news : Books) (now new : Image) (mid last : ℕ) (exact : Type 0) (past middle since : ℕ → Image → Type 0) (before after : Image → Type 0) (report : BoxReport)
    → new ≡ now → ((left : Image) → after left → before left) → GoesOn mid last middle since before → HasAnswered course names news now mid exact past middle before report
    → HasAnswered course names news new last exact past since after report
quiet_more course names news now new mid last exact past middle since before after report same fewer goes so = record {
  answers = so.answers;
  named = so.named;
  held = λ name. ap (λ (i : Image). i name) same ∙ so.held name;
  equal = λ answer among. ap (λ (i : Image). i answer.name) same ∙ so.equal answer among;
  files = so.files;
  written = so.written;
  stops = λ e.
      let (first, leaves) = so.stops e in (
        goes_on course.first mid last past middle since (IsBeginning course.start so.answers) before (IsBeginning course.start so.answers) first goes (λ left may. may)
            (λ left may. whole_beginning course.start left so.answers (λ name. leaves left may name ∙ so.held name)),
        λ left may name. leaves left (fewer left may) name ∙ sym (ap (λ (i : Image). i name) same),
      );
  answered = so.answered;
}

pub run_ended : (course : Course) (names : List MessageName) (news : Books) (now : Image) (last : ℕ) (before : Image → Type 0) (past since : ℕ → Image → Type 0) (may_leave : Image → Type 0) (r : Result BoxReport BoxFault) (e fault : BoxFault)
    → r ≡ Err e → e ≡ fault → HasEnded course names now last (LeavesHeld course.start before) (IsQuiet course now last before past since) past since fault → RunsOver course names news now last before past since may_leave r
run_ended course names news now last before past since may_leave r e fault is from h = subst (RunsOver course names news now last before past since may_leave) (sym (is ∙ ap Err from)) h

-- ---- comparing

first_of_first : {X : Type 0} (xs : List X) (count k : ℕ) → (m : ℕ) × (take k (take count xs) ≡ take m xs)
first_of_first xs count k =
    elim (cases_lt k (length (take count xs))) [
      | inl few ↦ (k, sym (take-append-le k (take count xs) (drop count xs) (omega arith)) ∙ ap (take k) (take-append-drop count xs))
      | inr all ↦ (count, take_all k (take count xs) all)
    ]

differing_more : (image : Image) (files : List File) (file : File) → names_differing image (files ++ file ∷ []) ≡ names_differing image files ++ names_differing image (file ∷ [])
differing_more image files file =
    ap (map file_name) (filter-append (λ (f : File). is_other (image f.name) f.octets) files (file ∷ [])) ∙ map-append file_name (filter (λ (f : File). is_other (image f.name) f.octets) files) (filter (λ (f : File). is_other (image f.name) f.octets) (file ∷ []))

-- a beginning of the first files is one of all
first_begun : (start : Image) (all : List File) (count : ℕ) (files : List File) (left : Image) → take count all ≡ files → IsBeginning start files left → IsBeginning start all left
first_begun start all count files left front (k, same) =
    let P : List File → Type 0 = λ l. (m : ℕ) × (take k l ≡ take m all) in
    let (m, is) = subst P front (first_of_first all count k) in
    (m, λ name. same name ∙ ap (λ l. with_files start l name) is)

publishing_stops : (start : Image) (files : List File) (file : File) (first mid last : ℕ) (now : Image) (exact : Type 0) (past middle since : ℕ → Image → Type 0) (before : Image → Type 0)
    → HasPublished start files first now mid exact past middle before → GoesOn mid last middle since (MayGain file before) → exact → GoesOn first last past since (IsBeginning start (files ++ file ∷ []))
publishing_stops start files file first mid last now exact past middle since before so goes e =
    let (earlier, leaves) = so.stops e in
    goes_on first mid last past middle since (IsBeginning start files) (MayGain file before) (IsBeginning start (files ++ file ∷ [])) earlier goes
    (λ left. begins_more start left files file) (λ left. may_begin start now left files file before so.held leaves)

pub none_compared : (course : Course) (books : Books) → course.books ≡ books → HasCompared course [] books []
none_compared course books same = record {
  answers = [];
  named = refl;
  equal = λ answer among. absurd (none_in answer among);
  missing_are = refl;
  answered = λ known before have. let P : Books → Type 0 = λ b. AreBooksOf b before in (before, subst P same have, (refl, refl));
}

-- a message more was answered, and its answers looked for
module _ (course : Course) (names : List MessageName) (name : MessageName) (news newer : Books) (missing : List File) (file : File) (so : HasCompared course names news missing)
    (named : file.name ≡ answers_name name) (one : course.known ≡ true → AnswersMessage course.inbox name news newer file.octets) where
  file_is : ◌≡◌ {A = File} (record { name = answers_name name; octets = file.octets }) file
  file_is = ap (λ (n : List ℕ). record { name = n; octets = file.octets }) (sym named)

  all_answered : AnswersSofar course (names ++ name ∷ []) newer (so.answers ++ file ∷ [])
  all_answered =
      let P : File → Type 0 = λ f. AnswersSofar course (names ++ name ∷ []) newer (so.answers ++ f ∷ []) in
      subst P file_is (answers_more course names name news newer so.answers file.octets so.answered one)

  names_are : map file_name (so.answers ++ file ∷ []) ≡ map answers_name (names ++ name ∷ [])
  names_are = map-append file_name so.answers (file ∷ []) ∙ ap (λ l. l ++ file.name ∷ []) so.named ∙ ap (λ n. map answers_name names ++ n ∷ []) named ∙ sym (map-append answers_name names (name ∷ []))

  one_missing : (o : Option (List ℕ)) → course.start file.name ≡ o → missing_files course.start (so.answers ++ file ∷ []) ≡ missing ++ cond (is_none o) (file ∷ []) []
  one_missing o e =
      filter-append (λ (f : File). is_none (course.start f.name)) so.answers (file ∷ []) ∙ ap (λ l. l ++ missing_files course.start (file ∷ [])) (sym so.missing_are)
      ∙ ap (λ (z : Option (List ℕ)). missing ++ cond (is_none z) (file ∷ []) []) e

  pub compared_more : (more : List File) → HoldsOne course.start file missing more → HasCompared course (names ++ name ∷ []) newer more
  compared_more more (inl (free, is)) = record {
    answers = so.answers ++ file ∷ [];
    named = names_are;
    equal = equal_one course.start so.answers file so.equal (λ o was. absurd (none_some o (sym was ∙ free)));
    missing_are = is ∙ sym (one_missing None free);
    answered = all_answered;
  }
  compared_more more (inr (stands, is)) = record {
    answers = so.answers ++ file ∷ [];
    named = names_are;
    equal = equal_one course.start so.answers file so.equal (λ o was. same_octets o file.octets (sym was ∙ stands));
    missing_are = is ∙ sym (append-nil missing) ∙ sym (one_missing (Some file.octets) stands);
    answered = all_answered;
  }

  pub differs_more : (fault : BoxFault) (all : List MessageName) (count : ℕ) → HoldsNone course.start file fault → take count all ≡ names ++ name ∷ [] → count ≤ length all
      → HasBroken course all fault
  differs_more fault all count holds front few = record {
    answers = so.answers ++ file ∷ [];
    count = count;
    few = few;
    breaks = at fault holds;
    answered = λ known start have.
        let (box, there, answered) = all_answered known start have in
        let P : List MessageName → Type 0 = λ l. AnswersFiles (map (file_of course.inbox) l) start box (so.answers ++ file ∷ []) in
        (box, subst P (sym front) answered);
  }
    where
      none : NoneDiffers course.start (so.answers ++ file ∷ [])
      none = last_differs course.start so.answers file so.equal

      at : (e : BoxFault) → HoldsNone course.start file e → IsBreak course.start (so.answers ++ file ∷ []) e
      at Device h = absurd h
      at Memory h = none
      at (Differs n) (is, other) =
          (record { earlier = so.answers; answer = file; octets = other.octets; is = refl; named = is; held = ap course.start (sym is) ∙ other.held; other = other.other }, none)

-- the comparison ends before the next message is answered
pub broken_between : (course : Course) (all : List MessageName) (count : ℕ) (names : List MessageName) (news : Books) (missing : List File) (fault : BoxFault) → take count all ≡ names → count ≤ length all
    → HasCompared course names news missing → IsNoDifference fault → HasBroken course all fault
broken_between course all count names news missing fault front few so quietly = record {
  answers = so.answers;
  count = count;
  few = few;
  breaks = none_breaks fault course.start so.answers quietly (first_equal course.start so.answers _ so.equal);
  answered = λ known start have.
      let (box, there, answered) = so.answered known start have in
      let P : List MessageName → Type 0 = λ l. AnswersFiles (map (file_of course.inbox) l) start box so.answers in
      (box, subst P (sym front) answered);
}

-- ---- publishing what was held

pub none_published : (start : Image) (first : ℕ) (past : ℕ → Image → Type 0) (before : Image → Type 0) → HasPublished start [] first start first (LeavesHeld start before) past past before
none_published start first past before = record {
  held = with_none start;
  stops = λ e. (goes_none first past (IsBeginning start []), e);
}

pub published_more : (start : Image) (files : List File) (file : File) (first mid last : ℕ) (now new : Image) (exact : Type 0) (past middle since : ℕ → Image → Type 0) (before after : Image → Type 0)
    → HasPublished start files first now mid exact past middle before → IsGained file now new before after → GoesOn mid last middle since (MayGain file before)
    → HasPublished start (files ++ file ∷ []) first new last exact past since after
published_more start files file first mid last now new exact past middle since before after so gained goes = record {
  held = gained_held start now new files file so.held gained.added;
  stops = λ e. (publishing_stops start files file first mid last now exact past middle since before so goes e, leaves_gained now new file before after (so.stops e).1 gained);
}

pub published_some : (start : Image) (all : List File) (count : ℕ) (files : List File) (file : File) (first mid last : ℕ) (now new : Image) (exact : Type 0) (past middle since : ℕ → Image → Type 0) (before : Image → Type 0)
    → take count all ≡ files ++ file ∷ [] → HasPublished start files first now mid exact past middle before → IsWhole file now new → GoesOn mid last middle since (MayGain file before)
    → HasPublishedSome start all first new last exact past since
published_some start all count files file first mid last now new exact past middle since before front so whole goes = record {
  left = first_begun start all count (files ++ file ∷ []) new front (at whole);
  stops = λ e.
      goes_on first first last past past since (IsBeginning start all) (IsBeginning start (files ++ file ∷ [])) (IsBeginning start all) (goes_none first past (IsBeginning start all))
      (publishing_stops start files file first mid last now exact past middle since before so goes e) (λ left may. may) (λ left may. first_begun start all count (files ++ file ∷ []) left front may);
}
  where
    at : IsWhole file now new → IsBeginning start (files ++ file ∷ []) new
    at (inl same) = begins_more start new files file (whole_beginning start new files (λ n. same n ∙ so.held n))
    at (inr gained) = whole_beginning start new (files ++ file ∷ []) (gained_held start now new files file so.held gained)

-- ---- what a comparison alone finds

pub none_found : (course : Course) (books : Books) (found : Comparison) → course.books ≡ books → found.files ≡ 0 → found.missing ≡ 0 → map string_bytes found.differing.items ≡ [] → HasFound course [] books found
none_found course books found same no_files none_missing none_differ = record {
  answers = [];
  named = refl;
  is = record { counted = no_files; lacking = none_missing; others = none_differ };
  answered = λ known before have. let P : Books → Type 0 = λ b. AreBooksOf b before in (before, subst P same have, (refl, refl));
}

pub found_more : (course : Course) (names : List MessageName) (name : MessageName) (news newer : Books) (found next : Comparison) (file : File) → HasFound course names news found → file.name ≡ answers_name name
    → (course.known ≡ true → AnswersMessage course.inbox name news newer file.octets) → FindsMore course.start file found next → HasFound course (names ++ name ∷ []) newer next
found_more course names name news newer found next file so named one finds =
    let P : File → Type 0 = λ f. AnswersSofar course (names ++ name ∷ []) newer (so.answers ++ f ∷ []) in
    let file_is : ◌≡◌ {A = File} (record { name = answers_name name; octets = file.octets }) file = ap (λ (n : List ℕ). record { name = n; octets = file.octets }) (sym named) in
    record {
      answers = so.answers ++ file ∷ [];
      named = map-append file_name so.answers (file ∷ []) ∙ ap (λ l. l ++ file.name ∷ []) so.named ∙ ap (λ n. map answers_name names ++ n ∷ []) named ∙ sym (map-append answers_name names (name ∷ []));
      is = record {
        counted = finds.files ∙ ap (λ n. n + 1) so.is.counted ∙ sym (length-append so.answers (file ∷ []));
        lacking = finds.missing ∙ ap (λ n. n + (if is_none (course.start file.name) then 1 else 0)) so.is.lacking ∙ sym (missing_more course.start so.answers file);
        others = finds.differing ∙ ap (λ l. l ++ names_differing course.start (file ∷ [])) so.is.others ∙ sym (differing_more course.start so.answers file);
      };
      answered = subst P file_is (answers_more course names name news newer so.answers file.octets so.answered one);
    }

other_names : (image : Image) (file : File) → StandsOther file image → names_differing image (file ∷ []) ≡ file.name ∷ []
other_names image file stands = ap (λ (b : Bool). map file_name (cond b (file ∷ []) [])) (ap (λ (o : Option (List ℕ)). is_other o file.octets) stands.held ∙ at (bytes_eq stands.octets file.octets) (bytes_eq-Decides stands.octets file.octets).0)
  where
    at : (b : Bool) → (b ≡ true → stands.octets ≡ file.octets) → not b ≡ true
    at true same = absurd (stands.other (same refl))
    at false same = refl

-- a file that differs is named
pub other_finds : (image : Image) (file : File) (old new : Comparison) → StandsOther file image → new.files ≡ old.files + 1 → new.missing ≡ old.missing → map string_bytes new.differing.items ≡ map string_bytes old.differing.items ++ file.name ∷ []
    → FindsMore image file old new
other_finds image file old new stands files missing differing = record {
  files = files;
  missing =
      let P : Option (List ℕ) → Type 0 = λ o. new.missing ≡ old.missing + (if is_none o then 1 else 0) in
      let none : new.missing ≡ old.missing + 0 = omega (arith, missing) in
      subst P (sym stands.held) none;
  differing = differing ∙ ap (λ l. map string_bytes old.differing.items ++ l) (sym (other_names image file stands));
}

pub compares_all : (course : Course) (files : List MessageName) (news : Books) (hosts : SaidConfig) (found : Comparison) → course.known ≡ true → AreBooksOf course.books (new_box hosts)
    → AreMessageFiles course.inbox (map (file_of course.inbox) files) → HasFound course files news found → Compares course.inbox hosts course.start (Ok found)
compares_all course files news hosts found known books are so =
    let (after, there, answered) = so.answered known (new_box hosts) books in (
      so.answers,
      record { files = map (file_of course.inbox) files; are = subst (AreMessageFiles course.inbox) (sym (append-nil (map (file_of course.inbox) files))) are; after = after; answered = answered },
      so.is,
    )

pub compares_over : (course : Course) (files : List MessageName) (news : Books) (hosts : SaidConfig) (r : Result Comparison BoxFault) → course.known ≡ true → AreBooksOf course.books (new_box hosts)
    → AreMessageFiles course.inbox (map (file_of course.inbox) files) → IfOk r (HasFound course files news) → IfErr r IsNoDifference → Compares course.inbox hosts course.start r
compares_over course files news hosts (Ok found) known books are so no_difference = compares_all course files news hosts found known books are so
compares_over course files news hosts (Err fault) known books are so no_difference = no_difference

-- ---- a whole run

-- the run of a box is one over the files of its inbox
pub stops_between : (start : Image) (answers : List File) (m0 m1 m2 m3 : ℕ) (ls0 ls1 ls2 ls3 : ℕ → Image → Type 0) (ml0 ml1 ml2 : Image → Type 0)
    → Elapses m0 m1 ls0 ls1 ml1 → Elapses m1 m2 ls1 ls2 ml2 → GoesOn m2 m3 ls2 ls3 (IsBeginning start answers)
    → ((left : Image) → ls0 m0 left → ml0 left) → ((left : Image) → ml1 left → ls1 m1 left) → ((left : Image) → ls1 m1 left → ml1 left) → ((left : Image) → ml2 left → ml1 left)
    → LeavesHeld start ml1 → StopsBetweenFiles start answers ml0 ls3 m0 m3
stops_between start answers m0 m1 m2 m3 ls0 ls1 ls2 ls3 ml0 ml1 ml2 sync names run only0 counts1 only1 fewer leaves =
    let a = sync.later in
    let b = names.later in
    let c = run.later in
    record {
      synced = m1;
      later = omega arith;
      earlier = omega arith;
      before = λ left since.
          elim (run.between m0 m1 left (omega arith) (omega arith) since) [
            | inl second ↦ elim (names.nothing_else m0 left (omega arith) second) [
              | inl first ↦ elim (sync.nothing_else m0 left (omega arith) first) [
                | inl past ↦ inl (only0 left past)
                | inr may ↦ inr (on left may)
              ]
              | inr may ↦ inr (on left (fewer left may))
            ]
            | inr there ↦ inr there
          ];
      after = λ left since.
          elim (run.leaves m1 left (omega arith) since) [
            | inl second ↦ elim (names.nothing_else m1 left (omega arith) second) [
              | inl first ↦ nothing left (only1 left first)
              | inr may ↦ nothing left (fewer left may)
            ]
            | inr begun ↦ begun
          ];
    }
  where
    on : (left : Image) → ml1 left → ls3 m1 left
    on left may = run.keeps m1 left (let b = names.later in omega arith) (names.keeps m1 left (omega arith) (counts1 left may))

    nothing : (left : Image) → ml1 left → IsBeginning start answers left
    nothing left may = (0, λ name. leaves left may name ∙ with_none start name)

pub leaves_synced : (held : Image) (before after : Image → Type 0) → LosesNamesAlone held before → AreNamesSynced held before after → LeavesHeld held after
leaves_synced held before after loses synced left may name =
    let (old, none) = synced left may in
    elim (loses left old name) [ inl gone ↦ gone ∙ sym (none name gone) | inr same ↦ same ]

-- the whole of it too, where nothing was published
pub quiet_between : (course : Course) (now : Image) (m0 m1 m3 : ℕ) (ls0 ls1 ls2 ls3 : ℕ → Image → Type 0) (ml0 ml1 ml2 : Image → Type 0)
    → Elapses m0 m1 ls0 ls1 ml1 → Elapses m1 course.first ls1 ls2 ml2 → ((left : Image) → ls0 m0 left → ml0 left) → ((left : Image) → ml1 left → ml0 left) → ((left : Image) → ml2 left → ml1 left)
    → IsQuiet course now m3 ml2 ls2 ls3 → IsAsFound course.start now ml0 ls3 m0
quiet_between course now m0 m1 m3 ls0 ls1 ls2 ls3 ml0 ml1 ml2 sync names only0 fewer few quiet =
    let a = sync.later in
    let b = names.later in
    record {
      same = quiet.same;
      stop = λ left since.
          elim (quiet.time.leaves m0 left (omega arith) since) [
            | inl second ↦ elim (names.nothing_else m0 left (omega arith) second) [
              | inl first ↦ elim (sync.nothing_else m0 left (omega arith) first) [
                | inl past ↦ only0 left past
                | inr may ↦ fewer left may
              ]
              | inr may ↦ fewer left (few left may)
            ]
            | inr may ↦ fewer left (few left may)
          ];
    }

-- what was compared
none_beside : (course : Course) (names : List MessageName) (as_found : Type 0) (answers : List File) (fault : BoxFault) → IsBreak course.start answers fault → as_found ⊎ (AreEqual course.start answers × NoneStands course.start names)
    → NoneBeside as_found course.start answers (map (file_of course.inbox) names) fault
none_beside course names as_found answers fault breaks (inl found) = at fault
  where
    at : (e : BoxFault) → NoneBeside as_found course.start answers (map (file_of course.inbox) names) e
    at Device = inl found
    at Memory = inl found
    at (Differs name) = found
none_beside course names as_found answers fault breaks (inr (equal, none)) = at fault breaks
  where
    compared : AreCompared course.start answers (map (file_of course.inbox) names)
    compared = record {
      equal = equal;
      none = λ file among.
          let (name, there, is) = of_mapped (file_of course.inbox) names file among in
          let P : MessageFile → Type 0 = λ f. course.start (outbox_name f) ≡ None in
          subst P is (none name there);
    }

    at : (e : BoxFault) → IsBreak course.start answers e → NoneBeside as_found course.start answers (map (file_of course.inbox) names) e
    at Device h = inr compared
    at Memory h = inr compared
    at (Differs name) (differs, none) =
        absurd (differs.other (equal differs.answer (subst (λ l. Contains l differs.answer) (sym differs.is) (Contains-push differs.earlier differs.answer)) differs.octets (ap course.start differs.named ∙ differs.held)))

pub run_over : (hosts : SaidConfig) (now : Image) (course : Course) (files : List MessageName) (news : Books) (m0 m3 : ℕ) (before : Image → Type 0) (ls2 ls3 : ℕ → Image → Type 0) (ml0 ml3 : Image → Type 0)
    → course.known ≡ true → AreBooksOf course.books (new_box hosts) → AreMessageFiles course.inbox (map (file_of course.inbox) files) → LeavesHeld course.start before
    → ((answers : List File) → GoesOn course.first m3 ls2 ls3 (IsBeginning course.start answers) → StopsBetweenFiles course.start answers ml0 ls3 m0 m3)
    → (IsQuiet course now m3 before ls2 ls3 → IsAsFound course.start now ml0 ls3 m0)
    → (result : Result BoxReport BoxFault) → RunsOver course files news now m3 before ls2 ls3 ml3 result
    → Runs course.inbox hosts (record { start = course.start; now = now; first = m0; last = m3 }) ml0 ml3 ls3 result
run_over hosts now course files news m0 m3 before ls2 ls3 ml0 ml3 known books are e stops found (Ok report) so =
    let (after, there, answered) = so.answered known (new_box hosts) books in
    let (goes, leaves) = so.stops e in (
      so.answers,
      record { files = map (file_of course.inbox) files; are = subst (AreMessageFiles course.inbox) (sym (append-nil (map (file_of course.inbox) files))) are; after = after; answered = answered },
      stops so.answers goes,
      record { held = so.held; equal = so.equal },
      record { files = so.files; written = so.written },
      leaves,
    )
run_over hosts now course files news m0 m3 before ls2 ls3 ml0 ml3 known books are e stops found (Err fault) so =
    let (after, answered) = so.answered known (new_box hosts) books in
    let split : map (file_of course.inbox) files ≡ map (file_of course.inbox) (take so.count files) ++ map (file_of course.inbox) (drop so.count files) =
    ap (map (file_of course.inbox)) (sym (take-append-drop so.count files)) ∙ map-append (file_of course.inbox) (take so.count files) (drop so.count files) in
    let beside : IsAsFound course.start now ml0 ls3 m0 ⊎ (AreEqual course.start so.answers × NoneStands course.start (drop so.count files)) = elim so.beside [ inl quiet ↦ inl (found quiet) | inr compared ↦ inr compared ] in
    inr (
      so.answers,
      (
        map (file_of course.inbox) (drop so.count files),
        record { files = map (file_of course.inbox) (take so.count files); are = subst (AreMessageFiles course.inbox) split are; after = after; answered = answered },
        none_beside course (drop so.count files) (IsAsFound course.start now ml0 ls3 m0) so.answers fault so.breaks beside,
      ),
      stops so.answers (so.stops e),
      so.left,
      so.breaks,
    )

-- ---- the outbox's names

pub held_where_listed : (start now : Image) (theirs : List (List ℕ)) (answers : List File) (name : List ℕ) → AreNames start theirs → AreSame now (with_files start answers) → Contains theirs name → now name ≡ None → ⊥
held_where_listed start now theirs answers name are held among none =
    let (octets, is) = are.each name among in
    let some : now name ≡ Some octets = held name ∙ ap (λ o. option_or o (octets_of name answers)) is in
    let never : Some octets ≡ None = sym some ∙ none in
    cc

pub free_where_not : (start now : Image) (theirs : List (List ℕ)) (answers : List File) (name : List ℕ) → AreNames start theirs → AreSame now (with_files start answers) → (Contains theirs name → ⊥)
    → ((answer : File) → Contains answers answer → answer.name ≢ name) → now name ≡ None
free_where_not start now theirs answers name are held lacks apart =
    held_at_first start now answers name held (no_answer answers name apart) ∙ at (start name) refl
  where
    at : (o : Option (List ℕ)) → start name ≡ o → start name ≡ None
    at None e = e
    at (Some octets) e = absurd (lacks (are.all name octets e))

pub none_is : (o : Option (List ℕ)) → IsNone o → o ≡ None
none_is None h = refl
none_is (Some x) h = absurd (cc)

-- nothing stands to messages whose answers aren't among the outbox's names
pub none_stands : (start : Image) (theirs : List (List ℕ)) (names : List MessageName) → AreNames start theirs → NoneAmong theirs names → NoneStands start names
none_stands start theirs names are lacks name among = at (start (answers_name name)) refl
  where
    at : (o : Option (List ℕ)) → start (answers_name name) ≡ o → start (answers_name name) ≡ None
    at None e = e
    at (Some octets) e = absurd (lacks name among (are.all (answers_name name) octets e))

pub later_stands : (start : Image) (names : List MessageName) (place more : ℕ) → NoneStands start (drop place names) → NoneStands start (drop (place + more) names)
later_stands start names place more none name (k, within, is) =
    none name (more + k, grind (arith, length-drop place names, length-drop (place + more) names), get_or-drop place names (more + k) name ∙ ap (λ n. get_or names n name) (omega arith) ∙ sym (get_or-drop (place + more) names k name) ∙ is)

-- while nothing is published the outbox holds something under the names that were listed, and under no others
pub held_listed : (start now : Image) (theirs : List (List ℕ)) (name : List ℕ) → now ≡ start → AreNames start theirs → Contains theirs name → IsNone (now name) → ⊥
held_listed start now theirs name same are among none =
    let P : Image → Type 0 = λ i. i name ≡ None in
    let (octets, is) = are.each name among in
    none_some octets (sym is ∙ subst P same (none_is (now name) none))

pub free_listed : (start now : Image) (theirs : List (List ℕ)) (name : List ℕ) → now ≡ start → AreNames start theirs → (Contains theirs name → ⊥) → now name ≡ None
free_listed start now theirs name same are lacks = ap (λ (i : Image). i name) same ∙ at (start name) refl
  where
    at : (o : Option (List ℕ)) → start name ≡ o → start name ≡ None
    at None e = e
    at (Some octets) e = absurd (lacks (are.all name octets e))

-- ---- small steps

pub kept_none : {F : Type 0} (is_known : F → Bool) (image : F → Image) (temporary : F → Temporary) (may_leave : F → Image → Type 0) (a : F) → IsKept is_known image temporary may_leave a a
kept_none is_known image temporary may_leave a = record { known = refl; same = refl; temporary_is = refl; stop = λ left may. may }

-- the answers to this message, from whatever the books were
pub answered_as : (known known' : Bool) (image image' : Image) (name : MessageName) (olds news : Books) (octets : List ℕ) → known ≡ known' → image ≡ image'
    → (known ≡ true → AnswersMessage image name olds news octets) → known' ≡ true → AnswersMessage image' name olds news octets
answered_as known known' image image' name olds news octets k i h t =
    let P : Image → Type 0 = λ im. AnswersMessage im name olds news octets in
    subst P i (h (k ∙ t))

pub broke : {T : Type 0} (course : Course) (names : List MessageName) (r : Result T BoxFault) (e fault : BoxFault) → r ≡ Err e → e ≡ fault → HasBroken course names fault → IfErr r (HasBroken course names)
broke {T} course names r e fault is from h = let P : Result T BoxFault → Type 0 = λ r. IfErr r (HasBroken course names) in subst P (sym (is ∙ ap Err from)) h

-- time goes on while nothing changes
pub goes_later : (a b c : ℕ) (past mid since : ℕ → Image → Type 0) (before after : Image → Type 0) → GoesOn a b past mid before → ((left : Image) → after left → before left) → GoesOn b c mid since after → GoesOn a c past since before
goes_later a b c past mid since before after one fewer two = goes_on a b c past mid since before after before one two (λ left may. may) fewer

pub file_same : (n m o p : List ℕ) → n ≡ m → o ≡ p → ◌≡◌ {A = File} (record { name = n; octets = o }) (record { name = m; octets = p })
file_same n m o p a b = ap (λ (z : List ℕ). record { name = z; octets = o }) a ∙ ap (λ (z : List ℕ). record { name = m; octets = z }) b

take_mapped : (n : ℕ) (answers : List Answer) → take n (map file_in answers) ≡ map file_in (take n answers)
take_mapped zero answers = refl
take_mapped (suc n) [] = refl
take_mapped (suc n) (a ∷ answers) = ap (λ l. file_in a ∷ l) (take_mapped n answers)

pub first_mapped : (answers : List Answer) (i : ℕ) (answer : Answer) → i < length answers → answer ≡ get_or answers i answer → take (i + 1) (map file_in answers) ≡ map file_in (take i answers) ++ file_in answer ∷ []
first_mapped answers i answer within is =
    take_mapped (i + 1) answers ∙ ap (map file_in) (take_more answers i answer within ∙ ap (λ x. take i answers ++ x ∷ []) (sym is)) ∙ map-append file_in (take i answers) (answer ∷ [])

-- nothing stands under the name of the next answer, where others were published
pub still_free : (start now : Image) (answers : List Answer) (i : ℕ) (answer : Answer) → AllPairs (λ a b. string_bytes a.name ≢ string_bytes b.name) answers → i < length answers → answer ≡ get_or answers i answer
    → AreSame now (with_files start (map file_in (take i answers))) → start (file_in answer).name ≡ None → now (file_in answer).name ≡ None
still_free start now answers i answer apart within is held free =
    held_at_first start now (map file_in (take i answers)) (file_in answer).name held (no_answer (map file_in (take i answers)) (file_in answer).name others) ∙ free
  where
    others : (file : File) → Contains (map file_in (take i answers)) file → file.name ≢ string_bytes answer.name
    others file among same =
        let (a, there, e) = of_mapped file_in (take i answers) file among in
        let (k, l, at) = at_from_Contains (take i answers) a there in
        let few : k < i = omega (arith, length-take i answers) in
        let earlier : get_or answers k answer ≡ a = sym (get_or-take i answers k answer few) ∙ at answer in
        apart k i answer few within (ap (λ (x : Answer). string_bytes x.name) earlier ∙ ap file_name e ∙ same ∙ ap (λ (x : Answer). string_bytes x.name) is)

-- ---- the files behind the last that stands, and those before

pub next_at : (files : List MessageName) (place i : ℕ) (name : MessageName) (rest : List MessageName) → rest ≡ drop place files → i < length rest → name ≡ get_or rest i name
    → (name ≡ get_or files (place + i) name) × (place + i < length files)
next_at files place i name rest back within is =
    (is ∙ ap (λ l. get_or l i name) back ∙ get_or-drop place files i name, omega (arith, ap length back, length-drop place files))

pub next_free : (start now : Image) (theirs : List (List ℕ)) (files : List MessageName) (place i : ℕ) (name : MessageName) (rest : List MessageName) (answers : List File) → rest ≡ drop place files → AreApart files → AreNames start theirs
    → NoneAmong theirs (drop place files) → i < length rest → name ≡ get_or rest i name → AreSame now (with_files start answers) → map file_name answers ≡ map answers_name (take (place + i) files)
    → (now (answers_name name) ≡ None) × ((answer : File) → Contains answers answer → answer.name ≢ answers_name name)
next_free start now theirs files place i name rest answers back apart are behind within is held named =
    let (at, there) = next_at files place i name rest back within is in
    let others = not_named files (place + i) name apart there at answers named in
    let P : List MessageName → Type 0 = λ l. Contains l name in
    let among : Contains (drop place files) name = subst P back (i, within, sym is) in
    (free_where_not start now theirs answers (answers_name name) are held (behind name among) others, others)

pub first_apart : (n : ℕ) (files : List MessageName) → AreApart files → AreApart (take n files)
first_apart n files apart i j d less within =
    let few : j < n = omega (arith, length-take n files) in
    let short : j < length files = omega (arith, length-take n files) in
    let P : MessageName → Type 0 = λ a. answers_name a ≢ answers_name (get_or (take n files) j d) in
    let Q : MessageName → Type 0 = λ b. answers_name (get_or files i d) ≢ answers_name b in
    subst P (sym (get_or-take n files i d (omega arith))) (subst Q (sym (get_or-take n files j d few)) (apart i j d less short))

pub first_messages : (image : Image) (n : ℕ) (files : List MessageName) → AreMessageFiles image (map (file_of image) files) → AreMessagesOf image (take n files)
first_messages image n files are name among =
    let P : List MessageName → Type 0 = λ l. Contains l name in
    are.each _ (in_mapped (file_of image) files name (subst P (take-append-drop n files) (Contains-append_left (take n files) (drop n files) name among)))

pub missing_apart : (course : Course) (names : List MessageName) (news : Books) (held : List Answer) → AreApart names → HasCompared course names news (map file_in held) → AreNamedApart held
missing_apart course names news held apart so =
    let P : List File → Type 0 = AllPairs OthersNamed in
    pairs_of_mapped file_in OthersNamed held
    (subst P (sym so.missing_are) (AllPairs-filter OthersNamed (λ (file : File). is_none (course.start file.name)) so.answers (files_apart names so.answers so.named apart)))

pub kept_loses : (held now : Image) (before after : Image → Type 0) → now ≡ held → ((left : Image) → after left → before left) → LosesNamesAlone held before → LosesNamesAlone now after
kept_loses held now before after same fewer loses left may name =
    elim (loses left (fewer left may) name) [ inl gone ↦ inl gone | inr is ↦ inr (is ∙ sym (ap (λ (i : Image). i name) same)) ]

leaves_from : (start image : Image) (before after : Image → Type 0) → image ≡ start → ((left : Image) → after left → before left) → LeavesHeld start before → LeavesHeld image after
leaves_from start image before after same fewer held left may name = held left (fewer left may) name ∙ sym (ap (λ (i : Image). i name) same)

pub published_from : (start image : Image) (files : List File) (mid : ℕ) (now : Image) (last : ℕ) (before after : Image → Type 0) (middle since : ℕ → Image → Type 0) (may_leave : Image → Type 0) → image ≡ start → ((left : Image) → after left → before left)
    → HasPublished image files mid now last (LeavesHeld image after) middle since may_leave → HasPublished start files mid now last (LeavesHeld start before) middle since may_leave
published_from start image files mid now last before after middle since may_leave same fewer so =
    let P : Image → Type 0 = λ i. GoesOn mid last middle since (IsBeginning i files) in
    record {
      held = λ name. so.held name ∙ ap (λ (i : Image). with_files i files name) same;
      stops = λ e. let (goes, leaves) = so.stops (leaves_from start image before after same fewer e) in (subst P same goes, leaves);
    }

pub published_some_from : (start image : Image) (files : List File) (mid : ℕ) (now : Image) (last : ℕ) (before after : Image → Type 0) (middle since : ℕ → Image → Type 0) → image ≡ start → ((left : Image) → after left → before left)
    → HasPublishedSome image files mid now last (LeavesHeld image after) middle since → HasPublishedSome start files mid now last (LeavesHeld start before) middle since
published_some_from start image files mid now last before after middle since same fewer so =
    let P : Image → Type 0 = λ i. GoesOn mid last middle since (IsBeginning i files) in
    let Q : Image → Type 0 = λ i. IsBeginning i files now in
    record {
      left = subst Q same so.left;
      stops = λ e. subst P same (so.stops (leaves_from start image before after same fewer e));
    }

pub last_among : (theirs : List (List ℕ)) (files : List MessageName) (place : ℕ) (name : MessageName) → 0 < place → place ≤ length files → name ≡ get_or files (place - 1) name → Contains theirs (answers_name name) → IsLast theirs (take place files)
last_among theirs files place name some within is among = record {
  earlier = take (place - 1) files;
  last = name;
  is = ap (λ n. take n files) (omega arith) ∙ take_more files (place - 1) name (omega arith) ∙ ap (λ x. take (place - 1) files ++ x ∷ []) (sym is);
  among = among;
}

pub none_among : (theirs : List (List ℕ)) (files : List MessageName) (place : ℕ) (name : MessageName) → 0 < place → place ≤ length files → name ≡ get_or files (place - 1) name → (Contains theirs (answers_name name) → ⊥)
    → NoneAmong theirs (drop place files) → NoneAmong theirs (drop (place - 1) files)
none_among theirs files place name some within is lacks behind other among there =
    let split : drop (place - 1) files ≡ name ∷ drop place files =
    drop_more files (place - 1) name (omega arith) ∙ ap (λ x. x ∷ drop (place - 1 + 1) files) (sym is) ∙ ap (λ n. name ∷ drop n files) (omega arith) in
    let P : List MessageName → Type 0 = λ l. Contains l other in
    let Q : MessageName → Type 0 = λ n. Contains theirs (answers_name n) in
    elim (first_or_later name other (drop place files) (subst P split among)) [ inl same ↦ lacks (subst Q (sym same) there) | inr later ↦ behind other later there ]
