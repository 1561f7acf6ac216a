-- How far a run of the box has come: the files of its inbox that were answered, and what its outbox holds and may lose.
use Rattle.std.specs.Prelude.{◌≡◌, ◌≢◌, ◌⊎◌, ◌≤◌, ◌∷◌, ◌+◌, ◌++◌, if◌then◌else◌, ℕ, ℤ, List, [], Bool, true, map, filter, take, drop, length, Some, None, Contains, AllPairs, Result, Ok, Err, string_bytes}
use Rattle.std.specs.Option.{is_none, unwrap_or}
use Rattle.std.specs.declared.cmp.Ordering.TheVariants.{Less}
use Rattle.sched_devices.specs.declared.folder.FolderFault.{FolderFault}
use Rattle.sched_devices.specs.declared.folder.FolderFault.TheVariants as folder
use Rattle.profile.specs.rooms.Revisions.{octets_cmp}
use Rattle.profile.specs.streams.Comparing.{AreEqual, IsComparison, names_differing}
use Rattle.profile.specs.streams.Folders.{AnswersFile, AnswersFiles, AreSame, File, Image, IsBeginning, IsMessageFile, MessageFile, count_missing, with_files}
use Rattle.profile.specs.streams.Streams.{AllAnswers, AreObjects, Box}
use Rattle.sched_box.specs.Books.{AreBooksOf}
use Rattle.sched_box.specs.Boxes.{IsBreak}
use Rattle.sched_box.specs.FileNames.{name_stem, renamed}
use Rattle.sched_box.specs.declared.books.Books.{Books}
use Rattle.sched_box.specs.declared.file_names.MessageName.{MessageName}
use Rattle.sched_box.specs.declared.folders.Answer.{Answer}
use Rattle.sched_box.specs.declared.folders.BoxFault.{BoxFault}
use Rattle.sched_box.specs.declared.folders.BoxFault.TheVariants.{Device, Differs, Memory}
use Rattle.sched_box.specs.declared.folders.BoxReport.{BoxReport}
use Rattle.sched_box.specs.declared.folders.Comparison.{Comparison}
use Rattle.sched_box.specs.declared.folders.Standing.{Standing}
use Rattle.sched_box.specs.declared.folders.Standing.TheVariants as standing

-- what a fault of a folder is for a run
abbrev pub box_fault : FolderFault → BoxFault
box_fault folder.Device = Device
box_fault folder.Missing = Device
box_fault folder.Exists = Device
box_fault folder.Memory = Memory

-- ---- the files of the inbox

-- each name is before those after it
abbrev pub AreRising : List (List ℕ) → Type 0
AreRising names = AllPairs (λ a b. octets_cmp a b ≡ Less) names

-- a message with the octets that the inbox holds under its name
abbrev pub file_of : Image → MessageName → MessageFile
file_of inbox name = record {
  stem = name_stem (string_bytes name.name);
  moment = name.moment;
  octets = unwrap_or (inbox (string_bytes name.name)) [];
}

-- these are messages of the inbox
abbrev pub AreMessagesOf : Image → List MessageName → Type 0
AreMessagesOf inbox names = (name : MessageName) → Contains names name → IsMessageFile inbox (file_of inbox name)

-- the name of the answers to a message
abbrev pub answers_name : MessageName → List ℕ
answers_name name = renamed (string_bytes name.name)

-- no two have one name for their answers
abbrev pub AreApart : List MessageName → Type 0
AreApart names = AllPairs (λ a b. answers_name a ≢ answers_name b) names

-- the answers to none of them are among these names
abbrev pub NoneAmong : List (List ℕ) → List MessageName → Type 0
NoneAmong theirs names = (name : MessageName) → Contains names name → Contains theirs (answers_name name) → ⊥

-- those to the last of them are
pub record IsLast (theirs : List (List ℕ)) (names : List MessageName) : Type 0 where
  pub earlier : List MessageName
  pub last : MessageName
  pub is : names ≡ earlier ++ last ∷ []
  pub among : Contains theirs (answers_name last)

-- these octets answer a stream of objects, from whatever the books are
abbrev pub AnswersOctets : ℤ → List ℕ → Books → Books → List ℕ → Type 0
AnswersOctets moment octets olds news answers =
    (before : Box) → AreBooksOf olds before → (after : Box) × AreBooksOf news after
    × ((objects : List (List ℕ)) × (refused : ℕ) × AreObjects octets objects × AllAnswers moment 1 objects before after answers refused)

-- and these a file of the inbox
abbrev pub AnswersMessage : Image → MessageName → Books → Books → List ℕ → Type 0
AnswersMessage inbox name olds news answers =
    (before : Box) → AreBooksOf olds before → (after : Box) × AreBooksOf news after
    × AnswersFile (file_of inbox name) before after (record { name = answers_name name; octets = answers })

-- ---- the outbox

-- a stop may leave what it might have left before, with the file or without it
abbrev pub MayGain : File → (Image → Type 0) → Image → Type 0
MayGain file before left = (earlier : Image) × before earlier × (AreSame left earlier ⊎ AreSame left (with_files earlier (file ∷ [])))

-- Time goes on over some calls: what a stop since a moment might have left is what it might have left by then, or since then; and a stop during
-- the calls leaves one of these images.
pub record GoesOn (before now : ℕ) (past since : ℕ → Image → Type 0) (May : Image → Type 0) : Type 0 where
  pub later : before ≤ now
  pub between : (first synced : ℕ) (left : Image) → first ≤ synced → synced ≤ before → since first left → past first left ⊎ since synced left
  pub leaves : (synced : ℕ) (left : Image) → synced ≤ before → since synced left → past synced left ⊎ May left
  pub keeps : (moment : ℕ) (left : Image) → moment ≤ before → past moment left → since moment left

-- the file stands where nothing stood, and a stop doesn't take it away
pub record IsGained (file : File) (old new : Image) (before after : Image → Type 0) : Type 0 where
  pub free : old file.name ≡ None
  pub added : AreSame new (with_files old (file ∷ []))
  pub stop : (left : Image) → after left → MayGain file before left × ((name : List ℕ) → left name ≡ None → new name ≡ None)

-- it isn't published, or it is, whole
abbrev pub IsWhole : File → Image → Image → Type 0
IsWhole file old new = AreSame new old ⊎ AreSame new (with_files old (file ∷ []))

-- an answer as a file of the outbox
abbrev pub file_in : Answer → File
file_in answer = record { name = string_bytes answer.name; octets = answer.octets.items }

-- no two have one name
abbrev pub AreNamedApart : List Answer → Type 0
AreNamedApart answers = AllPairs (λ a b. string_bytes a.name ≢ string_bytes b.name) answers

-- another file stands under its name
pub record StandsOther (file : File) (image : Image) : Type 0 where
  pub octets : List ℕ
  pub held : image file.name ≡ Some octets
  pub other : octets ≢ file.octets

-- what an image holds under the name of a file: nothing, the file, or something else
abbrev pub IsStanding : Image → File → Standing → Type 0
IsStanding image file standing.Missing = image file.name ≡ None
IsStanding image file standing.Equal = image file.name ≡ Some file.octets
IsStanding image file standing.Other = StandsOther file image

-- one that is missing is held behind the others, and one that stands is let go
abbrev pub HoldsOne : Image → File → List File → List File → Type 0
HoldsOne image file old new = ((image file.name ≡ None) × (new ≡ old ++ file ∷ [])) ⊎ ((image file.name ≡ Some file.octets) × (new ≡ old))

-- nothing goes on where one differs
abbrev pub HoldsNone : Image → File → BoxFault → Type 0
HoldsNone image file Device = ⊥
HoldsNone image file Memory = Unit {0}
HoldsNone image file (Differs name) = (file.name ≡ string_bytes name) × StandsOther file image

abbrev pub Holds : {T : Type 0} → Image → File → List File → List File → Result T BoxFault → Type 0
Holds image file old new (Ok done) = HoldsOne image file old new
Holds image file old new (Err fault) = HoldsNone image file fault

-- a stop leaves what is held, and nothing else
abbrev pub LeavesHeld : Image → (Image → Type 0) → Type 0
LeavesHeld held may_leave = (left : Image) → may_leave left → AreSame left held

-- ---- so far

-- the parts of a run that stay: the inbox, where it is known, and the books and the outbox at its beginning
pub record Course : Type 0 where
  pub known : Bool
  pub inbox : Image
  pub books : Books
  pub start : Image
  pub first : ℕ

-- these files were answered by a box that the books were at first
abbrev pub AnswersSofar : Course → List MessageName → Books → List File → Type 0
AnswersSofar course names news answers =
    course.known ≡ true → (before : Box) → AreBooksOf course.books before
    → (after : Box) × AreBooksOf news after × AnswersFiles (map (file_of course.inbox) names) before after answers

-- the files that an image holds nothing of, in their order
abbrev pub missing_files : Image → List File → List File
missing_files image files = filter (λ (file : File). is_none (image file.name)) files

-- The answers to these files are known. What stood of them in the outbox is equal, and these are missing.
pub record HasCompared (course : Course) (names : List MessageName) (news : Books) (missing : List File) : Type 0 where
  pub answers : List File
  pub named : map (λ (answer : File). answer.name) answers ≡ map answers_name names
  pub equal : AreEqual course.start answers
  pub missing_are : missing ≡ missing_files course.start answers
  pub answered : AnswersSofar course names news answers

-- The answers to the first files are known, and then the comparison ended.
pub record HasBroken (course : Course) (names : List MessageName) (fault : BoxFault) : Type 0 where
  pub answers : List File
  pub count : ℕ
  pub few : count ≤ length names
  pub breaks : IsBreak course.start answers fault
  pub answered : course.known ≡ true → (before : Box) → AreBooksOf course.books before
      → (after : Box) × AnswersFiles (map (file_of course.inbox) (take count names)) before after answers

-- These files were published, one after another.
pub record HasPublished (start : Image) (files : List File) (first : ℕ) (now : Image) (last : ℕ) (exact : Type 0) (past since : ℕ → Image → Type 0) (may_leave : Image → Type 0) : Type 0 where
  pub held : AreSame now (with_files start files)
  pub stops : exact → GoesOn first last past since (IsBeginning start files) × LeavesHeld now may_leave

-- some of them, the first, or the next one, and no more: then it ended
pub record HasPublishedSome (start : Image) (files : List File) (first : ℕ) (now : Image) (last : ℕ) (exact : Type 0) (past since : ℕ → Image → Type 0) : Type 0 where
  pub left : IsBeginning start files now
  pub stops : exact → GoesOn first last past since (IsBeginning start files)

-- What a comparison found of these messages.
pub record HasFound (course : Course) (names : List MessageName) (news : Books) (found : Comparison) : Type 0 where
  pub answers : List File
  pub named : map (λ (answer : File). answer.name) answers ≡ map answers_name names
  pub is : IsComparison course.start answers found.files found.missing (map string_bytes found.differing.items)
  pub answered : AnswersSofar course names news answers

-- what it finds of one file more
pub record FindsMore (image : Image) (file : File) (old new : Comparison) : Type 0 where
  pub files : new.files ≡ old.files + 1
  pub missing : new.missing ≡ old.missing + (if is_none (image file.name) then 1 else 0)
  pub differing : map string_bytes new.differing.items ≡ map string_bytes old.differing.items ++ names_differing image (file ∷ [])

-- All these files were answered: the outbox holds what it held and the answers, and a stop leaves that, and might have left a beginning of it.
pub record HasAnswered (course : Course) (names : List MessageName) (news : Books) (now : Image) (last : ℕ) (exact : Type 0) (past since : ℕ → Image → Type 0) (may_leave : Image → Type 0) (report : BoxReport) : Type 0 where
  pub answers : List File
  pub named : map (λ (answer : File). answer.name) answers ≡ map answers_name names
  pub held : AreSame now (with_files course.start answers)
  pub equal : (answer : File) → Contains answers answer → now answer.name ≡ Some answer.octets
  pub files : report.files ≡ length answers
  pub written : report.written ≡ count_missing course.start answers
  pub stops : exact → GoesOn course.first last past since (IsBeginning course.start answers) × LeavesHeld now may_leave
  pub answered : AnswersSofar course names news answers

-- nothing was published, and a stop leaves nothing else than before
pub record IsQuiet (course : Course) (now : Image) (last : ℕ) (may_leave : Image → Type 0) (past since : ℕ → Image → Type 0) : Type 0 where
  pub same : AreSame now course.start
  pub time : GoesOn course.first last past since may_leave

-- the outbox held nothing under the names of the answers to these files
abbrev pub NoneStands : Image → List MessageName → Type 0
NoneStands start names = (name : MessageName) → Contains names name → start (answers_name name) ≡ None

-- The first files were answered, and then the run ended: either nothing was published, or all that stood in the outbox was compared.
pub record HasEnded (course : Course) (names : List MessageName) (now : Image) (last : ℕ) (exact quiet : Type 0) (past since : ℕ → Image → Type 0) (fault : BoxFault) : Type 0 where
  pub answers : List File
  pub count : ℕ
  pub left : IsBeginning course.start answers now
  pub stops : exact → GoesOn course.first last past since (IsBeginning course.start answers)
  pub breaks : IsBreak course.start answers fault
  pub beside : quiet ⊎ (AreEqual course.start answers × NoneStands course.start (drop count names))
  pub answered : course.known ≡ true → (before : Box) → AreBooksOf course.books before
      → (after : Box) × AnswersFiles (map (file_of course.inbox) (take count names)) before after answers

-- what comes of a run over these files, whose outbox might leave this at first
abbrev pub RunsOver : Course → List MessageName → Books → Image → ℕ → (Image → Type 0) → (ℕ → Image → Type 0) → (ℕ → Image → Type 0) → (Image → Type 0) → Result BoxReport BoxFault → Type 0
RunsOver course names news now last before past since may_leave (Ok report) = HasAnswered course names news now last (LeavesHeld course.start before) past since may_leave report
RunsOver course names news now last before past since may_leave (Err fault) =
    HasEnded course names now last (LeavesHeld course.start before) (IsQuiet course now last before past since) past since fault
