-- What a reader gave and a writer took, once serving has ended.
use Rattle.std.specs.Prelude.{◌≡◌, ◌⊎◌, ℕ, ℤ, ◌+◌, ◌≤◌, ◌<◌, List, [], ◌∷◌, ◌++◌, length, take, Contains, Option, Some, None, IfSome, OnSome, IfOk, IfErr, Result, Ok, Err}
use Rattle.std.specs.Io.KnownBytes.{Appends, Keeps, IsAtEnd}
use Rattle.profile.specs.text.Objects.{after_object}
use Rattle.profile.specs.rooms.Kept.{IsKeptCalendar, IsKeptCertificate}
use Rattle.profile.specs.streams.Reports.{AllAnswersAs, AllTold, Fate}
use Rattle.profile.specs.streams.Streams.{BeginsWith, AreObjects, Answers, AllAnswers, AnswersStream, Box, Hosted, Config, new_box}
use Rattle.sched_devices.specs.Input.{IsFilledWithin}
use Rattle.sched_box.specs.declared.fault.ServeFault.{ServeFault}
use Rattle.sched_box.specs.declared.fault.ServeFault.TheVariants.{Read, Write, TooLong, Memory}
use Rattle.sched_box.specs.declared.serving.ServeReport.{ServeReport}
use Rattle.sched_box.specs.declared.fault.StreamFault.{StreamFault}
use Rattle.sched_box.specs.declared.fault.StreamFault.TheVariants.{Refused, Serve}
use Rattle.sched_box.specs.Books.{AreBooksOf}
use Rattle.sched_box.specs.declared.books.Books.{Books}
use Rattle.sched_box.specs.Objects.{IsPieceFault, kept_of}
use Rattle.sched_box.specs.Preamble.{OpensStream, OpensNot, StopsInPreamble}

-- what a reader and a writer held and have, where it is known
pub record Ends : Type 0 where
  pub input : Option (List ℕ)
  pub left : Option (List ℕ)
  pub output : Option (List ℕ)
  pub written : Option (List ℕ)

-- a reader whose octets are known gave these objects, whole
abbrev pub Gives : Option (List ℕ) → Option (List ℕ) → List (List ℕ) → Type 0
Gives None left objects = Unit {0}
Gives (Some input) None objects = ⊥
Gives (Some input) (Some left) objects = BeginsWith input objects left

-- and after them octets of the next one, none past its end
abbrev pub GivesPart : Option (List ℕ) → Option (List ℕ) → List (List ℕ) → Type 0
GivesPart None left objects = Unit {0}
GivesPart (Some input) None objects = ⊥
GivesPart (Some input) (Some left) objects =
    (rest : List ℕ) × (part : List ℕ) × BeginsWith input objects rest × (rest ≡ part ++ left) × (length (after_object rest) ≤ length left)

-- and this is all that was read: each of the objects with the octet after it, which the last one of the input doesn't have, and octets of the
-- next one, in which no object ends before an octet. What is lent and isn't consumed isn't read
abbrev pub GivesRead : Option (List ℕ) → Option (List ℕ) → List (List ℕ) → Type 0
GivesRead None left objects = Unit {0}
GivesRead (Some input) None objects = ⊥
GivesRead (Some input) (Some left) objects =
    (part : List ℕ) × BeginsWith input objects (part ++ left) × (after_object part ≡ [])
    × ((objects ≡ []) ⊎ ((0 < length part) ⊎ (left ≡ [])))

-- of a reader whose octets are known fewer than this many were read
abbrev pub IsWithin : ℕ → Option (List ℕ) → Option (List ℕ) → Type 0
IsWithin most input left = IfSome input (λ octets. IfSome left (λ rest. length octets < length rest + most))

-- of a stream fewer than 1,073,741,824; this profile's choice
abbrev pub IsWithinBound : Option (List ℕ) → Option (List ℕ) → Type 0
IsWithinBound input left = IsWithin 1_073_741_824 input left

-- this many octets of it were read
abbrev pub HasRead : ℕ → Option (List ℕ) → Option (List ℕ) → Type 0
HasRead n input left = IfSome input (λ octets. IfSome left (λ rest. length octets ≡ length rest + n))

-- how a stream ends before its input does: it is too long exactly where this many octets were read
abbrev pub StopsWithin : ℕ → Option (List ℕ) → Option (List ℕ) → ServeFault → Type 0
StopsWithin most input left Read = IsWithin most input left
StopsWithin most input left Memory = IsWithin most input left
StopsWithin most input left TooLong = HasRead most input left
StopsWithin most input left Write = IsWithin most input left

-- all objects were taken, of fewer octets than this, and the answers to them written
pub record ServesAll (most : ℕ) (moment : ℤ) (before after : Box) (ends : Ends) (report : ServeReport) : Type 0 where
  pub objects : List (List ℕ)
  pub octets : List ℕ
  pub are : IfSome ends.input (λ stream. AreObjects stream objects)
  pub end : OnSome ends.input (IsAtEnd ends.left)
  pub answers : AllAnswers moment 1 objects before after octets report.refused
  pub counted : report.objects ≡ length objects
  pub bound : IsWithin most ends.input ends.left
  pub written : Appends ends.output ends.written octets

-- these objects, which were given so, were taken, and the answers to them written; of the next object a part was read
pub record ServesSome (Gave : Option (List ℕ) → Option (List ℕ) → List (List ℕ) → Type 0) (moment : ℤ) (before : Box) (ends : Ends) : Type 0 where
  pub objects : List (List ℕ)
  pub after : Box
  pub octets : List ℕ
  pub refused : ℕ
  pub gives : Gave ends.input ends.left objects
  pub answers : AllAnswers moment 1 objects before after octets refused
  pub written : Appends ends.output ends.written octets

-- the answers to all objects but the last were written, and of the answers to that, of which there are some, a beginning
pub record ServesCut (moment : ℤ) (before : Box) (ends : Ends) : Type 0 where
  pub objects : List (List ℕ)
  pub last : List ℕ
  pub mid : Box
  pub after : Box
  pub octets : List ℕ
  pub answer : List ℕ
  pub refused : ℕ
  pub one : ℕ
  pub cut : ℕ
  pub gives : Gives ends.input ends.left (objects ++ last ∷ [])
  pub answers : AllAnswers moment 1 objects before mid octets refused
  pub answered : Answers moment (length objects + 1) last mid after answer one
  pub some : 0 < length answer
  pub written : Appends ends.output ends.written (octets ++ take cut answer)

-- how serving ends before the input does: the stream is too long exactly where this many octets were read
abbrev pub ServesUntil : ℕ → ℤ → Box → Ends → ServeFault → Type 0
ServesUntil most moment before ends Read = ServesSome GivesRead moment before ends × IsWithin most ends.input ends.left
ServesUntil most moment before ends Memory = ServesSome GivesPart moment before ends × IsWithin most ends.input ends.left
ServesUntil most moment before ends TooLong = ServesSome GivesRead moment before ends × HasRead most ends.input ends.left
ServesUntil most moment before ends Write = ServesCut moment before ends × IsWithin most ends.input ends.left

-- what comes of serving, from this box on
abbrev pub Serves : ℤ → Box → Ends → Result ServeReport ServeFault → Type 0
Serves moment before ends (Ok report) = (after : Box) × ServesAll 1_073_741_824 moment before after ends report
Serves moment before ends (Err fault) = ServesUntil 1_073_741_824 moment before ends fault

-- the same where this many octets may be read, and the books are the box after it
abbrev pub BooksServe : ℕ → ℤ → Box → Books → Ends → Result ServeReport ServeFault → Type 0
BooksServe most moment before new ends (Ok report) = (after : Box) × AreBooksOf new after × ServesAll most moment before after ends report
BooksServe most moment before new ends (Err fault) = ServesUntil most moment before ends fault

-- what comes of a stream with its preamble; where it is refused, or the reader fails or memory is refused before it is read, nothing is
-- written, and no octet past its empty line was taken
abbrev pub ServesStream : Ends → Result ServeReport StreamFault → Type 0
ServesStream ends (Ok report) =
    (moment : ℤ) × (hosts : Config) × (rest : Option (List ℕ)) × (after : Box) × OpensStream ends.input rest moment hosts
    × ServesAll 1_073_741_824 moment (new_box hosts) after (record ends { input = rest }) report
ServesStream ends (Err (Refused refusal)) =
    IfSome ends.input OpensNot × StopsInPreamble ends.input ends.left × Keeps ends.output ends.written
ServesStream ends (Err (Serve fault)) =
    (IsPieceFault fault × StopsInPreamble ends.input ends.left × Keeps ends.output ends.written)
    ⊎ ((moment : ℤ) × (hosts : Config) × (rest : Option (List ℕ)) × OpensStream ends.input rest moment hosts
    × ServesUntil 1_073_741_824 moment (new_box hosts) (record ends { input = rest }) fault)

-- where the octets of the reader are known, all that was written answers the stream that they are
abbrev pub AnswersWhole : Ends → Type 0
AnswersWhole ends = IfSome ends.input (λ stream. (octets : List ℕ) × AnswersStream stream octets × Appends ends.output ends.written octets)

-- what a room keeps after all objects of a stream: the calendar and the certificate of its book
pub record KeepsTexts (moment : ℤ) (hosts : Config) (input left : Option (List ℕ)) (room calendar certificate : List ℕ) : Type 0 where
  pub objects : List (List ℕ)
  pub after : Box
  pub octets : List ℕ
  pub refused : ℕ
  pub kept : Hosted
  pub are : IfSome input (λ stream. AreObjects stream objects)
  pub end : OnSome input (IsAtEnd left)
  pub bound : IsWithinBound input left
  pub answers : AllAnswers moment 1 objects (new_box hosts) after octets refused
  pub has : Contains after.rooms kept
  pub at : kept.address ≡ room
  pub calendar_is : IsKeptCalendar room kept.words kept.book calendar
  pub certificate_is : IsKeptCertificate room calendar certificate

-- how it ends before its input does: the stream is too long exactly where 1,073,741,824 octets of objects were read
abbrev pub StopsKeeping : Option (List ℕ) → Option (List ℕ) → StreamFault → Type 0
StopsKeeping input left (Refused refusal) = Unit {0}
StopsKeeping input left (Serve Read) = IsWithinBound input left
StopsKeeping input left (Serve Write) = ⊥
StopsKeeping input left (Serve TooLong) = HasRead 1_073_741_824 input left
StopsKeeping input left (Serve Memory) = IsWithinBound input left

-- ---- who is told of each object

-- All objects were taken, and the answers to them written; each of them was told, as far as it is kept, with what became of it by these steps, and
-- they were counted.
pub record TellsAll {Told : Type 0} (Tells : Told → ℕ → List ℕ → Fate → Told → Type 0) (old new : Told) (moment : ℤ) (before after : Box) (ends : Ends) (report : ServeReport) : Type 0 where
  pub objects : List (List ℕ)
  pub octets : List ℕ
  pub fates : List Fate
  pub are : IfSome ends.input (λ stream. AreObjects stream objects)
  pub answers : AllAnswersAs moment 1 objects before after octets fates
  pub written : Appends ends.output ends.written octets
  pub told : AllTold (λ first k object fate next. Tells first k (kept_of object) fate next) old 1 objects fates new
  pub counted : report.objects ≡ length objects

-- the same of a stream with its preamble
pub record TellsStream {Told : Type 0} (Tells : Told → ℕ → List ℕ → Fate → Told → Type 0) (old new : Told) (ends : Ends) (report : ServeReport) : Type 0 where
  pub moment : ℤ
  pub hosts : Config
  pub rest : Option (List ℕ)
  pub after : Box
  pub opens : OpensStream ends.input rest moment hosts
  pub tells : TellsAll Tells old new moment (new_box hosts) after (record ends { input = rest }) report

-- ---- of octets that came, and those that are left

-- what comes of serving from these books on, of which this many octets may be read, and who is told of it; and how often the reader was filled
pub record ServesBooks {Told : Type 0} (Tells : Told → ℕ → List ℕ → Fate → Told → Type 0) (told_old told_new : Told) (most : ℕ) (moment : ℤ) (olds news : Books) (fills_old fills_new : ℕ) (output written : Option (List ℕ))
    (result : Result ServeReport ServeFault) (input left : Option (List ℕ)) : Type 0 where
  pub serves : (before : Box) → AreBooksOf olds before → BooksServe most moment before news (record { input = input; left = left; output = output; written = written }) result
  pub tells : (before : Box) → AreBooksOf olds before → IfOk result (λ report. (after : Box) × AreBooksOf news after
      × TellsAll Tells told_old told_new moment before after (record { input = input; left = left; output = output; written = written }) report)
  pub fills : IsFilledWithin 2 fills_old fills_new input left
  pub bound : IfErr result (StopsWithin most input left)
