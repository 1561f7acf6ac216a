-- The objects and answers so far, against those of the whole stream.
use Rattle.std.proofs.Common.{◌≡◌, ◌⊎◌, inl, inr, ℕ, ℤ, Bool, ◌+◌, ◌-◌, ◌<◌, ◌≤◌, true, false, List, [], ◌∷◌, ◌++◌, length, take, Option, Some, None, IfSome, OnSome, IfOk, IfErr, Result, Ok, Err, refl, sym, ap, subst, ◌∙◌, arith, length-append, Contains, true≢false}
use Rattle.std.proofs.lemmas.List.{append_assoc, append-nil}
use Rattle.std.specs.Io.KnownBytes.{Appends, Consumes, Keeps, IsAtEnd}
use Rattle.std.proofs.KnownBytes.{Appends-kept, Appends-nil, Appends-trans, Keeps-refl}
use Rattle.profile.specs.text.Objects.{is_begun, after_object}
use Rattle.profile.specs.rooms.Rooms.{Book}
use Rattle.profile.specs.streams.Reports.{AllAnswersAs, AllTold, AnswersAs, Fate, refusals}
use Rattle.profile.specs.streams.Streams.{BeginsWith, AreObjects, Answers, AllAnswers, Box, Config, new_box}
use Rattle.room_books.specs.declared.room.Room.{Room}
use Rattle.sched_box.specs.declared.fault.ServeFault.{ServeFault}
use Rattle.sched_box.specs.declared.fault.ServeFault.TheVariants.{Read, Write, TooLong, Memory}
use Rattle.sched_box.specs.declared.objects.Objects.{Objects}
use Rattle.sched_box.specs.declared.serving.ServeReport.{ServeReport}
use Rattle.sched_box.specs.Answering.{IsHosted}
use Rattle.sched_box.specs.Books.{AnswersKept, AnswersKeptAs, AreBooksOf, hosted_rooms}
use Rattle.sched_box.specs.declared.books.Books.{Books}
use Rattle.sched_devices.specs.Input.{IsFilledWithin, MayFollow}
use Rattle.sched_box.specs.Objects.{kept_of, IsStop, LendsNext, TakesNextObject, ReadsObject, StopsReading}
use Rattle.sched_box.specs.Serving.{Ends, Gives, GivesPart, GivesRead, IsWithin, IsWithinBound, ServesAll, ServesSome, HasRead, ServesUntil, AnswersWhole, ServesCut, Serves, ServesBooks, ServesStream, BooksServe, KeepsTexts, StopsKeeping, StopsWithin, TellsAll, TellsStream}
use Rattle.sched_box.specs.Preamble.{OpensNothing, OpensStream}
use Rattle.sched_box.specs.declared.fault.StreamFault.{StreamFault}
use Rattle.profile.specs.rooms.Kept.{IsKeptCalendar, IsKeptCertificate}
use Rattle.cal_zones.specs.RoomZones.{words_of}
use Rattle.ical_values.specs.Octets.{address_octets}
use Rattle.room_books.specs.Room.{Represents}
use Rattle.sched_box.specs.declared.fault.StreamFault.TheVariants as stream
use Rattle.sched_box.specs.Faults.{IsReadFault, StopsFor}
use Rattle.sched_box.specs.Sending.{StopsSending}
use Rattle.cal_events.proofs.shared_lemmas.SeriesLemmas.{zip_with}
use Rattle.sched_box.proofs.ObjectLemmas.{after_short}
use Rattle.sched_box.proofs.ToldLemmas.{as_more, told_more}

-- ---- one more object

begins_more : (stream : List ℕ) (objects : List (List ℕ)) (rest object : List ℕ) → BeginsWith stream objects rest → is_begun rest ≡ true → rest ≡ object ++ after_object rest
    → BeginsWith stream (objects ++ object ∷ []) (after_object rest)
begins_more stream [] rest object h begun is =
    let P : List ℕ → Type 0 = λ z. (is_begun z ≡ true) × (z ≡ object ++ after_object z) × (after_object rest ≡ after_object z) in
    subst P h (begun, is, refl)
begins_more stream (o ∷ os) rest object (b, split, more) begun is = (b, split, begins_more (after_object stream) os rest object more begun is)

pub gives_more : (a b c : Option (List ℕ)) (objects : List (List ℕ)) (kept taken : List ℕ) → Gives a b objects → TakesNextObject b c kept true taken → Gives a c (objects ++ taken ∷ [])
gives_more None b c objects kept taken g t = tt
gives_more (Some xs) None c objects kept taken g t = absurd g
gives_more (Some xs) (Some ys) None objects kept taken g t = absurd t.consumed
gives_more (Some xs) (Some ys) (Some zs) objects kept taken g t =
    let P : List ℕ → Type 0 = λ z. BeginsWith xs (objects ++ taken ∷ []) z in
    subst P (sym t.rest) (begins_more xs objects ys taken g t.begun (t.consumed ∙ ap (λ z. taken ++ z) t.rest))

-- the part that was read of the next object, or the whole of it
pub gives_whole : (a b c : Option (List ℕ)) (objects : List (List ℕ)) (kept taken : List ℕ) → Gives a b objects → TakesNextObject b c kept true taken → GivesPart a c objects
gives_whole None b c objects kept taken g t = tt
gives_whole (Some xs) None c objects kept taken g t = absurd g
gives_whole (Some xs) (Some ys) None objects kept taken g t = absurd t.consumed
gives_whole (Some xs) (Some ys) (Some zs) objects kept taken g t =
    let same : length zs ≡ length (after_object ys) = ap length t.rest in
    (ys, taken, g, t.consumed, omega arith)

-- where a reader is between two objects: no object was taken, or the octet after the last is lent, or the input has ended. So far its fills
-- are paid by octets that were consumed; at the end of the input there is one more
pub data Between (objects lent paid start : ℕ) (left : List ℕ) : Type 0 where
  fresh : objects ≡ 0 → paid ≤ start → Between objects lent paid start left
  lends : 0 < lent → paid ≤ start → Between objects lent paid start left
  ended : left ≡ [] → paid ≤ start + 1 → Between objects lent paid start left

-- of a reader whose octets are known
abbrev pub IsBetween : Option (List ℕ) → Option (List ℕ) → ℕ → ℕ → ℕ → ℕ → Type 0
IsBetween None left objects lent paid start = Unit {0}
IsBetween (Some octets) None objects lent paid start = Unit {0}
IsBetween (Some octets) (Some rest) objects lent paid start = Between objects lent paid start rest

pub between_first : (a : Option (List ℕ)) (objects lent paid start : ℕ) → objects ≡ 0 → paid ≤ start → IsBetween a a objects lent paid start
between_first None objects lent paid start none few = tt
between_first (Some xs) objects lent paid start none few = fresh none few

paid_at : (objects lent paid start : ℕ) (left : List ℕ) → Between objects lent paid start left → paid ≤ start + 1
paid_at objects lent paid start left (fresh none few) = omega arith
paid_at objects lent paid start left (lends some few) = omega arith
paid_at objects lent paid start left (ended end few) = few

pub gives_stopped : (a b c : Option (List ℕ)) (objects : List (List ℕ)) (before after : Objects) (fault : ServeFault) → Gives a b objects → StopsReading b c before after fault → GivesPart a c objects
gives_stopped None b c objects before after fault g s = tt
gives_stopped (Some xs) None c objects before after fault g s = absurd g
gives_stopped (Some xs) (Some ys) None objects before after fault g s = absurd s.consumed
gives_stopped (Some xs) (Some ys) (Some zs) objects before after fault g s = (ys, s.taken, g, s.consumed, s.within)

pub gives_all : (a b c : Option (List ℕ)) (objects : List (List ℕ)) (kept taken : List ℕ) → Gives a b objects → TakesNextObject b c kept false taken
    → IfSome a (λ stream. AreObjects stream objects) × OnSome a (IsAtEnd c)
gives_all None b c objects kept taken g t = (tt, tt)
gives_all (Some xs) None c objects kept taken g t = absurd g
gives_all (Some xs) (Some ys) c objects kept taken g t = ((ys, g, t.begun), t.end refl)

pub answers_more : (moment : ℤ) (k : ℕ) (objects : List (List ℕ)) (object : List ℕ) (before mid after : Box) (octets more : List ℕ) (refused one : ℕ)
    → AllAnswers moment k objects before mid octets refused → Answers moment (k + length objects) object mid after more one
    → AllAnswers moment k (objects ++ object ∷ []) before after (octets ++ more) (refused + one)
answers_more moment k [] object before mid after octets more refused one (same, none, zero') a =
    let P : Box → Type 0 = λ box. Answers moment k object box after more one in
    let Q : ℕ → Type 0 = λ n. Answers moment n object mid after more one in
    let here : k + 0 ≡ k = omega arith in
    let sum : refused + one ≡ one + 0 = omega arith in
    (after, more, [], one, 0, ap (λ z. z ++ more) none ∙ sym (append-nil more), sum, subst P same (subst Q here a), (refl, refl, refl))
answers_more moment k (o ∷ os) object before mid after octets more refused one (box, first, rest, r, s, is, sum, a, others) answer =
    let Q : ℕ → Type 0 = λ n. Answers moment n object mid after more one in
    let place : k + length (o ∷ os) ≡ k + 1 + length os = omega arith in
    let total : refused + one ≡ r + (s + one) = omega arith in
    (box, first, rest ++ more, r, s + one, ap (λ z. z ++ more) is ∙ append_assoc first rest more, total, a, answers_more moment (k + 1) os object box mid after rest more s one others (subst Q place answer))

-- ---- the loop

-- the objects so far were taken, and their answers written
pub record ServedSofar (moment : ℤ) (news : Books) (input left output written : Option (List ℕ)) (before : Box) (report : ServeReport) : Type 0 where
  pub objects : List (List ℕ)
  pub after : Box
  pub octets : List ℕ
  pub hosted : AreBooksOf news after
  pub gives : Gives input left objects
  pub answers : AllAnswers moment 1 objects before after octets report.refused
  pub counted : report.objects ≡ length objects
  pub writes : Appends output written octets

-- of so many this many octets may still be read
abbrev pub HasLeft : ℕ → Option (List ℕ) → Option (List ℕ) → ℕ → Type 0
HasLeft most None left may_read = Unit {0}
HasLeft most (Some octets) None may_read = ⊥
HasLeft most (Some octets) (Some rest) may_read = length octets + may_read ≡ length rest + most

-- from whatever the books were, and this many octets were read
pub record Sofar (most : ℕ) (moment : ℤ) (olds news : Books) (input left output written : Option (List ℕ)) (may_read : ℕ) (report : ServeReport) : Type 0 where
  pub served : (before : Box) → AreBooksOf olds before → ServedSofar moment news input left output written before report
  pub read : HasLeft most input left may_read

-- the rooms keep their addresses, and each object has an octet
pub record Counted (most : ℕ) (olds news : Books) (may_read : ℕ) (report : ServeReport) : Type 0 where
  pub addresses : hosted_rooms news ≡ hosted_rooms olds
  pub few : report.objects + may_read ≤ most
  pub refusals : report.refused ≤ report.objects

pub counted_more : (most : ℕ) (olds news newer : Books) (b c : Option (List ℕ)) (before after : Objects) (report next : ServeReport) (number one : ℕ) → Counted most olds news before.left report → ReadsObject b c before after true
    → number ≡ report.objects + 1 → one ≤ 1 → hosted_rooms newer ≡ hosted_rooms news → next.objects ≡ number → next.refused ≡ report.refused + one → Counted most olds newer after.left next
counted_more most olds news newer b c before after report next number one so (taken, t, left, rest) number_is small same objects_are refused_are =
    let few = so.few in
    let refusals = so.refusals in
    let some = t.some refl in
    record { addresses = same ∙ so.addresses; few = omega arith; refusals = omega arith }

pub reads_less : (b c : Option (List ℕ)) (before after : Objects) → ReadsObject b c before after true → after.left < before.left
reads_less b c before after (taken, t, left, rest) = let some = t.some refl in omega arith

gives_nothing : (a : Option (List ℕ)) → Gives a a []
gives_nothing None = tt
gives_nothing (Some xs) = refl

pub none_served : (most : ℕ) (moment : ℤ) (books : Books) (input output : Option (List ℕ)) (report : ServeReport) (may_read : ℕ) → report.objects ≡ 0 → report.refused ≡ 0 → may_read ≡ most
    → Sofar most moment books books input input output output may_read report
none_served most moment books input output report may_read no_objects no_refused all = record {
  served = λ before have. record {
    objects = [];
    after = before;
    octets = [];
    hosted = have;
    gives = gives_nothing input;
    answers = (refl, refl, no_refused);
    counted = no_objects;
    writes = Appends-nil output;
  };
  read = unread input;
}
  where
    unread : (a : Option (List ℕ)) → HasLeft most a a may_read
    unread None = tt
    unread (Some xs) = ap (λ n. length xs + n) all

read_on : (most : ℕ) (a b c : Option (List ℕ)) (taken : List ℕ) (old new : ℕ) → HasLeft most a b old → Consumes b c taken → new + length taken ≡ old → HasLeft most a c new
read_on most None b c taken old new h consumed left = tt
read_on most (Some xs) None c taken old new h consumed left = absurd h
read_on most (Some xs) (Some ys) None taken old new h consumed left = absurd consumed
read_on most (Some xs) (Some ys) (Some zs) taken old new h consumed left =
    let split : length ys ≡ length taken + length zs = ap length consumed ∙ length-append taken zs in
    omega arith

all_read : (most : ℕ) (a c : Option (List ℕ)) (n : ℕ) → HasLeft most a c n → n ≡ 0 → HasRead most a c
all_read most None c n h e = tt
all_read most (Some xs) None n h e = absurd h
all_read most (Some xs) (Some zs) n h e = omega arith

read_less : (most : ℕ) (a c : Option (List ℕ)) (n : ℕ) → HasLeft most a c n → 0 < n → IsWithin most a c
read_less most None c n h some = tt
read_less most (Some xs) None n h some = absurd h
read_less most (Some xs) (Some zs) n h some = omega arith

-- after one more object
pub between_more : (most : ℕ) (a b c : Option (List ℕ)) (objects more lent lent' paid spent start n : ℕ) (kept taken : List ℕ) → IsBetween a b objects lent paid start → HasLeft most a b n
    → TakesNextObject b c kept true taken → (0 < lent') ⊎ OnSome b (IsAtEnd c) → spent ≤ paid → IsBetween a c more lent' (spent + (1 - lent')) start
between_more most None b c objects more lent lent' paid spent start n kept taken so read t next less = tt
between_more most (Some xs) None c objects more lent lent' paid spent start n kept taken so read t next less = absurd read
between_more most (Some xs) (Some ys) None objects more lent lent' paid spent start n kept taken so read t next less = tt
between_more most (Some xs) (Some ys) (Some zs) objects more lent lent' paid spent start n kept taken so read t next less = at so
  where
    lead : paid ≤ start → Between more lent' (spent + (1 - lent')) start zs
    lead few = elim next [ inl some ↦ lends some (omega arith) | inr end ↦ ended end (omega arith) ]

    at : Between objects lent paid start ys → Between more lent' (spent + (1 - lent')) start zs
    at (fresh none few) = lead few
    at (lends some few) = lead few
    at (ended end few) = absurd (true≢false (sym t.begun ∙ ap is_begun end))

-- so the reader was filled seldom
pub filled_within : (most : ℕ) (a b c : Option (List ℕ)) (objects lent paid old new fills lent_first spent : ℕ) (taken : List ℕ) → IsBetween a b objects lent paid (fills + most + (1 - lent_first))
    → HasLeft most a b old → Consumes b c taken → new + length taken ≡ old → spent + new ≤ paid → IsFilledWithin 2 fills spent a c
filled_within most None b c objects lent paid old new fills lent_first spent taken so read consumed left less = tt
filled_within most (Some xs) None c objects lent paid old new fills lent_first spent taken so read consumed left less = absurd read
filled_within most (Some xs) (Some ys) None objects lent paid old new fills lent_first spent taken so read consumed left less = tt
filled_within most (Some xs) (Some ys) (Some zs) objects lent paid old new fills lent_first spent taken so read consumed left less =
    let few = paid_at objects lent paid (fills + most + (1 - lent_first)) ys so in
    let split : length ys ≡ length taken + length zs = ap length consumed ∙ length-append taken zs in
    omega arith

pub filled_none : (more n : ℕ) (a : Option (List ℕ)) → IsFilledWithin more n n a a
filled_none more n None = tt
filled_none more n (Some xs) = omega arith

pub filled_more : (few more f g : ℕ) (a b : Option (List ℕ)) → few ≤ more → IsFilledWithin few f g a b → IsFilledWithin more f g a b
filled_more few more f g None b less h = tt
filled_more few more f g (Some xs) None less h = tt
filled_more few more f g (Some xs) (Some ys) less h = omega (arith, h)

-- no object was taken, or an octet of the next one was, or the input has ended
abbrev pub IsRead : Option (List ℕ) → Option (List ℕ) → List (List ℕ) → List ℕ → Type 0
IsRead None c objects taken = Unit {0}
IsRead (Some xs) None objects taken = Unit {0}
IsRead (Some xs) (Some zs) objects taken = (objects ≡ []) ⊎ ((0 < length taken) ⊎ (zs ≡ []))

-- where octets were lent, some of them were taken
pub is_read : (most : ℕ) (a b c : Option (List ℕ)) (objects : List (List ℕ)) (count lent paid start n : ℕ) (taken : List ℕ) → IsBetween a b count lent paid start → count ≡ length objects → HasLeft most a b n
    → Consumes b c taken → (0 < lent → 0 < length taken) → IsRead a c objects taken
is_read most None b c objects count lent paid start n taken so counted read consumed some = tt
is_read most (Some xs) None c objects count lent paid start n taken so counted read consumed some = absurd read
is_read most (Some xs) (Some ys) None objects count lent paid start n taken so counted read consumed some = tt
is_read most (Some xs) (Some ys) (Some zs) objects count lent paid start n taken so counted read consumed some = at so
  where
    none_of : (os : List (List ℕ)) → length os ≡ 0 → os ≡ []
    none_of [] e = refl
    none_of (o ∷ os) e = absurd (omega arith)

    second : (l m : List ℕ) → l ++ m ≡ [] → m ≡ []
    second [] m e = e
    second (x ∷ l) m e = absurd (cc)

    at : Between count lent paid start ys → (objects ≡ []) ⊎ ((0 < length taken) ⊎ (zs ≡ []))
    at (fresh none few) = inl (none_of objects (sym counted ∙ none))
    at (lends l few) = inr (inl (some l))
    at (ended end few) = inr (inr (second taken zs (sym consumed ∙ end)))

-- all that was read, where the reader has failed or enough was read
pub gives_read : (a b c : Option (List ℕ)) (objects : List (List ℕ)) (before after : Objects) (fault : ServeFault) → Gives a b objects → (s : StopsReading b c before after fault)
    → IsRead a c objects s.taken → GivesRead a c objects
gives_read None b c objects before after fault g s why = tt
gives_read (Some xs) None c objects before after fault g s why = absurd g
gives_read (Some xs) (Some ys) None objects before after fault g s why = absurd s.consumed
gives_read (Some xs) (Some ys) (Some zs) objects before after fault g s why = (s.taken, subst (BeginsWith xs objects) s.consumed g, s.goes_on, why)

-- the stream ended before the next object did
pub stopped : (most : ℕ) (moment : ℤ) (olds news : Books) (a b c output written : Option (List ℕ)) (before after : Objects) (report : ServeReport) (fault : ServeFault)
    → (lent paid bound : ℕ) → Sofar most moment olds news a b output written before.left report → StopsReading b c before after fault → IsBetween a b report.objects lent paid bound → 0 < before.left
    → (fault ≡ Read → 0 < lent → after.left < before.left) → (start : Box) → AreBooksOf olds start
    → ServesUntil most moment start (record { input = a; left = c; output = output; written = written }) fault
stopped most moment olds news a b c output written before after report fault lent paid bound so s between more first start have = at fault s first
  where
    some : (f : ServeFault) → StopsReading b c before after f → ServesSome GivesPart moment start (record { input = a; left = c; output = output; written = written })
    some f s =
        let served = so.served start have in
        record {
          objects = served.objects;
          after = served.after;
          octets = served.octets;
          refused = report.refused;
          gives = gives_stopped a b c served.objects before after f served.gives s;
          answers = served.answers;
          written = served.writes;
        }

    all : (f : ServeFault) (s : StopsReading b c before after f) → (0 < lent → 0 < length s.taken) → ServesSome GivesRead moment start (record { input = a; left = c; output = output; written = written })
    all f s some =
        let served = so.served start have in
        record {
          objects = served.objects;
          after = served.after;
          octets = served.octets;
          refused = report.refused;
          gives = gives_read a b c served.objects before after f served.gives s (is_read most a b c served.objects report.objects lent paid bound before.left s.taken between served.counted so.read s.consumed some);
          answers = served.answers;
          written = served.writes;
        }

    left_over : (f : ServeFault) (s : StopsReading b c before after f) → HasLeft most a c after.left
    left_over f s = read_on most a b c s.taken before.left after.left so.read s.consumed s.left

    at : (f : ServeFault) → StopsReading b c before after f → (f ≡ Read → 0 < lent → after.left < before.left)
        → ServesUntil most moment start (record { input = a; left = c; output = output; written = written }) f
    at Read s first = (all Read s (λ l. let fewer = first refl l in let left = s.left in omega arith), read_less most a c after.left (left_over Read s) s.stop)
    at Memory s first = (some Memory s, read_less most a c after.left (left_over Memory s) s.stop)
    at TooLong s first = (all TooLong s (λ l. let none = s.stop in let left = s.left in omega arith), all_read most a c after.left (left_over TooLong s) s.stop)
    at Write s first = absurd s.stop

-- an object was taken, and memory was refused for the answers to it, or for writing them
pub forgotten : (most : ℕ) (moment : ℤ) (olds news : Books) (a b c output written now : Option (List ℕ)) (before after : Objects) (report : ServeReport)
    → Sofar most moment olds news a b output written before.left report → ReadsObject b c before after true → Keeps written now → (start : Box) → AreBooksOf olds start
    → ServesUntil most moment start (record { input = a; left = c; output = output; written = now }) Memory
forgotten most moment olds news a b c output written now before after report so (taken, t, left, more) keeps start have =
    let served = so.served start have in (
      record {
        objects = served.objects;
        after = served.after;
        octets = served.octets;
        refused = report.refused;
        gives = gives_whole a b c served.objects after.octets.items taken served.gives t;
        answers = served.answers;
        written = Appends-kept output written now served.octets served.writes keeps;
      },
      read_less most a c after.left (read_on most a b c taken before.left after.left so.read t.consumed left) more,
    )

-- the same where the fault is said to be that
pub forgotten_at : (most : ℕ) (moment : ℤ) (olds news : Books) (a b c output written : Option (List ℕ)) (before after : Objects) (report : ServeReport) (fault : ServeFault)
    → Sofar most moment olds news a b output written before.left report → ReadsObject b c before after true → fault ≡ Memory → (start : Box) → AreBooksOf olds start
    → ServesUntil most moment start (record { input = a; left = c; output = output; written = written }) fault
forgotten_at most moment olds news a b c output written before after report fault so reads is start have =
    let P : ServeFault → Type 0 = ServesUntil most moment start (record { input = a; left = c; output = output; written = written }) in
    subst P (sym is) (forgotten most moment olds news a b c output written written before after report so reads (Keeps-refl written) start have)

-- an object was taken, and memory was refused then: fewer octets were read than may be
pub bound_forgotten : (most : ℕ) (a b c : Option (List ℕ)) (before after : Objects) (found : Bool) (fault : ServeFault) → HasLeft most a b before.left → ReadsObject b c before after found → fault ≡ Memory
    → StopsWithin most a c fault
bound_forgotten most a b c before after found fault read (taken, t, left, more) is =
    subst (StopsWithin most a c) (sym is) (read_less most a c after.left (read_on most a b c taken before.left after.left read t.consumed left) more)

-- or its answers weren't written whole
pub bound_unsent : (most : ℕ) (a b c written now : Option (List ℕ)) (failed : Bool) (octets : List ℕ) (before after : Objects) (found : Bool) (fault : ServeFault) → HasLeft most a b before.left
    → ReadsObject b c before after found → StopsSending written now failed octets fault → StopsWithin most a c fault
bound_unsent most a b c written now failed octets before after found fault read (taken, t, left, more) sends = at fault sends
  where
    within : IsWithin most a c
    within = read_less most a c after.left (read_on most a b c taken before.left after.left read t.consumed left) more

    at : (f : ServeFault) → StopsSending written now failed octets f → StopsWithin most a c f
    at Read h = absurd h
    at Memory h = within
    at Write h = within
    at TooLong h = absurd h

-- it ended before the next object did
pub bound_stopped : (most : ℕ) (a b c : Option (List ℕ)) (before after : Objects) (fault : ServeFault) → HasLeft most a b before.left → StopsReading b c before after fault → StopsWithin most a c fault
bound_stopped most a b c before after fault read s = at fault s.stop
  where
    left : HasLeft most a c after.left
    left = read_on most a b c s.taken before.left after.left read s.consumed s.left

    at : (f : ServeFault) → IsStop f after.left → StopsWithin most a c f
    at Read stop = read_less most a c after.left left stop
    at Memory stop = read_less most a c after.left left stop
    at TooLong stop = all_read most a c after.left left stop
    at Write stop = absurd stop

-- the answers to an object from the box so far
next_answers : (moment : ℤ) (news newer : Books) (number : ℕ) (kept more taken : List ℕ) (one : ℕ) (n : ℕ) → number ≡ n + 1
    → AnswersKept moment number kept news newer more one → kept ≡ kept_of taken → (mid : Box) → AreBooksOf news mid
    → (after : Box) × AreBooksOf newer after × Answers moment (n + 1) taken mid after more one
next_answers moment news newer number kept more taken one n number_is answers kept_is mid have =
    let (after, hosted, answer) = answers taken kept_is mid have in
    let Q : ℕ → Type 0 = λ k. Answers moment k taken mid after more one in
    (after, hosted, subst Q number_is answer)

-- the answers to an object were made, and weren't written whole
pub unsent : (most : ℕ) (moment : ℤ) (olds news newer : Books) (a b c output written now : Option (List ℕ)) (failed : Bool) (before after : Objects) (report : ServeReport) (number one : ℕ) (more : List ℕ) (fault : ServeFault)
    → Sofar most moment olds news a b output written before.left report → ReadsObject b c before after true → number ≡ report.objects + 1
    → AnswersKept moment number after.octets.items news newer more one → StopsSending written now failed more fault
    → (start : Box) → AreBooksOf olds start
    → ServesUntil most moment start (record { input = a; left = c; output = output; written = now }) fault
unsent most moment olds news newer a b c output written now failed before after report number one more Read so reads number_is answers sends start have = absurd sends
unsent most moment olds news newer a b c output written now failed before after report number one more TooLong so reads number_is answers sends start have = absurd sends
unsent most moment olds news newer a b c output written now failed before after report number one more Memory so reads number_is answers sends start have =
    forgotten most moment olds news a b c output written now before after report so reads sends start have
unsent most moment olds news newer a b c output written now failed before after report number one more Write so (taken, t, left, rest) number_is answers (f, some, partly) start have =
    let served = so.served start have in
    let same : number ≡ length served.objects + 1 = number_is ∙ ap (λ k. k + 1) served.counted in
    let (box, hosted, answer) = next_answers moment news newer number after.octets.items more taken one (length served.objects) same answers t.kept_is served.after served.hosted in (
      record {
        objects = served.objects;
        last = taken;
        mid = served.after;
        after = box;
        octets = served.octets;
        answer = more;
        refused = report.refused;
        one = one;
        cut = partly.0;
        gives = gives_more a b c served.objects after.octets.items taken served.gives t;
        answers = served.answers;
        answered = answer;
        some = some;
        written = Appends-trans output written now served.octets (take partly.0 more) served.writes partly.1;
      },
      read_less most a c after.left (read_on most a b c taken before.left after.left so.read t.consumed left) rest,
    )

-- one more object
pub served_more : (most : ℕ) (moment : ℤ) (olds news newer : Books) (a b c output written new : Option (List ℕ)) (before after : Objects) (report next : ServeReport) (number one : ℕ) (more : List ℕ)
    → Sofar most moment olds news a b output written before.left report → ReadsObject b c before after true → number ≡ report.objects + 1
    → AnswersKept moment number after.octets.items news newer more one → Appends written new more
    → next.objects ≡ number → next.refused ≡ report.refused + one → Sofar most moment olds newer a c output new after.left next
served_more most moment olds news newer a b c output written new before after report next number one more so (taken, t, left, rest) number_is answers appended objects_are refused_are =
    record {
      served = λ start have.
          let served = so.served start have in
          let numbered : number ≡ length served.objects + 1 = number_is ∙ ap (λ k. k + 1) served.counted in
          let (now, hosted, answer) = next_answers moment news newer number after.octets.items more taken one (length served.objects) numbered answers t.kept_is served.after served.hosted in
          let first : length served.objects + 1 ≡ 1 + length served.objects = omega arith in
          let P : ℕ → Type 0 = λ k. Answers moment k taken served.after now more one in
          let Q : ℕ → Type 0 = λ k. AllAnswers moment 1 (served.objects ++ taken ∷ []) start now (served.octets ++ more) k in
          record {
            objects = served.objects ++ taken ∷ [];
            after = now;
            octets = served.octets ++ more;
            hosted = hosted;
            gives = gives_more a b c served.objects after.octets.items taken served.gives t;
            answers = subst Q (sym refused_are) (answers_more moment 1 served.objects taken start served.after now served.octets more report.refused one served.answers (subst P first answer));
            counted = objects_are ∙ numbered ∙ sym (length-append served.objects (taken ∷ []));
            writes = Appends-trans output written new served.octets more served.writes appended;
          };
      read = read_on most a b c taken before.left after.left so.read t.consumed left;
    }

-- no object is left
pub served_all : (most : ℕ) (moment : ℤ) (olds news : Books) (a b c output written : Option (List ℕ)) (before after : Objects) (report : ServeReport)
    → Sofar most moment olds news a b output written before.left report → ReadsObject b c before after false → (start : Box) → AreBooksOf olds start
    → (final : Box) × AreBooksOf news final × ServesAll most moment start final (record { input = a; left = c; output = output; written = written }) report
served_all most moment olds news a b c output written before after report so (taken, t, left, more) start have =
    let served = so.served start have in
    let ended = gives_all a b c served.objects after.octets.items taken served.gives t in (
      served.after,
      served.hosted,
      record { objects = served.objects; octets = served.octets; are = ended.0; end = ended.1; answers = served.answers; counted = served.counted; bound = read_less most a c after.left (read_on most a b c taken before.left after.left so.read t.consumed left) more; written = served.writes },
    )

-- ---- the parts of a function's answer

-- what is sent is the answer, as the octets that were there before are none
pub answered_from : (Answered : List ℕ → List ℕ → Type 0) (kept kept' old new sent : List ℕ) → old ≡ [] → sent ≡ new → kept' ≡ kept → (more : List ℕ) × (new ≡ old ++ more) × Answered kept' more → Answered kept sent
answered_from Answered kept kept' old new sent none sent_is kept_is (more, is, answers) =
    let same : more ≡ sent = sym (sent_is ∙ is ∙ ap (λ z. z ++ more) none) in
    subst (λ z. Answered z sent) kept_is (subst (Answered kept') same answers)

-- the answers, without what became of the object
pub kept_answers : (moment : ℤ) (k : ℕ) (kept : List ℕ) (old new : Books) (octets : List ℕ) (fate : Fate) → AnswersKeptAs moment k kept old new octets fate → AnswersKept moment k kept old new octets (refusals fate)
kept_answers moment k kept old new octets fate answers object is before have =
    let (after, hosted, answer) = answers object is before have in
    (after, hosted, answer.0)

pub serves_from : (moment : ℤ) (before : Box) (news : Books) (ends : Ends) (r : Result ServeReport ServeFault) → BooksServe 1_073_741_824 moment before news ends r → Serves moment before ends r
serves_from moment before news ends (Ok report) (after, hosted, all) = (after, all)
serves_from moment before news ends (Err fault) h = h

pub serves_none : (moment : ℤ) (before : Box) (input output : Option (List ℕ)) (fault : ServeFault) → fault ≡ Memory
    → ServesUntil 1_073_741_824 moment before (record { input = input; left = input; output = output; written = output }) fault
serves_none moment before input output fault is =
    let P : ServeFault → Type 0 = ServesUntil 1_073_741_824 moment before (record { input = input; left = input; output = output; written = output }) in
    subst P (sym is)
    (record { objects = []; after = before; octets = []; refused = 0; gives = none input; answers = (refl, refl, refl); written = Appends-nil output }, unread input)
  where
    unread : (a : Option (List ℕ)) → IsWithinBound a a
    unread None = tt
    unread (Some xs) = omega arith

    none : (a : Option (List ℕ)) → GivesPart a a []
    none None = tt
    none (Some xs) = (xs, [], refl, refl, after_short xs)

-- ---- a stream with its preamble

pub stream_none : (fault : StreamFault) (input left output : Option (List ℕ)) → IsReadFault fault → OpensNothing fault input left
    → ServesStream (record { input = input; left = left; output = output; written = output }) (Err fault)
stream_none (stream.Refused refusal) input left output may h = (h.0, h.1, Keeps-refl output)
stream_none (stream.Serve fault) input left output may h = inl (may, h, Keeps-refl output)

-- a preamble was read, and then its objects were served
module _ (moment : ℤ) (hosts : Config) (a b c output written : Option (List ℕ)) (opens : OpensStream a b moment hosts) where
  pub stream_until : (fault : ServeFault) → Serves moment (new_box hosts) (record { input = b; left = c; output = output; written = written }) (Err fault)
      → ServesStream (record { input = a; left = c; output = output; written = written }) (Err (stream.Serve fault))
  stream_until fault h = inr (moment, hosts, b, opens, h)

  pub stream_all : (report : ServeReport) → Serves moment (new_box hosts) (record { input = b; left = c; output = output; written = written }) (Ok report)
      → ServesStream (record { input = a; left = c; output = output; written = written }) (Ok report)
  stream_all report (after, all) = (moment, hosts, b, after, opens, all)

  pub stream_told : {Told : Type 0} (Tells : Told → ℕ → List ℕ → Fate → Told → Type 0) (old new : Told) (report : ServeReport)
      → (after : Box) × TellsAll Tells old new moment (new_box hosts) after (record { input = b; left = c; output = output; written = written }) report
      → TellsStream Tells old new (record { input = a; left = c; output = output; written = written }) report
  stream_told Tells old new report (after, tells) = record { moment = moment; hosts = hosts; rest = b; after = after; opens = opens; tells = tells }

-- what was written answers the whole stream
pub stream_whole : (input left output written : Option (List ℕ)) (report : ServeReport) → ServesStream (record { input = input; left = left; output = output; written = written }) (Ok report)
    → AnswersWhole (record { input = input; left = left; output = output; written = written })
stream_whole None left output written report h = tt
stream_whole (Some octets) left output written report (moment, hosts, None, after, opens, all) = absurd opens.consumed
stream_whole (Some octets) left output written report (moment, hosts, Some rest, after, opens, all) = (
  all.octets,
  record {
    moment = moment;
    hosts = hosts;
    objects = all.objects;
    after = after;
    refused = report.refused;
    is = record { preamble = opens.preamble; rest = rest; closed = opens.closed; is = opens.consumed; says = opens.says; all = opens.all; objects_are = all.are };
    answers = all.answers;
  },
  all.written,
)

-- ---- one room

-- what is kept of a room is the texts of its book
pub keeps_texts : (moment : ℤ) (hosts : Config) (news : Books) (ends : Ends) (report : ServeReport) (room : Room) (address calendar certificate : List ℕ)
    → BooksServe 1_073_741_824 moment (new_box hosts) news ends (Ok report) → Contains news.rooms.rooms.items room → address_octets room.address ≡ address
    → ((book : Book) → Represents room.meetings.entries book → IsKeptCalendar (address_octets room.address) (words_of room.zone) book calendar) → IsKeptCertificate (address_octets room.address) calendar certificate
    → KeepsTexts moment hosts ends.input ends.left address calendar certificate
keeps_texts moment hosts news ends report room address calendar certificate (after, hosted, all) among is text proof' =
    let (kept, has, represents) = zip_with IsHosted news.rooms.rooms.items after.rooms room hosted.rooms among in
    let S : List ℕ → Type 0 = λ a. IsKeptCalendar a (words_of room.zone) kept.book calendar in
    let W : List ℕ → Type 0 = λ words. IsKeptCalendar address words kept.book calendar in
    record {
      objects = all.objects;
      after = after;
      octets = all.octets;
      refused = report.refused;
      kept = kept;
      are = all.are;
      end = all.end;
      bound = all.bound;
      answers = all.answers;
      has = has;
      at = represents.at ∙ is;
      calendar_is = subst W (sym represents.words) (subst S is (text kept.book represents.represents));
      certificate_is = subst (λ a. IsKeptCertificate a calendar certificate) is proof';
    }

-- serving to a writer that never fails ends so
pub keeping_stopped : (moment : ℤ) (before : Box) (news : Books) (a b c d : Option (List ℕ)) (reader : Bool) (f : ServeFault)
    → BooksServe 1_073_741_824 moment before news (record { input = a; left = b; output = c; written = d }) (Err f) → StopsFor reader false f → StopsKeeping a b (stream.Serve f)
keeping_stopped moment before news a b c d reader Read h cause = h.1
keeping_stopped moment before news a b c d reader Write h cause = absurd (true≢false (sym cause))
keeping_stopped moment before news a b c d reader TooLong h cause = h.1
keeping_stopped moment before news a b c d reader Memory h cause = h.1

-- ---- who is told

-- the objects so far were taken, and their answers written; each of them was told
pub record ToldSofar {Told : Type 0} (Tells : Told → ℕ → List ℕ → Fate → Told → Type 0) (old now : Told) (moment : ℤ) (news : Books) (input left output written : Option (List ℕ)) (before : Box) (report : ServeReport) : Type 0 where
  pub objects : List (List ℕ)
  pub after : Box
  pub octets : List ℕ
  pub fates : List Fate
  pub hosted : AreBooksOf news after
  pub gives : Gives input left objects
  pub answers : AllAnswersAs moment 1 objects before after octets fates
  pub counted : report.objects ≡ length objects
  pub writes : Appends output written octets
  pub told : AllTold (λ first k object fate next. Tells first k (kept_of object) fate next) old 1 objects fates now

-- from whatever the books were
abbrev pub TellsSofar : {Told : Type 0} → (Told → ℕ → List ℕ → Fate → Told → Type 0) → Told → Told → ℤ → Books → Books → Option (List ℕ) → Option (List ℕ) → Option (List ℕ) → Option (List ℕ) → ServeReport → Type 0
TellsSofar Tells old now moment olds news input left output written report =
    (before : Box) → AreBooksOf olds before → ToldSofar Tells old now moment news input left output written before report

pub none_told : {Told : Type 0} (Tells : Told → ℕ → List ℕ → Fate → Told → Type 0) (old : Told) (moment : ℤ) (books : Books) (input output : Option (List ℕ)) (report : ServeReport) → report.objects ≡ 0
    → TellsSofar Tells old old moment books books input input output output report
none_told Tells old moment books input output report no_objects before have = record {
  objects = [];
  after = before;
  octets = [];
  fates = [];
  hosted = have;
  gives = gives_nothing input;
  answers = (refl, refl, refl);
  counted = no_objects;
  writes = Appends-nil output;
  told = refl;
}

pub told_next : {Told : Type 0} (Tells : Told → ℕ → List ℕ → Fate → Told → Type 0) (old mid now : Told) (moment : ℤ) (olds news newer : Books) (a b c output written new : Option (List ℕ)) (before after : Objects) (report next : ServeReport) (number : ℕ) (fate : Fate) (more : List ℕ)
    → TellsSofar Tells old mid moment olds news a b output written report → ReadsObject b c before after true → number ≡ report.objects + 1
    → AnswersKeptAs moment number after.octets.items news newer more fate → Tells mid number after.octets.items fate now → Appends written new more → next.objects ≡ number
    → TellsSofar Tells old now moment olds newer a c output new next
told_next Tells old mid now moment olds news newer a b c output written new before after report next number fate more sofar (taken, t, left, rest) number_is answers tells appended objects_are start have =
    let so = sofar start have in
    let numbered : number ≡ length so.objects + 1 = number_is ∙ ap (λ k. k + 1) so.counted in
    let first : number ≡ 1 + length so.objects = omega arith in
    let (box, hosted, answer) = answers taken t.kept_is so.after so.hosted in
    let P : ℕ → Type 0 = λ k. AnswersAs moment k taken so.after box more fate in
    let Q : List ℕ → Type 0 = λ kept. Tells mid number kept fate now in
    record {
      objects = so.objects ++ taken ∷ [];
      after = box;
      octets = so.octets ++ more;
      fates = so.fates ++ fate ∷ [];
      hosted = hosted;
      gives = gives_more a b c so.objects after.octets.items taken so.gives t;
      answers = as_more moment 1 so.objects taken start so.after box so.octets more so.fates fate so.answers (subst P first answer);
      counted = objects_are ∙ numbered ∙ sym (length-append so.objects (taken ∷ []));
      writes = Appends-trans output written new so.octets more so.writes appended;
      told = told_more (λ u k o f v. Tells u k (kept_of o) f v) old mid now 1 number so.objects taken so.fates fate so.told first (subst Q t.kept_is tells);
    }

pub told_all : {Told : Type 0} (Tells : Told → ℕ → List ℕ → Fate → Told → Type 0) (old now : Told) (moment : ℤ) (olds news : Books) (a b c output written : Option (List ℕ)) (before after : Objects) (report : ServeReport)
    → TellsSofar Tells old now moment olds news a b output written report → ReadsObject b c before after false → (start : Box) → AreBooksOf olds start
    → (final : Box) × AreBooksOf news final × TellsAll Tells old now moment start final (record { input = a; left = c; output = output; written = written }) report
told_all Tells old now moment olds news a b c output written before after report sofar (taken, t, left, more) start have =
    let so = sofar start have in (
      so.after,
      so.hosted,
      record {
        objects = so.objects;
        octets = so.octets;
        fates = so.fates;
        are = (gives_all a b c so.objects after.octets.items taken so.gives t).0;
        answers = so.answers;
        written = so.writes;
        told = so.told;
        counted = so.counted;
      },
    )

-- the books are forgotten
pub tells_from : {Told : Type 0} (Tells : Told → ℕ → List ℕ → Fate → Told → Type 0) (old now : Told) (moment : ℤ) (before : Box) (news : Books) (ends : Ends) (r : Result ServeReport ServeFault)
    → IfOk r (λ report. (after : Box) × AreBooksOf news after × TellsAll Tells old now moment before after ends report) → IfOk r (λ report. (after : Box) × TellsAll Tells old now moment before after ends report)
tells_from Tells old now moment before news ends (Ok report) (after, hosted, tells) = (after, tells)
tells_from Tells old now moment before news ends (Err fault) h = tt

-- ---- of octets that came, and those that are left

-- the octet after the object comes next, or nothing does
pub next_or_end : (lent : List ℕ) (has_ended : Bool) (b c : Option (List ℕ)) (taken : List ℕ) → Consumes b c taken → IfSome c (MayFollow lent has_ended) → LendsNext lent has_ended
    → (0 < length lent) ⊎ OnSome b (IsAtEnd c)
next_or_end lent has_ended b c taken consumed follows (inl some) = inl some
next_or_end lent has_ended b c taken consumed follows (inr none) = inr (at b c consumed follows)
  where
    at : (b c : Option (List ℕ)) → Consumes b c taken → IfSome c (MayFollow lent has_ended) → OnSome b (IsAtEnd c)
    at None c consumed follows = tt
    at (Some xs) None consumed follows = absurd consumed
    at (Some xs) (Some ys) consumed follows = follows.ends none.1 ∙ none.0

-- the objects so far were served, and told of
pub record HaveServed {Told : Type 0} (Tells : Told → ℕ → List ℕ → Fate → Told → Type 0) (told now : Told) (most : ℕ) (moment : ℤ) (olds news : Books) (output written : Option (List ℕ)) (may_read : ℕ) (report : ServeReport)
    (lent paid start : ℕ) (input left : Option (List ℕ)) : Type 0 where
  pub sofar : Sofar most moment olds news input left output written may_read report
  pub between : IsBetween input left report.objects lent paid start
  pub tells : TellsSofar Tells told now moment olds news input left output written report

-- of octets of which nothing is known nothing is said
module _ {Told : Type 0} (Tells : Told → ℕ → List ℕ → Fate → Told → Type 0) (told_old told_new : Told) (most : ℕ) (moment : ℤ) (output written : Option (List ℕ)) (left : Option (List ℕ)) where
  abbrev of_none : Ends
  of_none = record { input = None; left = None; output = output; written = written }

  abbrev of_any : Ends
  of_any = record { input = None; left = left; output = output; written = written }

  any_all : (before after : Box) (report : ServeReport) → ServesAll most moment before after of_none report → ServesAll most moment before after of_any report
  any_all before after report all =
      record { objects = all.objects; octets = all.octets; are = tt; end = tt; answers = all.answers; counted = all.counted; bound = tt; written = all.written }

  any_read : (before : Box) → ServesSome GivesRead moment before of_none → ServesSome GivesRead moment before of_any
  any_read before some = record { objects = some.objects; after = some.after; octets = some.octets; refused = some.refused; gives = tt; answers = some.answers; written = some.written }

  any_part : (before : Box) → ServesSome GivesPart moment before of_none → ServesSome GivesPart moment before of_any
  any_part before some = record { objects = some.objects; after = some.after; octets = some.octets; refused = some.refused; gives = tt; answers = some.answers; written = some.written }

  any_cut : (before : Box) → ServesCut moment before of_none → ServesCut moment before of_any
  any_cut before h = record {
    objects = h.objects;
    last = h.last;
    mid = h.mid;
    after = h.after;
    octets = h.octets;
    answer = h.answer;
    refused = h.refused;
    one = h.one;
    cut = h.cut;
    gives = tt;
    answers = h.answers;
    answered = h.answered;
    some = h.some;
    written = h.written;
  }

  any_until : (before : Box) (fault : ServeFault) → ServesUntil most moment before of_none fault → ServesUntil most moment before of_any fault
  any_until before Read h = (any_read before h.0, tt)
  any_until before Memory h = (any_part before h.0, tt)
  any_until before TooLong h = (any_read before h.0, tt)
  any_until before Write h = (any_cut before h.0, tt)

  any_books : (before : Box) (news : Books) (r : Result ServeReport ServeFault) → BooksServe most moment before news of_none r → BooksServe most moment before news of_any r
  any_books before news (Ok report) (after, hosted, all) = (after, hosted, any_all before after report all)
  any_books before news (Err fault) h = any_until before fault h

  any_tells : (before : Box) (news : Books) (r : Result ServeReport ServeFault) → IfOk r (λ report. (after : Box) × AreBooksOf news after × TellsAll Tells told_old told_new moment before after of_none report)
      → IfOk r (λ report. (after : Box) × AreBooksOf news after × TellsAll Tells told_old told_new moment before after of_any report)
  any_tells before news (Ok report) (after, hosted, all) =
      (after, hosted, record { objects = all.objects; octets = all.octets; fates = all.fates; are = tt; answers = all.answers; written = all.written; told = all.told; counted = all.counted })
  any_tells before news (Err fault) h = tt

  any_bound : (r : Result ServeReport ServeFault) → IfErr r (StopsWithin most None left)
  any_bound (Ok report) = tt
  any_bound (Err Read) = tt
  any_bound (Err Memory) = tt
  any_bound (Err TooLong) = tt
  any_bound (Err Write) = tt

  pub any_served : (olds news : Books) (fills_old fills_new : ℕ) (r : Result ServeReport ServeFault) → ServesBooks Tells told_old told_new most moment olds news fills_old fills_new output written r None None
      → ServesBooks Tells told_old told_new most moment olds news fills_old fills_new output written r None left
  any_served olds news fills_old fills_new r h = record {
    serves = λ before have. any_books before news r (h.serves before have);
    tells = λ before have. any_tells before news r (h.tells before have);
    fills = tt;
    bound = any_bound r;
  }
