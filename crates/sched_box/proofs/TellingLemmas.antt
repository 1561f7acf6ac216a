-- Who is told of one file after another.
use Rattle.std.proofs.Common.{◌≡◌, ◌↔◌, ◌∙◌, ◌∷◌, ◌++◌, ℕ, ℤ, Bool, true, false, not, List, [], map, Option, Some, IfOk, IsTrue, OnOk, Result, Ok, Err, Vec, Global, String, string_bytes, refl, sym, ap, subst, true≢false}
use Rattle.std.proofs.lemmas.List.{map-append}
use Rattle.std.specs.Option.{unwrap_or}
use Rattle.profile.specs.streams.Folders.{AreMessageFiles, AreNames, Image}
use Rattle.profile.specs.streams.Reports.{AllAnswersAs, Fate}
use Rattle.profile.specs.streams.Streams.{Box, Config, new_box}
use Rattle.sched_box.specs.Books.{AreBooksOf}
use Rattle.sched_box.specs.Running.{file_of}
use Rattle.sched_box.specs.Serving.{TellsAll}
use Rattle.sched_box.specs.Telling.{AllFilesTold, AllPassed, FilesTold, IsNew, IsPassed, TellsInbox, TellsObjects, TellsOctets}
use Rattle.sched_box.specs.declared.books.Books.{Books}
use Rattle.sched_box.specs.declared.file_names.MessageName.{MessageName}
use Rattle.sched_box.specs.declared.folders.BoxFault.{BoxFault}
use Rattle.sched_box.specs.declared.folders.BoxReport.{BoxReport}
use Rattle.sched_box.specs.declared.serving.ServeReport.{ServeReport}

-- ---- one file

-- of octets that were served to a list, from nothing on
pub octets_told : {Told : Type 0} (Tells : Told → ℕ → List ℕ → Fate → Told → Type 0) (old new : Told) (moment : ℤ) (octets : List ℕ) (before : Box) (news : Books) (left : Option (List ℕ)) (first sent : List ℕ) (report : ServeReport) → first ≡ []
    → (after : Box) × AreBooksOf news after × TellsAll Tells old new moment before after (record { input = Some octets; left = left; output = Some first; written = Some sent }) report
    → (after : Box) × AreBooksOf news after × TellsObjects Tells old new moment octets before after sent
octets_told Tells old new moment octets before news left first sent report none (after, hosted, tells) =
    let is : sent ≡ tells.octets = tells.written ∙ ap (λ z. z ++ tells.octets) none in
    let P : List ℕ → Type 0 = λ z. AllAnswersAs moment 1 tells.objects before after z tells.fates in
    (after, hosted, record { objects = tells.objects; fates = tells.fates; are = tells.are; became = subst P (sym is) tells.answers; told = tells.told })

-- the octets of a message are those that the inbox holds under its name
pub message_told : {Told : Type 0} (Tells : Told → ℕ → List ℕ → Fate → Told → Type 0) (old new : Told) (known : Bool) (image : Image) (name : MessageName) (olds news : Books) (octets : List ℕ) (r : Result (Vec ℕ Global) BoxFault) (moment : ℤ)
    → moment ≡ name.moment → (known ≡ true → image (string_bytes name.name) ≡ Some octets) → IfOk r (λ answers. TellsOctets Tells old new moment octets olds news answers.items)
    → IfOk r (λ answers. known ≡ true → TellsOctets Tells old new name.moment (file_of image name).octets olds news answers.items)
message_told Tells old new known image name olds news octets (Err e) moment same held h = tt
message_told Tells old new known image name olds news octets (Ok answers) moment same held h = λ t.
    let is : octets ≡ unwrap_or (image (string_bytes name.name)) [] = sym (ap (λ o. unwrap_or o []) (held t)) in
    let P : List ℕ → Type 0 = λ o. TellsOctets Tells old new name.moment o olds news answers.items in
    let Q : ℤ → Type 0 = λ m. TellsOctets Tells old new m octets olds news answers.items in
    subst P is (subst Q same h)

pub not_among : (b : Bool) (P : Type 0) → (IsTrue b ↔ P) → IsTrue (not b) ↔ (P → ⊥)
not_among true P h = (λ e p. absurd (true≢false (sym e)), λ no. absurd (no (h.0 refl)))
not_among false P h = (λ e p. absurd (true≢false (sym (h.1 p))), λ no. refl)

pub on_ok_then : {T E : Type 0} (r : Result T E) (P Q : Type 0) → (P → Q) → OnOk r P → OnOk r Q
on_ok_then (Ok x) P Q then h = then h
on_ok_then (Err e) P Q then h = tt

-- ---- one more file

pub no_file_told : {Told : Type 0} (Begins : Told → List ℕ → Bool → Told → Type 0) (Tells : Told → ℕ → List ℕ → Fate → Told → Type 0) (inbox : Image) (theirs : List (List ℕ)) (old : Told) (books : Books)
    → FilesTold Begins Tells inbox theirs old [] books books old
no_file_told Begins Tells inbox theirs old books before have = (before, have, (refl, refl))

told_on : {Told : Type 0} (Begins : Told → List ℕ → Bool → Told → Type 0) (Tells : Told → ℕ → List ℕ → Fate → Told → Type 0) (inbox : Image) (theirs : List (List ℕ)) (old : Told) (names more : List MessageName) (before mid after : Box) (so new : Told)
    → AllFilesTold Begins Tells inbox theirs old names before mid so → AllFilesTold Begins Tells inbox theirs so more mid after new → AllFilesTold Begins Tells inbox theirs old (names ++ more) before after new
told_on {Told} Begins Tells inbox theirs old [] more before mid after so new (same, here) rest =
    let P : Told → Type 0 = λ z. AllFilesTold Begins Tells inbox theirs z more before after new in
    let Q : Box → Type 0 = λ b. AllFilesTold Begins Tells inbox theirs so more b after new in
    subst P same (subst Q here rest)
told_on Begins Tells inbox theirs old (n ∷ ns) more before mid after so new (b, m, flag, box, sent, one, two, three, further) rest =
    (b, m, flag, box, sent, one, two, three, told_on Begins Tells inbox theirs m ns more box mid after so new further rest)

-- some files, and then others
pub files_told : {Told : Type 0} (Begins : Told → List ℕ → Bool → Told → Type 0) (Tells : Told → ℕ → List ℕ → Fate → Told → Type 0) (inbox : Image) (theirs : List (List ℕ)) (old so new : Told) (all names more : List MessageName) (olds mids news : Books)
    → all ≡ names ++ more → FilesTold Begins Tells inbox theirs old names olds mids so → FilesTold Begins Tells inbox theirs so more mids news new → FilesTold Begins Tells inbox theirs old all olds news new
files_told {Told} Begins Tells inbox theirs old so new all names more olds mids news all_is first then before have =
    let (mid, hosted, told) = first before have in
    let (after, hosted', rest) = then mid hosted in
    let Q : List MessageName → Type 0 = λ l. AllFilesTold Begins Tells inbox theirs old l before after new in
    (after, hosted', subst Q (sym all_is) (told_on Begins Tells inbox theirs old names more before mid after so new told rest))

-- one file
pub file_told : {Told : Type 0} (Begins : Told → List ℕ → Bool → Told → Type 0) (Tells : Told → ℕ → List ℕ → Fate → Told → Type 0) (inbox : Image) (theirs : List (List ℕ)) (old begun new : Told) (name : MessageName) (olds news : Books) (is_new : Bool) (flag_name : List ℕ) (answers : List ℕ)
    → flag_name ≡ string_bytes name.name → Begins old flag_name is_new begun → IsNew theirs name is_new → TellsOctets Tells begun new name.moment (file_of inbox name).octets olds news answers
    → FilesTold Begins Tells inbox theirs old (name ∷ []) olds news new
file_told {Told} Begins Tells inbox theirs old begun new name olds news is_new flag_name answers name_is begins is tells before have =
    let (after, hosted, objects) = tells before have in
    let R : List ℕ → Type 0 = λ n. Begins old n is_new begun in
    (after, hosted, (begun, new, is_new, after, answers, subst R name_is begins, is, objects, (refl, refl)))

-- ---- the whole inbox

pub inbox_told : {Told : Type 0} (Begins : Told → List ℕ → Bool → Told → Type 0) (Tells : Told → ℕ → List ℕ → Fate → Told → Type 0) (old new : Told) (inbox image outbox now : Image) (hosts : Config) (names : List MessageName) (theirs : List (List ℕ)) (olds news : Books) (r : Result BoxReport BoxFault)
    → image ≡ inbox → now ≡ outbox → AreMessageFiles inbox (map (file_of inbox) names) → AreNames now theirs → AreBooksOf olds (new_box hosts)
    → OnOk r (FilesTold Begins Tells image theirs old names olds news new) → OnOk r (TellsInbox Begins Tells old new inbox outbox hosts)
inbox_told Begins Tells old new inbox image outbox now hosts names theirs olds news (Err e) same held messages there have h = tt
inbox_told Begins Tells old new inbox image outbox now hosts names theirs olds news (Ok report) same held messages there have h =
    let P : Image → Type 0 = λ i. FilesTold Begins Tells i theirs old names olds news new in
    let (after, hosted, told) = subst P same h (new_box hosts) have in
    let Q : Image → Type 0 = λ i. AreNames i theirs in
    record { names = names; theirs = theirs; after = after; messages = messages; there = subst Q held there; told = told }

-- ---- what is left alone

passed_behind : {Told : Type 0} (Passes : Told → List ℕ → Told → Type 0) (old so new : Told) (names : List (List ℕ)) (name : List ℕ)
    → AllPassed Passes old names so → IsPassed Passes so name new → AllPassed Passes old (names ++ name ∷ []) new
passed_behind {Told} Passes old so new [] name same one =
    let P : Told → Type 0 = λ z. IsPassed Passes z name new in
    (new, subst P same one, refl)
passed_behind Passes old so new (n ∷ ns) name (mid, first, more) one = (mid, first, passed_behind Passes mid so new ns name more one)

-- one name more
pub name_passed : {Told A : Type 0} (Passes : Told → List ℕ → Told → Type 0) (old so new : Told) (all names : List (String A)) (name : String A) (octets : List ℕ) → all ≡ names ++ name ∷ [] → octets ≡ string_bytes name
    → AllPassed Passes old (map string_bytes names) so → IsPassed Passes so octets new → AllPassed Passes old (map string_bytes all) new
name_passed {Told} Passes old so new all names name octets all_is is sofar one =
    let P : List (List ℕ) → Type 0 = λ l. AllPassed Passes old l new in
    let Q : List ℕ → Type 0 = λ o. IsPassed Passes so o new in
    let split : map string_bytes all ≡ map string_bytes names ++ string_bytes name ∷ [] = ap (map string_bytes) all_is ∙ map-append string_bytes names (name ∷ []) in
    subst P (sym split) (passed_behind Passes old so new (map string_bytes names) (string_bytes name) sofar (subst Q is one))
