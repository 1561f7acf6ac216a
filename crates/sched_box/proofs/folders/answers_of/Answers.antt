use Rattle.std.proofs.Common.{◌≡◌, ◌∙◌, ℕ, ℤ, Bool, true, Global, List, [], Some, Result, Ok, Err, IfOk, Vec, string_bytes, refl, sym, ap, subst}
use Rattle.std.specs.Option.{unwrap_or}
use Rattle.profile.specs.streams.Folders.{Image}
use Rattle.profile.specs.streams.Streams.{AllAnswers, AreObjects}
use Rattle.sched_box.specs.Running.{AnswersMessage, AnswersOctets}
use Rattle.sched_box.specs.declared.books.Books.{Books}
use Rattle.sched_box.specs.declared.file_names.MessageName.{MessageName}
use Rattle.sched_box.specs.declared.folders.BoxFault.{BoxFault}
use Rattle.sched_box.proofs.TellingLemmas.{message_told}
use Rattle.sched_box.proofs.folders.answers_of.Goals as goal

-- the answers to the octets of a message are those to the message
message_answered : (known : Bool) (image : Image) (name : MessageName) (olds news : Books) (octets : List ℕ) (r : Result (Vec ℕ Global) BoxFault) (moment : ℤ) → moment ≡ name.moment
    → (known ≡ true → image (string_bytes name.name) ≡ Some octets) → IfOk r (λ answers. AnswersOctets moment octets olds news answers.items)
    → IfOk r (λ answers. known ≡ true → AnswersMessage image name olds news answers.items)
message_answered known image name olds news octets (Err e) moment same held h = tt
message_answered known image name olds news octets (Ok answers) moment same held h = λ t before have.
    let (after, there, (objects, refused, are, all)) = h before have in
    let is : octets ≡ unwrap_or (image (string_bytes name.name)) [] = sym (ap (λ o. unwrap_or o []) (held t)) in
    let P : List ℕ → Type 0 = λ o. AreObjects o objects in
    let Q : ℤ → Type 0 = λ m. AllAnswers m 1 objects before after answers.items refused in
    (after, there, record { objects = objects; refused = refused; are = subst P is are; answers = subst Q same all; named = refl })

pub returns-clause-answers : goal.returns-clause-answers
returns-clause-answers g c =
    let image = g.I.Folder.image c.args.inbox.now in
    message_answered (g.I.Folder.is_known c.args.inbox.now) image c.args.file.now c.args.books.now c.answers_to.new.books c.deref.result.now c.answers_to.result c.moment.result c.moment.ensures
    (λ known. ap image (sym c.name.ensures) ∙ c.in_ok-octets.ensures.bytes known ∙ ap Some (sym c.deref.ensures.value)) c.answers_to.ensures.answers

pub returns-clause-tells : goal.returns-clause-tells
returns-clause-tells g c =
    let image = g.I.Folder.image c.args.inbox.now in
    message_told g.J.Journal.tells c.args.journal.now c.answers_to.new.journal (g.I.Folder.is_known c.args.inbox.now) image c.args.file.now c.args.books.now c.answers_to.new.books c.deref.result.now c.answers_to.result c.moment.result c.moment.ensures
    (λ known. ap image (sym c.name.ensures) ∙ c.in_ok-octets.ensures.bytes known ∙ ap Some (sym c.deref.ensures.value)) c.answers_to.ensures.tells
