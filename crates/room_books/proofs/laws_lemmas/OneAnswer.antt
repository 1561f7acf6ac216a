-- Over every run the answers stay, and no part is answered twice.
-- Cited by answers_stay.
use Rattle.std.proofs.Common.{◌≡◌, ℕ, List, [], ◌∷◌, Option, sym, subst}
use Rattle.std.specs.List.{Contains}
use Rattle.std.proofs.lemmas.List.Elements.{Contains-append_left}
use Rattle.profile.specs.rooms.Rooms.{PartAnswer, Book, empty_book, asked, answered, Delivery, Runs}
use Rattle.profile.specs.series.Zones.{Zone}
use Rattle.profile.specs.streams.Streams.{IsDelivered}
use Rattle.room_books.proofs.texts_lemmas.Keeping.{one_answer}
use Rattle.room_books.proofs.laws_lemmas.KeptRuns.{runs_keep}

-- ---- they stay

pub answers_stay : (before : Book) (ds : List Delivery) (after : Book) → Runs before ds after → (a : PartAnswer) → Contains before.answers a → Contains after.answers a
answers_stay before [] after r a c = subst (λ (book : Book). Contains book.answers a) (sym r) c
answers_stay before (d ∷ ds) after r a c =
    let more = answered d.moment r.1 (asked before.taken r.0.taken d.claims) in
    answers_stay r.0 ds after r.3 a (subst (λ (l : List PartAnswer). Contains l a) (sym r.2.answers) (Contains-append_left before.answers more a c))

-- ---- one for a part

abbrev pub AnsweredOnce : List PartAnswer → Type 0
AnsweredOnce answers = (a b : PartAnswer) → Contains answers a → Contains answers b → a.claim.part ≡ b.claim.part → a ≡ b

pub answered_once : (room : List ℕ) (zone : Option Zone) (ds : List Delivery) (book : Book) → ((d : Delivery) → Contains ds d → IsDelivered room zone d) → Runs empty_book ds book → AnsweredOnce book.answers
answered_once room zone ds book f r a b c d e = one_answer book.answers a b (runs_keep room zone ds book f r).once c d e
