-- The organisers of a box stay, whatever it answers, and what one shows is of its book.
use Rattle.std.proofs.Common.{◌≡◌, inl, inr, ℕ, ℤ, Bool, true, false, List, [], ◌∷◌, ◌+◌, map, Ok, Contains, refl, sym, ap, subst, ◌∙◌}
use Rattle.std.proofs.lemmas.List.{map-append}
use Rattle.cal_events.proofs.shared_lemmas.SeriesLemmas.{zip_with}
use Rattle.profile.specs.events.Messages.{Message, is_to_rooms}
use Rattle.profile.specs.organisers.Organisers.{OrganiserBook, ShowsMeetings}
use Rattle.profile.specs.streams.Streams.{AllAnswers, Answers, Box, Config, HostedOrganiser, IsTaken, StepsFor, new_box}
use Rattle.organiser_books.specs.Representation.{Keeps, address_of}
use Rattle.organiser_books.specs.declared.organiser.Organiser.{Organiser}
use Rattle.sched_box.specs.declared.books.Books.{Books}
use Rattle.sched_box.specs.declared.serving.ServeReport.{ServeReport}
use Rattle.sched_box.specs.Meetings.{KeepsMeetings}
use Rattle.sched_box.specs.Organising.{AreKeptBy, IsKeptBy, organiser_addresses}
use Rattle.sched_box.specs.Serving.{BooksServe, Ends}

abbrev addresses_in : List HostedOrganiser → List (List ℕ)
addresses_in = map (λ hosted. hosted.address)

taken_stay : (moment : ℤ) (said : Message) (before after : List HostedOrganiser) (octets : List ℕ) → IsTaken moment said before after octets → addresses_in after ≡ addresses_in before
taken_stay moment said before after octets taken =
    let changed : HostedOrganiser = record taken.host { book = taken.book } in
    ap addresses_in taken.to_these
    ∙ map-append (λ (h : HostedOrganiser). h.address) taken.others_before (changed ∷ taken.others_behind)
    ∙ sym (map-append (λ (h : HostedOrganiser). h.address) taken.others_before (taken.host ∷ taken.others_behind))
    ∙ ap addresses_in (sym taken.of_these)

step_stays : (to_rooms : Bool) (moment : ℤ) (said : Message) (before after : Box) (octets : List ℕ) → StepsFor to_rooms moment said before after octets
    → addresses_in after.organisers ≡ addresses_in before.organisers
step_stays true moment said before after octets step = ap addresses_in step.1
step_stays false moment said before after octets step = taken_stay moment said before.organisers after.organisers octets step.0

answer_stays : (moment : ℤ) (k : ℕ) (object : List ℕ) (before after : Box) (octets : List ℕ) (refused : ℕ) → Answers moment k object before after octets refused
    → addresses_in after.organisers ≡ addresses_in before.organisers
answer_stays moment k object before after octets refused (inl (said, spells, step, none)) = step_stays (is_to_rooms said.method) moment said before after octets step
answer_stays moment k object before after octets refused (inr (n, fault, same, line, one)) = ap (λ (b : Box). addresses_in b.organisers) same

organisers_stay : (moment : ℤ) (k : ℕ) (objects : List (List ℕ)) (before after : Box) (octets : List ℕ) (refused : ℕ) → AllAnswers moment k objects before after octets refused
    → addresses_in after.organisers ≡ addresses_in before.organisers
organisers_stay moment k [] before after octets refused (same, none, zero) = ap (λ (b : Box). addresses_in b.organisers) same
organisers_stay moment k (object ∷ objects) before after octets refused (mid, first, rest, one, more, is, sum, answer, answers) =
    organisers_stay moment (k + 1) objects mid after rest more answers ∙ answer_stays moment k object before mid first one answer

kept_addresses : (organisers : List Organiser) (hosted : List HostedOrganiser) → AreKeptBy organisers hosted → organiser_addresses organisers ≡ addresses_in hosted
kept_addresses [] [] are = refl
kept_addresses [] (h ∷ hs) are = absurd are
kept_addresses (o ∷ os) [] are = absurd are
kept_addresses (o ∷ os) (h ∷ hs) are = ap (λ a. a ∷ organiser_addresses os) (sym are.0.at) ∙ ap (λ l. h.address ∷ l) (kept_addresses os hs are.1)

-- who was hosted at first still is
pub hosted_still : (moment : ℤ) (hosts : Config) (news : Books) (ends : Ends) (report : ServeReport) (address : List ℕ) → BooksServe 1_073_741_824 moment (new_box hosts) news ends (Ok report)
    → Contains hosts.organisers address → Contains (organiser_addresses news.organisers.organisers.items) address
hosted_still moment hosts news ends report address (after, books, all) among =
    let first : addresses_in (new_box hosts).organisers ≡ hosts.organisers = names_of hosts.organisers in
    let stay = kept_addresses news.organisers.organisers.items after.organisers books.organisers ∙ organisers_stay moment 1 all.objects (new_box hosts) after all.octets report.refused all.answers ∙ first in
    subst (λ l. Contains l address) (sym stay) among
  where
    names_of : (xs : List (List ℕ)) → addresses_in (new_box (record { rooms = []; organisers = xs })).organisers ≡ xs
    names_of [] = refl
    names_of (x ∷ xs) = ap (λ l. x ∷ l) (names_of xs)

-- what an organiser shows is of its book
pub keeps_meetings : (moment : ℤ) (hosts : Config) (news : Books) (ends : Ends) (report : ServeReport) (organiser : Organiser) (address texts : List ℕ)
    → BooksServe 1_073_741_824 moment (new_box hosts) news ends (Ok report) → Contains news.organisers.organisers.items organiser → address_of organiser ≡ address
    → ((book : OrganiserBook) → Keeps organiser book → ShowsMeetings (address_of organiser) book texts)
    → KeepsMeetings moment hosts ends.input ends.left address texts
keeps_meetings moment hosts news ends report organiser address texts (after, books, all) among is shows =
    let (kept, has, by) = zip_with IsKeptBy news.organisers.organisers.items after.organisers organiser books.organisers among in
    record {
      objects = all.objects;
      after = after;
      octets = all.octets;
      refused = report.refused;
      kept = kept;
      are = all.are;
      end = all.end;
      bound = all.bound;
      answers = all.answers;
      has = has;
      at = by.at ∙ is;
      shows = subst (λ a. ShowsMeetings a kept.book texts) is (shows kept.book by.keeps);
    }
