-- Over every run each part was asked for by some octets, and no part is answered twice.
-- Behind answers_stay, kept_texts_pass, kept_texts_spell, served_texts_pass.
use Rattle.std.proofs.Common.{◌≡◌, ◌≢◌, ◌∙◌, ℕ, ℤ, Bool, true, false, filter, List, [], ◌∷◌, Option, refl, sym, subst, inl, inr}
use Rattle.std.specs.Prelude.{AllPairs, if◌then◌else◌}
use Rattle.std.specs.declared.cmp.Ordering.TheVariants.{Less, Equal}
use Rattle.std.specs.List.{Contains, list_any}
use Rattle.std.proofs.lemmas.Bool.{and_parts, both_ways}
use Rattle.std.proofs.lemmas.Cmp.{tied_itself}
use Rattle.std.proofs.lemmas.List.Elements.{Contains-append_cases}
use Rattle.profile.specs.events.EventComponents.{EventComponent}
use Rattle.profile.specs.rooms.Messages.{Content, Outcome, is_addressed, is_for, is_part_for, parts_for}
use Rattle.profile.specs.events.Messages.{Message, SpellsMessage, is_to_rooms}
use Rattle.profile.specs.rooms.Revisions.{Part, Slot, in_view, slot_cmp}
use Rattle.profile.specs.rooms.Rooms.{Claim, PartAnswer, Book, empty_book, is_set, parts_of, asked, answered, IsStep, Delivery, Runs}
use Rattle.profile.specs.series.Zones.{Zone}
use Rattle.profile.specs.streams.Streams.{IsDelivered, IsClaim, AreClaims}
use Rattle.cal_events.proofs.shared_lemmas.InOneOrder.{head_pairs, tail_pairs, of_filtered}
use Rattle.itip_order.proofs.Lists.{in_head, in_tail, none_in_nil}
use Rattle.itip_order.proofs.Order.{slot_total}
use Rattle.room_books.proofs.shared_lemmas.Views.{view_back}
use Rattle.room_books.proofs.laws_lemmas.Runs.{IsSound, step_sound, new_answer, runs_good}
use Rattle.itip_messages.proofs.law_lemmas.PartTexts.{IsAsked}
use Rattle.room_books.proofs.laws_lemmas.KeptAnswers.{IsAskedFor}
use Rattle.room_books.proofs.shared_lemmas.SlotsApart.{OtherPart, new_once}
use Rattle.room_books.specs.Room.{Pairwise}
use Rattle.room_books.proofs.shared_lemmas.Loops.{zip_from}
use Rattle.room_books.proofs.shared_lemmas.Pairs.{pairs_append, map_at}

-- ---- what a delivery claims

-- a delivery's claims: its octets ask for each, and each is of another part
pub record AllAsked (room : List ℕ) (zone : Option Zone) (claims : List Claim) : Type 0 where
  pub each : (c : Claim) → Contains claims c → IsAskedFor room zone c
  pub differ : Pairwise (λ a b. a.part ≢ b.part) claims

abbrev SlotsAscend : Claim → Claim → Type 0
SlotsAscend a b = slot_cmp a.part.slot b.part.slot ≡ Less

parts_differ : (claims : List Claim) → AllPairs SlotsAscend claims → Pairwise (λ (a b : Claim). a.part ≢ b.part) claims
parts_differ [] up = tt
parts_differ (c ∷ claims) up = (
  λ d k same. not_less d.part.slot (subst (λ (p : Part). slot_cmp p.slot d.part.slot ≡ Less) same (head_pairs SlotsAscend c d claims up k)),
  parts_differ claims (tail_pairs SlotsAscend c claims up),
)
  where
    not_less : (o : Slot) → slot_cmp o o ≡ Less → ⊥
    not_less o l = let e = tied_itself slot_total o in let x : Less ≡ Equal = sym l ∙ e in cc

module _ (room : List ℕ) (zone : Option Zone) (octets : List ℕ) (given : Message) (s : SpellsMessage octets given) where
  -- an event of a message to rooms
  abbrev IsAmong : EventComponent → Type 0
  IsAmong event = (is_to_rooms given.method ≡ true) × Contains given.events event

  asked_for : (event : EventComponent) (claim : Claim) → IsAmong event → IsClaim room zone given event claim → IsAskedFor room zone claim
  asked_for event claim c is = record {
    asked = record { octets = octets; given = given; spells = s; zone = zone; to_rooms = c.0; event = event; among = c.1; is_part = is.part };
    in_zone = refl;
    books = is.asks;
  }

  is_among : (event : EventComponent) → Contains (parts_for room given) event → IsAmong event
  is_among event c = by (is_addressed room given) refl c
    where
      by : (b : Bool) → is_addressed room given ≡ b → Contains (if b then filter (is_part_for room given.method) given.events else []) event → IsAmong event
      by true addressed c =
          ((and_parts (is_to_rooms given.method) (list_any (is_for room given.method) given.events) addressed).0, (of_filtered (is_part_for room given.method) given.events event c).0)
      by false addressed c = absurd (none_in_nil event c)

  pub all_asked : (claims : List Claim) → AreClaims room zone given claims → AllAsked room zone claims
  all_asked claims h = record {
    each = λ c k.
        let (event, among, is) = zip_from (IsClaim room zone given) (parts_for room given) h.all c h.each (h.are.among c k) in
        asked_for event c (is_among event among) is;
    differ = parts_differ claims h.are.order;
  }

pub delivered_asked : (room : List ℕ) (zone : Option Zone) (d : Delivery) → IsDelivered room zone d → AllAsked room zone d.claims
delivered_asked room zone d h = all_asked room zone h.octets h.message h.spells d.claims h.are

-- ---- a step

-- what holds of each book that is reached
pub record KeepsAll (room : List ℕ) (zone : Option Zone) (book : Book) : Type 0 where
  pub sound : IsSound book
  pub taken : (p : Part) → Contains book.taken p → (content : Content) × (a : IsAsked room content p) × (a.zone ≡ zone)
  pub each : (a : PartAnswer) → Contains book.answers a → IsAskedFor room zone a.claim
  pub set : (a : PartAnswer) → Contains book.answers a → is_set a.claim.part ≡ true
  pub once : Pairwise OtherPart book.answers

-- a step with claims that octets ask for
pub keeps_step : (room : List ℕ) (zone : Option Zone) (before : Book) (claims : List Claim) (moment : ℤ) (outcome : Outcome) (after : Book) → AllAsked room zone claims → IsStep before claims moment outcome after → KeepsAll room zone before → KeepsAll room zone after
keeps_step room zone before claims moment outcome after all s k =
    let new : List PartAnswer = answered moment outcome (asked before.taken after.taken claims) in
    let is_new = λ (a : PartAnswer) (c : Contains new a). new_answer before.taken after.taken moment outcome claims a c in
    let split = λ (a : PartAnswer) (c : Contains after.answers a). Contains-append_cases before.answers new a (subst (λ (l : List PartAnswer). Contains l a) s.answers c) in
    let across : (x y : PartAnswer) → Contains before.answers x → Contains new y → OtherPart x y = λ x y old fresh e.
    let n = is_new y fresh in
    let known = subst (λ (p : Part). Contains before.taken p) e (k.sound.known x old) in
    both_ways _ n.gone (view_back before.taken (parts_of claims) y.claim.part known (subst (λ (t : List Part). in_view t y.claim.part ≡ true) s.taken n.seen)) in
    record {
      sound = step_sound before claims moment outcome after s k.sound;
      taken = λ p c. elim (Contains-append_cases before.taken (parts_of claims) p (subst (λ (l : List Part). Contains l p) s.taken c)) [
        | inl old ↦ k.taken p old
        | inr fresh ↦
            let found = map_at (λ (x : Claim). x.part) claims p fresh in
            let own = all.each found.0 found.1 in
            subst (λ (q : Part). (content : Content) × (a : IsAsked room content q) × (a.zone ≡ zone)) found.2 (found.0.content, own.asked, own.in_zone)
      ];
      each = λ a c. elim (split a c) [ inl old ↦ k.each a old | inr fresh ↦ all.each a.claim (is_new a fresh).among ];
      set = λ a c. elim (split a c) [ inl old ↦ k.set a old | inr fresh ↦ (is_new a fresh).set ];
      once = subst (Pairwise OtherPart) (sym s.answers) (pairs_append OtherPart before.answers new k.once (new_once moment outcome before.taken after.taken claims all.differ) across);
    }

pub keeps_none : (room : List ℕ) (zone : Option Zone) → KeepsAll room zone empty_book
keeps_none room z = record {
  sound = record {
    known = λ a c. absurd (none_in_nil a c);
    good = runs_good [] empty_book refl;
  };
  taken = λ p c. absurd (none_in_nil p c);
  each = λ a c. absurd (none_in_nil a c);
  set = λ a c. absurd (none_in_nil a c);
  once = tt;
}

keeps_run : (room : List ℕ) (zone : Option Zone) (before : Book) (ds : List Delivery) (after : Book) → ((d : Delivery) → Contains ds d → IsDelivered room zone d) → Runs before ds after → KeepsAll room zone before → KeepsAll room zone after
keeps_run room z before [] after f r k = subst (KeepsAll room z) (sym r) k
keeps_run room zone before (d ∷ ds) after f r k =
    keeps_run room zone r.0 ds after (λ x c. f x (in_tail d ds x c)) r.3 (keeps_step room zone before d.claims d.moment r.1 r.0 (delivered_asked room zone d (f d (in_head d ds))) r.2 k)

pub runs_keep : (room : List ℕ) (zone : Option Zone) (ds : List Delivery) (book : Book) → ((d : Delivery) → Contains ds d → IsDelivered room zone d) → Runs empty_book ds book → KeepsAll room zone book
runs_keep room zone ds book f r = keeps_run room zone empty_book ds book f r (keeps_none room zone)
