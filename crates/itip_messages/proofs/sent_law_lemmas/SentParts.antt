-- Events that are said again make the same parts for each room.
-- Behind requests_read_back.
use Rattle.std.proofs.Common.{◌≡◌, ◌∙◌, refl, sym, ap, ap₂, subst, ℕ, Bool, true, false, not, ◌&&◌, ◌||◌, cond, List, [], ◌∷◌, length, map, filter, Option, Some, is_some, ℤ}
use Rattle.std.specs.Prelude.{◌==◌, option_map}
use Rattle.std.specs.List.{list_any, AllZip}
use Rattle.std.specs.Str.{bytes_eq}
use Rattle.std.proofs.lemmas.Slice.Eq.{bytes_eq-Decides}
use Rattle.profile.specs.events.EventComponents.{Attendee, EventComponent, Request}
use Rattle.profile.specs.events.Events.{is_master}
use Rattle.profile.specs.events.Messages.{counted, master_in}
use Rattle.profile.specs.events.Occurrences.{Time}
use Rattle.profile.specs.events.Placed.{IsAt}
use Rattle.profile.specs.events.Properties.{BothOrNeither}
use Rattle.profile.specs.rooms.Messages.{AreParts, Content, IsBody, IsContent, IsPart, is_for, is_part_for, names_room, own_revision, parts_for, raised_to}
use Rattle.profile.specs.rooms.Revisions.{Absent, Body, Cancelled, Part, Set}
use Rattle.profile.specs.series.Zones.{Zone}
use Rattle.itip_messages.specs.SentLaw.{attendee_at, request_of}

-- what two events have alike that make the same parts
pub record IsAlike (a b : EventComponent) : Type 0 where
  pub organiser : a.organiser ≡ b.organiser
  pub uid : a.uid ≡ b.uid
  pub recurrence : a.recurrence ≡ b.recurrence
  pub slot : a.written.recurrence ≡ b.written.recurrence
  pub cancelled : a.cancelled ≡ b.cancelled
  pub revision : own_revision a ≡ own_revision b
  pub names : (room : List ℕ) → names_room room a ≡ names_room room b
  pub content : (content : Content) → IsContent content a → IsContent content b

-- ---- one part

body_alike : (room : List ℕ) (a b : EventComponent) → IsAlike a b → (content : Content) (body : Body) → IsBody room Request a content body → IsBody room Request b content body
body_alike room a b h content (Set octets) (stays, names, when, is) = (ap (λ x. false || x) (sym h.cancelled) ∙ stays, sym (h.names room) ∙ names, h.content content when, is)
body_alike room a b h content Absent (stays, names, is) = (ap (λ x. false || x) (sym h.cancelled) ∙ stays, sym (h.names room) ∙ names, is)
body_alike room a b h content Cancelled (gone, is) = (ap (λ x. false || x) (sym h.cancelled) ∙ gone, is)

whole_alike : (xs ys : List EventComponent) → AllZip IsAlike xs ys → option_map own_revision (master_in xs) ≡ option_map own_revision (master_in ys)
whole_alike [] [] z = refl
whole_alike [] (y ∷ ys) z = absurd z
whole_alike (x ∷ xs) [] z = absurd z
whole_alike (x ∷ xs) (y ∷ ys) z = by (is_master x) (is_master y) (ap (λ (o : Option ℤ). not (is_some o)) z.0.recurrence) (whole_alike xs ys z.1)
  where
    by : (a b : Bool) → a ≡ b → option_map own_revision (master_in xs) ≡ option_map own_revision (master_in ys) → option_map own_revision (cond a (Some x) (master_in xs)) ≡ option_map own_revision (cond b (Some y) (master_in ys))
    by true true e rest = ap Some z.0.revision
    by false false e rest = rest
    by true false e rest = cc
    by false true e rest = cc

module _ (room organiser uid : List ℕ) (xs ys : List EventComponent) (z : AllZip IsAlike xs ys) where
  abbrev IsPartOf : Option Zone → List EventComponent → EventComponent → Part → Type 0
  IsPartOf zone events event part = (content : Content) × IsPart room zone (request_of organiser uid events) event content part

  part_alike : (zone : Option Zone) (a b : EventComponent) (part : Part) → IsAlike a b → IsPartOf zone xs a part → IsPartOf zone ys b part
  part_alike zone a b part h (content, p) = (
    content,
    record {
      organiser = sym h.organiser ∙ p.organiser;
      uid = p.uid ∙ h.uid;
      slot = (p.slot.0, subst (λ (o : Option Time). BothOrNeither (IsAt zone) o p.slot.0) h.slot p.slot.1, p.slot.2);
      revision = p.revision ∙ ap₂ raised_to (whole_alike xs ys z) h.revision;
      body = body_alike room a b h content part.body p.body;
    },
  )

  -- ---- the events that are parts

  all_pass : (events : List EventComponent) → filter (is_part_for room Request) events ≡ events
  all_pass [] = refl
  all_pass (e ∷ events) = ap (λ l. e ∷ l) (all_pass events)

  any_alike : (as_said again : List EventComponent) → AllZip IsAlike as_said again → list_any (is_for room Request) as_said ≡ list_any (is_for room Request) again
  any_alike [] [] w = refl
  any_alike [] (b ∷ again) w = absurd w
  any_alike (a ∷ as_said) [] w = absurd w
  any_alike (a ∷ as_said) (b ∷ again) w = λ i. (w.0.names room i || (false && length a.attendees == 0)) || any_alike as_said again w.1 i

  parts_are : (events : List EventComponent) → parts_for room (request_of organiser uid events) ≡ cond (list_any (is_for room Request) events) events []
  parts_are events = ap (λ l. cond (list_any (is_for room Request) events) l []) (all_pass events)

  parts_zip : AllZip IsAlike (parts_for room (request_of organiser uid xs)) (parts_for room (request_of organiser uid ys))
  parts_zip =
      let by : (a b : Bool) → a ≡ b → AllZip IsAlike (cond a xs []) (cond b ys []) = λ a b e. subst (λ c. AllZip IsAlike (cond a xs []) (cond c ys [])) e (same a) in
      subst (λ (l : List EventComponent). AllZip IsAlike l (parts_for room (request_of organiser uid ys))) (sym (parts_are xs))
      (subst (λ (l : List EventComponent). AllZip IsAlike (cond (list_any (is_for room Request) xs) xs []) l) (sym (parts_are ys)) (by _ _ (any_alike xs ys z)))
    where
      same : (a : Bool) → AllZip IsAlike (cond a xs []) (cond a ys [])
      same true = z
      same false = tt

each_again : (R S : EventComponent → Part → Type 0) → ((x y : EventComponent) (part : Part) → IsAlike x y → R x part → S y part) → (xs ys : List EventComponent) (parts : List Part) → AllZip IsAlike xs ys → AllZip R xs parts → AllZip S ys parts
each_again R S f [] [] [] z r = tt
each_again R S f [] [] (p ∷ parts) z r = absurd r
each_again R S f [] (y ∷ ys) parts z r = absurd z
each_again R S f (x ∷ xs) [] parts z r = absurd z
each_again R S f (x ∷ xs) (y ∷ ys) [] z r = absurd r
each_again R S f (x ∷ xs) (y ∷ ys) (p ∷ parts) z r = (f x y p z.0 r.0, each_again R S f xs ys parts z.1 r.1)

pub same_parts : (room organiser uid : List ℕ) (xs ys : List EventComponent) → AllZip IsAlike xs ys → (zone : Option Zone) (parts : List Part)
    → AreParts room zone (request_of organiser uid xs) parts → AreParts room zone (request_of organiser uid ys) parts
same_parts room organiser uid xs ys z zone parts p = record {
  all = p.all;
  each =
      each_again (IsPartOf room organiser uid xs ys z zone xs) (IsPartOf room organiser uid xs ys z zone ys) (part_alike room organiser uid xs ys z zone) (parts_for room (request_of organiser uid xs))
      (parts_for room (request_of organiser uid ys)) p.all (parts_zip room organiser uid xs ys z) p.each;
  are = p.are;
}

-- ---- who is named

abbrev names_at : List ℕ → List Attendee → Bool
names_at room attendees = list_any (λ x. bytes_eq x.address room) (map (λ x. attendee_at x.address) attendees)

abbrev other_than : List ℕ → List Attendee → List Attendee
other_than address attendees = filter (λ other. not (bytes_eq address other.address)) attendees

-- without another address the same are named
names_others : (address room : List ℕ) → bytes_eq address room ≡ false → (attendees : List Attendee) → names_at room (other_than address attendees) ≡ names_at room attendees
names_others address room e [] = refl
names_others address room e (x ∷ attendees) = pass (bytes_eq address x.address) refl (names_others address room e attendees)
  where
    pass : (c : Bool) → bytes_eq address x.address ≡ c → names_at room (other_than address attendees) ≡ names_at room attendees
        → names_at room (cond (not c) (x ∷ other_than address attendees) (other_than address attendees)) ≡ (bytes_eq x.address room || names_at room attendees)
    pass false d h = ap (λ b. bytes_eq x.address room || b) h
    pass true d h = h ∙ ap (λ b. b || names_at room attendees) (sym (subst (λ (a : List ℕ). bytes_eq a room ≡ false) ((bytes_eq-Decides address x.address).0 d) e))

-- of those that count each is named that is named by any
counts : (room : List ℕ) (attendees : List Attendee) → names_at room (counted attendees) ≡ list_any (λ a. bytes_eq a.address room) attendees
counts room [] = refl
counts room (a ∷ more) = by (bytes_eq a.address room) refl (counts room more)
  where
    by : (b : Bool) → bytes_eq a.address room ≡ b → names_at room (counted more) ≡ list_any (λ x. bytes_eq x.address room) more
        → (b || names_at room (other_than a.address (counted more))) ≡ (b || list_any (λ x. bytes_eq x.address room) more)
    by true e h = refl
    by false e h = names_others a.address room e (counted more) ∙ h

pub names_same : (room : List ℕ) (event sent : EventComponent) → sent.attendees ≡ map (λ attendee. attendee_at attendee.address) (counted event.attendees) → names_room room sent ≡ names_room room event
names_same room event sent e = ap (list_any (λ a. bytes_eq a.address room)) e ∙ counts room event.attendees
