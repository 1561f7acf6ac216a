-- The reply gives the answers that the book of the meeting has.
-- Cited by reply_of, reply_to, write_answer, write_answers.
use Rattle.std.proofs.Common.{◌≡◌, ◌∙◌, ℕ, ◌+◌, ◌<◌, true, not, ◌&&◌, List, [], ◌∷◌, ◌++◌, take, length, get_or, map, codes, Some, sym, ap, subst, arith}
use Rattle.std.specs.Prelude.{IsTrue, ◌==◌}
use Rattle.std.specs.List.{AllZip, Contains, flat_map}
use Rattle.std.proofs.lemmas.Bool.{and_parts}
use Rattle.std.proofs.lemmas.Bool.Decides.{nat_tests}
use Rattle.std.proofs.lemmas.List.{length-map}
use Rattle.std.proofs.lemmas.List.Elements.{Contains-get_or}
use denote.Ref.{Bor}
use Rattle.ical_values.specs.Octets.{address_octets}
use Rattle.profile.specs.text.Lines.{folded, written}
use Rattle.profile.specs.rooms.Revisions.{Part, in_view, same_part}
use Rattle.profile.specs.rooms.Messages.{IsReplyEvent, opening_lines}
use Rattle.profile.specs.rooms.Rooms.{Book, is_set, shown}
use Rattle.profile.specs.rooms.Rooms as rooms
use Rattle.profile.specs.rooms.Kept.{Replies, IsReply, ShowsAnswer}
use Rattle.itip_messages.specs.Reply.{WritesLines, IsWrittenEvent}
use Rattle.itip_messages.specs.declared.reply.ReplyEvent.{ReplyEvent}
use Rattle.itip_messages.proofs.shared_lemmas.LineLemmas.{more_lines, whole}
use Rattle.itip_order.specs.Parts.{part_of}
use Rattle.itip_order.proofs.Lasting.{view_one}
use Rattle.itip_order.proofs.Lists.{in_head, in_tail, filter_at, filter_from}
use Rattle.itip_order.proofs.Registers.{same_part_refl}
use Rattle.room_books.specs.declared.meeting.MeetingKey.{MeetingKey}
use Rattle.room_books.specs.declared.kept.Meeting.{Meeting}
use Rattle.room_books.specs.declared.meeting.PartAnswer.{PartAnswer}
use Rattle.room_books.specs.declared.claim.Claim.{Claim}
use Rattle.room_books.specs.Meeting.{outcome_of}
use Rattle.room_books.specs.Taking.{claim_said, claims_said}
use Rattle.room_books.specs.Room.{AreFitting, IsOwn, Meets, answers_in_view}
use Rattle.room_books.specs.Slots.{Reordered}
use Rattle.room_books.specs.Reply.{AreShown, CanTell, AllTell, IsEventIn, ShowsGiven, AreToldIn, WritesAnswers, IsReplyOf}
use Rattle.room_books.proofs.shared_lemmas.Givens.{given_from, given_to}
use Rattle.room_books.proofs.shared_lemmas.Loops.{zip_push, one_more}
use Rattle.room_books.proofs.room_lemmas.Meetings.{same_place_of}
use Rattle.room_books.proofs.reply_lemmas.BySlot.{in_mapped}
use Rattle.room_books.proofs.shared_lemmas.Reordering.{re_back, re_in}

-- ---- lists, place by place

zip_mapped : {X Y Z : Type 0} (f : X → Y) (R : X → Z → Type 0) (Q : Y → Z → Type 0) (xs : List X) (zs : List Z) → ((x : X) (z : Z) → Contains xs x → R x z → Q (f x) z) → AllZip R xs zs → AllZip Q (map f xs) zs
zip_mapped f R Q [] [] h z = tt
zip_mapped f R Q [] (w ∷ zs) h z = absurd z
zip_mapped f R Q (x ∷ xs) [] h z = absurd z
zip_mapped f R Q (x ∷ xs) (w ∷ zs) h z = (h x w (in_head x xs) z.0, zip_mapped f R Q xs zs (λ y v c. h y v (in_tail x xs y c)) z.1)

-- ---- what was written

-- the VEVENT of one part
pub told_line : (room : List ℕ) (answers : List PartAnswer) (part : Part) (event : ReplyEvent) (old new : List ℕ) → IsEventIn room answers part event → WritesLines old new (IsWrittenEvent event) → WritesLines old new (ShowsGiven room answers part)
told_line room answers part event old new e w = (
  w.0,
  record {
    given = e.given;
    kept = e.kept;
    same = e.same;
    shows = subst (λ r. IsReplyEvent r part e.given.moment (outcome_of e.given.outcome) w.0) e.room_is
        (subst (λ m. IsReplyEvent (address_octets event.room.now) part m (outcome_of e.given.outcome) w.0) e.moment (subst (λ o. IsReplyEvent (address_octets event.room.now) part event.moment o w.0) e.outcome (w.1 part e.answers_it)));
  },
  w.2,
)

-- one more part
pub told_more : (room : List ℕ) (answers : List PartAnswer) (all : List (Bor Claim)) (i : ℕ) (claim : Bor Claim) (old mid new : List ℕ) → i < length all → claim ≡ get_or all i claim
    → (AllTell answers all → WritesAnswers room answers (take i all) old mid) → (CanTell answers (part_of claim.now.part) → WritesLines mid new (ShowsGiven room answers (part_of claim.now.part)))
    → AllTell answers all → WritesAnswers room answers (take (i + 1) all) old new
told_more room answers all i claim old mid new h e before one tell =
    let b = before tell in
    let o = one (tell claim (subst (Contains all) (sym e) (Contains-get_or all i claim h))) in
    let R : Bor Claim → List (List ℕ) → Type 0 = λ c lines. ShowsGiven room answers (part_of c.now.part) lines in (
      b.0 ++ o.0 ∷ [],
      subst (λ (l : List (Bor Claim)). AllZip R l (b.0 ++ o.0 ∷ [])) (sym (one_more all i claim h e)) (zip_push R (take i all) b.0 claim o.0 b.1 o.1),
      more_lines folded old mid new b.0 o.0 b.2 o.2,
    )

-- ---- the same answers in another order

can_tell_from : (xs ys : List PartAnswer) (part : Part) → Reordered xs ys → CanTell ys part → CanTell xs part
can_tell_from xs ys part same can = record {
  slot = can.slot;
  given = can.given;
  kept = re_in ys xs (re_back xs ys same) can.given can.kept;
  same = can.same;
  dated = λ other c. can.dated other (re_in xs ys same other c);
}

shows_from : (room : List ℕ) (xs ys : List PartAnswer) (part : Part) (lines : List (List ℕ)) → Reordered xs ys → ShowsGiven room xs part lines → ShowsGiven room ys part lines
shows_from room xs ys part lines same s = record { given = s.given; kept = re_in xs ys same s.given s.kept; same = s.same; shows = s.shows }

told_from : (room : List ℕ) (xs ys : List PartAnswer) (are : List (Bor Claim)) (events : List (List (List ℕ))) → Reordered xs ys → AreToldIn room xs are events → AreToldIn room ys are events
told_from room xs ys [] [] same z = tt
told_from room xs ys [] (e ∷ events) same z = absurd z
told_from room xs ys (c ∷ are) [] same z = absurd z
told_from room xs ys (c ∷ are) (e ∷ events) same z = (shows_from room xs ys (part_of c.now.part) e same z.0, told_from room xs ys are events same z.1)

reply_from : (room : List ℕ) (xs ys : List PartAnswer) (are : List (Bor Claim)) (octets : List ℕ) → Reordered xs ys → (AllTell xs are → IsReplyOf room xs are octets) → AllTell ys are → IsReplyOf room ys are octets
reply_from room xs ys are octets same f tell =
    let r = f (λ claim c. can_tell_from xs ys (part_of claim.now.part) same (tell claim c)) in
    record { events = r.events; each = told_from room xs ys are r.events same r.each; is = r.is }

-- the whole reply
pub reply_whole : (room : List ℕ) (answers : List PartAnswer) (are : List (Bor Claim)) (empty opened mid closed : List ℕ) → empty ≡ [] → opened ≡ empty ++ written (opening_lines (Some (codes "REPLY")))
    → (AllTell answers are → WritesAnswers room answers are opened mid) → closed ≡ mid ++ folded (codes "END:VCALENDAR") → AllTell answers are → IsReplyOf room answers are closed
reply_whole room answers are empty opened mid closed e0 e1 f e2 tell =
    let w = f tell in
    record {
      events = w.0;
      each = w.1;
      is = whole folded (opening_lines (Some (codes "REPLY"))) (flat_map (λ lines. lines) w.0) (codes "END:VCALENDAR") empty opened mid closed e0 e1 w.2 e2;
    }

-- ---- by the book of the meeting

module _ (key : MeetingKey) (own : Book) (meeting : Meeting) (claims : List rooms.Claim) (fitting : AreFitting key claims) (is_own : IsOwn key own) (meets : Meets own key meeting)
    (claim : rooms.Claim) (c : Contains (shown own.taken claims) claim) where
  abbrev part : Part
  part = claim.part

  asked : Contains claims claim × ((is_set part && in_view own.taken part) ≡ true)
  asked = filter_at (λ x. is_set x.part && in_view own.taken x.part) claims claim c

  seen : in_view own.taken part ≡ true
  seen = (and_parts (is_set part) (in_view own.taken part) asked.1).1

  pub can_tell : CanTell meeting.answers.items part
  can_tell =
      let a = meets.answered part (and_parts (is_set part) (in_view own.taken part) asked.1).0 seen in
      let is_viewed = filter_from (λ x. in_view own.taken x.claim.part) own.answers a.0 a.1 (ap (in_view own.taken) a.2 ∙ seen) in
      let g = given_to key own.taken (answers_in_view own.taken own.answers) meeting.answers.items a.0 meets.answers is_viewed in
      record {
        slot = fitting.dated claim asked.0;
        given = g.0;
        kept = g.1;
        same = g.2.slot ∙ ap (λ (p : Part). p.slot) a.2;
        dated = λ other h. (meets.dated other h).outcome;
      }

  pub shows_answer : (room : List ℕ) (lines : List (List ℕ)) → ShowsGiven room meeting.answers.items part lines → ShowsAnswer room own claim lines
  shows_answer room lines s =
      let a = given_from key own.taken (answers_in_view own.taken own.answers) meeting.answers.items s.given meets.answers s.kept in
      let is = filter_at (λ x. in_view own.taken x.claim.part) own.answers a.0 a.1 in
      let place = same_place_of key a.0.claim.part part (is_own.taken a.0.claim.part (is_own.known a.0 is.0)) (fitting.of_it claim asked.0) (sym a.2.slot ∙ s.same) in
      let same = view_one own.taken a.0.claim.part part is.1 seen place in
      record {
        answer = a.0;
        kept = is.0;
        of_part = ap (λ (p : Part). same_part p part) same ∙ same_part_refl part;
        shows = subst (λ m. IsReplyEvent room part m a.0.outcome lines) a.2.moment (subst (λ o. IsReplyEvent room part s.given.moment o lines) a.2.outcome s.shows);
      }

pub all_tell : (key : MeetingKey) (own : Book) (meeting : Meeting) (claims : List Claim) (are : List (Bor Claim)) → AreFitting key (claims_said claims) → IsOwn key own → Meets own key meeting → AreShown own.taken claims are
    → AllTell meeting.answers.items are
all_tell key own meeting claims are f o m s claim c =
    can_tell key own meeting (claims_said claims) f o m (claim_said claim.now) (subst (λ (l : List rooms.Claim). Contains l (claim_said claim.now)) s (in_mapped (λ x. claim_said x.now) are claim c))

pub reply_shows : (room : List ℕ) (key : MeetingKey) (own : Book) (meeting : Meeting) (claims : List Claim) (are : List (Bor Claim)) (octets : List ℕ) → AreFitting key (claims_said claims) → IsOwn key own → Meets own key meeting → AreShown own.taken claims are
    → (AllTell meeting.answers.items are → IsReplyOf room meeting.answers.items are octets) → IsReply room own (claims_said claims) octets
reply_shows room key own meeting claims are octets f o m s r =
    let told = r (all_tell key own meeting claims are f o m s) in
    record {
      events = told.events;
      each = subst (λ (l : List rooms.Claim). AllZip (ShowsAnswer room own) l told.events) s
          (zip_mapped (λ x. claim_said x.now) (λ x lines. ShowsGiven room meeting.answers.items (part_of x.now.part) lines) (ShowsAnswer room own) are told.events
          (λ x lines c given. shows_answer key own meeting (claims_said claims) f o m (claim_said x.now) (subst (λ (l : List rooms.Claim). Contains l (claim_said x.now)) s (in_mapped (λ y. claim_said y.now) are x c)) room lines given) told.each);
      is = told.is;
    }

-- the numbers of those that are shown
some_shown : (n : ℕ) → 0 < n → IsTrue (not (n == 0))
some_shown n h = grind (arith, nat_tests)

pub replies_by : (room : List ℕ) (key : MeetingKey) (own : Book) (meeting : Meeting) (claims : List Claim) (are : List (Bor Claim)) (these : List (Bor Claim)) (answers : List PartAnswer) (octets : List ℕ) → these ≡ are → Reordered answers meeting.answers.items
    → 0 < length are → AreFitting key (claims_said claims) → IsOwn key own → Meets own key meeting → AreShown own.taken claims are
    → (AllTell answers these → IsReplyOf room answers these octets) → Replies room own (claims_said claims) (Some octets)
replies_by room key own meeting claims are these answers octets e a n f o m s r = (
  subst (λ (l : List rooms.Claim). IsTrue (not (length l == 0))) s (some_shown (length (map (λ x. claim_said x.now) are)) (omega (arith, n, length-map are (λ x. claim_said x.now)))),
  reply_shows room key own meeting claims are octets f o m s
      (reply_from room answers meeting.answers.items are octets a (subst (λ (xs : List (Bor Claim)). AllTell answers xs → IsReplyOf room answers xs octets) e r)),
)
