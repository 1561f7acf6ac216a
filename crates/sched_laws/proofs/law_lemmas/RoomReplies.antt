-- What a room sends in answer to a message that was sent is a REPLY, in which answers of its own are heard; it sends no REFRESH, as no ADD is sent.
-- Behind schedules_hold.
use Rattle.std.proofs.Common.{◌≡◌, ◌∙◌, ℕ, ℤ, Bool, false, List, [], Option, Some, None, inl, inr, refl, sym, ap, subst}
use Rattle.std.specs.Prelude.{Contains}
use Rattle.std.specs.Option.{option_to_list}
use Rattle.std.proofs.lemmas.Bool.{and_parts, not-true, true≢false}
use Rattle.std.proofs.lemmas.List.Elements.{Contains-append_cases}
use Rattle.profile.specs.events.EventComponents.{Reply, meeting_said}
use Rattle.profile.specs.events.Messages.{Message, SpellsMessage}
use Rattle.profile.specs.organisers.Organisers.{Heard, heard_in}
use Rattle.profile.specs.rooms.Kept.{Refreshes, Replies}
use Rattle.profile.specs.rooms.Messages.{is_add}
use Rattle.profile.specs.rooms.Revisions.{Part}
use Rattle.profile.specs.rooms.Rooms.{Book, Claim, shown, wants_whole}
use Rattle.profile.specs.series.RoomZones.{IsRoomZone}
use Rattle.profile.specs.streams.Streams.{AreClaims, Hosted, IsReached, TakesMessage}
use Rattle.profile.specs.streams.Worlds.{World}
use Rattle.profile.specs.text.Lines.{is_too_long}
use Rattle.itip_messages.specs.Law.{IsAnswerTo, SaysAnswerTo, SpellsReply, answer_heard}
use Rattle.itip_order.proofs.Lists.{in_cons, none_in_nil}
use Rattle.itip_order.proofs.Registers.{same_part_is}
use Rattle.room_books.proofs.shared_lemmas.Loops.{zip_from, zip_to}
use Rattle.sched_laws.proofs.law_lemmas.Invariant.{IsAnswerHeard, IsSentIn, SaysSent, a_cancel, a_reply, a_request}
use Rattle.sched_laws.specs.Law.{Laws}

-- what can be read isn't too long
pub not_too_long : (octets : List ℕ) (message : Message) → SpellsMessage octets message → is_too_long octets ≡ false
not_too_long octets message spells = not-true (is_too_long octets) (and_parts _ _ spells.lines).1

-- ---- its reply

module _ (world : World) (host : Hosted) (hosted : Contains world.rooms host) where
  heard_answer : (claims : List Claim) (octets : List ℕ) (r : SpellsReply host.address host.book claims octets) (heard : Heard) → Contains (heard_in r.events) heard
      → IsAnswerHeard world r.organiser r.uid heard
  heard_answer claims octets r heard c =
      let (claim, among, (answer, given, same, is)) = zip_from (IsAnswerTo host.address host.book) claims (heard_in r.events) heard r.heard c in
      let (event, there, says) = zip_to (SaysAnswerTo host.address host.book) claims r.events claim r.says among in
      let equal = same_part_is answer.claim.part claim.part same in
      let meeting = sym (ap meeting_said says.3) ∙ r.spells.says.are.of_it event there in
      record {
        room = host;
        hosted = hosted;
        answer = answer;
        given = given;
        of_organiser = ap (λ (p : Part). p.organiser) equal ∙ ap (λ (m : List ℕ × List ℕ). m.0) meeting;
        of_uid = ap (λ (p : Part). p.uid) equal ∙ ap (λ (m : List ℕ × List ℕ). m.1) meeting;
        is = is ∙ ap (λ (p : Part). answer_heard host.address p answer.moment answer.outcome) (sym equal);
      }

  reply_sent : Laws → IsRoomZone host.words host.zone → IsReached host.address host.zone host.book → (read octets : List ℕ) (message : Message) (claims : List Claim) → SpellsMessage read message
      → AreClaims host.address host.zone message claims → Replies host.address host.book claims (Some octets) → IsSentIn world octets
  reply_sent laws named reached read octets message claims spells are replies said spells_said =
      let texts = laws.texts host.address host.zone host.book reached in
      let r = laws.reply read message host.address host.words host.zone host.book claims octets spells named are texts replies (not_too_long octets said spells_said) in
      let reply : Message = record { method = Reply; organiser = r.organiser; uid = r.uid; events = r.events } in
      let same : reply ≡ said = laws.one_message octets reply said r.spells spells_said in
      subst (SaysSent world octets) same (a_reply refl (heard_answer (shown host.book.taken claims) octets r))

-- ---- and nothing else

no_add : (world : World) (octets : List ℕ) (message : Message) → SaysSent world octets message → is_add message.method ≡ false
no_add world octets message (a_request request o) = ap is_add request
no_add world octets message (a_cancel o) = ap (λ (m : Message). is_add m.method) o.holds.is
no_add world octets message (a_reply reply heard) = ap is_add reply

no_refresh : (room : List ℕ) (adds : Bool) (before after : List Part) (claims : List Claim) (moment : ℤ) (octets : List ℕ) → adds ≡ false
    → Refreshes room adds before after claims moment (Some octets) → ⊥
no_refresh room adds before after claims moment octets none (wants, is) = true≢false (sym wants ∙ ap (λ (b : Bool). wants_whole b before after claims) none)

in_option : (o : Option (List ℕ)) (octets : List ℕ) → Contains (option_to_list o) octets → o ≡ Some octets
in_option None octets c = absurd (none_in_nil octets c)
in_option (Some first) octets c = elim (in_cons first [] octets c) [ inl same ↦ ap Some same | inr none ↦ absurd (none_in_nil octets none) ]

pub replies_sent : Laws → (before after : World) (host : Hosted) → Contains after.rooms host → IsRoomZone host.words host.zone → IsReached host.address host.zone host.book
    → (read : List ℕ) (message : Message)
    → SpellsMessage read message → SaysSent before read message → (moment : ℤ) (old : Book) (sent : List (List ℕ)) → TakesMessage host.address host.zone moment message old host.book sent
    → (octets : List ℕ) → Contains sent octets → IsSentIn after octets
replies_sent laws before after host hosted named reached read message spells says moment old sent t octets c =
    let among = subst (λ (all : List (List ℕ)). Contains all octets) t.is c in
    elim (Contains-append_cases (option_to_list t.reply) (option_to_list t.refresh) octets among) [
      | inl reply ↦
          let replies = subst (Replies host.address host.book t.claims) (in_option t.reply octets reply) t.replies in
          reply_sent after host hosted laws named reached read octets message t.claims spells t.are replies
      | inr refresh ↦
          let adds = no_add before read message says in
          let refreshes = subst (Refreshes host.address (is_add message.method) old.taken host.book.taken t.claims moment) (in_option t.refresh octets refresh) t.refreshes in
          absurd (no_refresh host.address (is_add message.method) old.taken host.book.taken t.claims moment octets adds refreshes)
    ]
