-- What a store has for a room in a slot is one part. Behind schedules_hold.
use Rattle.std.proofs.Common.{◌≡◌, ◌∙◌, ℕ, List, Option, refl, sym, ap, subst}
use Rattle.std.proofs.lemmas.Bool.{true≢false}
use Rattle.std.proofs.lemmas.Option.{same_Some}
use Rattle.profile.specs.events.EventComponents.{EventComponent, Method}
use Rattle.profile.specs.events.Messages.{Message, SpellsMessage}
use Rattle.profile.specs.organisers.Organisers.{Stored}
use Rattle.profile.specs.rooms.Messages.{Content, IsBody, IsContent, IsPart, canonical}
use Rattle.profile.specs.rooms.Revisions.{Absent, Body, Cancelled, Part, Set}
use Rattle.profile.specs.rooms.Rooms.{Claim}
use Rattle.profile.specs.series.Zones.{Zone}
use Rattle.itip_messages.specs.SentLaw.{HasNoAnswer, IsSentAs, request_of}
use Rattle.cal_events.proofs.shared_lemmas.SeriesLemmas.{zip_back}
use Rattle.sched_laws.proofs.law_lemmas.ClaimFacts.{ClaimFacts, claim_facts}
use Rattle.sched_laws.proofs.law_lemmas.Invariant.{AreNamedFixed, IsClaimOf}
use Rattle.sched_laws.proofs.law_lemmas.StoredSlots.{again_fixed, one_of_slot, slot_there}
use Rattle.sched_laws.specs.Law.{Laws}

-- ---- one part for a slot

-- what an event makes of its slot for a room is one thing, where it has one content
one_body : (room : List ℕ) (method : Method) (event : EventComponent) (ca cb : Content) → (IsContent ca event → IsContent cb event → ca ≡ cb)
    → (a b : Body) → IsBody room method event ca a → IsBody room method event cb b → a ≡ b
one_body room method event ca cb one (Set x) (Set y) (p, n, is, e) (q, m, it, f) = ap Set (e ∙ ap canonical (one is it) ∙ sym f)
one_body room method event ca cb one (Set x) Absent (p, n, is, e) (q, m, f) = absurd (true≢false (sym n ∙ m))
one_body room method event ca cb one (Set x) Cancelled (p, n, is, e) (q, f) = absurd (true≢false (sym q ∙ p))
one_body room method event ca cb one Absent (Set y) (p, n, e) (q, m, it, f) = absurd (true≢false (sym m ∙ n))
one_body room method event ca cb one Absent Absent h k = refl
one_body room method event ca cb one Absent Cancelled (p, n, e) (q, f) = absurd (true≢false (sym q ∙ p))
one_body room method event ca cb one Cancelled (Set y) (p, e) (q, m, it, f) = absurd (true≢false (sym p ∙ q))
one_body room method event ca cb one Cancelled Absent (p, e) (q, m, f) = absurd (true≢false (sym p ∙ q))
one_body room method event ca cb one Cancelled Cancelled h k = refl

one_part : (room : List ℕ) (zone : Option Zone) (message : Message) (event : EventComponent) (ca cb : Content) → (IsContent ca event → IsContent cb event → ca ≡ cb)
    → (a b : Part) → a.slot ≡ b.slot → IsPart room zone message event ca a → IsPart room zone message event cb b → a ≡ b
one_part room z message event ca cb one a b slot p q =
    let organiser = same_Some a.organiser b.organiser (sym p.organiser ∙ q.organiser) in
    let uid = p.uid ∙ sym q.uid in
    let revision = p.revision ∙ sym q.revision in
    let body = one_body room message.method event ca cb one a.body b.body p.body q.body in
    λ i. record { organiser = organiser i; uid = uid i; slot = slot i; revision = revision i; body = body i }

one_of_message : Laws → (organiser : List ℕ) (stored : Stored) (room : List ℕ) (zone : Option Zone) (sent : List EventComponent) → AreNamedFixed sent
    → SpellsMessage stored.object (request_of organiser stored.uid sent)
    → (a b : Claim) → ClaimFacts organiser stored room zone a sent → ClaimFacts organiser stored room zone b sent → a.part.slot ≡ b.part.slot → a.part ≡ b.part
one_of_message laws organiser stored room zone sent fixed spells a b f g same =
    let message = request_of organiser stored.uid sent in
    let of_a = slot_there zone f.said a.part.slot f.said_fixed f.is.part.slot in
    let of_b = slot_there zone g.said b.part.slot g.said_fixed g.is.part.slot in
    let event = one_of_slot organiser stored.uid sent fixed spells.says.are g.said f.said g.said_among f.said_among (sym of_b ∙ sym same ∙ of_a) in
    one_part room zone message f.said a.content b.content (λ c d. laws.content stored.object message f.said a.content b.content spells f.said_among c d)
    a.part b.part same f.is.part (subst (λ (e : EventComponent). IsPart room zone message e b.content b.part) event g.is.part)

-- what was sent of a store names its instances as that does
sent_fixed : (organiser : List ℕ) (stored : Stored) (room : List ℕ) (zone : Option Zone) (claim : Claim) (c : IsClaimOf organiser stored room zone claim) → AreNamedFixed c.sent
sent_fixed organiser stored room z claim c said among =
    let (event, there, again) = zip_back (IsSentAs stored.revision) stored.events c.sent said c.each among in
    again_fixed HasNoAnswer stored.revision event said again (c.fixed event there)

-- the claims that one store has for a room in one slot are of one part
pub one_of_claims : Laws → (organiser : List ℕ) (stored : Stored) (room : List ℕ) (zone : Option Zone) (a b : Claim) → IsClaimOf organiser stored room zone a
    → IsClaimOf organiser stored room zone b → a.part.slot ≡ b.part.slot → a.part ≡ b.part
one_of_claims laws organiser stored room zone a b c d =
    let same = ap (λ (m : Message). m.events)
    (laws.one_message stored.object (request_of organiser stored.uid d.sent) (request_of organiser stored.uid c.sent) d.spells c.spells) in
    one_of_message laws organiser stored room zone c.sent (sent_fixed organiser stored room zone a c) c.spells a b (claim_facts organiser stored room zone a c)
    (subst (ClaimFacts organiser stored room zone b) same (claim_facts organiser stored room zone b d))
