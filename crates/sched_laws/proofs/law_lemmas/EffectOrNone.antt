-- A step of a world has an effect or none, never both, where no two hosts of one kind have one address. Behind effect_or_none.
use Rattle.std.proofs.Common.{◌≡◌, ◌∙◌, ℕ, ℤ, true, List, ◌∷◌, ◌++◌, inl, inr, refl, sym, ap, subst, arith}
use Rattle.std.specs.Prelude.{Contains}
use Rattle.std.specs.List.{list_any}
use Rattle.std.specs.Str.{bytes_eq}
use Rattle.std.proofs.lemmas.Bool.{false≢true}
use Rattle.std.proofs.lemmas.List.Elements.{Contains-append_right}
use Rattle.std.proofs.lemmas.List.Folds.{list_any-from_Any}
use Rattle.std.proofs.lemmas.Slice.Eq.{bytes_eq-Decides}
use Rattle.profile.specs.events.EventComponents.{Add, Cancel, Method, Refresh, Reply, Request, Store}
use Rattle.profile.specs.events.Messages.{Message, SpellsMessage, is_of_attendee, is_to_rooms}
use Rattle.profile.specs.organisers.Organisers.{StateFault}
use Rattle.profile.specs.streams.Streams.{Hosted, HostedOrganiser, ObjectFault}
use Rattle.profile.specs.streams.Worlds.{ChangesOne, Delivers, DeliversNothing, HasNoEffect, IsRefusedBy, OrganiserSends, OrganiserTakes, StoresNothing, World, a_store, in_state, no_message, no_organiser, no_room, no_store, nobody, other_organiser, refused_answer, refused_store}

-- an answer is no message to rooms
apart : (method : Method) → is_to_rooms method ≡ true → is_of_attendee method ≡ true → ⊥
apart Store to of = false≢true to
apart Request to of = false≢true of
apart Add to of = false≢true of
apart Cancel to of = false≢true of
apart Reply to of = false≢true to
apart Refresh to of = false≢true to

-- one of these hosts has the address
is_there : {Host : Type 0} (address : Host → List ℕ) (to : List ℕ) (ahead behind hosts : List Host) (host : Host)
    → hosts ≡ ahead ++ host ∷ behind → address host ≡ to → list_any (λ other. bytes_eq (address other) to) hosts ≡ true
is_there {Host} address to ahead behind hosts host of same =
    let there = Contains-append_right ahead (host ∷ behind) host (0, omega arith, refl) in
    let (place, bound, is) = subst (λ (these : List Host). Contains these host) (sym of) there in
    list_any-from_Any (λ other. bytes_eq (address other) to) hosts (place, host, bound, is, (bytes_eq-Decides (address host) to).1 same)

-- where no two organisers have one address, none takes what it refuses
not_refused : (to : List ℕ) (moment : ℤ) (message : Message) (before after : World) {sent : List (List ℕ)}
    → ((a b : HostedOrganiser) → Contains before.organisers a → Contains before.organisers b → a.address ≡ b.address → a ≡ b)
    → ChangesOne (OrganiserTakes to moment message sent) before.organisers after.organisers → IsRefusedBy to message before → ⊥
not_refused to moment message before after one c (other_organiser other) = other c.changes.named
not_refused to moment message before after one c (in_state {n} host there address fault) =
    let among = Contains-append_right c.ahead (c.old ∷ c.behind) c.old (0, omega arith, refl) in
    let here = subst (λ (hosts : List HostedOrganiser). Contains hosts c.old) (sym c.of_these) among in
    let same = one host c.old there here (address ∙ sym c.changes.address) in
    c.changes.serves.allowed n (subst (λ (h : HostedOrganiser). StateFault message h.book n) same fault)

-- and no delivery has an effect that has a reason to have none
not_both : (to : List ℕ) (moment : ℤ) (message : Message) (before after : World)
    → ((a b : HostedOrganiser) → Contains before.organisers a → Contains before.organisers b → a.address ≡ b.address → a ≡ b)
    → Delivers to moment message before after → HasNoEffect to message before → ⊥
not_both to moment message before after one (inl does) (no_room for_rooms none) =
    let c = does.takes in
    false≢true (sym none ∙ is_there (λ (h : Hosted). h.address) to c.ahead c.behind before.rooms c.old c.of_these c.changes.address)
not_both to moment message before after one (inl does) (no_organiser others none) = false≢true (sym others ∙ does.takes.changes.for_rooms)
not_both to moment message before after one (inl does) (a_store store) =
    false≢true (sym (ap is_to_rooms store) ∙ does.takes.changes.for_rooms)
not_both to moment message before after one (inl does) (refused_answer answer refused) =
    apart message.method does.takes.changes.for_rooms answer
not_both to moment message before after one (inr (answer, does)) (no_room for_rooms none) = apart message.method for_rooms answer
not_both to moment message before after one (inr (answer, does)) (no_organiser others none) =
    let c = does.takes in
    false≢true (sym none ∙ is_there (λ (h : HostedOrganiser). h.address) to c.ahead c.behind before.organisers c.old c.of_these c.changes.address)
not_both to moment message before after one (inr (answer, does)) (a_store store) = false≢true (sym (ap is_of_attendee store) ∙ answer)
not_both to moment message before after one (inr (answer, does)) (refused_answer _ refused) =
    not_refused to moment message before after one does.takes refused

-- nor a step, by the laws of `one_message`: octets say one message (`only`), and none where they have a fault (`sound`)
module _ (only : (octets : List ℕ) (a b : Message) → SpellsMessage octets a → SpellsMessage octets b → a ≡ b)
    (sound : (octets : List ℕ) (a : Message) (n : ℕ) → SpellsMessage octets a → ObjectFault n octets → ⊥)
    (before after : World)
    (one : (a b : HostedOrganiser) → Contains before.organisers a → Contains before.organisers b → a.address ≡ b.address → a ≡ b) where
  pub delivered_or_not : (octets to : List ℕ) (moment : ℤ) (message : Message) → SpellsMessage octets message → Delivers to moment message before after
      → DeliversNothing octets to before → ⊥
  delivered_or_not octets to moment message spells does (inl (n, fault)) = sound octets message n spells fault
  delivered_or_not octets to moment message spells does (inr (other, says, none)) =
      not_both to moment message before after one does (subst (λ (m : Message). HasNoEffect to m before) (only octets other message says spells) none)

  pub stored_or_not : (organiser object : List ℕ) (moment : ℤ) (message : Message) → SpellsMessage object message → message.method ≡ Store
      → OrganiserSends organiser moment message before after → StoresNothing organiser object before → ⊥
  stored_or_not organiser object moment message spells store does (nobody none) =
      let c = does.takes in
      false≢true (sym none ∙ is_there (λ (h : HostedOrganiser). h.address) organiser c.ahead c.behind before.organisers c.old c.of_these c.changes.address)
  stored_or_not organiser object moment message spells store does (no_message {n} fault) = sound object message n spells fault
  stored_or_not organiser object moment message spells store does (no_store other says another) =
      another (ap (λ (m : Message). m.method) (only object other message says spells) ∙ store)
  stored_or_not organiser object moment message spells store does (refused_store other says refused) =
      not_refused organiser moment message before after one does.takes
      (subst (λ (m : Message). IsRefusedBy organiser m before) (only object other message says spells) refused)
