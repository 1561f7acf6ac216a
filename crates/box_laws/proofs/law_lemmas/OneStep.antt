-- One object: whatever several boxes do with it, one box that keeps all their books may do that together.
use Rattle.std.proofs.Common.{◌≡◌, ◌≢◌, ◌∙◌, ℕ, ◌≤◌, true, false, List, [], ◌∷◌, ◌++◌, map, refl, sym, ap, subst, arith, inl, inr}
use Rattle.std.specs.Prelude.{All, AllPairs, Contains, IsPermutation}
use Rattle.std.specs.List.{AllZip, flat_map}
use Rattle.std.proofs.lemmas.Bool.{true≢false, cases_Bool}
use Rattle.std.proofs.lemmas.List.{length-map}
use Rattle.std.proofs.lemmas.List.Elements.{All-append, All-cons, All-head, All-nil, All-tail, All-weaker}
use Rattle.std.proofs.lemmas.List.Sorted.{Contains-permutation, IsPermutation-map}
use Rattle.profile.specs.events.Messages.{Message, SpellsMessage, is_to_rooms}
use Rattle.profile.specs.streams.Divisions.{Answer, IsJoined, IsRefusal, KeepsAll, Told, by_fault, by_host, by_none, by_rooms}
use Rattle.profile.specs.streams.Streams.{Answers, Box, HostFault, Hosted, HostedOrganiser, ObjectFault, Steps, StepsFor, in_state, not_hosted, refused_line}
use Rattle.box_laws.proofs.law_lemmas.Lists.{all_left, all_right}
use Rattle.box_laws.proofs.law_lemmas.Organisers.{addresses_kept, count_at, count_permuted, from_there, is_there, none_counted, once_at_most, there_from, with_book}
use Rattle.box_laws.proofs.law_lemmas.OrganiserSteps.{HasHost, IsChanged, IsElsewhere, IsTakenBy, IsRefusedBy, IsUntouched, TakesOrRefuses, TakesWith, afters, all_untouched, among_all, befores, changed_organisers, count_elsewhere, count_of_one, fault_of_host, may_take, organisers_of, same_boxes, same_rooms, taken_with, unchanged, who_hosts}
use Rattle.box_laws.proofs.law_lemmas.RoomSteps.{TakesByRooms, after_of, all_pieces, octets_of, one_takes}

-- what a box may do with the object
abbrev pub IsAnswer : Told → Answer → Type 0
IsAnswer told answer = Answers told.moment told.number told.octets answer.before answer.after answer.octets answer.refused

-- the one box may do this with it, as the several do
pub record Joins (told : Told) (several : List Answer) (whole : Box) : Type 0 where
  pub one : Answer
  pub before : one.before ≡ whole
  pub may : IsAnswer told one
  pub joined : IsJoined told several one
  pub keeps : KeepsAll (afters several) one.after

-- the laws of `one_message`: octets say one message, and none where they have a fault
pub record Laws : Type 0 where
  pub one : (octets : List ℕ) (a b : Message) → SpellsMessage octets a → SpellsMessage octets b → a ≡ b
  pub or_a_fault : (octets : List ℕ) (a : Message) (n : ℕ) → SpellsMessage octets a → ObjectFault n octets → ⊥

module _ (laws : Laws) (told : Told) where
  -- ---- an object with a fault

  faults : (several : List Answer) (n : ℕ) → ObjectFault n told.octets → All (IsAnswer told) several
      → (numbers : List ℕ) × All (λ m. ObjectFault m told.octets) numbers × AllZip (IsRefusal told) numbers several × All (λ answer. answer.after ≡ answer.before) several
  faults [] n fault h = ([], All-nil (λ m. ObjectFault m told.octets), tt, All-nil (λ (a : Answer). a.after ≡ a.before))
  faults (answer ∷ several) n fault h =
      let Fault : ℕ → Type 0 = λ m. ObjectFault m told.octets in
      let Same : Answer → Type 0 = λ a. a.after ≡ a.before in
      let (numbers, all, fit, same) = faults several n fault (All-tail (IsAnswer told) answer several h) in
      elim (All-head (IsAnswer told) answer several h) [
        | inl (said, spells, _, _) ↦ absurd (laws.or_a_fault told.octets said n spells fault)
        | inr (m, inl own, is, octets, refused) ↦ (m ∷ numbers, All-cons Fault m numbers own all, ((octets, refused), fit), All-cons Same answer several is same)
        | inr (m, inr (said, spells, _, _), _, _, _) ↦ absurd (laws.or_a_fault told.octets said n spells fault)
      ]

  first_number : (numbers : List ℕ) (answer : Answer) (several : List Answer) → All (λ m. ObjectFault m told.octets) numbers
      → AllZip (IsRefusal told) numbers (answer ∷ several) → (m : ℕ) × Contains numbers m × ObjectFault m told.octets
  first_number [] answer several all fit = absurd fit
  first_number (m ∷ numbers) answer several all fit = (m, (0, omega arith, refl), All-head (λ k. ObjectFault k told.octets) m numbers all)

  of_fault : (answer : Answer) (several : List Answer) (whole : Box) (n : ℕ) → ObjectFault n told.octets → All (IsAnswer told) (answer ∷ several)
      → KeepsAll (befores (answer ∷ several)) whole → Joins told (answer ∷ several) whole
  of_fault answer several whole n fault h keeps =
      let (numbers, all, fit, same) = faults (answer ∷ several) n fault h in
      let (m, there, own) = first_number numbers answer several all fit in
      let one : Answer = record { before = whole; after = whole; octets = refused_line told.number m; refused = 1 } in
      record {
        one = one;
        before = refl;
        may = inr (m, inl own, refl, refl, refl);
        joined = by_fault numbers all fit m there (refl, refl);
        keeps = subst (λ (l : List Box). KeepsAll l whole) (sym (same_boxes (answer ∷ several) same)) keeps;
      }

  -- ---- a message to rooms

  by_its_rooms : (said : Message) → SpellsMessage told.octets said → is_to_rooms said.method ≡ true → (answer : Answer) → IsAnswer told answer
      → TakesByRooms told.moment said answer
  by_its_rooms said spells to answer (inl (other, says, steps, none)) =
      let same = laws.one told.octets other said says spells in
      let own = subst (λ (m : Message). Steps told.moment m answer.before answer.after answer.octets) same steps in
      let (take, others) = subst (λ b. StepsFor b told.moment said answer.before answer.after answer.octets) to own in
      (take, others, none)
  by_its_rooms said spells to answer (inr (n, inl fault, _, _, _)) = absurd (laws.or_a_fault told.octets said n spells fault)
  by_its_rooms said spells to answer (inr (n, inr (other, says, away, _), _, _, _)) =
      let same = laws.one told.octets other said says spells in
      absurd (true≢false (sym to ∙ ap (λ (m : Message). is_to_rooms m.method) (sym same) ∙ away))

  to_rooms : (several : List Answer) (whole : Box) (said : Message) → SpellsMessage told.octets said → is_to_rooms said.method ≡ true
      → All (IsAnswer told) several → KeepsAll (befores several) whole → Joins told several whole
  to_rooms several whole said spells to h keeps =
      let (pieces, fit, took, befores_are, afters_are, organisers_are) =
      all_pieces told.moment said several (All-weaker (IsAnswer told) (TakesByRooms told.moment said) (by_its_rooms said spells to) several h) in
      let flat = flat_map (λ (l : List _). l) pieces in
      let order = subst (λ (l : List Hosted). IsPermutation l whole.rooms) befores_are keeps.rooms_are in
      let (all, moved, is, each, after_moved, takes) = one_takes told.moment said flat whole.rooms took order in
      let after : Box = record { rooms = after_of told.moment said all; organisers = whole.organisers } in
      let one : Answer = record { before = whole; after = after; octets = octets_of told.moment said all; refused = 0 } in
      record {
        one = one;
        before = refl;
        may = inl (said, spells, subst (λ b. StepsFor b told.moment said whole after one.octets) (sym to) (takes, refl), refl);
        joined = by_rooms said spells to pieces all fit (record { before = is; after = refl; each = each; octets = refl; refused = refl }) moved;
        keeps = record {
          some = omega (arith, keeps.some, length-map several (λ (a : Answer). a.before), length-map several (λ (a : Answer). a.after));
          rooms_are = subst (λ (l : List Hosted). IsPermutation l after.rooms) (sym afters_are) after_moved;
          organisers_are = subst (λ (l : List HostedOrganiser). IsPermutation l whole.organisers) (sym organisers_are) keeps.organisers_are;
          organisers_differ = keeps.organisers_differ;
        };
      }

  -- ---- what comes to an organiser

  by_its_host : (said : Message) → SpellsMessage told.octets said → is_to_rooms said.method ≡ false → (answer : Answer) → IsAnswer told answer
      → TakesOrRefuses told said answer
  by_its_host said spells away answer (inl (other, says, steps, none)) =
      let same = laws.one told.octets other said says spells in
      let own = subst (λ (m : Message). Steps told.moment m answer.before answer.after answer.octets) same steps in
      let (taken, others) = subst (λ b. StepsFor b told.moment said answer.before answer.after answer.octets) away own in
      inl (taken, others, none)
  by_its_host said spells away answer (inr (n, inl fault, _, _, _)) = absurd (laws.or_a_fault told.octets said n spells fault)
  by_its_host said spells away answer (inr (n, inr (other, says, _, fault), is, octets, refused)) =
      let same = laws.one told.octets other said says spells in
      inr (n, subst (λ (m : Message). HostFault m answer.before.organisers n) same fault, is, (octets, refused))

  to_nobody : (several : List Answer) (whole : Box) (said : Message) → SpellsMessage told.octets said → is_to_rooms said.method ≡ false
      → All (TakesOrRefuses told said) several → KeepsAll (befores several) whole → All (IsElsewhere told said) several → Joins told several whole
  to_nobody several whole said spells away h keeps none =
      let a = said.organiser in
      let untouched = all_untouched told said several none h in
      let counts = count_permuted a (organisers_of (befores several)) whole.organisers keeps.organisers_are in
      let nobody = none_counted a whole.organisers (counts ∙ count_elsewhere told said several none) in
      let one : Answer = record { before = whole; after = whole; octets = refused_line told.number 70; refused = 1 } in
      let Untouched : Answer → Type 0 = IsUntouched told said in
      record {
        one = one;
        before = refl;
        may = inr (70, inr (said, spells, away, not_hosted nobody), refl, refl, refl);
        joined = by_none said spells away (λ there. true≢false (sym (there_from a whole.organisers there) ∙ nobody))
            (All-weaker Untouched (IsRefusal told 70) (λ x u. u.1) several untouched) (refl, refl);
        keeps = subst (λ (l : List Box). KeepsAll l whole) (sym (same_boxes several (All-weaker Untouched (λ x. x.after ≡ x.before) (λ x u. u.0) several untouched))) keeps;
      }

  -- the box that hosts it, between others that don't
  module _ (whole : Box) (said : Message) (spells : SpellsMessage told.octets said) (away : is_to_rooms said.method ≡ false)
      (ahead behind : List Answer) (host : Answer) (hosts : is_there said.organiser host.before.organisers ≡ true)
      (none_ahead : All (IsElsewhere told said) ahead) (none_behind : All (IsElsewhere told said) behind)
      (untouched_ahead : All (IsUntouched told said) ahead) (untouched_behind : All (IsUntouched told said) behind)
      (keeps : KeepsAll (befores (ahead ++ host ∷ behind)) whole) where
    of_refusals : All (IsRefusal told 70) (ahead ++ behind)
    of_refusals =
        let Untouched : Answer → Type 0 = IsUntouched told said in
        All-weaker Untouched (IsRefusal told 70) (λ x u. u.1) (ahead ++ behind) (All-append Untouched ahead behind untouched_ahead untouched_behind)

    in_whole : (organiser : HostedOrganiser) → Contains host.before.organisers organiser → Contains whole.organisers organiser
    in_whole organiser there =
        Contains-permutation (organisers_of (befores (ahead ++ host ∷ behind))) whole.organisers organiser keeps.organisers_are
        (among_all told said ahead behind host organiser there)

    once_whole : count_at said.organiser whole.organisers ≤ 1
    once_whole = once_at_most said.organiser whole.organisers keeps.organisers_differ

    once_host : count_at said.organiser host.before.organisers ≤ 1
    once_host =
        omega (
          arith,
          once_whole,
          count_permuted said.organiser (organisers_of (befores (ahead ++ host ∷ behind))) whole.organisers keeps.organisers_are,
          count_of_one told said ahead behind host,
        )

    host_takes : IsTakenBy told said host → Joins told (ahead ++ host ∷ behind) whole
    host_takes (taken, rooms_are, none) =
        let (t, is) = taken_with told said host.before.organisers host.after.organisers host.octets once_host taken in
        let own : TakesWith told said whole.organisers host.octets =
        record { host = t.host; book = t.book; there = in_whole t.host t.there; address = t.address; takes = t.takes } in
        let Changed : Answer → Type 0 = IsChanged told said t.book in
        let changed : (l : List Answer) → All (IsElsewhere told said) l → All (IsUntouched told said) l → All Changed l =
        λ l away_from same k d bound. unchanged told said t.book _ (away_from k d bound) (same k d bound) in
        let all : All Changed (ahead ++ host ∷ behind) =
        All-append Changed ahead (host ∷ behind) (changed ahead none_ahead untouched_ahead)
        (All-cons Changed host behind (is, rooms_are) (changed behind none_behind untouched_behind)) in
        let organisers_are = changed_organisers told said t.book (ahead ++ host ∷ behind) all in
        let rooms_same = same_rooms told said t.book (ahead ++ host ∷ behind) all in
        let after : Box = record { rooms = whole.rooms; organisers = map (with_book said.organiser t.book) whole.organisers } in
        let moved = IsPermutation-map (with_book said.organiser t.book) (organisers_of (befores (ahead ++ host ∷ behind))) whole.organisers keeps.organisers_are in
        record {
          one = record { before = whole; after = after; octets = host.octets; refused = host.refused };
          before = refl;
          may = inl (said, spells, subst (λ b. StepsFor b told.moment said whole after host.octets) (sym away) (may_take told said whole.organisers host.octets once_whole own, refl), none);
          joined = by_host said spells away ahead behind host refl (from_there said.organiser host.before.organisers hosts) of_refusals refl refl;
          keeps = record {
            some = omega (arith, keeps.some, length-map (ahead ++ host ∷ behind) (λ (a : Answer). a.before), length-map (ahead ++ host ∷ behind) (λ (a : Answer). a.after));
            rooms_are = subst (λ (l : List Hosted). IsPermutation l whole.rooms) (sym rooms_same) keeps.rooms_are;
            organisers_are = subst (λ (l : List HostedOrganiser). IsPermutation l after.organisers) (sym organisers_are) moved;
            organisers_differ = subst (AllPairs ◌≢◌) (sym (addresses_kept said.organiser t.book whole.organisers)) keeps.organisers_differ;
          };
        }

    host_refuses : IsRefusedBy told said host → Joins told (ahead ++ host ∷ behind) whole
    host_refuses (n, fault, is, refusal) =
        let (organiser, there, same, own) = fault_of_host told said host.before.organisers n hosts fault in
        let Untouched : Answer → Type 0 = IsUntouched told said in
        let Same : Answer → Type 0 = λ x. x.after ≡ x.before in
        let all = All-append Same ahead (host ∷ behind) (All-weaker Untouched Same (λ x u. u.0) ahead untouched_ahead)
        (All-cons Same host behind is (All-weaker Untouched Same (λ x u. u.0) behind untouched_behind)) in
        record {
          one = record { before = whole; after = whole; octets = host.octets; refused = host.refused };
          before = refl;
          may = inr (n, inr (said, spells, away, in_state organiser (in_whole organiser there) same own), refl, refusal.0, refusal.1);
          joined = by_host said spells away ahead behind host refl (from_there said.organiser host.before.organisers hosts) of_refusals refl refl;
          keeps = subst (λ (l : List Box). KeepsAll l whole) (sym (same_boxes (ahead ++ host ∷ behind) all)) keeps;
        }

  to_host : (several : List Answer) (whole : Box) (said : Message) → SpellsMessage told.octets said → is_to_rooms said.method ≡ false
      → All (TakesOrRefuses told said) several → KeepsAll (befores several) whole → HasHost told said several → Joins told several whole
  to_host several whole said spells away h keeps who =
      let Either : Answer → Type 0 = TakesOrRefuses told said in
      let all = subst (All Either) who.are h in
      let own = subst (λ (l : List Answer). KeepsAll (befores l) whole) who.are keeps in
      let right = all_right Either who.ahead (who.host ∷ who.behind) all in
      let before = all_untouched told said who.ahead who.others_ahead (all_left Either who.ahead (who.host ∷ who.behind) all) in
      let behind = all_untouched told said who.behind who.others_behind (All-tail Either who.host who.behind right) in
      subst (λ (l : List Answer). Joins told l whole) (sym who.are)
      (elim (All-head Either who.host who.behind right) [
        | inl taken ↦ host_takes whole said spells away who.ahead who.behind who.host who.hosts who.others_ahead who.others_behind before behind own taken
        | inr refused ↦ host_refuses whole said spells away who.ahead who.behind who.host who.hosts who.others_ahead who.others_behind before behind own refused
      ])

  of_message : (several : List Answer) (whole : Box) (said : Message) → SpellsMessage told.octets said → All (IsAnswer told) several
      → KeepsAll (befores several) whole → Joins told several whole
  of_message several whole said spells h keeps = elim (cases_Bool (is_to_rooms said.method)) [
    | inl to ↦ to_rooms several whole said spells to h keeps
    | inr away ↦
        let each = All-weaker (IsAnswer told) (TakesOrRefuses told said) (by_its_host said spells away) several h in
        let counts = count_permuted said.organiser (organisers_of (befores several)) whole.organisers keeps.organisers_are in
        elim (who_hosts told said several (omega (arith, counts, once_at_most said.organiser whole.organisers keeps.organisers_differ))) [
          | inl none ↦ to_nobody several whole said spells away each keeps none
          | inr who ↦ to_host several whole said spells away each keeps who
        ]
  ]

  pub joins : (several : List Answer) (whole : Box) → All (IsAnswer told) several → KeepsAll (befores several) whole → Joins told several whole
  joins [] whole h keeps = absurd (omega (arith, keeps.some))
  joins (answer ∷ several) whole h keeps = elim (All-head (IsAnswer told) answer several h) [
    | inl (said, spells, _, _) ↦ of_message (answer ∷ several) whole said spells h keeps
    | inr (n, inl fault, _, _, _) ↦ of_fault answer several whole n fault h keeps
    | inr (n, inr (said, spells, _, _), _, _, _) ↦ of_message (answer ∷ several) whole said spells h keeps
  ]
