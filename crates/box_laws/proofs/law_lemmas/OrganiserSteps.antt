-- What comes to an organiser: the box that hosts it takes it or refuses it, the others refuse it with 70, and one box does as the host does.
use Rattle.std.proofs.Common.{◌≡◌, ◌∙◌, ℕ, ◌+◌, ◌≤◌, Bool, true, false, cond, List, [], ◌∷◌, ◌++◌, map, refl, sym, ap, subst, arith, inl, inr, ◌⊎◌}
use Rattle.std.specs.Prelude.{All, Contains}
use Rattle.std.specs.List.{flat_map}
use Rattle.std.proofs.lemmas.Bool.{true≢false, false≢true, cases_Bool}
use Rattle.std.proofs.lemmas.List.{map-append}
use Rattle.std.proofs.lemmas.List.Elements.{All-cons, All-head, All-nil, All-tail, Contains-append_left, Contains-append_right}
use Rattle.std.proofs.lemmas.Slice.Eq.{bytes_eq-Decides}
use Rattle.profile.specs.events.Messages.{Message}
use Rattle.profile.specs.organisers.Organisers.{OrganiserBook, StateFault}
use Rattle.profile.specs.streams.Divisions.{Answer, IsRefusal, Told}
use Rattle.profile.specs.streams.Streams.{Box, HostFault, Hosted, HostedOrganiser, IsTaken, TakesObject, in_state, not_hosted}
use Rattle.box_laws.proofs.law_lemmas.Organisers.{count_append, count_at, host_there, is_there, kept, none_are, none_counted, parted, some_counted, with_book}

abbrev pub befores : List Answer → List Box
befores = map (λ answer. answer.before)

abbrev pub afters : List Answer → List Box
afters = map (λ answer. answer.after)

abbrev pub organisers_of : List Box → List HostedOrganiser
organisers_of = flat_map (λ box. box.organisers)

abbrev pub rooms_of : List Box → List Hosted
rooms_of = flat_map (λ box. box.rooms)

module _ (told : Told) (said : Message) where
  -- one of these organisers, of the address that the message names, takes it and keeps this book then
  pub record TakesWith (hosts : List HostedOrganiser) (octets : List ℕ) : Type 0 where
    pub host : HostedOrganiser
    pub book : OrganiserBook
    pub there : Contains hosts host
    pub address : host.address ≡ said.organiser
    pub takes : TakesObject told.moment said host.book book octets

  changed_part : (book : OrganiserBook) (host : HostedOrganiser) (ahead behind : List HostedOrganiser) → host.address ≡ said.organiser
      → count_at said.organiser (ahead ++ host ∷ behind) ≤ 1
      → map (with_book said.organiser book) (ahead ++ host ∷ behind) ≡ ahead ++ record host { book = book } ∷ behind
  changed_part book host ahead behind same once =
      let a = said.organiser in
      let here = (bytes_eq-Decides host.address a).1 same in
      let counts = count_append a ahead (host ∷ behind) in
      let first : 1 + count_at a behind ≡ count_at a (host ∷ behind) = ap (λ b. cond b 1 0 + count_at a behind) (sym here) in
      let before = kept a book ahead (none_counted a ahead (omega (arith, counts, once, first))) in
      let after = kept a book behind (none_counted a behind (omega (arith, counts, once, first))) in
      map-append (with_book a book) ahead (host ∷ behind)
      ∙ ap (λ l. l ++ map (with_book a book) (host ∷ behind)) before
      ∙ ap (λ b. ahead ++ cond b (record { address = host.address; book = book }) host ∷ map (with_book a book) behind) here
      ∙ ap (λ l. ahead ++ record host { book = book } ∷ l) after

  -- what a box did with it
  pub taken_with : (before after : List HostedOrganiser) (octets : List ℕ) → count_at said.organiser before ≤ 1 → IsTaken told.moment said before after octets
      → (t : TakesWith before octets) × (after ≡ map (with_book said.organiser t.book) before)
  taken_with before after octets once t =
      let there = Contains-append_right t.others_before (t.host ∷ t.others_behind) t.host (0, omega arith, refl) in
      let once_there = subst (λ (l : List HostedOrganiser). count_at said.organiser l ≤ 1) t.of_these once in (
        record { host = t.host; book = t.book; there = subst (λ (l : List HostedOrganiser). Contains l t.host) (sym t.of_these) there; address = t.address; takes = t.takes },
        t.to_these ∙ sym (changed_part t.book t.host t.others_before t.others_behind t.address once_there)
            ∙ ap (map (with_book said.organiser t.book)) (sym t.of_these),
      )

  -- what one may do with it
  pub may_take : (before : List HostedOrganiser) (octets : List ℕ) → count_at said.organiser before ≤ 1 → (t : TakesWith before octets)
      → IsTaken told.moment said before (map (with_book said.organiser t.book) before) octets
  may_take before octets once t =
      let (ahead, behind, are) = parted before t.host t.there in
      let once_there = subst (λ (l : List HostedOrganiser). count_at said.organiser l ≤ 1) are once in
      record {
        others_before = ahead;
        others_behind = behind;
        host = t.host;
        book = t.book;
        address = t.address;
        takes = t.takes;
        of_these = are;
        to_these = ap (map (with_book said.organiser t.book)) are ∙ changed_part t.book t.host ahead behind t.address once_there;
      }

  -- ---- the answer of one of the boxes

  abbrev pub IsTakenBy : Answer → Type 0
  IsTakenBy answer = IsTaken told.moment said answer.before.organisers answer.after.organisers answer.octets × (answer.after.rooms ≡ answer.before.rooms) × (answer.refused ≡ 0)

  abbrev pub IsRefusedBy : Answer → Type 0
  IsRefusedBy answer = (n : ℕ) × HostFault said answer.before.organisers n × (answer.after ≡ answer.before) × IsRefusal told n answer

  abbrev pub TakesOrRefuses : Answer → Type 0
  TakesOrRefuses answer = IsTakenBy answer ⊎ IsRefusedBy answer

  abbrev pub hosts_it : Answer → Bool
  hosts_it answer = is_there said.organiser answer.before.organisers

  abbrev pub IsElsewhere : Answer → Type 0
  IsElsewhere answer = hosts_it answer ≡ false

  abbrev pub IsUntouched : Answer → Type 0
  IsUntouched answer = (answer.after ≡ answer.before) × IsRefusal told 70 answer

  -- a fault with 70 where nobody hosts it, and of a host where somebody does
  fault_elsewhere : (hosts : List HostedOrganiser) (n : ℕ) → is_there said.organiser hosts ≡ false → HostFault said hosts n → n ≡ 70
  fault_elsewhere hosts n none (not_hosted _) = refl
  fault_elsewhere hosts n none (in_state host there same fault) = absurd (false≢true (sym none ∙ host_there said.organiser hosts host there same))

  pub fault_of_host : (hosts : List HostedOrganiser) (n : ℕ) → is_there said.organiser hosts ≡ true → HostFault said hosts n
      → (host : HostedOrganiser) × Contains hosts host × (host.address ≡ said.organiser) × StateFault said host.book n
  fault_of_host hosts n some (not_hosted none) = absurd (true≢false (sym some ∙ none))
  fault_of_host hosts n some (in_state host there same fault) = (host, there, same, fault)

  pub untouched : (answer : Answer) → IsElsewhere answer → TakesOrRefuses answer → IsUntouched answer
  untouched answer none (inl (t, _, _)) =
      let there = Contains-append_right t.others_before (t.host ∷ t.others_behind) t.host (0, omega arith, refl) in
      let among = subst (λ (l : List HostedOrganiser). Contains l t.host) (sym t.of_these) there in
      absurd (false≢true (sym none ∙ host_there said.organiser answer.before.organisers t.host among t.address))
  untouched answer none (inr (n, fault, same, refusal)) =
      (same, subst (λ m. IsRefusal told m answer) (fault_elsewhere answer.before.organisers n none fault) refusal)

  -- ---- which of them hosts it

  abbrev pub count_in : List Answer → ℕ
  count_in several = count_at said.organiser (organisers_of (befores several))

  none_hosts : (several : List Answer) → count_in several ≡ 0 → All IsElsewhere several
  none_hosts [] e = All-nil IsElsewhere
  none_hosts (answer ∷ several) e =
      let counts = count_append said.organiser answer.before.organisers (organisers_of (befores several)) in
      All-cons IsElsewhere answer several (none_counted said.organiser answer.before.organisers (omega (arith, counts, e)))
      (none_hosts several (omega (arith, counts, e)))

  pub record HasHost (several : List Answer) : Type 0 where
    pub ahead : List Answer
    pub behind : List Answer
    pub host : Answer
    pub are : several ≡ ahead ++ host ∷ behind
    pub hosts : hosts_it host ≡ true
    pub others_ahead : All IsElsewhere ahead
    pub others_behind : All IsElsewhere behind

  pub who_hosts : (several : List Answer) → count_in several ≤ 1 → All IsElsewhere several ⊎ HasHost several
  who_hosts [] once = inl (All-nil IsElsewhere)
  who_hosts (answer ∷ several) once =
      let counts = count_append said.organiser answer.before.organisers (organisers_of (befores several)) in
      elim (cases_Bool (hosts_it answer)) [
        | inl here ↦
            let some = some_counted said.organiser answer.before.organisers here in
            inr (record {
              ahead = [];
              behind = several;
              host = answer;
              are = refl;
              hosts = here;
              others_ahead = All-nil IsElsewhere;
              others_behind = none_hosts several (omega (arith, counts, once, some));
            })
        | inr other ↦ elim (who_hosts several (omega (arith, counts, once))) [
          | inl none ↦ inl (All-cons IsElsewhere answer several other none)
          | inr h ↦ inr (record {
            ahead = answer ∷ h.ahead;
            behind = h.behind;
            host = h.host;
            are = ap (λ l. answer ∷ l) h.are;
            hosts = h.hosts;
            others_ahead = All-cons IsElsewhere answer h.ahead other h.others_ahead;
            others_behind = h.others_behind;
          })
        ]
      ]

  pub all_untouched : (several : List Answer) → All IsElsewhere several → All TakesOrRefuses several → All IsUntouched several
  all_untouched several none each k d bound = untouched _ (none k d bound) (each k d bound)

  pub count_elsewhere : (several : List Answer) → All IsElsewhere several → count_in several ≡ 0
  count_elsewhere [] h = refl
  count_elsewhere (answer ∷ several) h =
      omega (
        arith,
        count_append said.organiser answer.before.organisers (organisers_of (befores several)),
        none_are said.organiser answer.before.organisers (All-head IsElsewhere answer several h),
        count_elsewhere several (All-tail IsElsewhere answer several h),
      )

  pub count_of_one : (ahead behind : List Answer) (host : Answer) → count_at said.organiser host.before.organisers ≤ count_in (ahead ++ host ∷ behind)
  count_of_one [] behind host = omega (arith, count_append said.organiser host.before.organisers (organisers_of (befores behind)))
  count_of_one (answer ∷ ahead) behind host =
      omega (arith, count_append said.organiser answer.before.organisers (organisers_of (befores (ahead ++ host ∷ behind))), count_of_one ahead behind host)

  pub among_all : (ahead behind : List Answer) (host : Answer) (organiser : HostedOrganiser) → Contains host.before.organisers organiser
      → Contains (organisers_of (befores (ahead ++ host ∷ behind))) organiser
  among_all [] behind host organiser there = Contains-append_left host.before.organisers (organisers_of (befores behind)) organiser there
  among_all (answer ∷ ahead) behind host organiser there =
      Contains-append_right answer.before.organisers (organisers_of (befores (ahead ++ host ∷ behind))) organiser (among_all ahead behind host organiser there)

  -- ---- what all of them keep then

  abbrev pub IsChanged : OrganiserBook → Answer → Type 0
  IsChanged book answer = (answer.after.organisers ≡ map (with_book said.organiser book) answer.before.organisers) × (answer.after.rooms ≡ answer.before.rooms)

  pub unchanged : (book : OrganiserBook) (answer : Answer) → IsElsewhere answer → IsUntouched answer → IsChanged book answer
  unchanged book answer none (same, _) =
      (ap (λ (b : Box). b.organisers) same ∙ sym (kept said.organiser book answer.before.organisers none), ap (λ (b : Box). b.rooms) same)

  pub changed_organisers : (book : OrganiserBook) (several : List Answer) → All (IsChanged book) several
      → organisers_of (afters several) ≡ map (with_book said.organiser book) (organisers_of (befores several))
  changed_organisers book [] h = refl
  changed_organisers book (answer ∷ several) h =
      ap (λ l. l ++ organisers_of (afters several)) (All-head (IsChanged book) answer several h).0
      ∙ ap (λ l. map (with_book said.organiser book) answer.before.organisers ++ l) (changed_organisers book several (All-tail (IsChanged book) answer several h))
      ∙ sym (map-append (with_book said.organiser book) answer.before.organisers (organisers_of (befores several)))

  pub same_rooms : (book : OrganiserBook) (several : List Answer) → All (IsChanged book) several → rooms_of (afters several) ≡ rooms_of (befores several)
  same_rooms book [] h = refl
  same_rooms book (answer ∷ several) h =
      ap (λ l. l ++ rooms_of (afters several)) (All-head (IsChanged book) answer several h).1
      ∙ ap (λ l. answer.before.rooms ++ l) (same_rooms book several (All-tail (IsChanged book) answer several h))

-- boxes that keep what they kept
pub same_boxes : (several : List Answer) → All (λ answer. answer.after ≡ answer.before) several → afters several ≡ befores several
same_boxes [] h = refl
same_boxes (answer ∷ several) h =
    let Same : Answer → Type 0 = λ a. a.after ≡ a.before in
    ap (λ b. b ∷ afters several) (All-head Same answer several h) ∙ ap (λ l. answer.before ∷ l) (same_boxes several (All-tail Same answer several h))
