-- What became of a message to rooms: whether it is a CANCEL that frees none of them.
-- Cited by Books::answer.
use Rattle.std.proofs.Common.{◌≡◌, ◌∙◌, ℕ, ℤ, Bool, true, false, not, ◌&&◌, ◌||◌, List, [], ◌∷◌, length, inl, inr, refl, sym, ap, subst, arith}
use Rattle.std.specs.Prelude.{nat_lt, if◌then◌else◌}
use Rattle.std.specs.List.{AllZip, Contains, list_any}
use Rattle.std.proofs.lemmas.Bool.{both_ways, cases_Bool, false_from_ne_true, true≢false}
use Rattle.std.proofs.lemmas.List.Elements.{Contains-append_cases, Contains-push_cases}
use Rattle.profile.specs.events.EventComponents.{EventComponent, Method}
use Rattle.profile.specs.events.Messages.{Message}
use Rattle.profile.specs.rooms.Messages.{Content, Outcome, IsBody, is_cancel, parts_for}
use Rattle.profile.specs.rooms.Revisions.{Body, Part, Set, Absent, Cancelled}
use Rattle.profile.specs.rooms.Rooms as rooms
use Rattle.profile.specs.rooms.Rooms.{Book, Claim, Kind, Frees, KeepsConfirmed, asked, is_decision, is_fresh, is_same, is_set, is_set_body, kind_of, kind_of_outcome, parts_of}
use Rattle.profile.specs.streams.Reports.{AllBecome, BecomesThere, CancelsNothing, Fate, IsFate, Repeated, Stale, Taken, Unreached, fate_of, is_change, is_repeat, is_stale}
use Rattle.profile.specs.streams.Streams.{Hosted, IsClaim}
use Rattle.room_books.proofs.room_lemmas.Meetings.{filter_none}
use Rattle.sched_box.specs.Answering.{AllTell}
use Rattle.sched_box.specs.Journal.{InRoom, fate_in, kinds_of}

-- ---- a CANCEL asks for nothing

-- one that each of a list has a partner in
with_partner : {A B : Type 0} (R : A → B → Type 0) (xs : List A) (ys : List B) → AllZip R xs ys → (y : B) → Contains ys y → (x : A) × R x y
with_partner R [] [] z y c = let w = c.1 in absurd (omega (arith, w))
with_partner R [] (b ∷ ys) z y c = absurd z
with_partner R (a ∷ xs) [] z y c = absurd z
with_partner R (a ∷ xs) (b ∷ ys) z y c = elim (Contains-append_cases (b ∷ []) ys y c) [
  | inl first ↦ elim (Contains-push_cases [] b y first) [ inl none ↦ (let w = none.1 in absurd (omega (arith, w))) | inr here ↦ (a, subst (R a) here z.0) ]
  | inr there ↦ with_partner R xs ys z.1 y there
]

-- what it says of a slot isn't to take place
unset : (room : List ℕ) (method : Method) (event : EventComponent) (content : Content) (body : Body) → is_cancel method ≡ true → IsBody room method event content body → is_set_body body ≡ false
unset room method event content (Set octets) cancel is = absurd (both_ways _ is.0 (ap (λ b. b || event.cancelled) cancel))
unset room method event content Absent cancel is = refl
unset room method event content Cancelled cancel is = refl

-- where no claim is to take place, nothing is decided
undecided : (before after : List Part) (claims : List Claim) (outcome : Outcome) → ((c : Claim) → Contains claims c → is_set c.part ≡ false) → is_decision (kind_of before after claims outcome) ≡ false
undecided before after [] outcome h = refl
undecided before after (c ∷ cs) outcome h =
    let none : asked before after (c ∷ cs) ≡ [] = filter_none (λ (x : Claim). is_set x.part && is_fresh before after x.part) (c ∷ cs) (λ x among. ap (λ b. b && is_fresh before after x.part) (h x among)) in
    ap (λ l. is_decision (by l (list_any (is_fresh before after) (parts_of (c ∷ cs))) (list_any (is_same before after) (parts_of (c ∷ cs))))) none ∙ never _ _
  where
    by : List Claim → Bool → Bool → Kind
    by l fresh same = if nat_lt 0 (length l) then kind_of_outcome outcome else (if fresh then rooms.Cancelled else (if same then rooms.Repeated else rooms.Stale))

    never : (fresh same : Bool) → is_decision (by [] fresh same) ≡ false
    never true same = refl
    never false true = refl
    never false false = refl

pub cancel_undecided : (moment : ℤ) (message : Message) (before after : Hosted) (kind : Kind) → is_cancel message.method ≡ true → BecomesThere moment message before after kind → is_decision kind ≡ false
cancel_undecided moment message before after kind cancel became =
    ap is_decision became.is
    ∙ undecided before.book.taken after.book.taken became.claims became.outcome (λ claim among.
    let own = with_partner (IsClaim before.address before.zone message) (parts_for before.address message) became.are.all became.are.each claim (became.are.are.among claim among) in
    unset before.address message.method own.0 claim.content claim.part.body cancel own.1.part.body)

-- ---- whether it frees a room

module _ (moment : ℤ) (message : Message) (cancel : is_cancel message.method ≡ true) where
  -- each room keeps all that it had confirmed
  all_keep : (all : List InRoom) (befores afters : List Hosted) → AllBecome moment message befores afters (kinds_of all) → AllTell all befores afters → list_any (λ (one : InRoom). one.frees) all ≡ false
      → AllZip (λ was is. KeepsConfirmed was.book is.book) befores afters
  all_keep [] [] [] b t f = tt
  all_keep [] [] (a ∷ afters) b t f = absurd t
  all_keep [] (x ∷ bs) [] b t f = absurd t
  all_keep [] (x ∷ bs) (a ∷ afters) b t f = absurd t
  all_keep (one ∷ all) [] [] b t f = absurd t
  all_keep (one ∷ all) [] (a ∷ afters) b t f = absurd t
  all_keep (one ∷ all) (x ∷ bs) [] b t f = absurd t
  all_keep (one ∷ all) (x ∷ bs) (a ∷ afters) (kind, others, is, became, more) (tells, rest) f =
      let here : one.frees ≡ false = false_from_ne_true one.frees (λ e. both_ways _ f (ap (λ b. b || list_any (λ (y : InRoom). y.frees) all) e)) in
      let there : list_any (λ (y : InRoom). y.frees) all ≡ false = sym (ap (λ b. b || list_any (λ (y : InRoom). y.frees) all) here) ∙ f in
      let kind_is : kind ≡ one.kind = ap (first_of kind) (sym is) in
      let others_are : others ≡ kinds_of all = ap rest_of (sym is) in (
        tells.kept here (cancel_undecided moment message x a one.kind cancel (subst (BecomesThere moment message x a) kind_is became)),
        all_keep all bs afters (subst (AllBecome moment message bs afters) others_are more) rest there,
      )
    where
      first_of : Kind → List Kind → Kind
      first_of d [] = d
      first_of d (k ∷ ks) = k

      rest_of : List Kind → List Kind
      rest_of [] = []
      rest_of (k ∷ ks) = ks

-- one room doesn't
one_frees : (all : List InRoom) (befores afters : List Hosted) → AllTell all befores afters → list_any (λ (one : InRoom). one.frees) all ≡ true → AllZip (λ was is. KeepsConfirmed was.book is.book) befores afters → ⊥
one_frees [] bs afters t f keeps = true≢false (sym f)
one_frees (one ∷ all) [] afters t f keeps = t
one_frees (one ∷ all) (x ∷ bs) [] t f keeps = t
one_frees (one ∷ all) (x ∷ bs) (a ∷ afters) (tells, rest) f keeps = elim (cases_Bool one.frees) [
  | inl frees ↦ (let freed = tells.freed frees in freed.gone (keeps.0 freed.booked freed.was))
  | inr none ↦ one_frees all bs afters rest (sym (ap (λ b. b || list_any (λ (y : InRoom). y.frees) all) none) ∙ f) keeps.1
]

-- what wasn't changed isn't taken
not_taken : (kinds : List Kind) → list_any is_change kinds ≡ false → fate_of kinds ≡ Taken → ⊥
not_taken kinds none e = never _ _ (sym (ap (λ b. by b (list_any is_repeat kinds) (list_any is_stale kinds)) none) ∙ e)
  where
    by : Bool → Bool → Bool → Fate
    by a b c = if a then Taken else (if b then Repeated else (if c then Stale else Unreached))

    never : (b c : Bool) → by false b c ≡ Taken → ⊥
    never true c h = cc
    never false true h = cc
    never false false h = cc

is_taken : (kinds : List Kind) → list_any is_change kinds ≡ true → fate_of kinds ≡ Taken
is_taken kinds some = ap (λ b. if b then Taken else (if list_any is_repeat kinds then Repeated else (if list_any is_stale kinds then Stale else Unreached))) some

pub is_fate : (moment : ℤ) (message : Message) (all : List InRoom) (befores afters : List Hosted) (fate : Fate) → AllBecome moment message befores afters (kinds_of all) → AllTell all befores afters
    → fate ≡ fate_in (is_cancel message.method) all → IsFate message befores afters (kinds_of all) fate
is_fate moment message all befores afters fate became tells is = elim (cases_Bool (list_any is_change (kinds_of all))) [
  | inr none ↦ inr ((λ f. not_taken (kinds_of all) none f.taken), is ∙ ap (λ b. if b && quiet then CancelsNothing else fate_of (kinds_of all)) none)
  | inl some ↦ elim (cases_Bool (is_cancel message.method)) [
    | inr other ↦ inr ((λ f. both_ways _ other f.cancel), is ∙ with_quiet false some (ap (λ b. b && not frees) other))
    | inl cancel ↦ elim (cases_Bool frees) [
      | inl one ↦ inr ((λ f. one_frees all befores afters tells one f.keeps), is ∙ with_quiet false some (ap (λ b. b && not frees) cancel ∙ ap not one))
      | inr no_one ↦ inl (
        record { cancel = cancel; taken = is_taken (kinds_of all) some; keeps = all_keep moment message cancel all befores afters became tells no_one },
        is ∙ with_quiet true some (ap (λ b. b && not frees) cancel ∙ ap not no_one),
      )
    ]
  ]
]
  where
    frees : Bool
    frees = list_any (λ (one : InRoom). one.frees) all

    quiet : Bool
    quiet = is_cancel message.method && not frees

    with_quiet : (b : Bool) → list_any is_change (kinds_of all) ≡ true → quiet ≡ b → fate_in (is_cancel message.method) all ≡ (if b then CancelsNothing else fate_of (kinds_of all))
    with_quiet b some e = ap (λ c. if c && quiet then CancelsNothing else fate_of (kinds_of all)) some ∙ ap (λ c. if c then CancelsNothing else fate_of (kinds_of all)) e
