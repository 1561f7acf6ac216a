-- Organisers of one address among many, of whom there is one at most: what one of them keeps changes, and nobody else does.
use Rattle.std.proofs.Common.{◌≡◌, ◌≢◌, ◌∙◌, ℕ, ◌+◌, ◌<◌, ◌≤◌, suc, zero, Bool, true, false, cond, ◌||◌, List, [], ◌∷◌, ◌++◌, map, refl, sym, ap, subst, arith, inl, inr}
use Rattle.std.specs.Prelude.{AllPairs, Contains, IsPermutation}
use Rattle.std.specs.List.{list_any}
use Rattle.std.specs.Str.{bytes_eq}
use Rattle.std.proofs.lemmas.Bool.{false≢true, cases_Bool, or_parts}
use Rattle.std.proofs.lemmas.List.Recursion.{is_sum_by}
use Rattle.std.proofs.lemmas.List.Sorted.{sum_by-IsPermutation}
use Rattle.std.proofs.lemmas.Slice.Eq.{bytes_eq-Decides}
use Rattle.profile.specs.organisers.Organisers.{OrganiserBook}
use Rattle.profile.specs.streams.Streams.{HostedOrganiser}

-- where x is, the list is what comes before it, it, and what comes behind it
pub parted : {X : Type 0} (xs : List X) (x : X) → Contains xs x → (ahead : List X) × (behind : List X) × (xs ≡ ahead ++ x ∷ behind)
parted [] x (k, bound, is) = absurd (omega (arith, bound))
parted (y ∷ ys) x (zero, bound, is) = ([], ys, ap (λ z. z ∷ ys) is)
parted (y ∷ ys) x (suc k, bound, is) =
    let (ahead, behind, are) = parted ys x (k, omega (arith, bound), is) in
    (y ∷ ahead, behind, ap (λ l. y ∷ l) are)

module _ (address : List ℕ) where
  abbrev pub is_at : HostedOrganiser → Bool
  is_at host = bytes_eq host.address address

  abbrev pub is_there : List HostedOrganiser → Bool
  is_there = list_any is_at

  abbrev pub count_at : List HostedOrganiser → ℕ
  count_at [] = 0
  count_at (host ∷ hosts) = cond (is_at host) 1 0 + count_at hosts

  -- it keeps this instead, if it has the address
  abbrev pub with_book : OrganiserBook → HostedOrganiser → HostedOrganiser
  with_book book host = cond (is_at host) (record { address = host.address; book = book }) host

  abbrev pub addresses_of : List HostedOrganiser → List (List ℕ)
  addresses_of = map (λ host. host.address)

  pub none_counted : (hosts : List HostedOrganiser) → count_at hosts ≡ 0 → is_there hosts ≡ false
  none_counted [] e = refl
  none_counted (host ∷ hosts) e = elim (cases_Bool (is_at host)) [
    | inl here ↦ absurd (omega (arith, subst (λ b. cond b 1 0 + count_at hosts ≡ 0) here e))
    | inr other ↦ ap (λ b. b || is_there hosts) other ∙ none_counted hosts (omega (arith, e))
  ]

  pub none_are : (hosts : List HostedOrganiser) → is_there hosts ≡ false → count_at hosts ≡ 0
  none_are [] h = refl
  none_are (host ∷ hosts) h =
      let (first, others) = or_parts (is_at host) (is_there hosts) h in
      omega (arith, ap (λ b. cond b 1 0 + count_at hosts) first, none_are hosts others)

  pub some_counted : (hosts : List HostedOrganiser) → is_there hosts ≡ true → 0 < count_at hosts
  some_counted [] h = absurd (false≢true h)
  some_counted (host ∷ hosts) h = elim (cases_Bool (is_at host)) [
    | inl here ↦ subst (λ b. 0 < cond b 1 0 + count_at hosts) (sym here) (omega arith)
    | inr other ↦ subst (λ b. 0 < cond b 1 0 + count_at hosts) (sym other) (omega (arith, some_counted hosts (sym (ap (λ b. b || is_there hosts) other) ∙ h)))
  ]

  pub kept : (book : OrganiserBook) (hosts : List HostedOrganiser) → is_there hosts ≡ false → map (with_book book) hosts ≡ hosts
  kept book [] h = refl
  kept book (host ∷ hosts) h =
      let (first, others) = or_parts (is_at host) (is_there hosts) h in
      ap (λ b. cond b (record { address = host.address; book = book }) host ∷ map (with_book book) hosts) first
      ∙ ap (λ l. host ∷ l) (kept book hosts others)

  address_kept : (book : OrganiserBook) (host : HostedOrganiser) → (with_book book host).address ≡ host.address
  address_kept book host = elim (cases_Bool (is_at host)) [
    | inl here ↦ ap (λ b. (cond b (record { address = host.address; book = book }) host).address) here
    | inr other ↦ ap (λ b. (cond b (record { address = host.address; book = book }) host).address) other
  ]

  pub addresses_kept : (book : OrganiserBook) (hosts : List HostedOrganiser) → addresses_of (map (with_book book) hosts) ≡ addresses_of hosts
  addresses_kept book [] = refl
  addresses_kept book (host ∷ hosts) =
      ap (λ a. a ∷ addresses_of (map (with_book book) hosts)) (address_kept book host) ∙ ap (λ l. host.address ∷ l) (addresses_kept book hosts)

  pub count_append : (hosts others : List HostedOrganiser) → count_at (hosts ++ others) ≡ count_at hosts + count_at others
  count_append [] others = omega arith
  count_append (host ∷ hosts) others = omega (arith, count_append hosts others)

  pub count_permuted : (hosts others : List HostedOrganiser) → IsPermutation hosts others → count_at others ≡ count_at hosts
  count_permuted hosts others moved =
      let counts : (l : List HostedOrganiser) → count_at l ≡ _ = is_sum_by count_at (λ host. cond (is_at host) 1 0) refl (λ _ _. refl) in
      counts others ∙ sum_by-IsPermutation (λ host. cond (is_at host) 1 0) hosts others moved ∙ sym (counts hosts)

  -- whoever has the address is there, and whoever is there has it
  pub there_from : (hosts : List HostedOrganiser) → Contains (addresses_of hosts) address → is_there hosts ≡ true
  there_from [] (k, bound, is) = absurd (omega (arith, bound))
  there_from (host ∷ hosts) (zero, bound, is) = ap (λ b. b || is_there hosts) ((bytes_eq-Decides host.address address).1 is)
  there_from (host ∷ hosts) (suc k, bound, is) = elim (cases_Bool (is_at host)) [
    | inl here ↦ ap (λ b. b || is_there hosts) here
    | inr other ↦ ap (λ b. b || is_there hosts) other ∙ there_from hosts (k, omega (arith, bound), is)
  ]

  pub host_there : (hosts : List HostedOrganiser) (host : HostedOrganiser) → Contains hosts host → host.address ≡ address → is_there hosts ≡ true
  host_there [] host (k, bound, is) same = absurd (omega (arith, bound))
  host_there (other ∷ hosts) host (zero, bound, is) same =
      ap (λ b. b || is_there hosts) ((bytes_eq-Decides other.address address).1 (ap (λ (h : HostedOrganiser). h.address) is ∙ same))
  host_there (other ∷ hosts) host (suc k, bound, is) same = elim (cases_Bool (is_at other)) [
    | inl here ↦ ap (λ b. b || is_there hosts) here
    | inr another ↦ ap (λ b. b || is_there hosts) another ∙ host_there hosts host (k, omega (arith, bound), is) same
  ]

  pub from_there : (hosts : List HostedOrganiser) → is_there hosts ≡ true → Contains (addresses_of hosts) address
  from_there [] h = absurd (false≢true h)
  from_there (host ∷ hosts) h = elim (cases_Bool (is_at host)) [
    | inl here ↦ (0, omega arith, (bytes_eq-Decides host.address address).0 here)
    | inr other ↦
        let (k, bound, is) = from_there hosts (sym (ap (λ b. b || is_there hosts) other) ∙ h) in
        (suc k, omega (arith, bound), is)
  ]

-- of addresses that differ, each is there once at most
pub once_at_most : (address : List ℕ) (hosts : List HostedOrganiser) → AllPairs ◌≢◌ (map (λ host. host.address) hosts) → count_at address hosts ≤ 1
once_at_most address [] apart = omega arith
once_at_most address (host ∷ hosts) apart =
    let tail : AllPairs ◌≢◌ (map (λ (h : HostedOrganiser). h.address) hosts) = λ i j d less bound. apart (suc i) (suc j) d (omega (arith, less)) (omega (arith, bound)) in
    elim (cases_Bool (is_at address host)) [
      | inl here ↦
          let is : host.address ≡ address = (bytes_eq-Decides host.address address).0 here in
          let none : is_there address hosts ≡ false = elim (cases_Bool (is_there address hosts)) [
            | inl there ↦
                let (k, bound, at) = from_there address hosts there in
                absurd (apart 0 (suc k) address (omega arith) (omega (arith, bound)) (is ∙ sym at))
            | inr missing ↦ missing
          ] in
          omega (arith, none_are address hosts none, subst (λ b. cond b 1 0 + count_at address hosts ≤ 1 + count_at address hosts) (sym here) (omega arith))
      | inr other ↦ subst (λ b. cond b 1 0 + count_at address hosts ≤ 1) (sym other) (omega (arith, once_at_most address hosts tail))
    ]
