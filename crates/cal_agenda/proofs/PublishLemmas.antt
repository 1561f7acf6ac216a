-- Lines that are written one after another, and the VEVENTs of instances.
use Rattle.std.proofs.Common.{◌≡◌, ◌∙◌, ℕ, ℤ, ◌+◌, ◌<◌, ◌≤◌, List, [], ◌∷◌, ◌++◌, map, take, get_or, sym, ap, subst, length, append_assoc, append-nil}
use Rattle.std.specs.List.{AllZip, flat_map}
use Rattle.std.proofs.lemmas.Grind.{flat_map-append}
use Rattle.std.proofs.lemmas.List.{take_more, take_all, map-append}
use Rattle.profile.specs.text.Lines.{folded, written}
use Rattle.profile.specs.checker.Instances.{Instance}
use Rattle.profile.specs.checker.Publishing.{IsPublished, IsPublishedEvent, published_opening}
use Rattle.cal_agenda.specs.Published.{AreEvents}

-- ---- lines

-- what was appended, and more behind it
then_more : (old now new first second : List ℕ) → now ≡ old ++ first → new ≡ now ++ second → new ≡ old ++ (first ++ second)
then_more old now new first second e f = f ∙ ap (λ t. t ++ second) e ∙ append_assoc old first second

flat_five : (a b c d e : List ℕ) → (((a ++ b) ++ c) ++ d) ++ e ≡ a ++ (b ++ (c ++ (d ++ (e ++ []))))
flat_five a b c d e = simp (append_assoc, append-nil)

flat_eight : (a b c d e f g h : List ℕ) → ((((((a ++ b) ++ c) ++ d) ++ e) ++ f) ++ g) ++ h ≡ a ++ (b ++ (c ++ (d ++ (e ++ (f ++ (g ++ (h ++ [])))))))
flat_eight a b c d e f g h = simp (append_assoc, append-nil)

pub five_lines : (o o1 o2 o3 o4 o5 a b c d e : List ℕ) → o1 ≡ o ++ a → o2 ≡ o1 ++ b → o3 ≡ o2 ++ c → o4 ≡ o3 ++ d → o5 ≡ o4 ++ e
    → o5 ≡ o ++ (a ++ (b ++ (c ++ (d ++ (e ++ [])))))
five_lines o o1 o2 o3 o4 o5 a b c d e e1 e2 e3 e4 e5 =
    then_more o o4 o5 _ e (then_more o o3 o4 _ d (then_more o o2 o3 _ c (then_more o o1 o2 a b e1 e2) e3) e4) e5 ∙ ap (λ t. o ++ t) (flat_five a b c d e)

pub eight_lines : (o o1 o2 o3 o4 o5 o6 o7 o8 a b c d e f g h : List ℕ) → o1 ≡ o ++ a → o2 ≡ o1 ++ b → o3 ≡ o2 ++ c → o4 ≡ o3 ++ d → o5 ≡ o4 ++ e → o6 ≡ o5 ++ f
    → o7 ≡ o6 ++ g → o8 ≡ o7 ++ h → o8 ≡ o ++ (a ++ (b ++ (c ++ (d ++ (e ++ (f ++ (g ++ (h ++ []))))))))
eight_lines o o1 o2 o3 o4 o5 o6 o7 o8 a b c d e f g h e1 e2 e3 e4 e5 e6 e7 e8 =
    then_more o o7 o8 _ h (then_more o o6 o7 _ g (then_more o o5 o6 _ f (then_more o o4 o5 _ e
    (then_more o o3 o4 _ d (then_more o o2 o3 _ c (then_more o o1 o2 a b e1 e2) e3) e4) e5) e6) e7) e8
    ∙ ap (λ t. o ++ t) (flat_eight a b c d e f g h)

-- ---- events

module _ (moment : ℤ) where
  zip_more : (xs : List Instance) (x : Instance) (events : List (List (List ℕ))) (lines : List (List ℕ)) → AllZip (IsPublishedEvent moment) xs events → IsPublishedEvent moment x lines
      → AllZip (IsPublishedEvent moment) (xs ++ x ∷ []) (events ++ lines ∷ [])
  zip_more [] x [] lines are is = (is, tt)
  zip_more [] x (e ∷ es) lines are is = absurd are
  zip_more (y ∷ ys) x [] lines are is = absurd are
  zip_more (y ∷ ys) x (e ∷ es) lines (first, rest) is = (first, zip_more ys x es lines rest is)

  one_more : (xs : List Instance) (x : Instance) (lines own : List (List ℕ)) → AreEvents moment xs lines → IsPublishedEvent moment x own → AreEvents moment (xs ++ x ∷ []) (lines ++ own)
  one_more xs x lines own are is = record {
    events = are.events ++ own ∷ [];
    each = zip_more xs x are.events own are.each is;
    are = ap (λ l. l ++ own) are.are ∙ sym (flat_map-append (λ e. e) are.events (own ∷ []) ∙ ap (λ l. flat_map (λ e. e) are.events ++ l) (append-nil own));
  }

  -- the VEVENT of the one at a place, behind those before it
  pub next_event : {A : Type 0} (view : A → Instance) (all : List A) (k : ℕ) (d : A) (old now new : List ℕ) (own : List (List ℕ)) → k < length all → IsPublishedEvent moment (view (get_or all k d)) own
      → new ≡ now ++ written own → (lines : List (List ℕ)) × AreEvents moment (map view (take k all)) lines × (now ≡ old ++ written lines)
      → (lines : List (List ℕ)) × AreEvents moment (map view (take (k + 1) all)) lines × (new ≡ old ++ written lines)
  next_event view all k d old now new own w is e (lines, are, f) =
      let more : map view (take (k + 1) all) ≡ map view (take k all) ++ view (get_or all k d) ∷ [] = ap (map view) (take_more all k d w) ∙ map-append view (take k all) (get_or all k d ∷ []) in (
        lines ++ own,
        subst (λ l. AreEvents moment l (lines ++ own)) (sym more) (one_more (map view (take k all)) (view (get_or all k d)) lines own are is),
        then_more old now new (written lines) (written own) f e ∙ ap (λ t. old ++ t) (sym (flat_map-append folded lines own)),
      )

  pub all_events : {A : Type 0} (view : A → Instance) (all : List A) (k : ℕ) (old now : List ℕ) → length all ≤ k
      → (lines : List (List ℕ)) × AreEvents moment (map view (take k all)) lines × (now ≡ old ++ written lines)
      → (lines : List (List ℕ)) × AreEvents moment (map view all) lines × (now ≡ old ++ written lines)
  all_events view all k old now w (lines, are, f) = (lines, subst (λ l. AreEvents moment (map view l) lines) (take_all k all w) are, f)

  -- the whole object
  pub published_whole : (name : List ℕ) (instances : List Instance) (o o1 o2 o3 last : List ℕ) (lines : List (List ℕ)) → o ≡ [] → o1 ≡ o ++ written (published_opening name)
      → AreEvents moment instances lines → o2 ≡ o1 ++ written lines → o3 ≡ o2 ++ folded last
      → ((octets : List ℕ) → octets ≡ written (published_opening name ++ (lines ++ last ∷ [])) → IsPublished name moment instances octets) → IsPublished name moment instances o3
  published_whole name instances o o1 o2 o3 last lines none e1 are e2 e3 is = is o3 (
      then_more o o2 o3 _ (folded last) (then_more o o1 o2 (written (published_opening name)) (written lines) e1 e2) e3
      ∙ ap (λ t. t ++ ((written (published_opening name) ++ written lines) ++ folded last)) none
      ∙ append_assoc (written (published_opening name)) (written lines) (folded last)
      ∙ ap (λ t. written (published_opening name) ++ t) (ap (λ t. written lines ++ t) (sym (append-nil (folded last))) ∙ sym (flat_map-append folded lines (last ∷ [])))
      ∙ sym (flat_map-append folded (published_opening name) (lines ++ last ∷ []))
      )
