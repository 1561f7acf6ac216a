-- What a body is made of: instants in order, and the zone after its lines.
-- Cited by ascending, canonical_body, write_list, write_others, write_rule, write_start and 1 more.
use Rattle.std.proofs.Common.{◌≡◌, ◌∙◌, ℕ, ◌<◌, ◌+◌, List, [], ◌∷◌, ◌++◌, take, length, get_or, codes, refl, sym, ap, subst, arith, append_assoc, append-nil, ℤ, pos, ◌<ℤ◌}
use Rattle.std.specs.Prelude.{AllPairs, Contains}
use Rattle.std.specs.List.{dedup, flat_map, AllZip}
use Rattle.std.specs.List.Sorted.{IsPermutation, IsSorted, IsStrictlySortedBy}
use Rattle.std.specs.Ordering.{int_cmp, int_eq}
use Rattle.std.specs.declared.cmp.Ordering.TheVariants.{Less}
use Rattle.std.proofs.lemmas.Bool.Decides.{Decides-int_eq}
use Rattle.std.proofs.lemmas.Cmp.{int_cmp_total, int_eq_equiv, int_ranked}
use Rattle.std.proofs.lemmas.Int.{ints}
use Rattle.std.proofs.lemmas.List.Kept.{Contains-dedup, Contains-from_dedup, IsStrictlySortedBy-dedup}
use Rattle.std.proofs.lemmas.List.Sorted.{Contains-permutation, IsPermutation-sym}
use Rattle.std.proofs.lemmas.List.{take_more}
use Rattle.std.proofs.lemmas.Map.Keys.{Less-from_sorted}
use Rattle.profile.specs.series.Zones.{Zone}
use Rattle.profile.specs.text.Lines.{folded, written}
use Rattle.profile.specs.rooms.Messages.{AreAscending, IsZoneRest, instants_in, zone_text}
use Rattle.profile.specs.events.Occurrences.{Time}
use Rattle.profile.specs.events.Properties.{Form, Fixed, Floating, WholeDay}
use Rattle.itip_messages.proofs.body_lemmas.TimeLists.{of_form}
use Rattle.profile.specs.written.WrittenZones.{IsZoneText}
use Rattle.profile.specs.text.Values.{IsClockSeconds}
use Rattle.cal_events.specs.MeetingComponents.{IsInEventDates}
use Rattle.cal_events.proofs.shared_lemmas.EventLemmas.{push_zip}
use Rattle.itip_messages.specs.Body.{AppendsListed, AppendsOthers, AppendsTimes, AreShowable, IsShowable, crlf_lines, writes_as}
use Rattle.itip_messages.proofs.shared_lemmas.CleanBodies.{Lines, crlf_both}

-- instants in order, each once
pub sorted_once : (xs sorted left : List ℤ) → IsPermutation xs sorted → IsSorted int_cmp sorted → left ≡ dedup int_eq sorted → AreAscending xs left
sorted_once xs sorted left same up is = record {
  exact = λ t. (
    λ c. Contains-permutation sorted xs t (IsPermutation-sym xs sorted same) (Contains-from_dedup int_eq sorted t (subst (λ (l : List ℤ). Contains l t) is c)),
    λ c. subst (λ (l : List ℤ). Contains l t) (sym is) (Contains-dedup int_eq_equiv (λ x y e. (Decides-int_eq x y).0 e) sorted t (Contains-permutation xs sorted t same c)),
  );
  order = subst (AllPairs ◌<ℤ◌) (sym is) (λ i j d l w. int_ranked _ _ Less (sym (Less-from_sorted int_cmp (dedup int_eq sorted) i j d strict l w)));
}
  where
    strict : IsStrictlySortedBy int_cmp (dedup int_eq sorted)
    strict = IsStrictlySortedBy-dedup int_cmp_total (λ x y. refl) sorted up

-- ---- the zone

-- the VTIMEZONE of the name `Z`, as it is written
pub zone_written : (octets : List ℕ) (zone : Zone) → IsZoneText octets (codes "Z") zone → (rest : List ℕ) × IsZoneRest zone rest × (octets ≡ zone_text (codes "Z") rest)
zone_written octets zone (lines, (parts, w, e), is) =
    let rest = written (parts ++ codes "END:VTIMEZONE" ∷ []) in
    (rest, (parts, w, refl), is ∙ ap written e ∙ regroup (folded (codes "BEGIN:VTIMEZONE")) (folded (codes "TZID:Z")) rest)
  where
    regroup : (a b c : List ℕ) → a ++ (b ++ c) ≡ (a ++ (b ++ [])) ++ c
    regroup a b c = simp (append_assoc, append-nil)

-- ---- a list of instants

abbrev joined : Lines → List ℕ
joined texts = flat_map (λ other. codes "," ++ other) texts

joined_more : (texts : Lines) (text : List ℕ) → joined (texts ++ text ∷ []) ≡ joined texts ++ (codes "," ++ text)
joined_more [] text = append-nil (codes "," ++ text)
joined_more (x ∷ xs) text = ap (λ l. (codes "," ++ x) ++ l) (joined_more xs text) ∙ sym (append_assoc (codes "," ++ x) (joined xs) (codes "," ++ text))

-- one more instant
pub others_more : (form : Form) (xs : List ℤ) (k : ℕ) (start old comma new : List ℕ) → k < length xs → AppendsOthers form (take k xs) start old → comma ≡ old ++ codes ","
    → (text : List ℕ) → writes_as form text (get_or xs k (pos 0)) → new ≡ comma ++ text → AppendsOthers form (take (k + 1) xs) start new
others_more form xs k start old comma new w (texts, z, is) after text stamp n = (
  texts ++ text ∷ [],
  subst (λ (l : List ℤ). AllZip (writes_as form) (texts ++ text ∷ []) l) (sym (take_more xs k (pos 0) w)) (push_zip (writes_as form) texts (take k xs) text (get_or xs k (pos 0)) z stamp),
  n ∙ ap (λ l. l ++ text) (after ∙ ap (λ l. l ++ codes ",") is) ∙ append_assoc (start ++ joined texts) (codes ",") text ∙ append_assoc start (joined texts) (codes "," ++ text) ∙ ap (λ l. start ++ l) (sym (joined_more texts text)),
)

-- ---- lines, as they are appended

pub list_written : (body name text more i2 i3 i4 i5 : List ℕ) → i2 ≡ body ++ (name ++ codes ":") → i3 ≡ i2 ++ text → i4 ≡ i3 ++ more → i5 ≡ i4 ++ codes "\r\n"
    → i5 ≡ body ++ crlf_lines ((name ++ codes ":" ++ text ++ more) ∷ [])
list_written body name text more i2 i3 i4 i5 b c d e =
    e ∙ ap (λ l. l ++ codes "\r\n") (d ∙ ap (λ l. l ++ more) (c ∙ ap (λ l. l ++ text) b)) ∙ regroup body name (codes ":") text more (codes "\r\n")
  where
    regroup : (a b c d e f : List ℕ) → (((a ++ (b ++ c)) ++ d) ++ e) ++ f ≡ a ++ (((b ++ c ++ d ++ e) ++ f) ++ [])
    regroup a b c d e f = simp (append_assoc, append-nil)

-- three lists in turn
pub listed_written : (name : List ℕ) (times : List Time) (i0 i1 i2 i3 : List ℕ) → AppendsTimes Fixed name (instants_in Fixed times) i0 i1 → AppendsTimes Floating name (instants_in Floating times) i1 i2
    → AppendsTimes WholeDay name (instants_in WholeDay times) i2 i3 → AppendsListed name times i0 i3
listed_written name times i0 i1 i2 i3 (a, v, p) (b, w, q) (d, x, r) = (
  a ++ b ++ d,
  record { fixed = a; floating = b; days = d; in_utc = v; local = w; dates = x; are = refl },
  r ∙ ap (λ l. l ++ crlf_lines d) (q ∙ ap (λ l. l ++ crlf_lines b) p) ∙ regroup i0 (crlf_lines a) (crlf_lines b) (crlf_lines d)
      ∙ ap (λ l. i0 ++ l) (sym (crlf_both (a ++ b) d ∙ ap (λ l. l ++ crlf_lines d) (crlf_both a b))),
)
  where
    regroup : (o a b c : List ℕ) → ((o ++ a) ++ b) ++ c ≡ o ++ ((a ++ b) ++ c)
    regroup o a b c = simp (append_assoc)

-- ---- whole days

pub line_written : (body head text i1 i2 i3 : List ℕ) → i1 ≡ body ++ head → i2 ≡ i1 ++ text → i3 ≡ i2 ++ codes "\r\n" → i3 ≡ body ++ crlf_lines ((head ++ text) ∷ [])
line_written body head text i1 i2 i3 a b c = c ∙ ap (λ l. l ++ codes "\r\n") (b ∙ ap (λ l. l ++ text) a) ∙ regroup body head text (codes "\r\n")
  where
    regroup : (a b c d : List ℕ) → ((a ++ b) ++ c) ++ d ≡ a ++ (((b ++ c) ++ d) ++ [])
    regroup a b c d = simp (append_assoc, append-nil)

pub body_written : (start duration : List ℕ) (r a e : Lines) (zone i0 i1 i2 i3 i4 i5 i6 : List ℕ) → i0 ≡ [] → i1 ≡ i0 ++ crlf_lines (start ∷ []) → i2 ≡ i1 ++ crlf_lines (duration ∷ []) → i3 ≡ i2 ++ crlf_lines r → i4 ≡ i3 ++ crlf_lines a
    → i5 ≡ i4 ++ crlf_lines e → i6 ≡ i5 ++ zone → i6 ≡ crlf_lines (start ∷ duration ∷ (r ++ (a ++ e))) ++ zone
body_written start duration r a e zone i0 i1 i2 i3 i4 i5 i6 h0 h1 h2 h3 h4 h5 h6 =
    let s = start ++ codes "\r\n" in
    let d = duration ++ codes "\r\n" in
    let l1 : i1 ≡ s ++ [] = h1 ∙ ap (λ l. l ++ (s ++ [])) h0 in
    let l3 : i3 ≡ ((s ++ []) ++ (d ++ [])) ++ crlf_lines r = h3 ∙ ap (λ l. l ++ crlf_lines r) (h2 ∙ ap (λ l. l ++ (d ++ [])) l1) in
    h6 ∙ ap (λ l. l ++ zone) (h5 ∙ ap (λ l. l ++ crlf_lines e) (h4 ∙ ap (λ l. l ++ crlf_lines a) l3))
    ∙ regroup s d (crlf_lines r) (crlf_lines a) (crlf_lines e) zone ∙ ap (λ l. (s ++ (d ++ l)) ++ zone) (sym (crlf_both r (a ++ e) ∙ ap (λ l. crlf_lines r ++ l) (crlf_both a e)))
  where
    regroup : (s d r a e z : List ℕ) → (((((s ++ []) ++ (d ++ [])) ++ r) ++ a) ++ e) ++ z ≡ (s ++ (d ++ (r ++ (a ++ e)))) ++ z
    regroup s d r a e z = simp (append_assoc, append-nil)

-- ---- which times there are

-- those of one form can be written as such
pub form_shown : (form : Form) (times : List Time) → AreShowable times → (i : ℤ) → Contains (instants_in form times) i → IsShowable form i
form_shown form times f i c = of_form form times IsShowable f i c

-- an instant that an event may name can be written as a stamp
pub clock_named : (t : ℤ) → IsInEventDates t → IsClockSeconds t
clock_named t n = (omega (arith, ints, n.0), omega (arith, ints, n.1))
