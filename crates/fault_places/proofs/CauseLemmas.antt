-- What is found of a VTIMEZONE is in the way of it: the ends of `shape_cause` and `offsets_cause`.
use Rattle.std.proofs.Common.{◌≡◌, ◌⊎◌, ◌∙◌, ◌<◌, ap, sym, refl, subst, inl, inr, ℕ, List, [], length, get_or, true, drop, codes, Result, Ok, Err}
use Rattle.std.specs.Prelude.{Option, Some, None, IfOk, Contains, ℤ, ◌-ℤ◌, unsigned_abs}
use Rattle.std.specs.Result.{result_ok}
use Rattle.std.proofs.lemmas.Option.{none-some, same_Some}
use Rattle.profile.specs.text.Lines.{line_value}
use Rattle.profile.specs.text.Values.{SpellsOffset}
use Rattle.ical_tree.specs.Tree.{component_name, component_lines, component_children}
use Rattle.ical_tree.specs.declared.component.Component.{Component}
use Rattle.profile.specs.series.ZoneTexts.{is_part}
use Rattle.cal_zones.specs.Read.{HasZoneFault, parts_in, zone_parts}
use Rattle.cal_zones.proofs.PartLemmas.{is_among}
use Rattle.fault_places.specs.Obstacles.{AreBoth, HasFar, HasRuleCause, HasUnmatched, IsCause, IsFar, IsFirstLine, IsLonely, IsNthPart, IsPartCause, IsTimesCause, IsUnmatched, parts_named, text_of, times, ruled, second, rule, far, unmatched, close}
use Rattle.fault_places.specs.declared.obstacle.Cause.{Cause}
use Rattle.fault_places.specs.declared.obstacle.Obstacle.{Obstacle}
use Rattle.fault_places.specs.declared.obstacle.Obstacle.TheVariants.{RuledAlone, Second, FarApart, Unmatched, Close}
use Rattle.fault_places.specs.declared.obstacle.PartCause.{PartCause}
use Rattle.fault_places.proofs.ObstacleLemmas.{AreRight, daylight_of, differ, no_parts, one_named, only_daylight, only_standard, some_daylight, some_standard, standard_of}

-- a part of this name has it
caused : (zone part : Component) (n : ℕ) (found : PartCause) (obstacle : Obstacle) (line : Option (List ℕ)) → found.component.now ≡ part → found.cause.obstacle ≡ obstacle
    → text_of found.cause.line ≡ line → IsPartCause zone part obstacle line n → IsCause zone n found
caused zone part n found obstacle line name o l is =
    inr (part, name, subst (λ (b : Obstacle). IsPartCause zone part b (text_of found.cause.line) n) (sym o) (subst (λ (t : Option (List ℕ)). IsPartCause zone part obstacle t n) (sym l) is))

-- the times of a part
pub times_there : (zone part : Component) (found : PartCause) → found.component.now ≡ part → Contains (component_children zone) part → Contains (zone_parts zone) (component_lines part)
    → IsTimesCause (component_lines part) found.cause.obstacle (text_of found.cause.line) → IsCause zone 40 found
times_there zone part found name there among is = inr (part, name, times found.cause.obstacle (text_of found.cause.line) there among is)

pub times_at : (zone : Component) (children : List Component) (i : ℕ) (part : Component) (found : PartCause) (cause : Cause) → children ≡ component_children zone → i < length children
    → part ≡ get_or children i part → is_part (component_name part) ≡ true → found.component.now ≡ part → found.cause ≡ cause
    → IsTimesCause (component_lines part) cause.obstacle (text_of cause.line) → IsCause zone 40 found
times_at zone children i part found cause e within here is name same has =
    times_there zone part found name (subst (λ (l : List Component). Contains l part) e (i, within, sym here))
    (subst (λ (l : List Component). Contains (parts_in is_part l) (component_lines part)) e (is_among is_part children i part within here is))
    (subst (λ (k : Cause). IsTimesCause (component_lines part) k.obstacle (text_of k.line)) (sym same) has)

-- a second STANDARD, or a second DAYLIGHT
pub second_standard : (zone part : Component) (found : PartCause) → HasZoneFault zone 40 → AreRight (zone_parts zone) → IsNthPart zone (codes "STANDARD") 1 part
    → found.component.now ≡ part → found.cause.obstacle ≡ Second → text_of found.cause.line ≡ None → IsCause zone 40 found
second_standard zone part found fault right is name o l =
    caused zone part 40 found Second None name o l (second (differ zone fault right (some_standard zone part 1 is)) (inl is))

pub second_daylight : (zone part : Component) (found : PartCause) → HasZoneFault zone 40 → AreRight (zone_parts zone) → IsNthPart zone (codes "DAYLIGHT") 1 part
    → found.component.now ≡ part → found.cause.obstacle ≡ Second → text_of found.cause.line ≡ None → IsCause zone 40 found
second_daylight zone part found fault right is name o l =
    caused zone part 40 found Second None name o l (second (differ zone fault right (some_daylight zone part 1 is)) (inr is))

-- one part, or none
pub lonely_standard : (zone : Component) (found : PartCause) → HasZoneFault zone 40 → AreRight (zone_parts zone) → drop 1 (parts_named zone (codes "STANDARD")) ≡ [] → parts_named zone (codes "DAYLIGHT") ≡ []
    → IsLonely zone (codes "STANDARD") found → IsCause zone 40 found
lonely_standard zone found fault right once other (inl (none, name, o, l)) = inl (no_parts zone none other, name, o, l, refl)
lonely_standard zone found fault right once other (inr (part, line, is, name, o, l, has)) =
    caused zone part 40 found RuledAlone (Some line) name o l (ruled line (differ zone fault right (some_standard zone part 0 is)) (only_standard zone part is once other) has)

pub lonely_daylight : (zone : Component) (found : PartCause) → HasZoneFault zone 40 → AreRight (zone_parts zone) → drop 1 (parts_named zone (codes "DAYLIGHT")) ≡ [] → parts_named zone (codes "STANDARD") ≡ []
    → IsLonely zone (codes "DAYLIGHT") found → IsCause zone 40 found
lonely_daylight zone found fault right once other (inl (none, name, o, l)) = inl (no_parts zone other none, name, o, l, refl)
lonely_daylight zone found fault right once other (inr (part, line, is, name, o, l, has)) =
    caused zone part 40 found RuledAlone (Some line) name o l (ruled line (differ zone fault right (some_daylight zone part 0 is)) (only_daylight zone part is once other) has)

-- one of each name
pub rules_there : (zone standard daylight : Component) (found : PartCause) → HasZoneFault zone 40 → AreRight (zone_parts zone)
    → IsNthPart zone (codes "STANDARD") 0 standard → drop 1 (parts_named zone (codes "STANDARD")) ≡ [] → IsNthPart zone (codes "DAYLIGHT") 0 daylight → drop 1 (parts_named zone (codes "DAYLIGHT")) ≡ []
    → HasRuleCause standard found ⊎ HasRuleCause daylight found → IsCause zone 40 found
rules_there zone standard daylight found fault right s s_once d d_once (inl (name, is)) =
    inr (
      standard,
      name,
      rule found.cause.obstacle (text_of found.cause.line) (differ zone fault right (some_standard zone standard 0 s))
          (daylight, inl (s, d), inl (one_named zone standard standard_of s s_once, one_named zone daylight daylight_of d d_once)) is,
    )
rules_there zone standard daylight found fault right s s_once d d_once (inr (name, is)) =
    inr (
      daylight,
      name,
      rule found.cause.obstacle (text_of found.cause.line) (differ zone fault right (some_standard zone standard 0 s))
          (standard, inr (d, s), inr (one_named zone daylight daylight_of d d_once, one_named zone standard standard_of s s_once)) is,
    )

-- offsets that were read
spelled : {E : Type 0} (r : Result ℤ E) (text value : List ℕ) (offset : ℤ) → text ≡ value → IfOk r (SpellsOffset text) → Some offset ≡ result_ok r → SpellsOffset value offset
spelled (Ok x) text value offset e h same = subst (λ (t : List ℕ). SpellsOffset t offset) e (subst (SpellsOffset text) (sym (same_Some offset x same)) h)
spelled (Err f) text value offset e h same = absurd (none-some offset (sym same))

pub is_far : {E : Type 0} (part : List (List ℕ)) (line other to_text from_text : List ℕ) (r s : Result ℤ E) (to from a b : ℤ) (n : ℕ) → IsFirstLine (codes "TZOFFSETTO") part line
    → IsFirstLine (codes "TZOFFSETFROM") part other → to_text ≡ line_value line → from_text ≡ line_value other → IfOk r (SpellsOffset to_text) → IfOk s (SpellsOffset from_text)
    → Some to ≡ result_ok r → Some from ≡ result_ok s → a ≡ to → b ≡ from → n ≡ unsigned_abs (a -ℤ b) → 43_200 < n → IsFar part line
is_far part line other to_text from_text r s to from a b n l o t f reads others there here e g size apart = record {
  to = to;
  from = from;
  other = other;
  says_to = (l, spelled r to_text (line_value line) to t reads there);
  says_from = (o, spelled s from_text (line_value other) from f others here);
  far = subst (λ (z : ℤ). 43_200 < unsigned_abs (z -ℤ from)) e (subst (λ (z : ℤ). 43_200 < unsigned_abs (a -ℤ z)) g (subst (λ (k : ℕ). 43_200 < k) size apart));
}

pub is_unmatched : {E : Type 0} (part others : List (List ℕ)) (line other from_text to_text : List ℕ) (r s : Result ℤ E) (from to a b : ℤ) → IsFirstLine (codes "TZOFFSETFROM") part line
    → IsFirstLine (codes "TZOFFSETTO") others other → from_text ≡ line_value line → to_text ≡ line_value other → IfOk r (SpellsOffset from_text) → IfOk s (SpellsOffset to_text)
    → Some from ≡ result_ok r → Some to ≡ result_ok s → a ≡ from → b ≡ to → (a ≡ b → ⊥) → IsUnmatched part others line
is_unmatched part others line other from_text to_text r s from to a b l o f t reads says there here e g differ = record {
  from = from;
  to = to;
  other = other;
  says_from = (l, spelled r from_text (line_value line) from f reads there);
  says_to = (o, spelled s to_text (line_value other) to t says here);
  differ = λ same. differ (e ∙ same ∙ sym g);
}

pub has_far : (part : Component) (found : PartCause) (cause : Cause) (line : List ℕ) → found.component.now ≡ part → found.cause ≡ cause → cause.obstacle ≡ FarApart
    → text_of cause.line ≡ Some line → IsFar (component_lines part) line → HasFar part found
has_far part found cause line name same o l is = (line, name, ap (λ (k : Cause). k.obstacle) same ∙ o, ap (λ (k : Cause). text_of k.line) same ∙ l, is)

pub has_unmatched : (part other : Component) (found : PartCause) (cause : Cause) (line : List ℕ) → found.component.now ≡ part → found.cause ≡ cause → cause.obstacle ≡ Unmatched
    → text_of cause.line ≡ Some line → IsUnmatched (component_lines part) (component_lines other) line → HasUnmatched part other found
has_unmatched part other found cause line name same o l is = (line, name, ap (λ (k : Cause). k.obstacle) same ∙ o, ap (λ (k : Cause). text_of k.line) same ∙ l, is)

pub far_there : (zone part : Component) (found : PartCause) → IsNthPart zone (codes "STANDARD") 0 part ⊎ IsNthPart zone (codes "DAYLIGHT") 0 part → HasFar part found → IsCause zone 41 found
far_there zone part found is (line, name, o, l, has) = caused zone part 41 found FarApart (Some line) name o l (far line is has)

pub unmatched_there : (zone part other : Component) (found : PartCause) → AreBoth zone part other → HasUnmatched part other found → IsCause zone 41 found
unmatched_there zone part other found both (line, name, o, l, has) = caused zone part 41 found Unmatched (Some line) name o l (unmatched line other both has)

pub close_there : (zone part : Component) (found : PartCause) → IsNthPart zone (codes "DAYLIGHT") 0 part → found.component.now ≡ part → found.cause.obstacle ≡ Close
    → text_of found.cause.line ≡ None → IsCause zone 42 found
close_there zone part found is name o l = caused zone part 42 found Close None name o l (close is)
