-- A zone that was written reads back as one VTIMEZONE that says that zone.
use Rattle.std.proofs.Common.{◌≡◌, ◌∙◌, refl, sym, ap, subst, inl, inr, ℕ, zero, suc, true, false, List, [], ◌∷◌, ◌++◌, codes, ◌&&◌, ◌==◌, arith, ℤ}
use Rattle.std.specs.Prelude.{Option, Some, None, Contains}
use Rattle.std.specs.List.{list_all, flat_map}
use Rattle.std.proofs.lemmas.Bool.{and_parts, and_from}
use Rattle.std.proofs.lemmas.List.Folds.{list_all-append}
use Rattle.profile.specs.text.Lines.{is_content, folded, logical_lines, reads_as_lines}
use Rattle.profile.specs.text.Trees.{Tree, Trees, tree, none, more, trees_list}
use Rattle.profile.specs.text.Objects.{Opens, Closes, is_property}
use Rattle.profile.specs.text.Objects.SpellsBody.{component}
use Rattle.profile.specs.text.Values.{escaped, unescaped}
use Rattle.profile.specs.series.Rules.{RuleText}
use Rattle.profile.specs.events.Properties.{BothOrNeither}
use Rattle.profile.specs.series.RuleTexts.{SpellsRule, RuleFault}
use Rattle.profile.specs.series.Zones.{Zone, Constant, Single, Pair, Observance}
use Rattle.profile.specs.series.ZoneTexts.{parts_by, is_part, is_standard, is_daylight, SaysPartTimes, SaysOnce, SaysYearly, IsYearLine, OffsetsDiffer, HasForm, PartsSay, SaysZone, KeepsOffset, AreMatched, AreSpaced, is_plain_yearly, are_only, names_days, is_each_year, constant, single, pair}
use Rattle.profile.specs.written.WrittenZones.{WritesPart, WritesParts, IsZoneText, IsTextName, ReadsAsZone, lines_around, keeping}
use Rattle.ical_lines.proofs.CleanLines.{IsClean, fixed}
use Rattle.ical_values.proofs.EscapedText.{utf8_escaped, escaped_calm}
use Rattle.ical_tree.proofs.TreeOfLemmas.{BodyT}
use Rattle.ical_tree.proofs.PropertyLemmas.{own_body}
use Rattle.ical_tree.proofs.OneLine.{at_one}
use Rattle.cal_zones.proofs.OneZone.{OneLocal, OneOffset, OneRule, AreParts, tree_parts, all_differ}
use Rattle.cal_zones.proofs.WrittenParts.{Lines, LocalBack, OffsetBack, part_times, part_once, part_yearly, name_line, IsRuled, unruled, ruled, part_content, part_properties}

-- ---- components

framed : (begin end : List ℕ) (own : Lines) → is_content begin ≡ true → is_content end ≡ true → list_all is_content own ≡ true → list_all is_content (begin ∷ (own ++ end ∷ [])) ≡ true
framed begin end own b e h = and_from _ _ b (list_all-append is_content own (end ∷ []) ∙ and_from _ _ h (and_from _ _ e refl))

standard_content : (own : Lines) → list_all is_content own ≡ true → list_all is_content (lines_around (codes "STANDARD") own) ≡ true
standard_content own = framed (codes "BEGIN:STANDARD") (codes "END:STANDARD") own (fixed (codes "BEGIN:STANDARD") refl refl refl refl) (fixed (codes "END:STANDARD") refl refl refl refl)

daylight_content : (own : Lines) → list_all is_content own ≡ true → list_all is_content (lines_around (codes "DAYLIGHT") own) ≡ true
daylight_content own = framed (codes "BEGIN:DAYLIGHT") (codes "END:DAYLIGHT") own (fixed (codes "BEGIN:DAYLIGHT") refl refl refl refl) (fixed (codes "END:DAYLIGHT") refl refl refl refl)

zone_content : (own : Lines) → list_all is_content own ≡ true → list_all is_content (lines_around (codes "VTIMEZONE") own) ≡ true
zone_content own = framed (codes "BEGIN:VTIMEZONE") (codes "END:VTIMEZONE") own (fixed (codes "BEGIN:VTIMEZONE") refl refl refl refl) (fixed (codes "END:VTIMEZONE") refl refl refl refl)

opens_standard : Opens (codes "BEGIN:STANDARD") (codes "STANDARD")
opens_standard = record { begins = refl; names = refl }

closes_standard : Closes (codes "END:STANDARD") (codes "STANDARD")
closes_standard = record { ends = refl; names = refl }

opens_daylight : Opens (codes "BEGIN:DAYLIGHT") (codes "DAYLIGHT")
opens_daylight = record { begins = refl; names = refl }

closes_daylight : Closes (codes "END:DAYLIGHT") (codes "DAYLIGHT")
closes_daylight = record { ends = refl; names = refl }

abbrev named : List ℕ → List ℕ
named name = codes "TZID:" ++ escaped name

abbrev standard_tree : Lines → Tree
standard_tree own = tree (codes "STANDARD") own none

abbrev daylight_tree : Lines → Tree
daylight_tree own = tree (codes "DAYLIGHT") own none

one_body : (name : List ℕ) (own : Lines) (depth : ℕ) → list_all is_property own ≡ true
    → BodyT (suc depth) (named name ∷ []) (standard_tree own ∷ []) (named name ∷ lines_around (codes "STANDARD") own)
one_body name own depth h =
    component (standard_tree own) (codes "BEGIN:STANDARD") (codes "END:STANDARD") own refl opens_standard closes_standard (own_body depth own h) (own_body (suc depth) (named name ∷ []) refl)

two_body : (name : List ℕ) (own other : Lines) (depth : ℕ) → list_all is_property own ≡ true → list_all is_property other ≡ true
    → BodyT (suc depth) (named name ∷ []) (standard_tree own ∷ daylight_tree other ∷ []) (named name ∷ (lines_around (codes "STANDARD") own ++ lines_around (codes "DAYLIGHT") other))
two_body name own other depth h k =
    component (daylight_tree other) (codes "BEGIN:DAYLIGHT") (codes "END:DAYLIGHT") other refl opens_daylight closes_daylight (own_body depth other k) (one_body name own depth h)

-- ---- zones

-- what the lines of the parts are
record Back (name : List ℕ) (zone : Zone) (parts : Lines) : Type 0 where
  inside : Trees
  content : list_all is_content parts ≡ true
  spelled : (depth : ℕ) → BodyT (suc depth) (named name ∷ []) (trees_list inside) (named name ∷ parts)
  says : SaysZone (tree (codes "VTIMEZONE") (named name ∷ []) inside) zone

-- what lines read back as that were written one after another
abbrev pub LinesBack : Type 0
LinesBack = (lines : Lines) → list_all is_content lines ≡ true → logical_lines (flat_map folded lines) ≡ lines

abbrev pub ReadsLines : Type 0
ReadsLines = (lines : Lines) → list_all is_content lines ≡ true → reads_as_lines false (flat_map folded lines) ≡ true

-- a zone of one part, STANDARD
one_back : (name : List ℕ) (zone : Zone) (own parts : Lines) (o : Observance) → WritesPart own o → IsRuled o → parts ≡ lines_around (codes "STANDARD") own → PartsSay (own ∷ []) (own ∷ []) [] zone → Back name zone parts
one_back name zone own parts o w r e s = record {
  inside = more (standard_tree own) none;
  content = ap (list_all is_content) e ∙ standard_content own (part_content own o w r);
  spelled = λ depth. subst (λ (l : Lines). BodyT (suc depth) (named name ∷ []) (standard_tree own ∷ []) (named name ∷ l)) (sym e) (one_body name own depth (part_properties own o w));
  says = s;
}

-- a zone of two
two_back : (name : List ℕ) (zone : Zone) (own other parts : Lines) (a b : Observance) → WritesPart own a → WritesPart other b → IsRuled a → IsRuled b
    → parts ≡ lines_around (codes "STANDARD") own ++ lines_around (codes "DAYLIGHT") other → PartsSay (own ∷ other ∷ []) (own ∷ []) (other ∷ []) zone → Back name zone parts
two_back name zone own other parts a b w v r q e s = record {
  inside = more (standard_tree own) (more (daylight_tree other) none);
  content = ap (list_all is_content) e ∙ list_all-append is_content (lines_around (codes "STANDARD") own) (lines_around (codes "DAYLIGHT") other) ∙ and_from _ _ (standard_content own (part_content own a w r)) (daylight_content other (part_content other b v q));
  spelled = λ depth. subst (λ (l : Lines). BodyT (suc depth) (named name ∷ []) (standard_tree own ∷ daylight_tree other ∷ []) (named name ∷ l)) (sym e) (two_body name own other depth (part_properties own a w) (part_properties other b v));
  says = s;
}

-- the day of a rule that was read is in each year
each_year : (lines : Lines) (o : Observance) (s : SaysYearly lines o) → is_each_year s.each.month s.each.days ≡ true
each_year lines o s = go s.rule.line s.rule.is
  where
    go : (line : Option (List ℕ)) → BothOrNeither IsYearLine line (Some s.each) → is_each_year s.each.month s.each.days ≡ true
    go None h = absurd h
    go (Some l) (rule, spelled, one) = (and_parts (is_plain_yearly rule && are_only (λ month. month == s.each.month) rule.months && names_days s.each.days rule.month_days rule.weekdays) (is_each_year s.each.month s.each.days) one).1

in_one : (x : Lines) → Contains (x ∷ []) x
in_one x = (zero, omega arith, refl)

in_two : (x y : Lines) → Contains (x ∷ y ∷ []) x
in_two x y = (zero, omega arith, refl)

module _ (local : OneLocal) (offset : OneOffset) (rules : OneRule) (sound : (text : List ℕ) (number : ℕ) (a : RuleText) → RuleFault text number → SpellsRule text a → ⊥) (start_back : LocalBack) (offset_back : OffsetBack) where
  constant_back : (name : List ℕ) (k : ℤ) (parts : Lines) → WritesParts parts (Constant k) → Back name (Constant k) parts
  constant_back name k parts (own, w, e) =
      let says : SaysPartTimes own (keeping k) = part_times start_back offset_back own (keeping k) w (omega arith) in
      let all : (other : Lines) → Contains (own ∷ []) other → KeepsOffset k other = λ other c. subst (KeepsOffset k) (at_one own other c) (keeping k, says, refl, refl) in
      one_back name (Constant k) own parts (keeping k) w refl e (record { form = constant k own (in_one own) all; matched = tt; spaced = tt })

  single_back : (name : List ℕ) (a : Observance) (ps : List Lines) (part parts : Lines) → OffsetsDiffer ps → ps ≡ part ∷ [] → SaysOnce part a → AreMatched (Single a) → WritesParts parts (Single a) → Back name (Single a) parts
  single_back name a ps part parts differ e s matched (own, w, is) =
      let once = part_once start_back offset_back own a w s.times.second s.is in
      let changes : a.offset_to ≡ a.offset_from → ⊥ = λ same. all_differ local offset rules sound ps a.offset_from (λ x c. (a, subst (λ (l : Lines). SaysPartTimes l a) (at_one part x (subst (λ (ls : List Lines). Contains ls x) e c)) s.times, refl, same)) differ in
      let differ_too : OffsetsDiffer (own ∷ []) = record { one = own; other = own; o = a; one_in = in_one own; other_in = in_one own; says = once.times; strays = (a, once.times, λ p. changes p.1) } in
      one_back name (Single a) own parts a w (unruled a s.is) is (record { form = single own a differ_too refl once; matched = matched; spaced = tt })

  pair_back : (name : List ℕ) (a b : Observance) (ps ss ds : List Lines) (p q parts : Lines) → AreParts ps ss ds → OffsetsDiffer ps → ss ≡ p ∷ [] → ds ≡ q ∷ [] → SaysYearly p a → SaysYearly q b → AreMatched (Pair a b) → AreSpaced (Pair a b) → WritesParts parts (Pair a b)
      → Back name (Pair a b) parts
  pair_back name a b ps ss ds p q parts are differ e f s t matched spaced (own, other, w, v, is) =
      let first = part_yearly start_back offset_back own a s.each w s.times.second s.is (each_year p a s) in
      let second = part_yearly start_back offset_back other b t.each v t.times.second t.is (each_year q b t) in
      let changes : a.offset_to ≡ a.offset_from → ⊥ = λ same. all_differ local offset rules sound ps a.offset_from (λ x c.
      elim (are.which x c) [
        | inl h ↦ (a, subst (λ (l : Lines). SaysPartTimes l a) (at_one p x (subst (λ (ls : List Lines). Contains ls x) e h)) s.times, refl, same)
        | inr h ↦ (b, subst (λ (l : Lines). SaysPartTimes l b) (at_one q x (subst (λ (ls : List Lines). Contains ls x) f h)) t.times, sym matched.0 ∙ same, matched.1)
      ]) differ in
      let differ_too : OffsetsDiffer (own ∷ other ∷ []) = record { one = own; other = own; o = a; one_in = in_two own other; other_in = in_two own other; says = first.times; strays = (a, first.times, λ p. changes p.1) } in
      two_back name (Pair a b) own other parts a b w v (ruled a s.each s.is (each_year p a s)) (ruled b t.each t.is (each_year q b t)) is (record { form = pair own other a b differ_too refl refl first second; matched = matched; spaced = spaced })

  form_back : (name : List ℕ) (ps ss ds : List Lines) (zone : Zone) (parts : Lines) → AreParts ps ss ds → HasForm ps ss ds zone → AreMatched zone → AreSpaced zone → WritesParts parts zone → Back name zone parts
  form_back name ps ss ds zone parts are (constant k part c all) matched spaced w = constant_back name k parts w
  form_back name ps ss ds zone parts are (single part a differ e s) matched spaced w = single_back name a ps part parts differ e s matched w
  form_back name ps ss ds zone parts are (pair p q a b differ e f s t) matched spaced w = pair_back name a b ps ss ds p q parts are differ e f s t matched spaced w

  pub zone_back : LinesBack → ReadsLines → ((octets : List ℕ) → unescaped (escaped octets) ≡ octets) → (t : Tree) (zone : Zone) (name octets : List ℕ) → SaysZone t zone → IsTextName name → IsZoneText octets name zone → ReadsAsZone octets name zone
  zone_back lines_back reads_lines text_back t zone name octets s n (lines, (parts, w, is), octets_are) =
      let back = form_back name (parts_by is_part t) (parts_by is_standard t) (parts_by is_daylight t) zone parts (tree_parts t) s.form s.matched s.spaced w in
      let clean : IsClean (escaped name) = record { calm = escaped_calm name n.calm; utf8 = utf8_escaped name n.utf8 } in
      let content : list_all is_content lines ≡ true = ap (list_all is_content) is ∙ zone_content (named name ∷ parts) (and_from _ _ (name_line (escaped name) clean) back.content) in
      let logical : logical_lines octets ≡ lines = ap logical_lines octets_are ∙ lines_back lines content in
      record {
        reads = ap (reads_as_lines false) octets_are ∙ reads_lines lines content;
        tree = tree (codes "VTIMEZONE") (named name ∷ []) back.inside;
        kind = refl;
        spelled = λ depth. record {
          begin = codes "BEGIN:VTIMEZONE";
          end = codes "END:VTIMEZONE";
          body = named name ∷ parts;
          are = logical ∙ is;
          opens = record { begins = refl; names = refl };
          closes = record { ends = refl; names = refl };
          holds = back.spelled depth;
        };
        named = record { line = Some (named name); once = refl; present = λ _. refl; is = text_back name };
        says = back.says;
      }
