-- The times of RDATE and EXDATE, read one after another.
-- Cited by SaidInstants::add, SaidInstants::add_line, SaidInstants::read.
use Rattle.std.proofs.Common.{◌≡◌, ◌≢◌, ◌∙◌, ℕ, ◌+◌, ◌<◌, ◌≤◌, true, false, ◌==◌, List, [], ◌∷◌, ◌++◌, length, map, sym, ap, subst, refl, inl, inr, append_assoc, append-nil, length-append, arith}
use Rattle.std.specs.Prelude.{◌⊎◌, Contains, IfSome, Option, Some, is_some}
use Rattle.std.specs.List.{AllZip, slice_split, flat_map}
use Rattle.std.proofs.lemmas.Bool.{true≢false}
use Rattle.std.proofs.lemmas.List.{map-append, length-map}
use Rattle.std.proofs.lemmas.List.Elements.{Contains-append_left, Contains-push}
use Rattle.ical_lines.specs.Fault.{RefusesBy, RefusesWhere}
use Rattle.ical_lines.specs.Text.{line_text, numbered}
use Rattle.ical_lines.specs.declared.line.Line.{Line}
use Rattle.ical_lines.specs.declared.fault.Fault.{Fault}
use Rattle.ical_lines.specs.declared.fault.Fault.TheVariants.{Refused, Memory}
use Rattle.profile.specs.text.Lines.{line_value}
use Rattle.profile.specs.text.Trees.{Tree}
use Rattle.profile.specs.events.Properties.{is_of}
use Rattle.profile.specs.events.ZonedTimes.{ZonedTextFault}
use Rattle.profile.specs.events.Occurrences.{ListedTime, entries_of, entries_named, is_period, IsListed, IsInside, Lists, EntriesFault, in_entry, too_many}
use Rattle.cal_events.specs.Times.{time_of}
use Rattle.profile.specs.faults.Blame.{Numbered}
use Rattle.profile.specs.series.ZoneBlame.{NumberedZone}
use Rattle.profile.specs.events.EventBlame.{EventBlame, IsSomeWrong, IsWrong, may_have, texts_of, together}
use Rattle.profile.specs.events.EventComponents.{Method}
use Rattle.cal_events.specs.Property.{property_said, IsLineOf}
use Rattle.cal_events.specs.Occurrences.{SaysSo, AreListed, IsListLine, ListedBlame, name_of}
use Rattle.cal_events.specs.declared.occurrences.Listing.{Listing}
use Rattle.cal_events.specs.declared.occurrences.Listing.TheVariants.{Additions, Exceptions}
use Rattle.cal_events.specs.declared.property.Property.{Property}
use Rattle.cal_events.specs.declared.property.Property.TheVariants.{Rdate, Exdate}
use Rattle.cal_events.proofs.shared_lemmas.BlameLemmas.{text_blamed}
use Rattle.cal_events.specs.declared.occurrences.SaidInstant.{SaidInstant}
use Rattle.cal_events.specs.declared.occurrences.SaidInstants.{SaidInstants}
use Rattle.cal_events.proofs.shared_lemmas.EventLemmas.{push_zip, one_more, one_other}
use Rattle.cal_events.proofs.shared_lemmas.Zips.{zip_length}

abbrev Lines : Type 0
Lines = List (List ℕ)

-- ---- one time

-- it was read, and is in the dates, or isn't
abbrev pub IsKept : SaidInstants → SaidInstant → SaidInstants → Type 0
IsKept old said new = ((said.in_dates ≡ true) × (new.outside ≡ old.outside)) ⊎ ((said.in_dates ≡ false) × (is_some new.outside ≡ true))

module _ (object : Tree) (name line text : List ℕ) (done : List ListedTime) (old : SaidInstants) (a : AreListed object name done old) where
  abbrev pub grown : List ListedTime
  grown = done ++ (line, text) ∷ []

  module _ (said : SaidInstant) (new : SaidInstants) (few : length old.times.items ≢ 366) (plain : is_period name text ≡ false) (says : SaysSo object line text said)
      (more : new.times.items ≡ old.times.items ++ said.time ∷ []) where
    more_said : map time_of new.times.items ≡ map time_of old.times.items ++ time_of said.time ∷ []
    more_said = ap (map time_of) more ∙ map-append time_of old.times.items (said.time ∷ [])

    listed : Lists object name grown (map time_of new.times.items)
    listed = (
      subst (AllZip (IsListed object name) grown) (sym more_said)
          (push_zip (IsListed object name) done (map time_of old.times.items) (line, text) (time_of said.time) a.lists.0 (plain, (says.0, says.1, says.2, says.3))),
      let l : length new.times.items ≡ length old.times.items + 1 = ap length more ∙ length-append old.times.items (said.time ∷ []) in
          let k = length-map new.times.items time_of in
          let most : length old.times.items ≤ 366 = subst (λ n. n ≤ 366) (length-map old.times.items time_of) a.lists.1 in
          omega (arith, l, k, most, few),
    )

    pub one_listed : IsKept old said new → AreListed object name grown new
    one_listed (inl (is, same)) = record {
      lists = listed;
      inside = λ h. subst (AllZip (IsInside object) grown) (sym more_said)
          (push_zip (IsInside object) done (map time_of old.times.items) (line, text) (time_of said.time) (a.inside (sym same ∙ h)) (says.0, says.1, says.2, says.3, says.4.0 is));
      outside = λ h. let o = a.outside (ap is_some (sym same) ∙ h) in (o.0, Contains-append_left done ((line, text) ∷ []) o.0 o.1, o.2);
    }
    one_listed (inr (not, now)) = record {
      lists = listed;
      inside = λ h. absurd (true≢false (sym now ∙ ap is_some h));
      outside = λ h. ((line, text), Contains-push done (line, text), (time_of said.time, says.0, says.1, says.2, says.3, λ d. true≢false (sym (says.4.1 d) ∙ not)));
    }

  pub full : length old.times.items ≡ 366 → EntriesFault object name grown 56
  full h =
      let l = zip_length (IsListed object name) done (map time_of old.times.items) a.lists.0 in
      let m = length-map old.times.items time_of in
      let k = length-append done ((line, text) ∷ []) in
      too_many (omega (arith, l, m, k, h))

  pub period : is_period name text ≡ true → EntriesFault object name grown 56
  period h = in_entry (line, text) (Contains-push done (line, text)) (inl (h, refl))

  pub malformed : (n : ℕ) → is_period name text ≡ false → ZonedTextFault object line text n → EntriesFault object name grown n
  malformed n plain f = in_entry (line, text) (Contains-push done (line, text)) (inr (plain, f))

-- a fault stays where more times follow
pub still_faulty : (object : Tree) (name : List ℕ) (entries rest : List ListedTime) (n : ℕ) → EntriesFault object name entries n → EntriesFault object name (entries ++ rest) n
still_faulty object name entries rest n (in_entry e c f) = in_entry e (Contains-append_left entries rest e c) f
still_faulty object name entries rest n (too_many more) = let l = length-append entries rest in let over : 366 < length entries = more in too_many (omega (arith, l, over))

pub still_refused : (object : Tree) (name : List ℕ) (entries rest all : List ListedTime) (f : Fault) → all ≡ entries ++ rest → RefusesBy (EntriesFault object name entries) f
    → RefusesBy (EntriesFault object name all) f
still_refused object name entries rest all Memory e h = tt
still_refused object name entries rest all (Refused r) e h = subst (λ es. EntriesFault object name es r.number) (sym e) (still_faulty object name entries rest r.number h)

-- ---- the texts of a line

abbrev pub texts : List ℕ → List (List ℕ)
texts line = slice_split (λ c. c == 44) (line_value line)

abbrev pub on_line : List ℕ → List (List ℕ) → List ListedTime
on_line line = map (λ text. (line, text))

-- one of them comes
pub text_next : (line text : List ℕ) (seen left rest : List (List ℕ)) (done : List ListedTime) → texts line ≡ seen ++ left → left ≡ text ∷ rest
    → (texts line ≡ (seen ++ text ∷ []) ++ rest) × (done ++ on_line line (seen ++ text ∷ []) ≡ (done ++ on_line line seen) ++ (line, text) ∷ [])
    × (done ++ entries_of line ≡ ((done ++ on_line line seen) ++ (line, text) ∷ []) ++ on_line line rest)
text_next line text seen left rest done e s =
    let all : texts line ≡ seen ++ text ∷ rest = e ∙ ap (λ ts. seen ++ ts) s in
    let parted : on_line line (texts line) ≡ on_line line seen ++ (line, text) ∷ on_line line rest = ap (on_line line) all ∙ map-append (λ t. (line, t)) seen (text ∷ rest) in (
      all ∙ sym (append_assoc seen (text ∷ []) rest),
      ap (λ es. done ++ es) (map-append (λ t. (line, t)) seen (text ∷ [])) ∙ sym (append_assoc done (on_line line seen) ((line, text) ∷ [])),
      ap (λ es. done ++ es) parted ∙ sym (append_assoc done (on_line line seen) ((line, text) ∷ on_line line rest))
          ∙ sym (append_assoc (done ++ on_line line seen) ((line, text) ∷ []) (on_line line rest)),
    )

pub texts_end : (line : List ℕ) (seen left : List (List ℕ)) → texts line ≡ seen ++ left → left ≡ [] → on_line line seen ≡ entries_of line
texts_end line seen left e n = ap (on_line line) (sym (e ∙ ap (λ ts. seen ++ ts) n ∙ append-nil seen))

-- ---- the lines of a property

-- a line of it comes
pub line_next : (name : List ℕ) (all left rest : Lines) (line : List ℕ) (done : List ListedTime) → entries_named name all ≡ done ++ entries_named name left → left ≡ line ∷ rest
    → is_of name line ≡ true → entries_named name all ≡ (done ++ entries_of line) ++ entries_named name rest
line_next name all left rest line done e s h =
    e ∙ ap (λ ls. done ++ entries_named name ls) s ∙ ap (λ ls. done ++ flat_map entries_of ls) (one_more name line rest h)
    ∙ sym (append_assoc done (entries_of line) (entries_named name rest))

-- another line comes
pub other_next : (name : List ℕ) (all left rest : Lines) (line : List ℕ) (done : List ListedTime) → entries_named name all ≡ done ++ entries_named name left → left ≡ line ∷ rest
    → is_of name line ≡ false → entries_named name all ≡ done ++ entries_named name rest
other_next name all left rest line done e s h =
    e ∙ ap (λ ls. done ++ entries_named name ls) s ∙ ap (λ ls. done ++ flat_map entries_of ls) (one_other name line rest h)

-- ---- at which lines

pub list_line : (listing : Listing) (event : Numbered) (line : Line) → Contains event.lines (numbered line) → is_of (name_of listing) (line_text line) ≡ true
    → IsListLine listing event line.number
list_line Additions event line among named = record { line = line_text line; among = among; holds = named }
list_line Exceptions event line among named = record { line = line_text line; among = among; holds = named }

-- the first that is outside, with the times of one more line
pub outside_next : (listing : Listing) (event : Numbered) (at : ℕ) (old new : Option ℕ) → IsListLine listing event at → (new ≡ old) ⊎ (new ≡ Some at)
    → IfSome old (IsListLine listing event) → IfSome new (IsListLine listing event)
outside_next listing event at old new here (inl same) h = subst (λ o. IfSome o (IsListLine listing event)) (sym same) h
outside_next listing event at old new here (inr now) h = subst (λ o. IfSome o (IsListLine listing event)) (sym now) here

abbrev pub IsBlamedText : List NumberedZone → List ℕ → ℕ × List ℕ → ℕ → ℕ → Type 0
IsBlamedText zones name line n at = (text : List ℕ) × Contains (texts_of line.1) text × ListedBlame zones name line text n at

module _ (m : Option Method) (zones : List NumberedZone) (event : Numbered) (line : Line) where
  by_property : (name : List ℕ) (property : Property) → may_have (property_said property) 56 ≡ true
      → ((n : ℕ) → IsSomeWrong name (line_text line) n → IsWrong (property_said property) (line_text line) n) → IsLineOf property event line
      → (f : Fault) → RefusesWhere (IsBlamedText zones name (numbered line)) f → RefusesWhere (EventBlame m zones event) f
  by_property name property may wrong is Memory h = tt
  by_property name property may wrong is (Refused r) (text, there, inl (here, number)) =
      rw (here, number) (together (property_said property) may (record { line = line_text line; among = is.0; holds = is.1 }))
  by_property name property may wrong is (Refused r) (text, there, inr (plain, blame)) =
      text_blamed m zones property event line is text r (λ time. wrong r.number (text, there, inr (plain, time))) blame

  pub entry_blamed : (listing : Listing) → Contains event.lines (numbered line) → is_of (name_of listing) (line_text line) ≡ true → (f : Fault)
      → RefusesWhere (IsBlamedText zones (name_of listing) (numbered line)) f → RefusesWhere (EventBlame m zones event) f
  entry_blamed Additions among named = by_property (name_of Additions) Rdate refl (λ n h. h) (among, named)
  entry_blamed Exceptions among named = by_property (name_of Exceptions) Exdate refl (λ n h. h) (among, named)
