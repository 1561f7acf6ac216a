-- The lines of a VEVENT say of its occurrences at most one thing, and nothing where they have a fault.
-- Behind one_event.
use Rattle.std.proofs.Common.{◌≡◌, ◌∙◌, ℕ, ◌<◌, ◌≤◌, Bool, true, false, List, codes, length, sym, ap, inl, inr, arith, ℤ}
use Rattle.std.specs.Prelude.{Option, option_map, unwrap_or}
use Rattle.std.proofs.lemmas.Bool.{true≢false}
use Rattle.profile.specs.text.Lines.{line_value, is_same_name}
use Rattle.profile.specs.text.Trees.{Tree}
use Rattle.profile.specs.events.ZonedTimes.{ZonedTimeFault, SaysOutOfDates}
use Rattle.profile.specs.events.Occurrences.{Time, WrittenTimes, SaysStatus, has_range, IsRecurrenceLine, ListedTime, entries_named, IsListed, IsInside, IsOutside, Lists, SaysOccurrences, EntryFault, EntriesFault, in_entry, too_many, OccurrenceFault, bad_recurrence, bad_additions, bad_exceptions, recurrence_out, additions_out, unfixed, ranged, recurs}
use Rattle.profile.specs.events.EventComponents.{instants_of, AreOfWritten}
use Rattle.ical_tree.proofs.OneLine.{IsFunctional}
use Rattle.cal_events.proofs.component_lemmas.Said.{same_said, said_by}
use Rattle.cal_events.proofs.shared_lemmas.Zips.{zip_one, zip_at, zip_length}
use Rattle.cal_events.proofs.shared_lemmas.OneTimes.{Lines, OneZonedTime, NoTimeFault, same_line, text_instant, one_instant, dated, text_not_out, not_out}

-- ---- STATUS

pub one_status : (lines : Lines) (a b : Bool) → SaysStatus lines a → SaysStatus lines b → a ≡ b
one_status lines a b (line, once, is) (other, lone, says) =
    is ∙ ap (λ (l : Option (List ℕ)). unwrap_or (option_map (λ status. is_same_name (line_value status) (codes "CANCELLED")) l) false) (same_line (codes "STATUS") lines line other once lone)
    ∙ sym says

-- ---- one value

time_same : (a b : Time) → (a.form ≡ b.form) × (a.instant ≡ b.instant) → a ≡ b
time_same a b e = λ i. record { form = e.0 i; instant = e.1 i }

recurrence_one : OneZonedTime → (object : Tree) → IsFunctional (IsRecurrenceLine object)
recurrence_one one object line a b h k =
    time_same a b (one_instant one object line a.form b.form a.instant b.instant (dated false object line a.form a.instant h.1) (dated false object line b.form b.instant k.1))

listed_one : OneZonedTime → (object : Tree) (name : List ℕ) (e : ListedTime) (a b : Time) → IsListed object name e a → IsListed object name e b → a ≡ b
listed_one one object name (line, text) a b h k = time_same a b (text_instant one object line text a.form b.form a.instant b.instant h.1 k.1)

lists_one : OneZonedTime → (object : Tree) (name : List ℕ) (entries : List ListedTime) (a b : List Time) → Lists object name entries a → Lists object name entries b → a ≡ b
lists_one one object name entries a b h k = zip_one (IsListed object name) (listed_one one object name) entries a b h.0 k.0

written_same : (a b : WrittenTimes) → a.recurrence ≡ b.recurrence → a.additions ≡ b.additions → a.exceptions ≡ b.exceptions → a ≡ b
written_same a b p q r = λ i. record { recurrence = p i; additions = q i; exceptions = r i }

pub one_occurrences : OneZonedTime → {added fixed : Bool} (object : Tree) (lines : Lines) (a b : WrittenTimes) → SaysOccurrences added fixed object lines a → SaysOccurrences added fixed object lines b → a ≡ b
one_occurrences one object lines a b s t =
    written_same a b (same_said (IsRecurrenceLine object) (codes "RECURRENCE-ID") false lines a.recurrence b.recurrence (recurrence_one one object) s.is t.is)
    (lists_one one object (codes "RDATE") (entries_named (codes "RDATE") lines) a.additions b.additions s.adds t.adds)
    (lists_one one object (codes "EXDATE") (entries_named (codes "EXDATE") lines) a.exceptions b.exceptions s.takes t.takes)

-- what is written is of these instants
pub one_of_written : (a b : WrittenTimes) (r q : Option ℤ) (x y e f : List ℤ) → a ≡ b → AreOfWritten a r x e → AreOfWritten b q y f → (r ≡ q) × (x ≡ y) × (e ≡ f)
one_of_written a b r q x y e f same s t = (
  s.slot ∙ ap (λ (w : WrittenTimes). option_map (λ time. time.instant) w.recurrence) same ∙ sym t.slot,
  s.added ∙ ap (λ (w : WrittenTimes). instants_of w.additions) same ∙ sym t.added,
  s.taken ∙ ap (λ (w : WrittenTimes). instants_of w.exceptions) same ∙ sym t.taken,
)

-- ---- there is no fault where they are said

no_entry_fault : NoTimeFault → (object : Tree) (name : List ℕ) (e : ListedTime) (t : Time) (n : ℕ) → IsListed object name e t → EntryFault object name e n → ⊥
no_entry_fault none object name (line, text) t n h (inl f) = true≢false (sym f.0 ∙ h.0)
no_entry_fault none object name (line, text) t n h (inr f) = none object line text t.form h.1.0 h.1.1 n h.1.2 f.1

no_entries_fault : NoTimeFault → (object : Tree) (name : List ℕ) (entries : List ListedTime) (ts : List Time) → Lists object name entries ts → (n : ℕ) → EntriesFault object name entries n → ⊥
no_entries_fault none object name entries ts s n (in_entry e c f) =
    let x = zip_at (IsListed object name) entries ts e s.0 c in no_entry_fault none object name e x.0 n x.1 f
no_entries_fault none object name entries ts s n (too_many more) =
    let l = zip_length (IsListed object name) entries ts s.0 in
    let most : length ts ≤ 366 = s.1 in
    let over : 366 < length entries = more in
    absurd (omega (arith, l, most, over))

inside_or_out : OneZonedTime → (object : Tree) (e : ListedTime) (t : Time) → IsInside object e t → IsOutside object e → ⊥
inside_or_out one object (line, text) t (zone, local, says, means, dates) out = text_not_out one object line text t.form zone local t.instant says means dates out

module _ (one : OneZonedTime) (none : NoTimeFault) {added fixed : Bool} (object : Tree) (lines : Lines) (written : WrittenTimes) (s : SaysOccurrences added fixed object lines written) where
  pub no_occurrence_fault : (n : ℕ) → OccurrenceFault added fixed object lines n → ⊥
  no_occurrence_fault n (bad_recurrence l) =
      let f = said_by (IsRecurrenceLine object) (λ line. ZonedTimeFault object line n) (codes "RECURRENCE-ID") false lines written.recurrence s.is l in
      none object l.0 (line_value l.0) f.0.form f.1.1.0 f.1.1.1 n f.1.1.2 l.2
  no_occurrence_fault n (bad_additions f) = no_entries_fault none object (codes "RDATE") (entries_named (codes "RDATE") lines) written.additions s.adds n f
  no_occurrence_fault n (bad_exceptions f) = no_entries_fault none object (codes "EXDATE") (entries_named (codes "EXDATE") lines) written.exceptions s.takes n f
  no_occurrence_fault n (recurrence_out l) =
      let f = said_by (IsRecurrenceLine object) (SaysOutOfDates false object) (codes "RECURRENCE-ID") false lines written.recurrence s.is l in
      let d = f.1.1 in not_out one false object l.0 f.0.form d.0 d.1 f.0.instant d.2 d.3 d.4 l.2
  no_occurrence_fault n (additions_out e c out) =
      let x = zip_at (IsInside object) (entries_named (codes "RDATE") lines) written.additions e s.inside c in inside_or_out one object e x.0 x.1 out
  no_occurrence_fault n (unfixed needed l) =
      let f = said_by (IsRecurrenceLine object) _ (codes "RECURRENCE-ID") false lines written.recurrence s.is l in
      let d = f.1.1 in
      let other = l.2 in
      let e = one object l.0 (line_value l.0) other.0 f.0.form other.2.0 d.0 other.2.1 d.1 other.2.2 d.2 in
      other.1 (e.0 ∙ s.fixed_recurrence needed f.0 f.2)
  no_occurrence_fault n (ranged l) =
      let f = said_by (IsRecurrenceLine object) (λ line. has_range line ≡ true) (codes "RECURRENCE-ID") false lines written.recurrence s.is l in
      true≢false (sym l.2 ∙ f.1.0)
  no_occurrence_fault n (recurs h) = true≢false (sym h ∙ s.alone)
