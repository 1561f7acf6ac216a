-- Folders, by examples: an outbox that holds one answer and gets two more, what a stop may leave of it, and the names of an inbox.
use Rattle.std.proofs.Common.{◌≡◌, ℕ, pos, true, false, List, [], ◌∷◌, Option, Some, None, refl, codes, arith, inl, inr, ap, sym, ◌∙◌, true≢false, Bool}
use Rattle.std.specs.Prelude.{◌⊎◌, if◌then◌else◌}
use Rattle.std.specs.Option.{option_or}
use Rattle.std.specs.Str.{bytes_eq}
use Rattle.profile.specs.series.Days.{days_before_year, days_of_months}
use Rattle.profile.specs.streams.Folders.{AreNamesSynced, AreSame, File, Image, Temporary, IsBeginning, IsDifferent, IsInboxName, LosesNamesAlone, MayBePublished, MessageFile, count_missing, octets_of, outbox_name, with_files}
use Rattle.profile.specs.text.Values.{SpellsStamp}

-- ---- three answers, of which the outbox holds the first

abbrev one : File
one = record { name = codes "1.out"; octets = codes "a" }

abbrev two : File
two = record { name = codes "2.out"; octets = codes "b" }

abbrev three : File
three = record { name = codes "3.out"; octets = codes "c" }

abbrev answers : List File
answers = one ∷ two ∷ three ∷ []

abbrev empty : Image
empty name = None

abbrev held : Image
held = with_files empty (one ∷ [])

-- the octets of a name are those of the first file that has it
first_of_a_name : octets_of (codes "1.out") (one ∷ record { name = codes "1.out"; octets = codes "x" } ∷ []) ≡ Some (codes "a")
first_of_a_name = refl

no_such_name : octets_of (codes "4.out") answers ≡ None
no_such_name = refl

-- what it holds stays, whatever is published after it
what_is_held_stays : with_files held (record { name = codes "1.out"; octets = codes "x" } ∷ []) (codes "1.out") ≡ Some (codes "a")
what_is_held_stays = refl

what_is_missing_is_added : with_files held answers (codes "3.out") ≡ Some (codes "c")
what_is_missing_is_added = refl

two_are_missing : count_missing held answers ≡ 2
two_are_missing = refl

-- ---- what a stop may leave

-- the first answer, which it holds already, takes its turn: a beginning of one changes nothing
nothing_new : AreSame held (with_files held (one ∷ []))
nothing_new name = by (bytes_eq (codes "1.out") name)
  where
    by : (b : Bool) → option_or None (if b then Some (codes "a") else None) ≡ option_or (option_or None (if b then Some (codes "a") else None)) (if b then Some (codes "a") else None)
    by true = refl
    by false = refl

its_first_beginning : IsBeginning held answers held
its_first_beginning = (1, nothing_new)

abbrev has : List ℕ → Option (List ℕ) → Bool
has octets None = false
has octets (Some found) = bytes_eq found octets

-- a file without the octets of a synced temporary isn't left under its name
abbrev torn : Image
torn = with_files held (record { name = codes "2.out"; octets = codes "x" } ∷ [])

abbrev synced : Temporary
synced = record { is_there = true; octets = codes "b"; is_synced = true }

no_torn_file : MayBePublished synced (codes "2.out") (λ left. AreSame left held) (λ left. AreSame left torn) → ⊥
no_torn_file may = by (may torn (λ name. refl))
  where
    other : Some (codes "x") ≡ Some (codes "b") → ⊥
    other same = true≢false (sym (ap (has (codes "b")) same))

    none : Some (codes "x") ≡ None → ⊥
    none same = true≢false (ap (has (codes "x")) same)

    by : ((earlier : Image) × AreSame earlier held
        × (AreSame torn earlier
        ⊎ ((octets : List ℕ) × (true ≡ true → octets ≡ codes "b")
        × AreSame torn (with_files earlier (record { name = codes "2.out"; octets = octets } ∷ []))))) → ⊥
    by (earlier, was, inl same) = none (same (codes "2.out") ∙ was (codes "2.out"))
    by (earlier, was, inr (octets, are, same)) =
        other (same (codes "2.out") ∙ ap (λ o. option_or o (Some octets)) (was (codes "2.out")) ∙ ap Some (are refl))

-- nor is a name taken away that is synced
no_lost_name : AreNamesSynced held (λ left. AreSame left held) (λ left. AreSame left empty) → ⊥
no_lost_name may = none ((may empty (λ name. refl)).1 (codes "1.out") refl)
  where
    none : Some (codes "a") ≡ None → ⊥
    none same = true≢false (ap (has (codes "a")) same)

-- one that isn't may be: a stop takes names away, and changes no octets
lost : LosesNamesAlone held (λ left. AreSame left empty)
lost left is name = inl (is name)

changed : LosesNamesAlone held (λ left. AreSame left (with_files empty (record { name = codes "1.out"; octets = codes "x" } ∷ []))) → ⊥
changed may = by (may _ (λ name. refl) (codes "1.out"))
  where
    by : (Some (codes "x") ≡ None) ⊎ (Some (codes "x") ≡ Some (codes "a")) → ⊥
    by (inl same) = true≢false (ap (has (codes "x")) same)
    by (inr same) = true≢false (ap (has (codes "x")) same)

-- ---- an answer that differs

different : IsDifferent held (record { name = codes "1.out"; octets = codes "y" } ∷ []) (codes "1.out")
different = record { earlier = []; answer = _; octets = codes "a"; is = refl; named = refl; held = refl; other = λ same. true≢false (sym (ap (λ octets. bytes_eq octets (codes "y")) same)) }

-- ---- the names of an inbox

-- 2025-01-02T00:00:00Z is 1,735,776,000
midnight : SpellsStamp (codes "20250102T000000Z") (pos 1_735_776_000)
unfolding days_before_year days_of_months
midnight = (
  codes "20250102T000000",
  record {
    date = codes "20250102";
    time = codes "000000";
    number = pos 20_090;
    second = 0;
    on = record { year = 2025; month = 1; day = 2; first = omega arith; last = omega arith; date = (omega arith, omega arith, omega arith, omega arith); spelled = refl; counted = refl };
    at_second = record { hour = 0; minute = 0; second = 0; hours = omega arith; minutes = omega arith; seconds = omega arith; spelled = refl; counted = refl };
    spelled = refl;
    counted = refl;
  },
  refl,
)

abbrev message : MessageFile
message = record { stem = codes "00000001-20250102T000000Z"; moment = pos 1_735_776_000; octets = [] }

named : IsInboxName (codes "00000001-20250102T000000Z.ics") message.stem message.moment
named = record {
  digits = codes "00000001";
  stamp = codes "20250102T000000Z";
  eight = refl;
  decimal = (omega arith, (omega arith, (omega arith, (omega arith, (omega arith, (omega arith, (omega arith, (omega arith, tt))))))));
  spells = midnight;
  stem_is = refl;
  name_is = refl;
}

its_answer : outbox_name message ≡ codes "00000001-20250102T000000Z.out"
its_answer = refl
