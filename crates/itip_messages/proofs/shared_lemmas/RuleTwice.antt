-- A rule that is written, read and written again has the same text.
-- Behind one_message of law, refreshes_are_heard of law, replies_are_heard of law, Message::of of message and others.
use Rattle.std.proofs.Common.{◌≡◌, ◌∙◌, refl, sym, ap, ℕ, zero, suc, ◌-◌, arith, Bool, true, false, cond, List, [], ◌∷◌, ◌++◌, map, codes, decimal, Option, ℤ}
use Rattle.std.specs.Prelude.{◌==◌, nat_eq, filter, Contains, if◌then◌else◌}
use Rattle.std.specs.Fmt.{signed_decimal}
use Rattle.std.specs.List.{list_any, range_with_len}
use Rattle.std.specs.Ordering.{int_eq}
use Rattle.profile.specs.series.Rules.{RuleText, Until, WeekdayNumber}
use Rattle.profile.specs.series.RuleTexts.{as_written, count_text, entries_from, weekday_number_text, frequency_word, is_same_entry, listed, months_from, nth_entry, nth_number, numbers_from, rule_text, until_text, weekday_word}
use Rattle.cal_events.proofs.shared_lemmas.InOneOrder.{in_filtered, of_filtered}
use Rattle.cal_rules.proofs.InOrder.{entry_itself, entry_one, int_itself, int_one, kept, nat_one}
use Rattle.cal_rules.proofs.Parted.{same_octet}
use Rattle.itip_order.proofs.Lists.{any_at, any_from}

same_filter : {X : Type 0} (p q : X → Bool) (xs : List X) → ((x : X) → Contains xs x → p x ≡ q x) → filter p xs ≡ filter q xs
same_filter p q [] f = refl
same_filter p q (x ∷ xs) f =
    let here : p x ≡ q x = f x (zero, omega arith, refl) in
    let rest = same_filter p q xs (λ y c. f y (suc c.0, omega (arith, c.1), c.2)) in
    λ i. cond (here i) (x ∷ rest i) (rest i)

either_way : (a b : Bool) → (a ≡ true → b ≡ true) → (b ≡ true → a ≡ true) → a ≡ b
either_way true b f g = sym (f refl)
either_way false true f g = g refl
either_way false false f g = refl

-- the candidates that a list has, of the candidates that it has
kept_twice : {X : Type 0} (same : X → X → Bool) → ((z c : X) → same z c ≡ true → z ≡ c) → ((z : X) → same z z ≡ true) → (zs xs : List X) → kept same (kept same zs xs) xs ≡ kept same zs xs
kept_twice {X = X} same one itself zs xs =
    let pick : X → Bool = λ c. list_any (λ z. same z c) zs in
    same_filter (λ c. list_any (λ z. same z c) (kept same zs xs)) pick xs (λ c there.
    either_way (list_any (λ z. same z c) (kept same zs xs)) (pick c)
    (λ h.
    let found = any_at (λ z. same z c) (kept same zs xs) h in
    ap pick (sym (one found.0 c found.2)) ∙ (of_filtered pick xs found.0 found.1).1)
    (λ h. any_from (λ z. same z c) (kept same zs xs) c (in_filtered pick xs c there h) (itself c)))

months_twice : (months : List ℕ) → months_from 1 (months_from 1 months) ≡ months_from 1 months
unfolding months_from
months_twice months = kept_twice nat_eq nat_one same_octet months (range_with_len 1 (13 - 1))

numbers_twice : (numbers : List ℤ) → numbers_from 0 (numbers_from 0 numbers) ≡ numbers_from 0 numbers
unfolding numbers_from
numbers_twice numbers = kept_twice int_eq int_one int_itself numbers (map nth_number (range_with_len 0 (733 - 0)))

entries_twice : (entries : List WeekdayNumber) → entries_from 0 (entries_from 0 entries) ≡ entries_from 0 entries
unfolding entries_from
entries_twice entries = kept_twice is_same_entry entry_one entry_itself entries (map nth_entry (range_with_len 0 (749 - 0)))

pub text_twice : (t : RuleText) (end : Option Until) (text : Option (List ℕ)) → until_text end text ≡ until_text t.until text → rule_text (as_written t end) text ≡ rule_text t text
text_twice t end text e = λ i.
    codes "FREQ=" ++ frequency_word t.frequency ++ count_text t.count ++ e i
    ++ (if t.interval == 1 then [] else codes ";INTERVAL=" ++ decimal t.interval)
    ++ listed (codes ";BYMONTH=") (map decimal (months_twice t.months i))
    ++ listed (codes ";BYMONTHDAY=") (map signed_decimal (numbers_twice t.month_days i))
    ++ listed (codes ";BYDAY=") (map weekday_number_text (entries_twice t.weekdays i))
    ++ listed (codes ";BYSETPOS=") (map signed_decimal (numbers_twice t.positions i))
    ++ (if t.week_start == 0 then [] else codes ";WKST=" ++ weekday_word t.week_start)
