-- The text of a rule of one day a year, word by word.
use Rattle.std.proofs.Common.{◌≡◌, ◌∙◌, refl, sym, ap, subst, ℕ, suc, ◌+◌, ◌-◌, ◌≤◌, true, false, cond, ◌==◌, List, [], ◌++◌, codes, decimal, append_assoc, append-nil, arith, pos}
use Rattle.std.specs.Fmt.{signed_decimal}
use Rattle.std.proofs.lemmas.Bool.Decides.{nat_tests}
use Rattle.profile.specs.series.Rules.{is_plain}
use Rattle.profile.specs.series.RuleTexts.{weekday_word}
use Rattle.cal_zones.specs.declared.yearly.MonthDays.{MonthDays}
use Rattle.cal_zones.specs.declared.yearly.MonthDays.TheVariants.{Day, FromStart, FromEnd, Week}
use Rattle.cal_zones.specs.Shapes.{occurs_yearly}
use Rattle.cal_zones.specs.Written.{year_text, week_text}
use Rattle.cal_zones.proofs.WrittenRules.{numbered, week}

-- ---- words in a row

one_list : (head m lead d : List ℕ) → head ++ (m ++ (lead ++ d)) ≡ head ++ (m ++ []) ++ (lead ++ d ++ []) ++ []
one_list head m lead d = simp (append_assoc, append-nil)

one_entry : (head m lead front word : List ℕ) → head ++ (m ++ (lead ++ (front ++ word))) ≡ head ++ (m ++ []) ++ [] ++ (lead ++ (front ++ word) ++ [])
one_entry head m lead front word = simp (append_assoc, append-nil)

seven_days : (head m lead a c b d e f g h l word : List ℕ)
    → head ++ (m ++ (lead ++ (a ++ (c ++ b) ++ (c ++ d) ++ (c ++ e) ++ (c ++ f) ++ (c ++ g) ++ (c ++ h) ++ (l ++ word))))
    ≡ head ++ (m ++ []) ++ (lead ++ a ++ (c ++ b ++ (c ++ d ++ (c ++ e ++ (c ++ f ++ (c ++ g ++ (c ++ h ++ []))))))) ++ (l ++ word ++ [])
seven_days head m lead a c b d e f g h l word = simp (append_assoc, append-nil)

-- ---- a rule

unsigned : (number : ℕ) → 1 ≤ number → cond (is_plain (pos number)) [] (signed_decimal (pos number)) ≡ decimal number
unsigned number h = let no : (number == 0) ≡ false = grind (arith, nat_tests) in rw no refl

abbrev head : List ℕ
head = codes "FREQ=YEARLY;BYMONTH="

pub day_words : (text : List ℕ) (month day : ℕ) (days : MonthDays) → days ≡ Day day → text ≡ head ++ (decimal month ++ (codes ";BYMONTHDAY=" ++ decimal day)) → text ≡ year_text month days
day_words text month day days is e =
    subst (λ (d : MonthDays). text ≡ year_text month d) (sym is) (e ∙ one_list head (decimal month) (codes ";BYMONTHDAY=") (decimal day))

pub start_words : (text : List ℕ) (month number weekday : ℕ) (word : List ℕ) (days : MonthDays) → days ≡ FromStart number weekday → occurs_yearly month days ≡ true → word ≡ weekday_word weekday
    → text ≡ head ++ (decimal month ++ (codes ";BYDAY=" ++ (decimal number ++ word))) → text ≡ year_text month days
start_words text month number weekday word days is y w e =
    let n = numbered month number weekday (subst (λ (d : MonthDays). occurs_yearly month d ≡ true) is y) in
    let here : text ≡ year_text month (FromStart number weekday) =
    e ∙ ap (λ x. head ++ (decimal month ++ (codes ";BYDAY=" ++ (decimal number ++ x)))) w ∙ one_entry head (decimal month) (codes ";BYDAY=") (decimal number) (weekday_word weekday)
    ∙ ap (λ x. head ++ (decimal month ++ []) ++ [] ++ (codes ";BYDAY=" ++ (x ++ weekday_word weekday) ++ [])) (sym (unsigned number n.low)) in
    subst (λ (d : MonthDays). text ≡ year_text month d) (sym is) here

pub end_words : (text : List ℕ) (month number weekday : ℕ) (word : List ℕ) (days : MonthDays) → days ≡ FromEnd number weekday → occurs_yearly month days ≡ true → word ≡ weekday_word weekday
    → text ≡ head ++ (decimal month ++ (codes ";BYDAY=-" ++ (decimal number ++ word))) → text ≡ year_text month days
end_words text month number weekday word days is y w e =
    let n = numbered month number weekday (subst (λ (d : MonthDays). occurs_yearly month d ≡ true) is y) in
    let back : number ≡ suc (number - 1) = omega (arith, n.low) in
    let here : text ≡ year_text month (FromEnd number weekday) =
    e ∙ ap (λ x. head ++ (decimal month ++ (codes ";BYDAY=-" ++ (decimal number ++ x)))) w ∙ one_entry head (decimal month) (codes ";BYDAY=-") (decimal number) (weekday_word weekday)
    ∙ ap (λ k. head ++ (decimal month ++ []) ++ [] ++ (codes ";BYDAY=-" ++ (decimal k ++ weekday_word weekday) ++ [])) back in
    subst (λ (d : MonthDays). text ≡ year_text month d) (sym is) here

pub week_words : (text : List ℕ) (month first weekday : ℕ) (days word : List ℕ) (kind : MonthDays) → kind ≡ Week first weekday → days ≡ week_text first → word ≡ weekday_word weekday
    → text ≡ head ++ (decimal month ++ (codes ";BYMONTHDAY=" ++ (days ++ (codes ";BYDAY=" ++ word)))) → text ≡ year_text month kind
week_words text month first weekday days word kind is d w e =
    let at : ℕ → List ℕ = λ k. decimal (first + k) in
    let here : text ≡ year_text month (Week first weekday) =
    e ∙ ap (λ x. head ++ (decimal month ++ (codes ";BYMONTHDAY=" ++ (x ++ (codes ";BYDAY=" ++ word))))) d
    ∙ ap (λ x. head ++ (decimal month ++ (codes ";BYMONTHDAY=" ++ (week_text first ++ (codes ";BYDAY=" ++ x))))) w
    ∙ seven_days head (decimal month) (codes ";BYMONTHDAY=") (decimal first) (codes ",") (at 1) (at 2) (at 3) (at 4) (at 5) (at 6) (codes ";BYDAY=") (weekday_word weekday) in
    subst (λ (d : MonthDays). text ≡ year_text month d) (sym is) here

-- the last of the seven days is one of a month
pub week_first : (month first weekday : ℕ) (kind : MonthDays) → kind ≡ Week first weekday → occurs_yearly month kind ≡ true → first ≤ 25
week_first month first weekday kind is y = (week month first weekday (subst (λ (d : MonthDays). occurs_yearly month d ≡ true) is y)).high
