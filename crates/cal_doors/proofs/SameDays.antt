-- Rules of the same day of the year have the same days, whatever their DTSTARTs are. For `Run::is_alike`.
use Rattle.std.proofs.Common.{◌≡◌, ◌∙◌, refl, ℕ, ◌≤◌, ◌<◌, true, ◌&&◌, nat_le, arith, ℤ}
use Rattle.std.specs.Prelude.{Option, Some, None}
use Rattle.std.proofs.lemmas.Bool.Decides.{nat_tests}
use Rattle.profile.specs.series.Days.{period_of}
use Rattle.profile.specs.series.Rules.{is_base, is_in_step, passes, passes_month, passes_month_day, passes_weekday}
use Rattle.profile.specs.series.Zones.{Observance, begins_on, local_time}
use Rattle.cal_zones.specs.Shapes.{yearly_pattern}
use Rattle.cal_zones.specs.declared.yearly.MonthDays.{MonthDays}
use Rattle.cal_zones.specs.declared.yearly.MonthDays.TheVariants.{Day, FromStart, FromEnd, Week}
use Rattle.cal_doors.specs.declared.end.YearDay.{YearDay}
use Rattle.cal_doors.specs.Ends.{rule_on, AreSameDays, AreDaysApart}
use Rattle.cal_doors.specs.Runs.{IsAlike}
use Rattle.cal_doors.proofs.RunLemmas.{same_second}

in_step : (month : ℕ) (days : MonthDays) (start n : ℕ) → is_in_step (yearly_pattern month days start) n ≡ true
unfolding is_in_step period_of
in_step month days start n = grind (arith, nat_tests)

pub same_base : (month : ℕ) (days : MonthDays) (s t n : ℕ) → is_base (yearly_pattern month days s) n ≡ is_base (yearly_pattern month days t) n
unfolding is_base passes passes_month passes_month_day passes_weekday
same_base month (Day d) s t n = rw (in_step month (Day d) s n, in_step month (Day d) t n) refl
same_base month (FromStart k v) s t n = rw (in_step month (FromStart k v) s n, in_step month (FromStart k v) t n) refl
same_base month (FromEnd k v) s t n = rw (in_step month (FromEnd k v) s n, in_step month (FromEnd k v) t n) refl
same_base month (Week d v) s t n = rw (in_step month (Week d v) s n, in_step month (Week d v) t n) refl

-- a day on which the one rule begins, not before the DTSTART of the other
same_days : (o p : Observance) (one other : YearDay) (n : ℕ) → o.rule ≡ Some (yearly_pattern one.month one.days o.day) → p.rule ≡ Some (yearly_pattern other.month other.days p.day)
    → one.month ≡ other.month → one.days ≡ other.days → o.day ≤ n → begins_on p n ≡ true → begins_on o n ≡ true
same_days o p one other n e f m d from h =
    let t : (nat_le p.day n && is_base (yearly_pattern other.month other.days p.day) n) ≡ true = rw f at h in
    let base : is_base (yearly_pattern other.month other.days p.day) n ≡ true = grind (arith, nat_tests) in
    let same : is_base (yearly_pattern one.month one.days o.day) n ≡ true =
    rw (m, d) (same_base other.month other.days o.day p.day n ∙ base) in
    let b : (nat_le o.day n && is_base (yearly_pattern one.month one.days o.day) n) ≡ true = grind (arith, nat_tests) in
    rw e b

pub alike : (o p : Observance) (one other : Option YearDay) (a b : ℤ) → o.rule ≡ rule_on o.day one → p.rule ≡ rule_on p.day other → AreSameDays one other
    → local_time o.day o.second ≡ a → local_time p.day p.second ≡ b → o.second < 86_400 → p.second < 86_400 → AreDaysApart a b
    → o.offset_from ≡ p.offset_from → o.offset_to ≡ p.offset_to → IsAlike o p
alike o p None other a b e f never u v k l apart before after = absurd never
alike o p (Some one) None a b e f never u v k l apart before after = absurd never
alike o p (Some one) (Some other) a b e f (m, d) u v k l (days, apart) before after = record {
  second = same_second o.day o.second p.day p.second days a b k l u v apart;
  before = before;
  after = after;
  days = λ n from h. same_days o p one other n e f m d from h;
}
