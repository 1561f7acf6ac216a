use Rattle.std.proofs.Common.{refl, map, None, Some, rules}
use Rattle.std.proofs.lemmas.Result.{IfErr-weaker}
use Rattle.profile.specs.series.RuleTexts.{Interval, Count, EndsAt, WeekStart, ByMonth, ByMonthDay, ByDay, BySetPosition}
use Rattle.cal_days.specs.Views.{frequency_of}
use Rattle.cal_rules.specs.Views.{weekday_number_of, until_of}
use Rattle.cal_rules.proofs.Parted.{named, unmarked, unnamed, no_name, no_frequency_part}
use Rattle.cal_rules.proofs.Taking.{seen, agree, took, took_list, only_memory}
use Rattle.cal_rules.proofs.parts.Parts.enter.Goals as goal

pub returns-in_default-clause-refuses : goal.returns-in_default-clause-refuses
returns-in_default-clause-refuses c = (refl, unmarked c.args.part.now c.in_default.ensures.cases)

pub returns-in_default-read_frequency-clause-refuses :
    goal.returns-in_default-read_frequency-clause-refuses
returns-in_default-read_frequency-clause-refuses c =
    (refl, no_frequency_part c.args.part.now c.in-Some.value.now (named None c.args.part.now c.in-Some.name c.in-Some.value c.in-Some.ensures.cases c.in-FREQ.is) c.in_default-read_frequency.ensures.none)

pub returns-in-Some-read_frequency-clause-enters :
    goal.returns-in-Some-read_frequency-clause-enters
returns-in-Some-read_frequency-clause-enters c =
    let here = named None c.args.part.now c.in-Some.name c.in-Some.value c.in-Some.ensures.cases c.in-FREQ.is in
    let others = agree None c.args.self.now (record c.args.self.now { frequency = c.put.new.field }) (λ d. absurd (d refl)) (λ _. refl) (λ _. refl) (λ _. refl) (λ _. refl) (λ _. refl) (λ _. refl) (λ _. refl) (λ _. refl) in
    took None c.args.part.now c.in-Some.value.now c.args.self.now (record c.args.self.now { frequency = c.put.new.field }) here frequency_of (Some c.in-Some-read_frequency.frequency) c.args.self.now.frequency c.put.new.field c.put.result
    (λ none. absurd (none _ c.in-Some-read_frequency.ensures.reads)) c.in-Some-read_frequency.ensures.reads tt refl refl others c.put.ensures

pub returns-in-INTERVAL-clause-enters :
    goal.returns-in-INTERVAL-clause-enters
returns-in-INTERVAL-clause-enters c =
    let here = named (Some Interval) c.args.part.now c.in-Some.name c.in-Some.value c.in-Some.ensures.cases c.in-INTERVAL.is in
    let others = agree (Some Interval) c.args.self.now (record c.args.self.now { interval = c.put-in-INTERVAL.new.field }) (λ _. refl) (λ d. absurd (d refl)) (λ _. refl) (λ _. refl) (λ _. refl) (λ _. refl) (λ _. refl) (λ _. refl) (λ _. refl) in
    took (Some Interval) c.args.part.now c.in-Some.value.now c.args.self.now (record c.args.self.now { interval = c.put-in-INTERVAL.new.field }) here (λ x. x) c.read_interval.result c.args.self.now.interval c.put-in-INTERVAL.new.field c.put-in-INTERVAL.result
    (λ none. (Interval, c.in-Some.value.now, here, none)) c.read_interval.ensures.reads c.read_interval.ensures.none (seen c.args.self.now.interval) (seen c.put-in-INTERVAL.new.field) others c.put-in-INTERVAL.ensures

pub returns-in-COUNT-clause-enters :
    goal.returns-in-COUNT-clause-enters
returns-in-COUNT-clause-enters c =
    let here = named (Some Count) c.args.part.now c.in-Some.name c.in-Some.value c.in-Some.ensures.cases c.in-COUNT.is in
    let others = agree (Some Count) c.args.self.now (record c.args.self.now { count = c.put-in-COUNT.new.field }) (λ _. refl) (λ _. refl) (λ d. absurd (d refl)) (λ _. refl) (λ _. refl) (λ _. refl) (λ _. refl) (λ _. refl) (λ _. refl) in
    took (Some Count) c.args.part.now c.in-Some.value.now c.args.self.now (record c.args.self.now { count = c.put-in-COUNT.new.field }) here (λ x. x) c.read_count.result c.args.self.now.count c.put-in-COUNT.new.field c.put-in-COUNT.result
    (λ none. (Count, c.in-Some.value.now, here, none)) c.read_count.ensures.reads c.read_count.ensures.none (seen c.args.self.now.count) (seen c.put-in-COUNT.new.field) others c.put-in-COUNT.ensures

pub returns-in-UNTIL-clause-enters :
    goal.returns-in-UNTIL-clause-enters
returns-in-UNTIL-clause-enters c =
    let here = named (Some EndsAt) c.args.part.now c.in-Some.name c.in-Some.value c.in-Some.ensures.cases c.in-UNTIL.is in
    let others = agree (Some EndsAt) c.args.self.now (record c.args.self.now { until = c.put-in-UNTIL.new.field }) (λ _. refl) (λ _. refl) (λ _. refl) (λ d. absurd (d refl)) (λ _. refl) (λ _. refl) (λ _. refl) (λ _. refl) (λ _. refl) in
    took (Some EndsAt) c.args.part.now c.in-Some.value.now c.args.self.now (record c.args.self.now { until = c.put-in-UNTIL.new.field }) here until_of c.read_until.result c.args.self.now.until c.put-in-UNTIL.new.field c.put-in-UNTIL.result
    (λ none. (EndsAt, c.in-Some.value.now, here, none)) c.read_until.ensures.reads c.read_until.ensures.none refl refl others c.put-in-UNTIL.ensures

pub returns-in-WKST-clause-enters :
    goal.returns-in-WKST-clause-enters
returns-in-WKST-clause-enters c =
    let here = named (Some WeekStart) c.args.part.now c.in-Some.name c.in-Some.value c.in-Some.ensures.cases c.in-WKST.is in
    let others = agree (Some WeekStart) c.args.self.now (record c.args.self.now { week_start = c.put-in-WKST.new.field }) (λ _. refl) (λ _. refl) (λ _. refl) (λ _. refl) (λ d. absurd (d refl)) (λ _. refl) (λ _. refl) (λ _. refl) (λ _. refl) in
    took (Some WeekStart) c.args.part.now c.in-Some.value.now c.args.self.now (record c.args.self.now { week_start = c.put-in-WKST.new.field }) here (λ x. x) c.read_weekday.result c.args.self.now.week_start c.put-in-WKST.new.field c.put-in-WKST.result
    (λ none. (WeekStart, c.in-Some.value.now, here, none)) c.read_weekday.ensures.reads c.read_weekday.ensures.none (seen c.args.self.now.week_start) (seen c.put-in-WKST.new.field) others c.put-in-WKST.ensures

pub returns-in-BYMONTH-clause-enters :
    goal.returns-in-BYMONTH-clause-enters
returns-in-BYMONTH-clause-enters c =
    let here = named (Some ByMonth) c.args.part.now c.in-Some.name c.in-Some.value c.in-Some.ensures.cases c.in-BYMONTH.is in
    let others = agree (Some ByMonth) c.args.self.now (record c.args.self.now { months = c.put_list.new.field }) (λ _. refl) (λ _. refl) (λ _. refl) (λ _. refl) (λ _. refl) (λ d. absurd (d refl)) (λ _. refl) (λ _. refl) (λ _. refl) in
    took_list (Some ByMonth) c.args.part.now c.in-Some.value.now c.args.self.now (record c.args.self.now { months = c.put_list.new.field }) here (λ xs. xs.items) c.read_months.result c.args.self.now.months c.put_list.new.field c.put_list.result
    (λ none. (ByMonth, c.in-Some.value.now, here, none)) c.read_months.ensures.reads c.read_months.ensures.none refl refl others c.put_list.ensures.puts

pub returns-in-BYMONTH-clause-refuses : goal.returns-in-BYMONTH-clause-refuses
returns-in-BYMONTH-clause-refuses c = IfErr-weaker c.put_list.result _ _ (only_memory _) c.put_list.ensures.memory

pub returns-in-BYMONTHDAY-clause-enters :
    goal.returns-in-BYMONTHDAY-clause-enters
returns-in-BYMONTHDAY-clause-enters c =
    let here = named (Some ByMonthDay) c.args.part.now c.in-Some.name c.in-Some.value c.in-Some.ensures.cases c.in-BYMONTHDAY.is in
    let others = agree (Some ByMonthDay) c.args.self.now (record c.args.self.now { month_days = c.put_list-in-BYMONTHDAY.new.field }) (λ _. refl) (λ _. refl) (λ _. refl) (λ _. refl) (λ _. refl) (λ _. refl) (λ d. absurd (d refl)) (λ _. refl) (λ _. refl) in
    took_list (Some ByMonthDay) c.args.part.now c.in-Some.value.now c.args.self.now (record c.args.self.now { month_days = c.put_list-in-BYMONTHDAY.new.field }) here (λ xs. xs.items) c.read_places.result c.args.self.now.month_days c.put_list-in-BYMONTHDAY.new.field c.put_list-in-BYMONTHDAY.result
    (λ none. (ByMonthDay, c.in-Some.value.now, here, none)) c.read_places.ensures.reads c.read_places.ensures.none refl refl others c.put_list-in-BYMONTHDAY.ensures.puts

pub returns-in-BYMONTHDAY-clause-refuses : goal.returns-in-BYMONTHDAY-clause-refuses
returns-in-BYMONTHDAY-clause-refuses c = IfErr-weaker c.put_list-in-BYMONTHDAY.result _ _ (only_memory _) c.put_list-in-BYMONTHDAY.ensures.memory

pub returns-in-BYDAY-clause-enters :
    goal.returns-in-BYDAY-clause-enters
returns-in-BYDAY-clause-enters c =
    let here = named (Some ByDay) c.args.part.now c.in-Some.name c.in-Some.value c.in-Some.ensures.cases c.in-BYDAY.is in
    let others = agree (Some ByDay) c.args.self.now (record c.args.self.now { weekdays = c.put_list-in-BYDAY.new.field }) (λ _. refl) (λ _. refl) (λ _. refl) (λ _. refl) (λ _. refl) (λ _. refl) (λ _. refl) (λ d. absurd (d refl)) (λ _. refl) in
    took_list (Some ByDay) c.args.part.now c.in-Some.value.now c.args.self.now (record c.args.self.now { weekdays = c.put_list-in-BYDAY.new.field }) here (λ xs. map weekday_number_of xs.items) c.read_entries.result c.args.self.now.weekdays c.put_list-in-BYDAY.new.field c.put_list-in-BYDAY.result
    (λ none. (ByDay, c.in-Some.value.now, here, none)) c.read_entries.ensures.reads c.read_entries.ensures.none refl refl others c.put_list-in-BYDAY.ensures.puts

pub returns-in-BYDAY-clause-refuses : goal.returns-in-BYDAY-clause-refuses
returns-in-BYDAY-clause-refuses c = IfErr-weaker c.put_list-in-BYDAY.result _ _ (only_memory _) c.put_list-in-BYDAY.ensures.memory

pub returns-in-BYSETPOS-clause-enters :
    goal.returns-in-BYSETPOS-clause-enters
returns-in-BYSETPOS-clause-enters c =
    let here = named (Some BySetPosition) c.args.part.now c.in-Some.name c.in-Some.value c.in-Some.ensures.cases c.in-BYSETPOS.is in
    let others = agree (Some BySetPosition) c.args.self.now (record c.args.self.now { positions = c.put_list-in-BYSETPOS.new.field }) (λ _. refl) (λ _. refl) (λ _. refl) (λ _. refl) (λ _. refl) (λ _. refl) (λ _. refl) (λ _. refl) (λ d. absurd (d refl)) in
    took_list (Some BySetPosition) c.args.part.now c.in-Some.value.now c.args.self.now (record c.args.self.now { positions = c.put_list-in-BYSETPOS.new.field }) here (λ xs. xs.items) c.read_places-in-BYSETPOS.result c.args.self.now.positions c.put_list-in-BYSETPOS.new.field c.put_list-in-BYSETPOS.result
    (λ none. (BySetPosition, c.in-Some.value.now, here, none)) c.read_places-in-BYSETPOS.ensures.reads c.read_places-in-BYSETPOS.ensures.none refl refl others c.put_list-in-BYSETPOS.ensures.puts

pub returns-in-BYSETPOS-clause-refuses : goal.returns-in-BYSETPOS-clause-refuses
returns-in-BYSETPOS-clause-refuses c = IfErr-weaker c.put_list-in-BYSETPOS.result _ _ (only_memory _) c.put_list-in-BYSETPOS.ensures.memory

pub returns-in_default-name-clause-refuses : goal.returns-in_default-name-clause-refuses
returns-in_default-name-clause-refuses c = (
  refl,
  unnamed c.args.part.now c.in-Some.name c.in-Some.value c.in-Some.ensures.cases (no_name c.in-Some.name.now c.in_default-name.not-FREQ c.in_default-name.not-INTERVAL c.in_default-name.not-COUNT c.in_default-name.not-UNTIL c.in_default-name.not-WKST
      c.in_default-name.not-BYMONTH c.in_default-name.not-BYMONTHDAY c.in_default-name.not-BYDAY c.in_default-name.not-BYSETPOS),
)

pub returns-in_default-clause-enters : goal.returns-in_default-clause-enters
returns-in_default-clause-enters c = tt

pub returns-in_default-clause-keeps : goal.returns-in_default-clause-keeps
returns-in_default-clause-keeps c = tt

pub returns-in_default-read_frequency-clause-enters : goal.returns-in_default-read_frequency-clause-enters
returns-in_default-read_frequency-clause-enters c = tt

pub returns-in_default-read_frequency-clause-keeps : goal.returns-in_default-read_frequency-clause-keeps
returns-in_default-read_frequency-clause-keeps c = tt

pub returns-in-Some-read_frequency-clause-keeps : goal.returns-in-Some-read_frequency-clause-keeps
returns-in-Some-read_frequency-clause-keeps c = refl

pub returns-in-Some-read_frequency-clause-refuses : goal.returns-in-Some-read_frequency-clause-refuses
returns-in-Some-read_frequency-clause-refuses c = tt

pub returns-in-INTERVAL-clause-keeps : goal.returns-in-INTERVAL-clause-keeps
returns-in-INTERVAL-clause-keeps c = refl

pub returns-in-INTERVAL-clause-refuses : goal.returns-in-INTERVAL-clause-refuses
returns-in-INTERVAL-clause-refuses c = tt

pub returns-in-COUNT-clause-keeps : goal.returns-in-COUNT-clause-keeps
returns-in-COUNT-clause-keeps c = refl

pub returns-in-COUNT-clause-refuses : goal.returns-in-COUNT-clause-refuses
returns-in-COUNT-clause-refuses c = tt

pub returns-in-UNTIL-clause-keeps : goal.returns-in-UNTIL-clause-keeps
returns-in-UNTIL-clause-keeps c = refl

pub returns-in-UNTIL-clause-refuses : goal.returns-in-UNTIL-clause-refuses
returns-in-UNTIL-clause-refuses c = tt

pub returns-in-WKST-clause-keeps : goal.returns-in-WKST-clause-keeps
returns-in-WKST-clause-keeps c = refl

pub returns-in-WKST-clause-refuses : goal.returns-in-WKST-clause-refuses
returns-in-WKST-clause-refuses c = tt

pub returns-in-BYMONTH-clause-keeps : goal.returns-in-BYMONTH-clause-keeps
returns-in-BYMONTH-clause-keeps c = search rules

pub returns-in-BYMONTHDAY-clause-keeps : goal.returns-in-BYMONTHDAY-clause-keeps
returns-in-BYMONTHDAY-clause-keeps c = search rules

pub returns-in-BYDAY-clause-keeps : goal.returns-in-BYDAY-clause-keeps
returns-in-BYDAY-clause-keeps c = search rules

pub returns-in-BYSETPOS-clause-keeps : goal.returns-in-BYSETPOS-clause-keeps
returns-in-BYSETPOS-clause-keeps c = search rules

pub returns-in_default-name-clause-enters : goal.returns-in_default-name-clause-enters
returns-in_default-name-clause-enters c = tt

pub returns-in_default-name-clause-keeps : goal.returns-in_default-name-clause-keeps
returns-in_default-name-clause-keeps c = tt
