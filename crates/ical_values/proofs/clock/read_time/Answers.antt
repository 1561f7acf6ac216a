use Rattle.std.proofs.Common.{◌≡◌, ◌+◌, ◌*◌, ◌<◌, ◌≤◌, ℕ, min, arith}
use Rattle.ical_values.proofs.Exits.{if_none}
use Rattle.ical_values.proofs.Spelled.{no_hour, no_minute, no_second, same_time, time_spelled}
use Rattle.ical_values.proofs.clock.read_time.Goals as goal

total_of : (hour minute second counted : ℕ) → counted ≡ min second 59 → hour * 3600 + minute * 60 + counted ≡ 3600 * hour + 60 * minute + min second 59
total_of hour minute second counted e = rw e (omega arith)

below_a_day : (hour minute second counted : ℕ) → hour ≤ 23 → minute ≤ 59 → counted ≡ min second 59 → hour * 3600 + minute * 60 + counted < 86_400
below_a_day hour minute second counted h m e = rw e (omega arith)

pub returns-in_err-hour-clause-none : goal.returns-in_err-hour-clause-none
returns-in_err-hour-clause-none c = if_none c.from_residual.result (no_hour c.args.limit c.args.text.now c.in_err-hour.ensures.none)

pub returns-in_err-minute-clause-none : goal.returns-in_err-minute-clause-none
returns-in_err-minute-clause-none c = if_none c.from_residual-in_err-minute.result (no_minute c.args.limit c.args.text.now c.in_err-minute.ensures.none)

pub returns-in_err-second-clause-none : goal.returns-in_err-second-clause-none
returns-in_err-second-clause-none c = if_none c.from_residual-in_err-second.result (no_second c.args.limit c.args.text.now c.requires c.in_err-second.ensures.none)

pub returns-then-hour-gt23-clause-none : goal.returns-then-hour-gt23-clause-none
returns-then-hour-gt23-clause-none c = λ total s.
    let same = same_time c.args.limit c.args.text.now c.in_ok-hour.hour c.in_ok-minute.minute c.in_ok-second.second total c.requires c.in_ok-hour.ensures.found.0 c.in_ok-minute.ensures.found.0 c.in_ok-second.ensures.found.0
    (record { hours = c.in_ok-hour.ensures.found.1; minutes = c.in_ok-minute.ensures.found.1; seconds = c.in_ok-second.ensures.found.1 }) s in
    omega (arith, same.0, same.1, same.2, s.hours, s.minutes, s.seconds, c.then-hour-gt23.either)

pub returns-clause-found : goal.returns-clause-found
returns-clause-found c = record {
  hour = c.in_ok-hour.hour;
  minute = c.in_ok-minute.minute;
  second = c.in_ok-second.second;
  hours = c.if-hour-gt23.false;
  minutes = c.if-minute-gt59.false;
  seconds = c.if-second-limit.false;
  spelled = time_spelled c.args.text.now c.in_ok-hour.hour c.in_ok-minute.minute c.in_ok-second.second (omega (arith, c.in-len6.len_at_least, c.in-len6.len_below))
      (record { hours = c.in_ok-hour.ensures.found.1; minutes = c.in_ok-minute.ensures.found.1; seconds = c.in_ok-second.ensures.found.1 });
  counted = total_of c.in_ok-hour.hour c.in_ok-minute.minute c.in_ok-second.second c.min.result c.min.ensures;
}

pub returns-clause-range : goal.returns-clause-range
returns-clause-range c = below_a_day c.in_ok-hour.hour c.in_ok-minute.minute c.in_ok-second.second c.min.result c.if-hour-gt23.false c.if-minute-gt59.false c.min.ensures
