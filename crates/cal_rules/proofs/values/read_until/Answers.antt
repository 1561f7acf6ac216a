use Rattle.std.proofs.Common.{rules}
use Rattle.std.proofs.Common.{◌≡◌}
use Rattle.ical_values.proofs.Exits.{if_none}
use Rattle.cal_rules.proofs.Numbers.{no_until}
use Rattle.cal_rules.proofs.values.read_until.Goals as goal

pub returns-in_err-day-clause-none : goal.returns-in_err-day-clause-none
returns-in_err-day-clause-none c =
    let octets : c.as_bytes.result.now ≡ c.args.value.now = c.as_bytes.ensures.value in
    if_none c.from_residual.result (no_until c.args.value.now c.in_default.ensures.none c.in_default-read.ensures.none (rw octets at c.in_err-day.ensures.none))

pub returns-in-Ok-clause-reads : goal.returns-in-Ok-clause-reads
returns-in-Ok-clause-reads c = search rules

pub returns-in-Ok-clause-none : goal.returns-in-Ok-clause-none
returns-in-Ok-clause-none c = search rules

pub returns-in-Ok-read-clause-reads : goal.returns-in-Ok-read-clause-reads
returns-in-Ok-read-clause-reads c = search rules

pub returns-in-Ok-read-clause-none : goal.returns-in-Ok-read-clause-none
returns-in-Ok-read-clause-none c = search rules

pub returns-clause-reads : goal.returns-clause-reads
returns-clause-reads c = search rules

pub returns-clause-none : goal.returns-clause-none
returns-clause-none c = search rules
