use Rattle.std.proofs.Common.{rules}
use Rattle.ical_values.proofs.shown.offset_text.Goals as goal

pub returns-in_err-octets : goal.returns-in_err-octets
returns-in_err-octets c = search rules

pub returns-in_err-write : goal.returns-in_err-write
returns-in_err-write c = search rules

pub returns : goal.returns
returns c = search rules
