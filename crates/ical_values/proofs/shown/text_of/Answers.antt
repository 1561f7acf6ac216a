use Rattle.std.proofs.Common.{ap}
use Rattle.ical_values.proofs.shown.text_of.Goals as goal

pub returns : goal.returns
returns c = ap (λ octets. octets.items) c.in-Ok.ensures.ok
