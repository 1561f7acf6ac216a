use Rattle.std.proofs.lemmas.Grind.{common_steps}
use Rattle.std.proofs.Common.{arith}
use Rattle.ical_lines.proofs.pieces.outside_quotes.Goals as goal

pub returns-then-not-quoted-clause-value : goal.returns-then-not-quoted-clause-value
returns-then-not-quoted-clause-value c = grind (arith, common_steps)

pub loop-place-preserved : goal.loop-place-preserved
loop-place-preserved c = grind (arith, common_steps)

pub returns-clause-value : goal.returns-clause-value
returns-clause-value c = grind (arith, common_steps)
