use Rattle.std.proofs.Common.{◌∙◌, inl, refl, sym}
use Rattle.sched_cli.proofs.HandedBack.{as_it_came, handed_so}
use Rattle.sched_cli.proofs.returned.handed_back.Goals as goal

pub returns-then-is_line : goal.returns-then-is_line
returns-then-is_line c = as_it_came c.args.way c.args.piece.now

pub returns-in_default : goal.returns-in_default
returns-in_default c =
    handed_so (λ out. out.items) c.args.way c.args.piece.now c.args.piece.now c.parted.result (sym c.is_line.ensures ∙ c.if-is_line.false) (inl refl) c.parted.ensures
