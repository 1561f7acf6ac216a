use Rattle.std.proofs.Common.{◌<◌, ◌∙◌, ap, length, arith}
use Rattle.profile.specs.text.Lines.{outside}
use Rattle.ical_lines.proofs.PieceLemmas.{boundary_past, cut_past}
use Rattle.ical_lines.proofs.pieces.split_outside.Goals as goal

pub split_at-requires-2 : goal.split_at-requires-2
split_at-requires-2 c =
    let filled : 0 < length c.split_at.result.1.now = grind (arith, c.is_empty.ensures, c.if-is_empty.false) in
    boundary_past c.args.text.now c.as_bytes.result.now _ c.outside-place.result c.args.stop c.utf8.text c.as_bytes.ensures.value c.split_at.ensures.back filled c.outside-place.ensures.at c.requires

pub returns-clause-back : goal.returns-clause-back
returns-clause-back c =
    let filled : 0 < length c.split_at.result.1.now = grind (arith, c.is_empty.ensures, c.if-is_empty.false) in
    cut_past c.args.text.now _ _ _ c.args.stop (c.outside-place.ensures.value ∙ ap (outside c.args.stop) c.as_bytes.ensures.value) c.split_at.ensures.back filled c.split_at-2.ensures.back
