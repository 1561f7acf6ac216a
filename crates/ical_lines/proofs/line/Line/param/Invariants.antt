use Rattle.std.proofs.Common.{◌≡◌, option_map}
use Rattle.std.specs.List.{find}
use Rattle.profile.specs.text.Lines.{line_param, param_name, first_value, is_same_name}
use Rattle.ical_lines.specs.Pieces.{pieces_left}
use Rattle.ical_lines.specs.Text.{line_text}
use Rattle.ical_lines.proofs.line.Line.param.Given as goal

abbrev pub invariant-loop-piece : goal.invariant-loop-piece
invariant-loop-piece l = record {
  can : (goal.iterator-loop-piece).can_next l.piece-iterator;
  finite : (goal.iterator-loop-piece).is_finite l.piece-iterator;
  same : option_map first_value (find (λ param. is_same_name (param_name param) l.name) (pieces_left l.piece-iterator)) ≡ line_param l.name (line_text l.self);
}
