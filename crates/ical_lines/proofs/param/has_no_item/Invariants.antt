use Rattle.std.proofs.Common.{◌≡◌, not}
use Rattle.std.specs.List.{list_any}
use Rattle.profile.specs.text.Lines.{is_item}
use Rattle.ical_lines.specs.Pieces.{pieces_left}
use Rattle.ical_lines.proofs.param.has_no_item.Given as goal

abbrev pub invariant-loop-value : goal.invariant-loop-value
invariant-loop-value l = record {
  can : (goal.iterator-loop-value).can_next l.value-iterator;
  finite : (goal.iterator-loop-value).is_finite l.value-iterator;
  same : list_any (λ item. not (is_item item)) (pieces_left l.values) ≡ list_any (λ item. not (is_item item)) (pieces_left l.value-iterator);
}
