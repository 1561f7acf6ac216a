use Rattle.std.proofs.Common.{◌≡◌, ◌||◌}
use Rattle.std.specs.List.{list_any}
use Rattle.profile.specs.text.Lines.{lacks_name, is_badly_quoted}
use Rattle.ical_lines.specs.Pieces.{pieces_left}
use Rattle.ical_lines.proofs.param.fault_of.Given as goal

abbrev pub invariant-loop-param : goal.invariant-loop-param
invariant-loop-param l = record {
  can : (goal.iterator-loop-param).can_next l.param-iterator;
  finite : (goal.iterator-loop-param).is_finite l.param-iterator;
  names : list_any lacks_name (pieces_left l.params) ≡ list_any lacks_name (pieces_left l.param-iterator);
  quotes : list_any is_badly_quoted (pieces_left l.params) ≡ (l.has_bad_quote || list_any is_badly_quoted (pieces_left l.param-iterator));
}
