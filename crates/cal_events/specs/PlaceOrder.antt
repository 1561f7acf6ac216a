-- The places of overrides in order: by start, then by slot.
use Rattle.std.specs.Ordering.{ordering_then, nat_cmp, int_cmp}
use Rattle.std.specs.declared.cmp.Ordering.{Ordering}
use Rattle.cal_events.specs.declared.places.Moved.{Moved}

abbrev pub moved_cmp : Moved → Moved → Ordering
moved_cmp a b = ordering_then (int_cmp a.start b.start) (ordering_then (int_cmp a.slot b.slot) (nat_cmp a.which b.which))
