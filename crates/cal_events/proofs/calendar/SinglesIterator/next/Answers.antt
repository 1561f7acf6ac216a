use Rattle.std.proofs.Common.{◌<◌, length}
use Rattle.std.proofs.lemmas.List.Elements.{All-rest}
use Rattle.cal_events.specs.declared.calendar.PlacedSingle.{PlacedSingle as Single}
use Rattle.cal_events.proofs.calendar.SinglesIterator.next.Goals as goal

pub invariant_of-self : goal.invariant_of-self
invariant_of-self c =
    let s = c.args.self.now in
    record { within = All-rest (λ (x : Single). x.entry < length s.entries.now) c.in_ok-single.single.now c.in_ok-single.rest.now s.singles.now c.in_ok-single.ensures.cases.0 s.within }
