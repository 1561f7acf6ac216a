use Rattle.std.proofs.Common.{sym, ◌∙◌, ap}
use Rattle.std.specs.Ordering.{is_eq}
use Rattle.itip_order.specs.Parts.{part_of, slot_of}
use Rattle.itip_order.specs.Registers.{at_slot}
use Rattle.itip_order.proofs.Taking.{shown_is, none_is}
use Rattle.itip_order.proofs.Joined.{nothing_seen}
use Rattle.itip_order.proofs.together.Together.part_in.Goals as goal

pub returns-in_default-clause-none : goal.returns-in_default-clause-none
returns-in_default-clause-none c = λ history s. nothing_seen c.args.self.now history (at_slot (part_of c.args.part.now) (slot_of c.args.slot)) s c.in_default.ensures.none

pub returns-then-not-allows-clause-none : goal.returns-then-not-allows-clause-none
returns-then-not-allows-clause-none c = λ history s.
    let place = at_slot (part_of c.args.part.now) (slot_of c.args.slot) in
    let out = sym c.allows.ensures ∙ c.if-not-allows.true in
    none_is c.args.self.now history place (part_of c.in-Some.found.now) s c.in-Some.ensures.found.0 (ap is_eq c.in-Some.ensures.found.1) out

pub returns-clause-found : goal.returns-clause-found
returns-clause-found c = (
  λ history s. sym (shown_is c.args.self.now history (part_of c.in-Some.found.now) s c.in-Some.ensures.found.0) ∙ sym c.allows.ensures ∙ c.if-not-allows.false,
  ap is_eq c.in-Some.ensures.found.1,
)
