use Rattle.std.proofs.Common.{sym, ◌∙◌, ap, subst}
use Rattle.std.specs.List.{Contains}
use Rattle.std.specs.Ordering.{is_eq}
use Rattle.std.proofs.lemmas.Cmp.{tied_back}
use Rattle.profile.specs.rooms.Revisions as revisions
use Rattle.itip_order.specs.Parts.{part_of}
use Rattle.itip_order.proofs.Order.{place_total, is_eq_true, part_same}
use Rattle.itip_order.proofs.Taking.{shown_is, hidden_is}
use Rattle.itip_order.proofs.Joined.{nothing_shown}
use Rattle.itip_order.proofs.together.Together.shows.Goals as goal

pub returns-then-is_eq : goal.returns-then-is_eq
returns-then-is_eq c = λ history s.
    let part = part_of c.args.part.now in
    let register = part_of c.in-Some.register.now in
    let tie = sym c.cmp_part.ensures ∙ is_eq_true c.cmp_part.result (sym c.is_eq.ensures ∙ c.if-is_eq.true) in
    let same = part_same part register (tied_back place_total register part c.in-Some.ensures.found.1) tie in
    let held = subst (λ (p : revisions.Part). Contains c.args.self.now p) (sym same) c.in-Some.ensures.found.0 in
    c.allows.ensures ∙ shown_is c.args.self.now history part s held

pub returns-else-is_eq : goal.returns-else-is_eq
returns-else-is_eq c = λ history s.
    let other = ap is_eq (sym c.cmp_part.ensures) ∙ sym c.is_eq.ensures ∙ c.if-is_eq.false in
    c.if-is_eq.false ∙ hidden_is c.args.self.now history (part_of c.args.part.now) (part_of c.in-Some.register.now) s c.in-Some.ensures.found.0 (ap is_eq c.in-Some.ensures.found.1) other

pub returns-in-None : goal.returns-in-None
returns-in-None c = λ history s. nothing_shown c.args.self.now history (part_of c.args.part.now) s c.in-None.ensures.none
