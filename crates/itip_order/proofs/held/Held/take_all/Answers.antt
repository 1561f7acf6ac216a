use Rattle.std.proofs.Common.{◌≡◌, true, List, ◌++◌, sym, ap, ◌∙◌, subst}
use Rattle.profile.specs.rooms.Revisions as revisions
use Rattle.itip_order.specs.Parts.{parts_of}
use Rattle.itip_order.specs.Registers.{is_ascending, together, RepresentsHistory}
use Rattle.itip_order.proofs.Joined.{together_ascending, represents_both}
use Rattle.itip_order.proofs.held.Held.take_all.Goals as goal

pub invariant_of-self-2 : goal.invariant_of-self-2
invariant_of-self-2 c =
    subst (λ (R : List revisions.Part). is_ascending R ≡ true) (sym c.in_ok-put_all.ensures.ok) (together_ascending (parts_of c.self.inside.registers.items) (parts_of c.more.inside.registers.items) c.self.invariant)

pub returns-clause-together : goal.returns-clause-together
returns-clause-together c = c.in_ok-put_all.ensures.ok ∙ ap (λ R. together R (parts_of c.more.inside.registers.items)) c.self.view_is ∙ ap (together c.args.self.now) c.more.view_is

pub returns-clause-taken : goal.returns-clause-taken
returns-clause-taken c = λ history others s t.
    let now = c.in_ok-put_all.ensures.ok ∙ ap (λ R. together R (parts_of c.more.inside.registers.items)) c.self.view_is ∙ ap (together c.args.self.now) c.more.view_is in
    subst (λ (R : List revisions.Part). RepresentsHistory R (history ++ others)) (sym now) (represents_both c.args.self.now c.args.more history others s t)
