use Rattle.std.proofs.Common.{List, ◌++◌, sym, ap, ◌∙◌, subst}
use Rattle.profile.specs.rooms.Revisions as revisions
use Rattle.itip_order.specs.Parts.{parts_of}
use Rattle.itip_order.specs.Registers.{together, RepresentsHistory}
use Rattle.itip_order.proofs.Joined.{represents_both}
use Rattle.itip_order.proofs.held.Held.with.Goals as goal

pub returns-clause-together : goal.returns-clause-together
returns-clause-together c =
    let first = ap parts_of c.deref.ensures.value ∙ c.self.view_is in
    let second = ap parts_of c.deref-2.ensures.value ∙ c.more.view_is in
    c.new.ensures ∙ ap (λ R. together R (parts_of c.deref-2.result.now)) first ∙ ap (together c.args.self.now) second

pub returns-clause-taken : goal.returns-clause-taken
returns-clause-taken c = λ history others s t.
    let first = ap parts_of c.deref.ensures.value ∙ c.self.view_is in
    let second = ap parts_of c.deref-2.ensures.value ∙ c.more.view_is in
    let now = c.new.ensures ∙ ap (λ R. together R (parts_of c.deref-2.result.now)) first ∙ ap (together c.args.self.now) second in
    subst (λ (R : List revisions.Part). RepresentsHistory R (history ++ others)) (sym now) (represents_both c.args.self.now c.args.more.now history others s t)
