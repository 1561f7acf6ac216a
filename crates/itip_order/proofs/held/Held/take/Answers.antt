use Rattle.std.proofs.Common.{◌≡◌, false, List, [], ◌∷◌, ◌++◌, sym, ◌∙◌, ap, subst}
use Rattle.std.specs.Ordering.{is_eq, is_le}
use Rattle.profile.specs.rooms.Revisions as revisions
use Rattle.itip_order.specs.declared.held.Freshness.{Freshness}
use Rattle.itip_order.specs.Freshness.{IsFreshness}
use Rattle.itip_order.specs.Parts.{part_of, parts_of}
use Rattle.itip_order.specs.Registers.{is_allowed_by, is_known, RepresentsHistory, IsGap}
use Rattle.itip_order.proofs.Registers.{represents_kept, represents_put}
use Rattle.itip_order.proofs.Taking.{entered_is, repeated_is, stale_is, unknown_is, puts_insert}
use Rattle.itip_order.proofs.Steps.{register_in, register_same, put_at}
use Rattle.ical_values.proofs.Exits.{any_err}
use Rattle.itip_order.proofs.held.Held.take.Goals as goal

-- the part goes over the lesser register of its place
pub invariant_of-self : goal.invariant_of-self
invariant_of-self c =
    let found = rw c.deref-2.ensures.value at c.in-Ok.ensures.found in
    (put_at c.self.inside.registers.items c.args.part c.index.result.now c.in-Ok.at c.self.invariant found c.index.ensures (sym c.in-Greater.ensures)).ascending

pub returns-in-Less-clause-taken : goal.returns-in-Less-clause-taken
returns-in-Less-clause-taken c = λ history s.
    let found = rw c.deref-2.ensures.value at c.in-Ok.ensures.found in
    let r = register_in c.self.inside.registers.items c.index.result.now (part_of c.args.part) c.in-Ok.at found c.index.ensures in
    let represented = subst (λ (R : List revisions.Part). RepresentsHistory R history) (sym c.self.view_is) s in
    subst (λ (R : List revisions.Part). RepresentsHistory R (history ++ part_of c.args.part ∷ [])) c.self.view_is (represents_kept _ history (part_of c.args.part) (part_of c.index.result.now) represented r.0 (ap is_eq r.1) (ap is_le (sym c.in-Less.ensures)))

pub returns-in-Less-clause-freshness : goal.returns-in-Less-clause-freshness
returns-in-Less-clause-freshness c = λ history s.
    let found = rw c.deref-2.ensures.value at c.in-Ok.ensures.found in
    let r = register_in c.self.inside.registers.items c.index.result.now (part_of c.args.part) c.in-Ok.at found c.index.ensures in
    let represented = subst (λ (R : List revisions.Part). RepresentsHistory R history) (sym c.self.view_is) s in
    stale_is _ history (part_of c.args.part) (part_of c.index.result.now) represented r.0 (ap is_eq r.1) (sym c.in-Less.ensures)

pub returns-in-Equal-clause-taken : goal.returns-in-Equal-clause-taken
returns-in-Equal-clause-taken c = λ history s.
    let found = rw c.deref-2.ensures.value at c.in-Ok.ensures.found in
    let r = register_in c.self.inside.registers.items c.index.result.now (part_of c.args.part) c.in-Ok.at found c.index.ensures in
    let represented = subst (λ (R : List revisions.Part). RepresentsHistory R history) (sym c.self.view_is) s in
    subst (λ (R : List revisions.Part). RepresentsHistory R (history ++ part_of c.args.part ∷ [])) c.self.view_is (represents_kept _ history (part_of c.args.part) (part_of c.index.result.now) represented r.0 (ap is_eq r.1) (ap is_le (sym c.in-Equal.ensures)))

pub returns-in-Greater-clause-taken : goal.returns-in-Greater-clause-taken
returns-in-Greater-clause-taken c = λ history s.
    let found = rw c.deref-2.ensures.value at c.in-Ok.ensures.found in
    let represented = subst (λ (R : List revisions.Part). RepresentsHistory R history) (sym c.self.view_is) s in
    represents_put _ _ history (part_of c.args.part) represented (put_at c.self.inside.registers.items c.args.part c.index.result.now c.in-Ok.at c.self.invariant found c.index.ensures (sym c.in-Greater.ensures))

pub returns-in-Greater-clause-freshness : goal.returns-in-Greater-clause-freshness
returns-in-Greater-clause-freshness c = λ history s.
    let found = rw c.deref-2.ensures.value at c.in-Ok.ensures.found in
    let represented = subst (λ (R : List revisions.Part). RepresentsHistory R history) (sym c.self.view_is) s in
    let allowed = c.is_allowed-in_view.ensures ∙ ap (λ items. is_allowed_by (parts_of items) (part_of c.args.part)) c.deref.ensures.value in
    let fresh = entered_is _ _ history (part_of c.args.part) c.is_allowed-in_view.result represented (put_at c.self.inside.registers.items c.args.part c.index.result.now c.in-Ok.at c.self.invariant found c.index.ensures (sym c.in-Greater.ensures)) allowed in
    subst (λ (f : Freshness). IsFreshness f history (part_of c.args.part)) (sym c.entered.ensures) fresh

pub returns-in-Equal-clause-freshness : goal.returns-in-Equal-clause-freshness
returns-in-Equal-clause-freshness c = λ history s.
    let found = rw c.deref-2.ensures.value at c.in-Ok.ensures.found in
    let represented = subst (λ (R : List revisions.Part). RepresentsHistory R history) (sym c.self.view_is) s in
    let allowed = c.is_allowed-in_view.ensures ∙ ap (λ items. is_allowed_by (parts_of items) (part_of c.args.part)) c.deref.ensures.value in
    let same = register_same c.self.inside.registers.items c.index.result.now (part_of c.args.part) c.in-Ok.at found c.index.ensures (sym c.in-Equal.ensures) in
    let fresh = repeated_is _ history (part_of c.args.part) c.is_allowed-in_view.result represented same allowed in
    subst (λ (f : Freshness). IsFreshness f history (part_of c.args.part)) (sym c.repeated.ensures) fresh

pub returns-in_ok-put_first-in-Err-clause-taken : goal.returns-in_ok-put_first-in-Err-clause-taken
returns-in_ok-put_first-in-Err-clause-taken c = λ history s.
    let at_items = rw c.deref-2.ensures.value at c.in-Err.ensures.absent in
    let gap = subst (λ (R : List revisions.Part). IsGap R (part_of c.args.part) c.in-Err.at) c.self.view_is at_items in
    let after = represents_put _ _ history (part_of c.args.part) s (puts_insert _ (part_of c.args.part) c.in-Err.at s.ascending gap) in
    subst (λ (R : List revisions.Part). RepresentsHistory R (history ++ part_of c.args.part ∷ [])) (sym c.in_ok-put_first-in-Err.ensures.ok) after

pub returns-in_ok-put_first-in-Err-clause-freshness : goal.returns-in_ok-put_first-in-Err-clause-freshness
returns-in_ok-put_first-in-Err-clause-freshness c = λ history s.
    let at_items = rw c.deref-2.ensures.value at c.in-Err.ensures.absent in
    let gap = subst (λ (R : List revisions.Part). IsGap R (part_of c.args.part) c.in-Err.at) c.self.view_is at_items in
    let allowed = c.is_allowed-in_view.ensures ∙ ap (λ items. is_allowed_by (parts_of items) (part_of c.args.part)) c.deref.ensures.value ∙ ap (λ R. is_allowed_by R (part_of c.args.part)) c.self.view_is in
    let fresh = entered_is _ _ history (part_of c.args.part) c.is_allowed-in_view.result s (puts_insert _ (part_of c.args.part) c.in-Err.at s.ascending gap) allowed in
    subst (λ (f : Freshness). IsFreshness f history (part_of c.args.part)) (sym c.entered-in-Err.ensures) fresh

pub returns-in_err-put_first-in-Err-clause-memory : goal.returns-in_err-put_first-in-Err-clause-memory
returns-in_err-put_first-in-Err-clause-memory c =
    let at_items = rw c.deref-2.ensures.value at c.in-Err.ensures.absent in
    let gap = subst (λ (R : List revisions.Part). IsGap R (part_of c.args.part) c.in-Err.at) c.self.view_is at_items in
    let unknown : (history : List revisions.Part) → RepresentsHistory c.args.self.now history → is_known history (part_of c.args.part) ≡ false = λ history s. unknown_is _ history (part_of c.args.part) c.in-Err.at s gap in
    any_err _ _ unknown
