use Rattle.std.proofs.Common.{◌∙◌, sym, ap, refl, false, true}
use Rattle.std.specs.Prelude.{is_some, nat_lt}
use Rattle.std.proofs.lemmas.List.{length-map}
use Rattle.std.specs.List.{list_any}
use Rattle.profile.specs.rooms.Rooms.{is_fresh, is_same, parts_of}
use Rattle.room_books.specs.Taking.{claim_said, claims_said, outcome_said}
use Rattle.room_books.proofs.shared_lemmas.KindLemmas.{kind_by, parts_are}
use Rattle.room_books.proofs.change.Views.kind_of.Goals as goal

pub returns-then-any_fresh-clause-kind : goal.returns-then-any_fresh-clause-kind
returns-then-any_fresh-clause-kind c = λ before after b a some x.
    let claims = c.args.self.now.claims.now in
    kind_by before after (outcome_said c.args.outcome.now) (claims_said claims) false true (list_any (is_same before after) (parts_of (claims_said claims))) (ap (nat_lt 0) (length-map claims claim_said) ∙ some) (x ∙ ap is_some c.in_default.is)
    (ap (list_any (is_fresh before after)) (parts_are claims) ∙ sym (c.any_fresh.ensures before after b a) ∙ c.if-any_fresh.true)
    (refl)

pub returns-then-any_same-clause-kind : goal.returns-then-any_same-clause-kind
returns-then-any_same-clause-kind c = λ before after b a some x.
    let claims = c.args.self.now.claims.now in
    kind_by before after (outcome_said c.args.outcome.now) (claims_said claims) false false true (ap (nat_lt 0) (length-map claims claim_said) ∙ some) (x ∙ ap is_some c.in_default.is)
    (ap (list_any (is_fresh before after)) (parts_are claims) ∙ sym (c.any_fresh.ensures before after b a) ∙ c.if-any_fresh.false)
    (ap (list_any (is_same before after)) (parts_are claims) ∙ sym (c.any_same.ensures before after b a) ∙ c.if-any_same.true)

pub returns-clause-kind : goal.returns-clause-kind
returns-clause-kind c = λ before after b a some x.
    let claims = c.args.self.now.claims.now in
    kind_by before after (outcome_said c.args.outcome.now) (claims_said claims) false false false (ap (nat_lt 0) (length-map claims claim_said) ∙ some) (x ∙ ap is_some c.in_default.is)
    (ap (list_any (is_fresh before after)) (parts_are claims) ∙ sym (c.any_fresh.ensures before after b a) ∙ c.if-any_fresh.false)
    (ap (list_any (is_same before after)) (parts_are claims) ∙ sym (c.any_same.ensures before after b a) ∙ c.if-any_same.false)
