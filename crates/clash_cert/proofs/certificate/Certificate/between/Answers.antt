use Rattle.std.proofs.Common.{◌∙◌, List, map, subst, ap, arith}
use Rattle.profile.specs.checker.Certificates.{Claims, Pair, IsClaims}
use Rattle.clash_cert.specs.Texts.{IsEntryAmong, entry_said, pair_said}
use Rattle.clash_cert.proofs.KeptLemmas.{said_in_order, said_out_of_order, good_among}
use Rattle.clash_cert.proofs.certificate.Certificate.between.Goals as goal

pub returns-then-first-second-clause-good : goal.returns-then-first-second-clause-good
returns-then-first-second-clause-good c =
    let i = c.args.first in
    let j = c.args.second in
    let entry = entry_said c.entry_at.result in
    good_among c.args.self.now i j entry (subst IsClaims c.self.view_is c.self.invariant)
    (subst (λ (ps : List Pair). IsEntryAmong ps i j entry) (ap (map pair_said) c.deref.ensures.value ∙ ap (λ (x : Claims). x.pairs) c.self.view_is) c.entry_at.ensures)

pub returns-then-first-second-clause-said : goal.returns-then-first-second-clause-said
returns-then-first-second-clause-said c =
    let i = c.args.first in
    let j = c.args.second in
    let entry = entry_said c.entry_at.result in
    said_in_order c.args.self.now i j entry c.if-first-second.true
    (subst (λ (ps : List Pair). IsEntryAmong ps i j entry) (ap (map pair_said) c.deref.ensures.value ∙ ap (λ (x : Claims). x.pairs) c.self.view_is) c.entry_at.ensures)

pub returns-else-first-second-clause-good : goal.returns-else-first-second-clause-good
returns-else-first-second-clause-good c =
    let i = c.args.second in
    let j = c.args.first in
    let entry = entry_said c.entry_at-else-first-second.result in
    good_among c.args.self.now i j entry (subst IsClaims c.self.view_is c.self.invariant)
    (subst (λ (ps : List Pair). IsEntryAmong ps i j entry) (ap (map pair_said) c.deref-else-first-second.ensures.value ∙ ap (λ (x : Claims). x.pairs) c.self.view_is)
    c.entry_at-else-first-second.ensures)

pub returns-else-first-second-clause-said : goal.returns-else-first-second-clause-said
returns-else-first-second-clause-said c =
    let i = c.args.first in
    let j = c.args.second in
    let entry = entry_said c.entry_at-else-first-second.result in
    said_out_of_order c.args.self.now i j entry c.if-first-second.false
    (subst (λ (ps : List Pair). IsEntryAmong ps j i entry) (ap (map pair_said) c.deref-else-first-second.ensures.value ∙ ap (λ (x : Claims). x.pairs) c.self.view_is)
    c.entry_at-else-first-second.ensures)
