use Rattle.std.proofs.Common.{◌∙◌, List, map, subst, ap}
use Rattle.profile.specs.checker.Certificates.{Claims, Pair, IsClaims}
use Rattle.clash_cert.specs.Texts.{IsEntryAmong, entry_said, pair_said}
use Rattle.clash_cert.proofs.SortedPairs.{both_more, entry_of_pairs, group_entry, group_lacks, groups_lack}
use Rattle.clash_cert.proofs.certificate.Certificate.entry.Goals as goal

pub returns-then-has_both : goal.returns-then-has_both
returns-then-has_both c pair =
    group_entry c.args.self.now (subst IsClaims c.self.view_is c.self.invariant) c.groups-group-items.result.now c.groups-group-items.ensures c.args.i c.args.j c.loop-place.place c.group-item.result
    c.loop-place-test.true c.group-item.is c.has_both.result c.has_both.ensures c.if-has_both.true

pub loop-place-preserved : goal.loop-place-preserved
loop-place-preserved c =
    both_more c.groups-group-items.result.now c.args.i c.args.j c.loop-place.place c.loop-place.invariant
    (group_lacks c.args.self.now (subst IsClaims c.self.view_is c.self.invariant) c.groups-group-items.result.now c.groups-group-items.ensures c.args.i c.args.j c.loop-place.place c.group-item.result
    c.loop-place-test.true c.group-item.is c.has_both.result c.has_both.ensures c.if-has_both.false)

pub returns : goal.returns
returns c pair =
    let i = c.args.i in
    let j = c.args.j in
    let entry = entry_said c.entry_at.result in
    let claims = subst IsClaims c.self.view_is c.self.invariant in
    entry_of_pairs c.args.self.now i j entry claims
    (groups_lack c.args.self.now claims c.groups-group-items.result.now c.groups-group-items.ensures i j c.loop-place.place c.loop-place-test.false c.loop-place.invariant)
    (subst (λ (ps : List Pair). IsEntryAmong ps i j entry) (ap (map pair_said) c.as_slice-pairs.ensures.value ∙ ap (λ (x : Claims). x.pairs) c.self.view_is) c.entry_at.ensures) pair
