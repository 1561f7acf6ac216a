use Rattle.std.proofs.Common.{◌≡◌, ◌∙◌, ◌++◌, ◌∷◌, [], List, map, subst, sym, ap}
use Rattle.std.specs.Prelude.{Some, IfSome}
use Rattle.std.proofs.lemmas.List.{map-append}
use Rattle.profile.specs.checker.Certificates.{Pair, IsPairBefore}
use Rattle.clash_cert.specs.Texts.{entry_said, pair_said}
use Rattle.clash_cert.specs.Walked.{HasPairLine, HasPairLines}
use Rattle.clash_cert.proofs.Walking.{lines_more, next_has}
use Rattle.clash_cert.proofs.reading.read_pairs.Goals as goal

pub returns : goal.returns
returns c groups of =
    subst (λ next. HasPairLines c.args.series groups next (map pair_said c.loop-next.pairs.items) c.args.bytes.now c.loop-next.rest.now) c.in_default.is (c.loop-next.invariant groups of).1

pub loop-next-preserved : goal.loop-next-preserved
loop-next-preserved c groups of =
    let n = c.args.series in
    let i = c.in-Some.i in
    let j = c.in-Some.j in
    let old = map pair_said c.loop-next.pairs.items in
    let bytes = c.args.bytes.now in
    let rest = c.loop-next.rest.now in
    let left = c.in-Some-read_pair.left.now in
    let entry = entry_said c.in-Some-read_pair.entry in
    let next = c.pair_after-next.result in
    let inv = subst (λ next. IfSome next (λ p. HasPairLine n groups p.0 p.1) × HasPairLines n groups next old bytes rest) c.in-Some.is (c.loop-next.invariant groups of) in
    let after = c.pair_after-next.ensures groups of inv.0.pair in
    let said : map pair_said c.push.new.self.items ≡ old ++ (record { first = i; second = j; entry = entry }) ∷ [] =
    ap (map pair_said) c.in_ok-push.ensures.items ∙ map-append pair_said c.loop-next.pairs.items ((record { first = i; second = j; entry = c.in-Some-read_pair.entry }) ∷ []) in (
      next_has (IsPairBefore i j) n groups next after,
      subst (λ (pairs : List Pair). HasPairLines n groups next pairs bytes left) (sym said) (lines_more n groups i j next old entry bytes rest left inv.1 inv.0 c.in-Some-read_pair.ensures after),
    )
