use Rattle.std.proofs.Common.{◌≡◌, ◌∙◌, ◌+◌, suc, get_or, drop, sym, refl, ap, arith}
use Rattle.std.proofs.Math.Seq.{drop-cons}
use Rattle.std.proofs.lemmas.List.{drop_all}
use Rattle.clash_cert.specs.Reading.{ascend}
use Rattle.clash_cert.proofs.GroupWords.{not_above, too_great, next_ascends}
use Rattle.clash_cert.proofs.reading.are_members.Goals as goal
use Rattle.clash_cert.proofs.reading.are_members.Goals.{then-number-last-via-then-number-last, then-number-last-via-else-number-last+then-series-number}

pub loop-number-init : goal.loop-number-init
loop-number-init c = refl

pub returns-then-number-last : goal.returns-then-number-last
returns-then-number-last c =
    let numbers = c.args.numbers.now in
    let at = c.loop-number.number-index in
    let next = ap (ascend c.args.series c.loop-number.last) (drop-cons numbers at 0 c.loop-number-test.true) in
    elim c.then-number-last.branch [
      | then-number-last-via-then-number-last w ↦
          sym (not_above c.args.series c.loop-number.last (get_or numbers at 0) (drop (suc at) numbers) w.if-number-last.true) ∙ sym next ∙ c.loop-number.invariant
      | then-number-last-via-else-number-last+then-series-number w ↦
          sym (too_great c.args.series c.loop-number.last (get_or numbers at 0) (drop (suc at) numbers) w.if-series-number.true) ∙ sym next ∙ c.loop-number.invariant
    ]

pub loop-number-preserved : goal.loop-number-preserved
loop-number-preserved c =
    let numbers = c.args.numbers.now in
    let at = c.loop-number.number-index in
    let next = ap (ascend c.args.series c.loop-number.last) (drop-cons numbers at 0 c.loop-number-test.true) in
    let place : at + 1 ≡ suc at = omega arith in
    ap (λ k. ascend c.args.series (get_or numbers at 0) (drop k numbers)) place
    ∙ sym (next_ascends c.args.series c.loop-number.last (get_or numbers at 0) (drop (suc at) numbers) c.if-number-last.false c.if-series-number.false) ∙ sym next ∙ c.loop-number.invariant

pub returns : goal.returns
returns c =
    let numbers = c.args.numbers.now in
    let end = c.loop-number-test.false in
    sym (ap (ascend c.args.series c.loop-number.last) (drop_all c.loop-number.number-index numbers (omega (arith, end)))) ∙ c.loop-number.invariant
