use Rattle.std.proofs.Common.{◌≤◌, ◌∙◌, take, drop, length, ap, sym, subst, rules}
use Rattle.sched_box.proofs.InputLemmas.{lent_then_taken}
use Rattle.sched_box.proofs.ObjectLemmas.{same_piece}
use Rattle.sched_box.proofs.PreambleLemmas.{piece}
use Rattle.sched_box.proofs.preamble.take_piece.Goals as goal

pub returns-clause-takes : goal.returns-clause-takes
returns-clause-takes g c =
    let lent = c.buffer-lent.result.now in
    let most = c.min.result in
    let scanned = c.scan-scanned in
    let count = scanned.result.count in
    let within : count ≤ length (take most lent) = scanned.ensures.within in
    let shown : count ≤ length lent = search rules in
    let lent_is = c.buffer-lent.ensures.lent in
    let rest = c.consume.ensures.rest ∙ ap (drop count) (sym lent_is) in
    let takes = lent_then_taken g.R.Input.takes c.args.reader.now c.lend.new.reader c.consume.new.self lent _ count lent_is shown g.met.R.Input.takes_more c.lend.ensures.takes c.consume.ensures.taken in (
      take count (take most lent),
      c.in_ok-extend_from_slice.ensures.items,
      subst (λ z. g.R.Input.takes c.args.reader.now z c.consume.new.self) (sym (same_piece lent most count within)) takes,
      piece lent _ _ most count _ _ _ within c.min.ensures rest (λ none. c.consume.ensures.ended ∙ c.in-Ok.ensures.ended (sym (ap length lent_is) ∙ none)) scanned.ensures.leads scanned.ensures.some c.goes_on.ensures,
    )
