use Rattle.std.proofs.Common.{◌≤◌, ◌-◌, ◌∙◌, take, drop, length, ap, sym, subst, rules}
use Rattle.sched_box.specs.Objects.{IsPieceEnd, LeavesMore}
use Rattle.sched_box.proofs.InputLemmas.{lent_then_taken}
use Rattle.sched_box.proofs.ObjectLemmas.{piece_end, same_piece, left_over, leaves_more}
use Rattle.sched_box.proofs.objects.Objects.take_piece.Goals as goal

pub returns-clause-takes : goal.returns-clause-takes
returns-clause-takes g c =
    let lent = c.buffer-lent.result.now in
    let most = c.min.result in
    let scanned = c.scan-scanned in
    let count = scanned.result.count in
    let within : count ≤ length (take most lent) = scanned.ensures.within in
    let shown : count ≤ length lent = search rules in
    let lent_is = c.buffer-lent.ensures.lent in
    let rest = c.consume.ensures.rest ∙ ap (drop count) (sym lent_is) in
    let takes = lent_then_taken g.R.Input.takes c.args.reader.now c.lend.new.reader c.consume.new.self lent _ count lent_is shown g.met.R.Input.takes_more c.lend.ensures.takes c.consume.ensures.taken in
    record {
      taken = take count (take most lent);
      takes = subst (λ z. g.R.Input.takes c.args.reader.now z c.consume.new.self) (sym (same_piece lent most count within)) takes;
      kept = c.in_ok-keep_front.ensures;
      left = left_over lent most count c.args.self.now.left c.min.ensures within;
      more = subst (λ p. LeavesMore p (c.args.self.now.left - count)) (sym c.piece.ensures) (leaves_more lent most count c.args.self.now.left scanned.result.ended c.min.ensures c.requires within scanned.ensures.before);
      cuts = scanned.ensures.cuts;
      ends = subst (IsPieceEnd _ _ _ _) (sym c.piece.ensures)
          (piece_end lent _ _ most count c.args.self.now.left scanned.result.ended _ c.min.ensures c.requires within scanned.ensures.before scanned.ensures.ended scanned.ensures.all rest
          (λ none. c.consume.ensures.ended ∙ c.in-Ok.ensures.ended (sym (ap length lent_is) ∙ none)));
    }
