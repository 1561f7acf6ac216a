use Rattle.std.proofs.Common.{◌∙◌, ◌++◌, [], inr, subst, sym, arith, length-append, append-nil, true≢false}
use Rattle.std.proofs.lemmas.Result.{err_from_is_err_and}
use Rattle.ical_lines.specs.Cut.{fresh}
use Rattle.sched_devices.proofs.InputLemmas.{consumes_back}
use Rattle.sched_box.specs.Objects.{Cuts, IsPieceEnd, LeavesMore}
use Rattle.sched_box.proofs.ObjectLemmas.{cuts_trans, kept_more, ends_next, lends_next, nothing_next, whole_object, last_object, stops_in, piece_stops, goes_some}
use Rattle.sched_box.proofs.objects.Objects.next_object.Goals as goal

pub returns-in_err-take_piece-clause-stops : goal.returns-in_err-take_piece-clause-stops
returns-in_err-take_piece-clause-stops g c =
    let (taken, takes, kept, cuts, left, mark, first, paid) = c.loop-self.invariant in
    let p = err_from_is_err_and c.from_residual.result c.from_residual.ensures.1 in
    let same = c.in_err-take_piece.ensures.left in
    rw (p.1, p.2)
    (record {
      taken = taken ++ [];
      takes = g.met.R.Input.takes_more _ _ _ taken [] takes c.in_err-take_piece.ensures.keeps;
      holds = λ rest follows. stops_in _ _ (taken ++ []) _ (consumes_back (taken ++ []) rest) (subst (λ z. Cuts fresh z c.loop-self.cutter) (sym (append-nil taken)) cuts) _ _ _ (omega (arith, length-append taken [])) (piece_stops _ _ c.in_err-take_piece.ensures.faults (omega arith));
    })

pub loop-self-preserved : goal.loop-self-preserved
loop-self-preserved g c =
    let (taken, takes, kept, cuts, left, mark, first, paid) = c.loop-self.invariant in
    let t = c.in_ok-take_piece.ensures.takes in (
      taken ++ t.taken,
      g.met.R.Input.takes_more _ _ _ taken t.taken takes t.takes,
      kept_more 1_048_577 _ _ taken t.taken kept t.kept,
      cuts_trans fresh _ _ taken t.taken cuts t.cuts,
      (let l = t.left in omega (arith, length-append taken t.taken)),
      c.in_ok-take_piece.ensures.mark ∙ mark,
      (let l = t.left in λ lent. omega (arith, goes_some _ _ _ t.taken _ c.in-Goes.is t.ends)),
      (let l = t.left in omega (arith, c.take_piece.ensures.fills, goes_some _ _ _ t.taken _ c.in-Goes.is t.ends)),
    )

pub returns-in-Ended-clause-reads : goal.returns-in-Ended-clause-reads
returns-in-Ended-clause-reads g c =
    let (taken, takes, kept, cuts, left, mark, first, paid) = c.loop-self.invariant in
    let t = c.in_ok-take_piece.ensures.takes in
    let all = taken ++ t.taken in
    let ended = subst (IsPieceEnd _ _ _ t.taken) c.in-Ended.is t.ends in record {
      taken = all;
      takes = g.met.R.Input.takes_more _ _ _ taken t.taken takes t.takes;
      holds = λ rest follows. (
        all,
        whole_object _ rest all _ (consumes_back all rest) (cuts_trans fresh _ _ taken t.taken cuts t.cuts) _ (kept_more 1_048_577 _ _ taken t.taken kept t.kept) (ends_next all t.taken _ _ _ rest follows ended),
        (let l = t.left in omega (arith, length-append taken t.taken)),
        subst (λ p. LeavesMore p c.take_piece.new.self.left) c.in-Ended.is t.more,
      );
    }

pub returns-in-End-clause-reads : goal.returns-in-End-clause-reads
returns-in-End-clause-reads g c =
    let (taken, takes, kept, cuts, left, mark, first, paid) = c.loop-self.invariant in
    let t = c.in_ok-take_piece.ensures.takes in
    let all = taken ++ t.taken in
    let ended = subst (IsPieceEnd _ _ _ t.taken) c.in-End.is t.ends in record {
      taken = all;
      takes = g.met.R.Input.takes_more _ _ _ taken t.taken takes t.takes;
      holds = λ rest follows. (
        all,
        last_object _ rest all _ (consumes_back all rest) (cuts_trans fresh _ _ taken t.taken cuts t.cuts) _ _ (kept_more 1_048_577 _ _ taken t.taken kept t.kept) (nothing_next all _ _ rest follows ended) c.has_begun.ensures,
        (let l = t.left in omega (arith, length-append taken t.taken)),
        subst (λ p. LeavesMore p c.take_piece.new.self.left) c.in-End.is t.more,
      );
    }

pub returns-clause-stops : goal.returns-clause-stops
returns-clause-stops g c =
    let (taken, takes, kept, cuts, left, mark, first, paid) = c.loop-self.invariant in
    record { taken = taken; takes = takes; holds = λ rest follows. stops_in _ _ taken _ (consumes_back taken rest) cuts _ _ _ left (omega arith) }

pub returns-in-Ended-clause-after : goal.returns-in-Ended-clause-after
returns-in-Ended-clause-after g c = λ e.
    let t = c.in_ok-take_piece.ensures.takes in
    lends_next _ _ _ t.taken (subst (IsPieceEnd _ _ _ t.taken) c.in-Ended.is t.ends)

pub returns-in-End-clause-after : goal.returns-in-End-clause-after
returns-in-End-clause-after g c = λ e.
    let t = c.in_ok-take_piece.ensures.takes in
    inr (subst (IsPieceEnd _ _ _ t.taken) c.in-End.is t.ends)

pub returns-in-Ended-clause-end : goal.returns-in-Ended-clause-end
returns-in-Ended-clause-end g c = λ e. absurd (true≢false e)

pub returns-in-End-clause-end : goal.returns-in-End-clause-end
returns-in-End-clause-end g c = λ e.
    let t = c.in_ok-take_piece.ensures.takes in
    subst (IsPieceEnd _ _ _ t.taken) c.in-End.is t.ends
