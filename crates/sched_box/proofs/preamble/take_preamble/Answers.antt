use Rattle.std.proofs.Common.{◌∙◌, ◌++◌, [], List, ℕ, Option, IfSome, refl, sym, subst, arith, length-append, append-nil, ap, length}
use Rattle.std.specs.Io.KnownBytes.{prepend_known}
use Rattle.std.proofs.lemmas.Result.{err_from_is_err_and}
use Rattle.sched_devices.specs.Input.{MayFollow}
use Rattle.sched_box.specs.declared.preamble.LineState.TheVariants.{Start}
use Rattle.sched_box.specs.Preamble.{Leads, TakesPreamble}
use Rattle.sched_box.proofs.PreambleLemmas.{filled_once, leads_none, leads_trans, stopped_long, stopped_reading, taken_all}
use Rattle.sched_box.proofs.preamble.take_preamble.Goals as goal

pub loop-place-init : goal.loop-place-init
loop-place-init g c =
    let none = sym c.new-octets.ensures.items in
    (subst (λ o. g.R.Input.takes c.args.reader.now o c.args.reader.now) none (g.met.R.Input.takes_nothing c.args.reader.now), subst (λ o. Leads Start o Start) none (leads_none Start), refl, omega arith)

pub loop-place-preserved : goal.loop-place-preserved
loop-place-preserved g c =
    let (taken, is, takes, t) = c.in_ok-take_piece.ensures.takes in (
      subst (λ o. g.R.Input.takes c.args.reader.now o c.take_piece.new.reader) (sym is) (g.met.R.Input.takes_more _ _ _ c.loop-place.octets.items taken c.loop-place.invariant.0 takes),
      subst (λ o. Leads Start o c.take_piece.new.place) (sym is) (leads_trans _ _ _ _ _ c.loop-place.invariant.1 t.leads),
      c.in_ok-take_piece.ensures.mark ∙ c.loop-place.invariant.2,
      (let more = (t.some c.if-not-branch.false).0 in
          let paid = c.loop-place.invariant.3 in
          omega (arith, c.take_piece.ensures.fills, ap length is, length-append c.loop-place.octets.items taken)),
    )

pub loop-place-smaller : goal.loop-place-smaller
loop-place-smaller g c =
    let (taken, is, takes, t) = c.in_ok-take_piece.ensures.takes in
    let more = (t.some c.if-not-branch.false).0 in
    omega (arith, ap length is, length-append c.loop-place.octets.items taken)

pub returns-then-not-branch-clause-takes : goal.returns-then-not-branch-clause-takes
returns-then-not-branch-clause-takes g c =
    let (taken, is, takes, t) = c.in_ok-take_piece.ensures.takes in
    let lent = g.R.Input.lent c.take_piece.new.reader in
    let has_ended = g.R.Input.has_ended c.take_piece.new.reader in (
      subst (λ o. g.R.Input.takes c.args.reader.now o c.take_piece.new.reader) (sym is) (g.met.R.Input.takes_more _ _ _ c.loop-place.octets.items taken c.loop-place.invariant.0 takes),
      subst (λ o. (left : Option (List ℕ)) → IfSome left (MayFollow lent has_ended) → TakesPreamble (prepend_known o left) left o) (sym is) (taken_all lent has_ended _ _ _ _ _ c.loop-place.invariant.1 t c.if-not-branch.true),
    )

pub returns-then-not-branch-clause-fills : goal.returns-then-not-branch-clause-fills
returns-then-not-branch-clause-fills g c =
    let (taken, is, takes, t) = c.in_ok-take_piece.ensures.takes in
    let paid = c.loop-place.invariant.3 in
    let all = g.met.R.Input.takes_known _ _ _ (g.met.R.Input.takes_more _ _ _ c.loop-place.octets.items taken c.loop-place.invariant.0 takes) in
    filled_once _ _ (c.loop-place.octets.items ++ taken) _ _ (length (g.R.Input.lent c.args.reader.now)) all (omega (arith, c.take_piece.ensures.fills, length-append c.loop-place.octets.items taken))

pub returns-in_err-take_piece-clause-fills : goal.returns-in_err-take_piece-clause-fills
returns-in_err-take_piece-clause-fills g c =
    let paid = c.loop-place.invariant.3 in
    let all = g.met.R.Input.takes_known _ _ _ (g.met.R.Input.takes_more _ _ _ c.loop-place.octets.items [] c.loop-place.invariant.0 c.in_err-take_piece.ensures.keeps) in
    filled_once _ _ (c.loop-place.octets.items ++ []) _ _ (length (g.R.Input.lent c.args.reader.now)) all (omega (arith, c.take_piece.ensures.fills, length-append c.loop-place.octets.items []))

pub returns-clause-fills : goal.returns-clause-fills
returns-clause-fills g c =
    let paid = c.loop-place.invariant.3 in
    filled_once _ _ c.loop-place.octets.items _ _ (length (g.R.Input.lent c.args.reader.now)) (g.met.R.Input.takes_known _ _ _ c.loop-place.invariant.0) (omega arith)

pub returns-in_err-take_piece-clause-stops : goal.returns-in_err-take_piece-clause-stops
returns-in_err-take_piece-clause-stops g c =
    let p = err_from_is_err_and c.from_residual.result c.from_residual.ensures.1 in
    let octets = c.loop-place.octets.items in
    rw p.1
    (record {
      taken = octets ++ [];
      takes = g.met.R.Input.takes_more _ _ _ octets [] c.loop-place.invariant.0 c.in_err-take_piece.ensures.keeps;
      holds = λ left follows. stopped_reading (octets ++ []) _ p.0 _ p.2 (subst (λ o. Leads Start o c.loop-place.place) (sym (append-nil octets)) c.loop-place.invariant.1) left;
    })

pub returns-clause-stops : goal.returns-clause-stops
returns-clause-stops g c =
    record { taken = c.loop-place.octets.items; takes = c.loop-place.invariant.0; holds = λ left follows. stopped_long c.loop-place.octets.items _ c.loop-place.invariant.1 (omega arith) left }
