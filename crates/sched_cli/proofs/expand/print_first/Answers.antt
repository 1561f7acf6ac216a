use Rattle.std.proofs.Common.{◌≡◌, ◌∙◌, refl, sym, subst, false, true, List, ℕ, Bool, arith, rules}
use Rattle.cal_events.specs.Event.{said_meeting}
use Rattle.sched_cli.specs.Expanding.{PrintsNext, PrintsUpTo}
use Rattle.sched_cli.proofs.Printing.{none_yet, no_line_yet, from_the_first, no_more, one_more, enough}
use Rattle.sched_cli.proofs.expand.print_first.Goals as goal

pub loop-count-init : goal.loop-count-init
loop-count-init g c =
    let meeting = said_meeting c.args.event.now in
    let left = c.instances-instances.result in
    let before = g.W.Output.contents c.args.writer.now in
    let all = c.instances-instances.ensures.left in
    record {
      printed = subst (λ (t : List ℕ). PrintsUpTo meeting left 0 before before t) (sym c.requires)
          (no_line_yet meeting left before (none_yet meeting left (λ b h. ((all b).0 h).0) (λ b is line. (all b).1 (is, from_the_first b line))));
      mark = refl;
    }

pub returns-then-not-branch-clause-prints : goal.returns-then-not-branch-clause-prints
returns-then-not-branch-clause-prints g c =
    let none : c.in_ok-print_next.field-0 ≡ false = search rules in
    let next = subst (λ (more : Bool). PrintsNext more c.loop-count.instances c.print_next.new.instances (g.W.Output.contents c.loop-count.writer) (g.W.Output.contents c.print_next.new.writer) c.loop-count.lines.text.items c.print_next.new.lines.text.items) none c.in_ok-print_next.ensures.prints in
    no_more (said_meeting c.args.event.now) c.loop-count.instances c.loop-count.count c.args.limit (g.W.Output.contents c.args.writer.now) (g.W.Output.contents c.loop-count.writer) (g.W.Output.contents c.print_next.new.writer)
    c.loop-count.lines.text.items c.print_next.new.lines.text.items (omega (arith, c.loop-count-test.true)) next.0 next.1 c.loop-count.invariant.printed

pub loop-count-preserved : goal.loop-count-preserved
loop-count-preserved g c =
    let some : c.in_ok-print_next.field-0 ≡ true = search rules in
    let next = subst (λ (more : Bool). PrintsNext more c.loop-count.instances c.print_next.new.instances (g.W.Output.contents c.loop-count.writer) (g.W.Output.contents c.print_next.new.writer) c.loop-count.lines.text.items c.print_next.new.lines.text.items) some c.in_ok-print_next.ensures.prints in
    record {
      printed = one_more (said_meeting c.args.event.now) c.loop-count.instances c.print_next.new.instances next.0 c.loop-count.count (g.W.Output.contents c.args.writer.now) (g.W.Output.contents c.loop-count.writer) (g.W.Output.contents c.print_next.new.writer)
          c.loop-count.lines.text.items c.print_next.new.lines.text.items next.2.0 next.1 next.2.1 next.2.2 c.loop-count.invariant.printed;
      mark = ◌∙◌ {A = Bool} c.in_ok-print_next.ensures.mark c.loop-count.invariant.mark;
    }

pub returns-clause-prints : goal.returns-clause-prints
returns-clause-prints g c =
    enough (said_meeting c.args.event.now) c.loop-count.instances c.loop-count.count c.args.limit (g.W.Output.contents c.args.writer.now) (g.W.Output.contents c.loop-count.writer) c.loop-count.lines.text.items
    (omega (arith, c.loop-count-test.false, c.loop-count.auto.count-end)) c.loop-count.invariant.printed
