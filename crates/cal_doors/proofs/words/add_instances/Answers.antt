use Rattle.std.proofs.Common.{◌∙◌, sym, subst}
use Rattle.std.specs.Prelude.{Contains}
use Rattle.ical_lines.specs.Text.{line_text}
use Rattle.ical_tree.specs.Runs.{lines_left}
use Rattle.ical_tree.specs.Tree.{component_lines}
use Rattle.cal_doors.proofs.ToldWords.{among_first, is_first}
use Rattle.cal_doors.proofs.words.add_instances.Goals as goal

pub loop-line-preserved : goal.loop-line-preserved
loop-line-preserved c =
    let now = line_text c.in-Some.line in
    let rest = lines_left c.next.new.self in
    let among = c.loop-line.invariant.0 in (
      λ line h. among line (subst (λ l. Contains l line) (sym c.in-Some.ensures.steps) (among_first now rest line h)),
      λ object zones event are. c.in_ok-add_instance.ensures object (component_lines c.args.component.now) zones event
          (among now (subst (λ l. Contains l now) (sym c.in-Some.ensures.steps) (is_first now rest))) (c.loop-line.invariant.1 object zones event are),
    )

pub returns : goal.returns
returns c = λ object zones event are. c.loop-line.invariant.1 object zones (event (sym c.is_named.ensures ∙ c.if-not-is_named.false)) are
