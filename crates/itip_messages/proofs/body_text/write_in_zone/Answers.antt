-- One more line.
use Rattle.std.proofs.Common.{◌++◌, Some, codes, sym, ap, ◌∙◌, subst, refl, append-nil}
use Rattle.std.specs.Iterator.{AlwaysYields}
use Rattle.std.specs.Str.Iter.{lines_steps}
use Rattle.std.specs.Str.Lines.{lines}
use Rattle.std.proofs.lemmas.Iterator.Splits.{YieldsList-from_lines}
use Rattle.ical_lines.proofs.Yields.{some_more, none_more}
use Rattle.profile.specs.rooms.Kept.{renamed}
use Rattle.profile.specs.text.Lines.{folded, written}
use Rattle.itip_messages.specs.BodyText.{name_of, named_lines}
use Rattle.itip_messages.proofs.shared_lemmas.LineLemmas.{kept_at_first, kept_by_more, taken_back}
use Rattle.itip_messages.proofs.shared_lemmas.WrittenLines.{one_written}
use Rattle.itip_messages.proofs.body_text.write_in_zone.Goals as goal

pub loop-line-init : goal.loop-line-init
loop-line-init c = (lines c.args.text.now, subst (λ s. AlwaysYields lines_steps (λ x. x.now) s (lines c.args.text.now)) (sym c.into_iter-line-iterator.ensures.into_iter_gives) (YieldsList-from_lines c.args.text.now c.lines-line-items.ensures.rest).runs, refl, kept_at_first _ _ refl)

pub loop-line-preserved : goal.loop-line-preserved
loop-line-preserved c =
    let i = c.loop-line.invariant in
    let name = name_of (Some c.args.number) in
    let old = codes "DTSTART;TZID=Z" in
    let more = some_more lines_steps (λ x. x.now) c.loop-line.line-iterator c.next.new.self c.in-Some.line i.0 i.1 c.in-Some.ensures.steps in (
      more.0,
      more.2,
      one_written c.loop-line.object c.write_named.new.object (renamed old (codes "DTSTART;TZID=" ++ name) c.in-Some.line.now) (named_lines name i.0) (named_lines name more.0) _
          (c.in_default.ensures.ok ∙ ap (λ start. c.loop-line.object ++ folded (renamed old start c.in-Some.line.now)) (c.as_str.ensures.value ∙ c.in_ok-start.ensures)) (ap (named_lines name) more.1) i.2,
      kept_by_more _ _ _ _ i.3 c.in_default.ensures.ok,
    )

pub returns-in-Err-clause-err : goal.returns-in-Err-clause-err
returns-in-Err-clause-err c = taken_back _ c.loop-line.object _ _ _ c.loop-line.invariant.3 c.in-Err.ensures.err c.len-kept.ensures c.truncate.ensures

pub returns-clause-ok : goal.returns-clause-ok
returns-clause-ok c =
    let i = c.loop-line.invariant in
    let name = name_of (Some c.args.number) in
    let none = none_more lines_steps (λ x. x.now) c.loop-line.line-iterator c.next.new.self i.0 i.1 c.in-None.ensures.steps in
    sym (append-nil c.loop-line.object) ∙ ap (λ l. c.loop-line.object ++ written (named_lines name l)) (sym none) ∙ i.2
