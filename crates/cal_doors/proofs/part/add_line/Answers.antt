use Rattle.std.proofs.Common.{◌≡◌, ◌∙◌, ◌==◌, ap, arith, codes, sym, ℕ, List, Bor, Option, None, Some, is_some, option_map, true, false}
use Rattle.std.proofs.lemmas.Bool.{true≢false}
use Rattle.std.specs.List.{slice_split}
use Rattle.ical_lines.specs.Text.{line_text}
use Rattle.profile.specs.text.Lines.{line_param}
use Rattle.profile.specs.events.Properties.{is_date_time}
use Rattle.cal_rules.proofs.Cuts.{all_left, cut_more, cut_done}
use Rattle.cal_zones.proofs.Reading.{fault_exit}
use Rattle.cal_doors.specs.Runs.{runs_in}
use Rattle.cal_doors.specs.Reading.{DateFault, LineFault}
use Rattle.cal_doors.proofs.PartSays.{none_added, text_added, texts_added, text_fault}
use Rattle.cal_doors.proofs.part.add_line.Goals as goal

not_there : (r : Option (Bor (List ℕ))) (v : Option (List ℕ)) → option_map (λ x. x.now) r ≡ v → is_some r ≡ false → v ≡ None
not_there None v e h = sym e
not_there (Some x) v e h = absurd (true≢false h)

pub loop-text-init : goal.loop-text-init
loop-text-init c =
    let text = c.value.result.now in
    let s = c.split-text-items.ensures in (
      slice_split (λ x. x == 44) text,
      all_left 44 text _ _ (omega arith) s.text s.has_more s.pattern c.into_iter-text-iterator.ensures.into_iter_gives,
      none_added c.args.times.now.from c.args.times.now.to (line_text c.args.line) (slice_split (λ x. x == 44) text) (runs_in c.args.runs.now.items) (ap (slice_split (λ x. x == 44)) (sym c.value.ensures)),
    )

pub loop-text-preserved : goal.loop-text-preserved
loop-text-preserved c =
    let i = c.loop-text.invariant in
    let more = cut_more c.loop-text.text-iterator c.next.new.self c.in-Some.text i.0 i.1 c.in-Some.ensures.steps in
    let adds = c.in_ok-add_date.ensures.adds in (
      more.0,
      more.2,
      text_added c.args.times.now.from c.args.times.now.to (line_text c.args.line) i.0 more.0 c.in-Some.text.now (runs_in c.args.runs.now.items) (runs_in c.loop-text.runs.items) _ i.2 more.1 adds.0 adds.1 adds.2,
    )

pub returns-in_err-add_date-clause-fault : goal.returns-in_err-add_date-clause-fault
returns-in_err-add_date-clause-fault c =
    let i = c.loop-text.invariant in
    let line = line_text c.args.line in
    let text = c.in-Some.text.now in
    let more = cut_more c.loop-text.text-iterator c.next.new.self c.in-Some.text i.0 i.1 c.in-Some.ensures.steps in
    fault_exit _ (LineFault line) (DateFault text) _
    (λ n h. text_fault c.args.times.now.from c.args.times.now.to line i.0 more.0 text (runs_in c.args.runs.now.items) (runs_in c.loop-text.runs.items) n i.2 more.1 h)
    c.from_residual.ensures.1 c.in_err-add_date.ensures.fault

pub returns-clause-adds : goal.returns-clause-adds
returns-clause-adds c =
    let i = c.loop-text.invariant in
    let line = line_text c.args.line in
    let none = cut_done c.loop-text.text-iterator c.next.new.self i.0 i.1 c.in-None.ensures.steps in
    let added = texts_added c.args.times.now.from c.args.times.now.to line i.0 (runs_in c.args.runs.now.items) (runs_in c.loop-text.runs.items) i.2 none in
    let plain : is_date_time line ≡ true = sym c.is_date_time.ensures ∙ c.if-not-is_date_time.false in
    let unzoned : line_param (codes "TZID") line ≡ None = not_there c.param.result (line_param (codes "TZID") line) c.param.ensures (sym c.is_some.ensures ∙ c.if-is_some.false) in
    (added.0, (plain, unzoned, added.1), added.2)
