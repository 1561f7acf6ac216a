use Rattle.std.proofs.Common.{◌≡◌, ◌∙◌, ap, sym, true, codes}
use Rattle.profile.specs.text.ObjectBlame.CalendarBlame.{too_many}
use Rattle.profile.specs.text.Objects.{has_version}
use Rattle.ical_lines.specs.Limits.{is_bounded}
use Rattle.ical_tree.specs.Own.{own_numbered}
use Rattle.ical_tree.specs.Tree.{children_named, component_begun}
use Rattle.ical_tree.proofs.NumberLemmas.{texts}
use Rattle.ical_tree.proofs.OneLine.{first_past, own_texts}
use Rattle.ical_tree.proofs.read.check_calendar.Goals as goal

pub returns-in-Some-clause-at : goal.returns-in-Some-clause-at
returns-in-Some-clause-at c =
    let object = c.args.calendar.now in
    let version : has_version (texts (own_numbered c.args.own.now)) ≡ true = ap has_version (own_texts c.args.own.now) ∙ c.in_ok-check_version.ensures.version in
    let past = first_past component_begun (is_bounded c.args.limits) (children_named (codes "VEVENT") object) 200 c.in-Some.event.now (sym c.in-Some.ensures.first) in
    rw (c.at.ensures, c.begun.ensures) (too_many past.1.0 past.0 version past.1.1)
