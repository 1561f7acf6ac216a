use Rattle.std.proofs.Common.{◌≡◌, ◌∙◌, ◌++◌, List, ℕ, map, option_map, sym, ap, subst}
use Rattle.cal_zones.specs.Kinds.{zone_of}
use Rattle.profile.specs.checker.Agendas.{AreInSpan}
use Rattle.profile.specs.events.Confirmed.{IsOneOf}
use Rattle.cal_events.specs.Calendar.{instance_of}
use Rattle.cal_events.specs.declared.instance.Instance.{Instance}
use Rattle.cal_events.specs.declared.sweep.Span.{Span}
use Rattle.cal_agenda.specs.Gaps.{ends_of}
use Rattle.cal_agenda.specs.Printing.{LinesOf, IsFreeLine}
use Rattle.sched_cli.proofs.agenda.free_text.Goals as goal

pub returns-clause-text : goal.returns-clause-text
returns-clause-text c =
    let all = c.in_ok-calendar.calendar in
    let from = c.args.span.start in
    let until = c.args.span.end in
    let zone = option_map zone_of c.args.zone in
    let spans = c.in_ok-spans.spans.items in
    let (text, lines, grown) = c.in_ok-write_spans.ensures.ok in
    let whole : text ≡ c.write_spans.new.out.items = sym (grown ∙ ap (λ (l : List ℕ). l ++ text) c.new-text.ensures.items) in
    record {
      calendar = all;
      spelled = c.in_ok-calendar.ensures.read.spelled;
      spans = map ends_of spans;
      are = c.in_ok-spans.ensures all (subst (λ (l : List Instance). AreInSpan (IsOneOf all) from until (map instance_of l)) (sym c.deref.ensures.value) c.in_ok-instances.ensures);
      lines = subst (LinesOf (IsFreeLine zone) (map ends_of spans)) whole (subst (λ (l : List Span). LinesOf (IsFreeLine zone) (map ends_of l) text) c.deref-2.ensures.value lines);
      whole = c.is_free.ensures all from until (subst (λ (l : List Instance). AreInSpan (IsOneOf all) from until (map instance_of l)) (sym c.deref-3.ensures.value) c.in_ok-instances.ensures);
    }

pub returns-clause-of_room : goal.returns-clause-of_room
returns-clause-of_room c =
    let read = c.in_ok-calendar.ensures.read in
    record { confirmed = c.in_ok-calendar.calendar; spelled = read.spelled; of_room = read.of_room; counted = read.counted }
