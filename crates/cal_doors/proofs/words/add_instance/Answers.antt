use Rattle.std.proofs.Common.{◌≡◌, sym, subst, rules, to_z, of_z, w64, FitsSigned, to_z-of_z}
use Rattle.std.specs.Prelude.{true, Contains, codes}
use Rattle.std.proofs.lemmas.List.Elements.{All-push}
use Rattle.ical_lines.specs.Text.{line_text}
use Rattle.profile.specs.events.Properties.{Fixed, is_of}
use Rattle.profile.specs.events.ZonedTimes.{SaysInstant}
use Rattle.cal_doors.specs.Told.{IsInstanceOf, AreAllInstancesOf}
use Rattle.cal_doors.proofs.words.add_instance.Goals as goal

pub returns : goal.returns
returns c = λ object lines zones event among are.
    let same = sym c.text-text.ensures.value in
    let instant = c.in-Some.instant in
    let fits : FitsSigned w64 instant = search rules in
    let kept : to_z w64 (of_z w64 instant) ≡ instant = to_z-of_z fits in
    let says = subst (SaysInstant object (line_text c.args.line) Fixed) (sym kept) (c.in-Some.ensures.says object zones) in
    subst (AreAllInstancesOf object) (sym c.in_ok-push.ensures.items)
    (All-push (IsInstanceOf object) c.args.instances.now.items (record { text = c.text-text.result; instant = to_z w64 (of_z w64 instant) }) are (record {
      lines = lines;
      event = event;
      among = subst (Contains lines) same among;
      is = subst (λ l. is_of (codes "RECURRENCE-ID") l ≡ true) same c.in-Some.ensures.named;
      says = subst (λ l. SaysInstant object l Fixed (to_z w64 (of_z w64 instant))) same says;
    }))
