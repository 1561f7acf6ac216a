use Rattle.std.proofs.Common.{◌∙◌, refl, Bool, List, ℤ, codes, map, sym, ap, subst}
use Rattle.std.specs.Prelude.{Option, option_map}
use Rattle.ical_lines.specs.declared.fault.Fault.{Fault}
use Rattle.ical_tree.specs.declared.properties.Properties.{Properties}
use Rattle.cal_events.specs.declared.method.Method.{Method}
use Rattle.cal_events.specs.declared.zones.ZonesOfObject.{ZonesOfObject}
use Rattle.std.proofs.lemmas.Grind.{merely}
use Rattle.ical_values.specs.Octets.{address_octets, text_octets}
use Rattle.profile.specs.events.EventComponents.{EventComponent as SaidComponent, SaysEventComponent, instants_of}
use Rattle.profile.specs.events.EventBlame.{EventBlame}
use Rattle.cal_events.specs.Blame.{zones_of}
use Rattle.cal_events.proofs.shared_lemmas.LineBlame.{additions_blamed, recurrence_blamed, recurring_blamed, rule_blamed}
use Rattle.cal_events.specs.Component.{attendee_of}
use Rattle.ical_lines.specs.Fault.{RefusesBy, RefusesWhere}
use Rattle.profile.specs.events.EventComponents.{EventComponentFault, bars_recurrence, may_lack_start, names_by_fixed, in_times, in_rule, in_occurrences}
use Rattle.profile.specs.events.Occurrences.{OccurrenceFault, entries_named, EntriesFault, bad_additions, bad_exceptions, recurs, recurs_as_instance}
use Rattle.profile.specs.events.EventRules.{EventRuleFault}
use Rattle.ical_tree.specs.Own.{own_lines, numbered_own}
use Rattle.cal_events.specs.Component.{method_read, times_of, time_of, written_of}
use Rattle.cal_events.specs.declared.time.Time.{Time}
use Rattle.cal_events.specs.Zones.{object_of}
use Rattle.cal_events.proofs.shared_lemmas.OneInstance.{times_sound}
use Rattle.cal_events.proofs.shared_lemmas.Placing.{said_as_written}
use Rattle.cal_events.proofs.shared_lemmas.ZonedLemmas.{weaker_fault}
use Rattle.cal_events.proofs.occurrences_lemmas.RecurrenceLemmas.{fixed_as_said}
use Rattle.ical_values.proofs.Exits.{err_exit}
use Rattle.cal_events.proofs.component.EventComponent.read.Goals as goal

pub returns-in_err-uid-clause-fault : goal.returns-in_err-uid-clause-fault
returns-in_err-uid-clause-fault c =
    let m = method_read c.args.method in
    let object = object_of c.args.zones.now in
    err_exit _ (RefusesBy (EventComponentFault object m (own_lines c.args.properties.now))) _ c.from_residual.ensures.1 (c.in_err-uid.ensures.fault object)

pub returns-in_err-organiser-clause-fault : goal.returns-in_err-organiser-clause-fault
returns-in_err-organiser-clause-fault c =
    let object = object_of c.args.zones.now in
    err_exit _ (RefusesBy (EventComponentFault object (method_read c.args.method) (own_lines c.args.properties.now))) _ c.from_residual-in_err-organiser.ensures.1
    (c.in_err-organiser.ensures.fault object)

pub returns-in_err-cancelled-clause-fault : goal.returns-in_err-cancelled-clause-fault
returns-in_err-cancelled-clause-fault c =
    let object = object_of c.args.zones.now in
    err_exit _ (RefusesBy (EventComponentFault object (method_read c.args.method) (own_lines c.args.properties.now))) _ c.from_residual-in_err-cancelled.ensures.1
    (c.in_err-cancelled.ensures.fault object)

pub returns-in_err-said_recurrence-clause-fault : goal.returns-in_err-said_recurrence-clause-fault
returns-in_err-said_recurrence-clause-fault c =
    let object = object_of c.args.zones.now in
    err_exit _ (RefusesBy (EventComponentFault object (method_read c.args.method) (own_lines c.args.properties.now))) _ c.from_residual-in_err-said_recurrence.ensures.1
    c.in_err-said_recurrence.ensures.fault

pub returns-in_err-said_additions-clause-fault : goal.returns-in_err-said_additions-clause-fault
returns-in_err-said_additions-clause-fault c =
    let object = object_of c.args.zones.now in
    let m = method_read c.args.method in
    let lines = own_lines c.args.properties.now in
    err_exit _ (RefusesBy (EventComponentFault object m lines)) _ c.from_residual-in_err-said_additions.ensures.1
    (weaker_fault _ (EntriesFault object (codes "RDATE") (entries_named (codes "RDATE") lines)) (EventComponentFault object m lines) (λ n h. in_occurrences (bad_additions h))
    c.in_err-said_additions.ensures.fault)

pub returns-in_err-said_exceptions-clause-fault : goal.returns-in_err-said_exceptions-clause-fault
returns-in_err-said_exceptions-clause-fault c =
    let object = object_of c.args.zones.now in
    let m = method_read c.args.method in
    let lines = own_lines c.args.properties.now in
    err_exit _ (RefusesBy (EventComponentFault object m lines)) _ c.from_residual-in_err-said_exceptions.ensures.1
    (weaker_fault _ (EntriesFault object (codes "EXDATE") (entries_named (codes "EXDATE") lines)) (EventComponentFault object m lines) (λ n h. in_occurrences (bad_exceptions h))
    c.in_err-said_exceptions.ensures.fault)

pub returns-in_err-refuse_unfixed-clause-fault : goal.returns-in_err-refuse_unfixed-clause-fault
returns-in_err-refuse_unfixed-clause-fault c =
    let object = object_of c.args.zones.now in
    let m = method_read c.args.method in
    let lines = own_lines c.args.properties.now in
    err_exit _ (RefusesBy (EventComponentFault object m lines)) _ c.from_residual-in_err-refuse_unfixed.ensures.1
    (in_occurrences
    (subst (λ (b : Bool). OccurrenceFault (bars_recurrence m) b object lines c.in_err-refuse_unfixed.field-0.0.number) c.names_by_fixed.ensures
    (c.in_err-refuse_unfixed.ensures.fault object lines c.in_ok-said_recurrence.ensures.said (bars_recurrence m))))

pub returns-in_err-judge_recurrence-clause-fault : goal.returns-in_err-judge_recurrence-clause-fault
returns-in_err-judge_recurrence-clause-fault c =
    let object = object_of c.args.zones.now in
    let m = method_read c.args.method in
    let lines = own_lines c.args.properties.now in
    err_exit _ (RefusesBy (EventComponentFault object m lines)) _ c.from_residual-in_err-judge_recurrence.ensures.1
    (in_occurrences (c.in_err-judge_recurrence.ensures.fault object lines c.in_ok-said_recurrence.ensures.said (bars_recurrence m) (names_by_fixed m)))

pub returns-in_err-judge-clause-fault : goal.returns-in_err-judge-clause-fault
returns-in_err-judge-clause-fault c =
    let object = object_of c.args.zones.now in
    let m = method_read c.args.method in
    let lines = own_lines c.args.properties.now in
    err_exit _ (RefusesBy (EventComponentFault object m lines)) _ c.from_residual-in_err-judge.ensures.1
    (in_occurrences (c.in_err-judge.ensures.fault object lines c.in_ok-said_additions.ensures.listed (bars_recurrence m) (names_by_fixed m)))

pub returns-in_err-refuse_recurring_instance-clause-fault : goal.returns-in_err-refuse_recurring_instance-clause-fault
returns-in_err-refuse_recurring_instance-clause-fault c =
    let m = method_read c.args.method in
    let lines = own_lines c.args.properties.now in
    let P = EventComponentFault (object_of c.args.zones.now) m lines in
    err_exit _ (RefusesBy P) _ c.from_residual-in_err-refuse_recurring_instance.ensures.1
    (subst P (sym c.in_err-refuse_recurring_instance.ensures.number)
    (in_occurrences (recurs (ap (λ b. recurs_as_instance b lines) (sym c.bars_recurrence.ensures) ∙ c.in_err-refuse_recurring_instance.ensures.recurs))))

pub returns-in_err-said-clause-fault : goal.returns-in_err-said-clause-fault
returns-in_err-said-clause-fault c =
    let object = object_of c.args.zones.now in
    let m = method_read c.args.method in
    let lines = own_lines c.args.properties.now in
    err_exit _ (RefusesBy (EventComponentFault object m lines)) _ c.from_residual-in_err-said.ensures.1
    c.in_err-said.ensures.fault

pub returns-in_err-said_rule-clause-fault : goal.returns-in_err-said_rule-clause-fault
returns-in_err-said_rule-clause-fault c =
    let object = object_of c.args.zones.now in
    let m = method_read c.args.method in
    let lines = own_lines c.args.properties.now in
    err_exit _ (RefusesBy (EventComponentFault object m lines)) _ c.from_residual-in_err-said_rule.ensures.1
    (c.in_err-said_rule.ensures.fault object)

pub returns-in_err-attendees-clause-fault : goal.returns-in_err-attendees-clause-fault
returns-in_err-attendees-clause-fault c =
    let object = object_of c.args.zones.now in
    let m = method_read c.args.method in
    err_exit _ (RefusesBy (EventComponentFault object m (own_lines c.args.properties.now))) _ c.from_residual-in_err-attendees.ensures.1 (c.in_err-attendees.ensures.fault object m)

pub returns-in_err-times-clause-fault : goal.returns-in_err-times-clause-fault
returns-in_err-times-clause-fault c =
    let object = object_of c.args.zones.now in
    let m = method_read c.args.method in
    let lines = own_lines c.args.properties.now in
    err_exit _ (RefusesBy (EventComponentFault object m lines)) _ c.from_residual-in_err-times.ensures.1
    (in_times (c.in_err-times.ensures.fault (may_lack_start m) object lines c.in_ok-said.ensures.said))

pub returns-in_err-rule-clause-fault : goal.returns-in_err-rule-clause-fault
returns-in_err-rule-clause-fault c =
    let object = object_of c.args.zones.now in
    let m = method_read c.args.method in
    let lines = own_lines c.args.properties.now in
    err_exit _ (RefusesBy (EventComponentFault object m lines)) _ c.from_residual-in_err-rule.ensures.1
    (weaker_fault _ (EventRuleFault object lines) (EventComponentFault object m lines) (λ n h. in_rule h)
    (c.in_err-rule.ensures.fault (may_lack_start m) object lines c.in_ok-said_rule.ensures.said c.has.ensures
    (c.in_ok-times.ensures.says (may_lack_start m) object lines c.in_ok-said.ensures.said)))

-- refused at a line of the VEVENT
abbrev IsBlamed : Option Method → ZonesOfObject → Properties → Fault → Type 0
IsBlamed method zones properties = RefusesWhere (EventBlame (method_read method) (zones_of zones) (numbered_own properties))

pub returns-in_err-uid-clause-at : goal.returns-in_err-uid-clause-at
returns-in_err-uid-clause-at c =
    err_exit _ (IsBlamed c.args.method c.args.zones.now c.args.properties.now) _ c.from_residual.ensures.1
    (c.in_err-uid.ensures.at (zones_of c.args.zones.now))

pub returns-in_err-organiser-clause-at : goal.returns-in_err-organiser-clause-at
returns-in_err-organiser-clause-at c =
    err_exit _ (IsBlamed c.args.method c.args.zones.now c.args.properties.now) _ c.from_residual-in_err-organiser.ensures.1
    (c.in_err-organiser.ensures.at (zones_of c.args.zones.now))

pub returns-in_err-said_rule-clause-at : goal.returns-in_err-said_rule-clause-at
returns-in_err-said_rule-clause-at c =
    err_exit _ (IsBlamed c.args.method c.args.zones.now c.args.properties.now) _ c.from_residual-in_err-said_rule.ensures.1
    (c.in_err-said_rule.ensures.at (zones_of c.args.zones.now))

pub returns-in_err-said_additions-clause-at : goal.returns-in_err-said_additions-clause-at
returns-in_err-said_additions-clause-at c =
    err_exit _ (IsBlamed c.args.method c.args.zones.now c.args.properties.now) _ c.from_residual-in_err-said_additions.ensures.1
    (c.in_err-said_additions.ensures.at (method_read c.args.method))

pub returns-in_err-said_exceptions-clause-at : goal.returns-in_err-said_exceptions-clause-at
returns-in_err-said_exceptions-clause-at c =
    err_exit _ (IsBlamed c.args.method c.args.zones.now c.args.properties.now) _ c.from_residual-in_err-said_exceptions.ensures.1
    (c.in_err-said_exceptions.ensures.at (method_read c.args.method))

pub returns-in_err-attendees-clause-at : goal.returns-in_err-attendees-clause-at
returns-in_err-attendees-clause-at c =
    err_exit _ (IsBlamed c.args.method c.args.zones.now c.args.properties.now) _ c.from_residual-in_err-attendees.ensures.1
    (c.in_err-attendees.ensures.at (method_read c.args.method) (zones_of c.args.zones.now))

pub returns-in_err-refuse_unfixed-clause-at : goal.returns-in_err-refuse_unfixed-clause-at
returns-in_err-refuse_unfixed-clause-at c =
    err_exit _ (IsBlamed c.args.method c.args.zones.now c.args.properties.now) _ c.from_residual-in_err-refuse_unfixed.ensures.1
    (recurrence_blamed _ _ _ 57 c.in_ok-said_recurrence.said_recurrence c.in_err-refuse_unfixed.field-0.0 refl c.in_ok-said_recurrence.ensures.among c.in_err-refuse_unfixed.ensures.at)

pub returns-in_err-judge_recurrence-clause-at : goal.returns-in_err-judge_recurrence-clause-at
returns-in_err-judge_recurrence-clause-at c =
    err_exit _ (IsBlamed c.args.method c.args.zones.now c.args.properties.now) _ c.from_residual-in_err-judge_recurrence.ensures.1
    (recurrence_blamed _ _ _ 52 c.in_ok-said_recurrence.said_recurrence c.in_err-judge_recurrence.field-0.0 refl c.in_ok-said_recurrence.ensures.among c.in_err-judge_recurrence.ensures.at)

pub returns-in_err-judge-clause-at : goal.returns-in_err-judge-clause-at
returns-in_err-judge-clause-at c =
    err_exit _ (IsBlamed c.args.method c.args.zones.now c.args.properties.now) _ c.from_residual-in_err-judge.ensures.1
    (additions_blamed _ _ _ c.in_ok-said_additions.said_additions.outside c.in_err-judge.field-0.0 c.in_ok-said_additions.ensures.among c.in_err-judge.ensures.at)

pub returns-in_err-refuse_recurring_instance-clause-at : goal.returns-in_err-refuse_recurring_instance-clause-at
returns-in_err-refuse_recurring_instance-clause-at c =
    err_exit _ (IsBlamed c.args.method c.args.zones.now c.args.properties.now) _ c.from_residual-in_err-refuse_recurring_instance.ensures.1
    (recurring_blamed _ _ _ c.in_err-refuse_recurring_instance.field-0.0 c.in_err-refuse_recurring_instance.ensures.number c.in_err-refuse_recurring_instance.ensures.at)

pub returns-in_err-rule-clause-at : goal.returns-in_err-rule-clause-at
returns-in_err-rule-clause-at c =
    err_exit _ (IsBlamed c.args.method c.args.zones.now c.args.properties.now) _ c.from_residual-in_err-rule.ensures.1
    (rule_blamed _ _ _ c.in_ok-said_rule.said_rule c.in_ok-said_rule.ensures.line c.in_err-rule.field-0.0 c.in_err-rule.ensures.at)

-- the instants of times as they were read
abbrev instants_in : List Time → List ℤ
instants_in times = instants_of (map time_of times)

pub returns-clause-says : goal.returns-clause-says
returns-clause-says c = record {
  uid = c.in_ok-uid.ensures.reads;
  organiser = c.in_ok-organiser.ensures.reads;
  stamp = c.in_ok-stamp.ensures.reads;
  sequence = c.in_ok-sequence.ensures.reads;
  status = c.in_ok-cancelled.ensures.reads;
  times =
      let object = object_of c.args.zones.now in
      let lines = own_lines c.args.properties.now in
      let may = may_lack_start (method_read c.args.method) in
      c.in_ok-times.ensures.says may object lines c.in_ok-said.ensures.said;
  rule = c.in_ok-rule.ensures.says (own_lines c.args.properties.now) c.in_ok-said_rule.ensures.said c.has.ensures;
  occurrences =
      let object = object_of c.args.zones.now in
      let lines = own_lines c.args.properties.now in
      let m = method_read c.args.method in
      let added = c.in_ok-judge.ensures.says object lines c.in_ok-said_additions.ensures.listed in
      record {
        is = c.in_ok-judge_recurrence.ensures.says object lines c.in_ok-said_recurrence.ensures.said;
        fixed_recurrence = fixed_as_said (names_by_fixed m) _ _ _ c.in_ok-judge_recurrence.ensures.is c.names_by_fixed.ensures c.in_ok-refuse_unfixed.ensures.is;
        adds = added.0;
        inside = added.1;
        takes = c.in_ok-said_exceptions.ensures.listed.lists;
        alone = ap (λ b. recurs_as_instance b lines) (sym c.bars_recurrence.ensures) ∙ c.in_ok-refuse_recurring_instance.ensures.alone;
      };
  instants = record { slot = c.instant.ensures; added = c.in_ok-additions.ensures ∙ ap instants_in c.deref.ensures.value; taken = c.in_ok-exceptions.ensures ∙ ap instants_in c.deref-2.ensures.value };
  summary = c.in_ok-summary.ensures;
  attendees = c.in_ok-attendees.ensures.reads;
}

pub invariant_of-result : goal.invariant_of-result
invariant_of-result c =
    let object = object_of c.args.zones.now in
    let lines = own_lines c.args.properties.now in
    let m = method_read c.args.method in
    let may = may_lack_start m in
    let says = c.in_ok-times.ensures.says may object lines c.in_ok-said.ensures.said in
    let t = times_sound {may = may} object lines (times_of c.in_ok-times.times) says in
    let added = c.in_ok-judge.ensures.says object lines c.in_ok-said_additions.ensures.listed in
    let event : SaidComponent = record {
      uid = text_octets c.in_ok-uid.uid;
      organiser = option_map address_octets c.in_ok-organiser.organiser;
      stamp = c.in_ok-stamp.stamp;
      sequence = c.in_ok-sequence.sequence;
      cancelled = c.in_ok-cancelled.cancelled;
      recurrence = c.instant.result;
      times = times_of c.in_ok-times.times;
      rule = c.in_ok-rule.rule;
      additions = c.in_ok-additions.additions.items;
      exceptions = c.in_ok-exceptions.exceptions.items;
      written = written_of (record { recurrence = c.in_ok-judge_recurrence.field-0; additions = c.in_ok-judge.field-0; exceptions = c.in_ok-said_exceptions.said_exceptions.times });
      summary = text_octets c.in_ok-summary.summary;
      attendees = map attendee_of c.in_ok-attendees.attendees.items;
    } in
    let said : SaysEventComponent object (method_read c.args.method) lines event = record {
      uid = c.in_ok-uid.ensures.reads;
      organiser = c.in_ok-organiser.ensures.reads;
      stamp = c.in_ok-stamp.ensures.reads;
      sequence = c.in_ok-sequence.ensures.reads;
      status = c.in_ok-cancelled.ensures.reads;
      times = says;
      rule = c.in_ok-rule.ensures.says lines c.in_ok-said_rule.ensures.said c.has.ensures;
      occurrences = record {
        is = c.in_ok-judge_recurrence.ensures.says object lines c.in_ok-said_recurrence.ensures.said;
        fixed_recurrence = fixed_as_said (names_by_fixed m) _ _ _ c.in_ok-judge_recurrence.ensures.is c.names_by_fixed.ensures c.in_ok-refuse_unfixed.ensures.is;
        adds = added.0;
        inside = added.1;
        takes = c.in_ok-said_exceptions.ensures.listed.lists;
        alone = ap (λ b. recurs_as_instance b lines) (sym c.bars_recurrence.ensures) ∙ c.in_ok-refuse_recurring_instance.ensures.alone;
      };
      instants = record { slot = c.instant.ensures; added = c.in_ok-additions.ensures ∙ ap instants_in c.deref.ensures.value; taken = c.in_ok-exceptions.ensures ∙ ap instants_in c.deref-2.ensures.value };
      summary = c.in_ok-summary.ensures;
      attendees = c.in_ok-attendees.ensures.reads;
    } in
    record {
      steady = t.0;
      named = t.1;
      said = λ _. merely (said_as_written object lines event said);
    }
