use Rattle.std.proofs.Common.{◌∙◌, ◌++◌, ◌∷◌, [], ℕ, List, map, get_or, ◌<◌, sym, ap, subst}
use Rattle.std.specs.Prelude.{All}
use Rattle.std.proofs.lemmas.List.{length-map}
use Rattle.ical_values.specs.Octets.{address_octets}
use Rattle.cal_events.specs.Entries.{Name, names_of}
use Rattle.cal_events.specs.Names.{name_said}
use Rattle.cal_events.specs.Component.{component_of}
use Rattle.cal_events.specs.declared.entries.ComponentName.{ComponentName}
use Rattle.cal_events.proofs.entries_lemmas.EntryLemmas.{Within, pushed}
use Rattle.cal_events.proofs.entries.Entries.push.Goals as goal

pub returns-in-Ok : goal.returns-in-Ok
returns-in-Ok c =
    let os = map address_octets c.self.inside.organisers.items in
    let es = c.self.inside.entries.items in
    let us = c.self.inside.uids in
    let event = component_of c.args.event.now in
    let more = c.in_ok-organiser.ensures.keeps in
    let e : ComponentName = record { organiser = c.in_ok-organiser.organiser; recurrence = c.args.event.now.recurrence } in
    let within : Within os es = subst (λ (n : ℕ). All (λ (x : ComponentName). x.organiser < n) es) (sym (length-map c.self.inside.organisers.items address_octets)) c.self.invariant.1 in
    ap (λ (l : List (List ℕ)). names_of l c.push-2.new.self c.push.new.self.items) more.1
    ∙ ap (λ (l : List (List ℕ)). names_of (os ++ more.0) l c.push.new.self.items) (c.in-Ok.ensures.added ∙ ap (λ (u : List ℕ). us ++ u ∷ []) c.as_str.ensures)
    ∙ ap (names_of (os ++ more.0) (us ++ event.uid ∷ [])) c.in_ok-push.ensures.items
    ∙ pushed os more.0 us es _ event.uid e within c.self.invariant.0 (ap (λ (l : List (List ℕ)). get_or l e.organiser []) (sym more.1) ∙ c.in_ok-organiser.ensures.place.1)
    ∙ ap (λ (l : List Name). l ++ name_said event ∷ []) c.self.view_is
