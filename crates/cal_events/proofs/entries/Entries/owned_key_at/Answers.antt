use Rattle.std.proofs.Common.{◌≡◌, ◌∙◌, ◌<◌, [], length, map, sym, ap, subst, arith, to_z, of_z, w64, rules}
use Rattle.std.proofs.lemmas.List.{get_or-map}
use Rattle.ical_values.specs.Octets.{address_octets}
use Rattle.cal_events.specs.declared.entries.ComponentName.{ComponentName}
use Rattle.cal_events.proofs.entries_lemmas.EntryLemmas.{entry_in, uid_in, key_there}
use Rattle.cal_events.proofs.entries.Entries.owned_key_at.Goals as goal

pub index-requires : goal.index-requires
index-requires c =
    let os = map address_octets c.self.inside.organisers.items in
    let us = c.self.inside.uids in
    let es = c.self.inside.entries.items in
    let k = c.args.place in
    let l = entry_in os us es c.args.self.now c.self.view_is c.self.invariant.0 k c.requires in
    omega (arith, l, c.self.inside.entries.ok.0)

pub index-requires-2 : goal.index-requires-2
index-requires-2 c =
    let os = map address_octets c.self.inside.organisers.items in
    let us = c.self.inside.uids in
    let es = c.self.inside.entries.items in
    let k = c.args.place in
    let l = entry_in os us es c.args.self.now c.self.view_is c.self.invariant.0 k c.requires in
    let in_it : c.index.result.now.organiser < length c.self.inside.organisers.items =
    subst (λ (e : ComponentName). e.organiser < length c.self.inside.organisers.items) (sym c.index.ensures) (c.self.invariant.1 k c.index.result.now l) in
    omega (arith, in_it, c.self.inside.organisers.ok.0)

pub at-requires : goal.at-requires
at-requires c =
    let os = map address_octets c.self.inside.organisers.items in
    let us = c.self.inside.uids in
    let es = c.self.inside.entries.items in
    let k = c.args.place in
    uid_in os us es c.args.self.now c.self.view_is c.self.invariant.0 k c.requires

pub returns : goal.returns
returns c =
    let os = map address_octets c.self.inside.organisers.items in
    let us = c.self.inside.uids in
    let es = c.self.inside.entries.items in
    let k = c.args.place in
    let e = c.index.result.now in
    let l = entry_in os us es c.args.self.now c.self.view_is c.self.invariant.0 k c.requires in
    let in_it : e.organiser < length c.self.inside.organisers.items =
    subst (λ (x : ComponentName). x.organiser < length c.self.inside.organisers.items) (sym c.index.ensures) (c.self.invariant.1 k e l) in
    let slot : to_z w64 (of_z w64 c.args.slot) ≡ c.args.slot = search rules in
    let same = c.in_ok-clone.ensures.cases in
    key_there os us es c.args.self.now c.self.view_is c.self.invariant.0 k c.requires _ _ _ c.args.slot e c.index.ensures
    (same ∙ ap address_octets c.index-2.ensures ∙ sym (get_or-map address_octets c.self.inside.organisers.items e.organiser c.index-2.result.now [] in_it)) (c.in_ok-of.ensures ∙ c.at.ensures) slot
