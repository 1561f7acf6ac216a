use Rattle.std.proofs.Common.{◌≡◌, ◌∙◌, ap, sym, subst, true, false, ℕ, List}
use Rattle.std.specs.Prelude.{is_some, option_map, string_bytes}
use Rattle.std.specs.Map.{lookup}
use Rattle.std.specs.Str.{bytes_eq}
use Rattle.indexmap.proofs.CallerLemmas.{insert_entry-new}
use Rattle.cal_zones.proofs.ZoneTables.{no_zone_more, same_name_more, zone_more, none_from}
use Rattle.cal_events.specs.Zones.{IsZoneRead}
use Rattle.cal_events.proofs.zones.add_zone.Goals as goal

pub returns-in_default : goal.returns-in_default
returns-in_default c = λ earlier h.
    no_zone_more IsZoneRead c.args.component.now earlier c.args.by_name.now.entries (sym c.in_ok-name.ensures ∙ ap (option_map string_bytes) c.in_default.is) h

pub returns-then-contains_key : goal.returns-then-contains_key
returns-then-contains_key c = λ earlier h.
    let zones = c.args.by_name.now.entries in
    let there = subst (λ (n : List ℕ). true ≡ is_some (lookup (λ key. bytes_eq n (string_bytes key)) zones)) c.as_str.ensures.value c.if-contains_key.ensures in
    same_name_more IsZoneRead c.args.component.now earlier zones (string_bytes c.in-Some.name) (sym c.in_ok-name.ensures ∙ ap (option_map string_bytes) c.in-Some.is) (sym there) h

pub returns : goal.returns
returns c = λ earlier h.
    let old = c.args.by_name.now.entries in
    let k = c.in-Some.name in
    let absent = subst (λ (n : List ℕ). is_some (lookup (λ key. bytes_eq n (string_bytes key)) old) ≡ false) c.as_str.ensures.value (sym c.if-contains_key.ensures) in
    zone_more IsZoneRead c.args.component.now earlier old c.insert.new.self.entries k c.in_ok-zone.zone (sym c.in_ok-name.ensures ∙ ap (option_map string_bytes) c.in-Some.is)
    c.in_ok-zone.ensures (c.in_ok-insert.ensures.entries ∙ insert_entry-new _ c.args.by_name.now k _ (none_from _ absent)) h
