use Rattle.std.proofs.Common.{◌∙◌, arith, rules, subst, sym}
use Rattle.std.proofs.lemmas.Result.{err_from_is_err_and}
use Rattle.sched_box.specs.Settings.{Reads, ReadsNone, SaysNone}
use Rattle.sched_box.proofs.SettingLemmas.{if_refused, if_refused_map, no_host, no_room, not_utf8, says_none_of, is_read}
use Rattle.sched_box.proofs.ZoneLemmas.{of_rooms, stray}
use Rattle.ical_values.specs.Refused.{IfRefused}
use Rattle.sched_box.proofs.config.read_settings.Goals.{else-is_empty-via-then-is_empty+else-is_empty-2, else-is_empty-via-else-is_empty}
use Rattle.sched_box.proofs.config.read_settings.Goals as goal

pub returns-in_default-clause-none : goal.returns-in_default-clause-none
returns-in_default-clause-none c = if_refused (ReadsNone c.args.bytes.now) _ (not_utf8 _ c.in_default.ensures.cases.0)

pub returns-in_err-settings-clause-none : goal.returns-in_err-settings-clause-none
returns-in_err-settings-clause-none c =
    let p = err_from_is_err_and c.from_residual.result c.from_residual.ensures.1 in
    let same = c.in-Ok.ensures.cases.0 in
    rw (p.1, p.2) (if_refused_map _ (ReadsNone c.args.bytes.now) _ (says_none_of c.args.bytes.now) (subst (λ o. IfRefused (SaysNone o) c.in_err-settings.field-0.0) same c.in_err-settings.ensures.none))

pub returns-then-is_empty-2-clause-none : goal.returns-then-is_empty-2-clause-none
returns-then-is_empty-2-clause-none c =
    let same = c.in-Ok.ensures.cases.0 in
    if_refused (ReadsNone c.args.bytes.now) _ (no_host _ _ (subst (Reads c.in_ok-settings.settings) same c.in_ok-settings.ensures.reads) (search rules) (search rules))

pub returns-then-not-are_zones_of_rooms-clause-none : goal.returns-then-not-are_zones_of_rooms-clause-none
returns-then-not-are_zones_of_rooms-clause-none c =
    let same = c.in-Ok.ensures.cases.0 in
    let lost = stray c.in_ok-settings.settings.rooms.items c.in_ok-settings.settings.zones.items (sym c.are_zones_of_rooms.ensures ∙ c.if-not-are_zones_of_rooms.true) in
    if_refused (ReadsNone c.args.bytes.now) _ (no_room _ _ (subst (Reads c.in_ok-settings.settings) same c.in_ok-settings.ensures.reads) lost.address lost.zoned lost.lacks)

pub returns-clause-reads : goal.returns-clause-reads
returns-clause-reads c =
    let same = c.in-Ok.ensures.cases.0 in
    let reads = subst (Reads c.in_ok-settings.settings) same c.in_ok-settings.ensures.reads in
    is_read _ _ reads c.in-Ok.ensures.cases.1 (omega arith)
    (elim c.else-is_empty.branch [
      | else-is_empty-via-then-is_empty+else-is_empty-2 w ↦ (search rules)
      | else-is_empty-via-else-is_empty w ↦ (search rules)
    ]) (of_rooms c.in_ok-settings.settings.rooms.items c.in_ok-settings.settings.zones.items (sym c.are_zones_of_rooms.ensures ∙ c.if-not-are_zones_of_rooms.false))
