use Rattle.std.proofs.Common.{None, Some, arith}
use Rattle.std.proofs.lemmas.Result.{err_from_is_err_and}
use Rattle.std.proofs.lemmas.Str.Pattern.{split_parts}
use Rattle.sched_box.proofs.SettingLemmas.{if_refused, if_refused_map}
use Rattle.sched_box.proofs.ZoneLemmas.{no_gap, bad_address, bad_words, no_zone}
use Rattle.sched_box.proofs.settings.read_zone.Goals as goal

pub returns-in_default-clause-none : goal.returns-in_default-clause-none
returns-in_default-clause-none c = if_refused _ c.refused.result (no_gap _ (split_parts 32 c.args.text.now None c.in_default.ensures.cases (omega arith)))

pub returns-in_err-address-clause-none : goal.returns-in_err-address-clause-none
returns-in_err-address-clause-none c =
    let p = err_from_is_err_and c.from_residual.result c.from_residual.ensures.1 in
    let parts = split_parts 32 c.args.text.now (Some (c.in-Some.address, c.in-Some.words)) c.in-Some.ensures.cases (omega arith) in
    rw (p.1, p.2) (if_refused_map _ _ _ (bad_address _ _ _ parts.0 parts.1) c.in_err-address.ensures.none)

pub returns-in-Err-Refused-clause-none : goal.returns-in-Err-Refused-clause-none
returns-in-Err-Refused-clause-none c =
    let parts = split_parts 32 c.args.text.now (Some (c.in-Some.address, c.in-Some.words)) c.in-Some.ensures.cases (omega arith) in
    if_refused _ c.refused-in-Err-Refused.result (bad_words _ _ _ parts.0 parts.1 (no_zone _ _ _ c.in-Err-Refused.field-0-is c.in-Err-Refused.ensures.fault))
