use Rattle.std.proofs.Common.{◌∙◌, sym}
use Rattle.profile.specs.text.Values.{escaped_octet}
use Rattle.ical_values.proofs.AllOrNone.{all_of_them, one_more, taken_back, where_err, where_ok}
use Rattle.ical_values.proofs.text.write_escaped.Goals as goal

pub loop-octet-preserved : goal.loop-octet-preserved
loop-octet-preserved c =
    let added = where_ok c.push_escaped.result _ (sym c.is_err.ensures.value ∙ c.if-is_err.false) c.push_escaped.ensures.ok in
    (c.loop-octet.invariant.0, one_more escaped_octet c.args.octets.now c.loop-octet.octet-index 0 c.args.out.now.items c.loop-octet.out.items _ c.loop-octet-test.true c.loop-octet.invariant.1 added)

pub returns-then-is_err-clause-err : goal.returns-then-is_err-clause-err
returns-then-is_err-clause-err c =
    let kept = where_err c.push_escaped.result _ (sym c.is_err.ensures.value ∙ c.if-is_err.true) c.push_escaped.ensures.err in
    taken_back c.args.out.now.items _ c.loop-octet.out.items _ _ c.len-start.result c.loop-octet.invariant.0 c.loop-octet.invariant.1 kept c.truncate.ensures.items

pub returns-clause-ok : goal.returns-clause-ok
returns-clause-ok c = all_of_them escaped_octet c.args.octets.now c.loop-octet.octet-index c.args.out.now.items _ c.loop-octet-test.false c.loop-octet.invariant.1
