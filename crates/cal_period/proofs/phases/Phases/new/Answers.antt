use Rattle.std.proofs.Common.{◌≡◌, sym, subst, to_z, of_z, w32, FitsSigned, rules, to_z-of_z}
use Rattle.profile.specs.text.Values.{IsOffset}
use Rattle.profile.specs.series.Rules.{IsAllowed, text_in}
use Rattle.cal_rules.proofs.FormParts.{in_range}
use Rattle.cal_period.proofs.phases.Phases.new.Goals as goal

pub invariant_of-result : goal.invariant_of-result
invariant_of-result c =
    let ranges = in_range (text_in c.args.rule.now) (subst IsAllowed c.text.ensures c.is_allowed.ensures).0 in
    let fits : FitsSigned w32 c.args.offsets.0 = search rules in
    let fit : FitsSigned w32 c.args.offsets.1 = search rules in
    let least : to_z w32 (of_z w32 c.args.offsets.0) ≡ c.args.offsets.0 = to_z-of_z fits in
    let greatest : to_z w32 (of_z w32 c.args.offsets.1) ≡ c.args.offsets.1 = to_z-of_z fit in
    record {
      clock = (c.requires.second, subst IsOffset (sym least) c.requires.offsets.0, subst IsOffset (sym greatest) c.requires.offsets.1);
      form = (ranges.some, ranges.week);
    }
