use Rattle.std.proofs.Common.{◌≡◌, ◌++◌, map, drop, codes, decimal, string_bytes, if◌then◌else◌}
use Rattle.profile.specs.series.RuleTexts.{listed}
use Rattle.cal_rules.proofs.write.push_months.Given as goal

-- what is written so far and those that are left make the whole
abbrev pub invariant-loop-place : goal.invariant-loop-place
invariant-loop-place l =
    string_bytes l.text ++ listed (if l.is_first then codes ";BYMONTH=" else codes ",") (map decimal (drop l.place-index l.place-items))
    ≡ string_bytes l.initial.text ++ listed (codes ";BYMONTH=") (map decimal l.place-items)
