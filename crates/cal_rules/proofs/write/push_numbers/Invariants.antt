use Rattle.std.proofs.Common.{◌≡◌, ◌++◌, map, drop, codes, string_bytes, if◌then◌else◌}
use Rattle.std.specs.Fmt.{signed_decimal}
use Rattle.profile.specs.series.RuleTexts.{listed, nth_number}
use Rattle.cal_rules.proofs.write.push_numbers.Given as goal

-- what is written so far and those that are left make the whole
abbrev pub invariant-loop-place : goal.invariant-loop-place
invariant-loop-place l =
    string_bytes l.text ++ listed (if l.is_first then l.name else codes ",") (map (λ p. signed_decimal (nth_number p)) (drop l.place-index l.place-items))
    ≡ string_bytes l.initial.text ++ listed (l.name) (map (λ p. signed_decimal (nth_number p)) l.place-items)
