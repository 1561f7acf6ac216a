use Rattle.std.proofs.Common.{◌≡◌, ◌++◌, map, drop, codes, string_bytes, if◌then◌else◌}
use Rattle.profile.specs.series.RuleTexts.{listed, nth_entry, weekday_number_text}
use Rattle.cal_rules.proofs.write.push_weekdays.Given as goal

-- what is written so far and those that are left make the whole
abbrev pub invariant-loop-place : goal.invariant-loop-place
invariant-loop-place l =
    string_bytes l.text ++ listed (if l.is_first then codes ";BYDAY=" else codes ",") (map (λ p. weekday_number_text (nth_entry p)) (drop l.place-index l.place-items))
    ≡ string_bytes l.initial.text ++ listed (codes ";BYDAY=") (map (λ p. weekday_number_text (nth_entry p)) l.place-items)
