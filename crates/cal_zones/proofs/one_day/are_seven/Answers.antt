use Rattle.std.proofs.lemmas.Grind.{common_steps}
use Rattle.std.proofs.Common.{rules, ◌≡◌, ◌+◌, true, pos, Bool, ◌&&◌, refl, arith}
use borrow.Author.Tests.{tests}
use Rattle.std.specs.List.{list_all, list_any, range_with_len}
use Rattle.std.specs.Ordering.{int_eq}
use Rattle.std.proofs.lemmas.Iterator.{YieldsList-from_slice, YieldsList-from_range}
use Rattle.std.proofs.lemmas.Iterator.Search.{all_from_yields_List}
use Rattle.profile.specs.series.ZoneTexts.{is_of_seven}
use Rattle.cal_zones.proofs.one_day.are_seven.Goals as goal

-- both tests, where the first one passed
both : (p q r s : Bool) → p ≡ true → p ≡ r → q ≡ s → q ≡ r && s
both p q r s t e f = cc

pub returns-then-all : goal.returns-then-all
returns-then-all c =
    let first = c.args.first in
    let numbers = c.args.numbers.now in
    let within : c.all.result ≡ list_all (is_of_seven first) numbers =
    all_from_yields_List (is_of_seven first) c.all.new.self _ c.all.result c.all.ensures.ran (YieldsList-from_slice numbers (cc)) (λ x b q k. search (rules, tests)) in
    let each : c.all-then-all.result ≡ list_all (λ more. list_any (λ x. int_eq x (pos (first + more))) numbers) (range_with_len 0 7) =
    all_from_yields_List (λ more. list_any (λ x. int_eq x (pos (first + more))) numbers) c.all-then-all.new.self _ c.all-then-all.result c.all-then-all.ensures.ran (YieldsList-from_range 0 7 7 refl refl) (λ x b q k. search (rules, tests)) in
    both c.all.result c.all-then-all.result (list_all (is_of_seven first) numbers) (list_all (λ more. list_any (λ x. int_eq x (pos (first + more))) numbers) (range_with_len 0 7)) c.if-all.true within each

pub returns-else-all : goal.returns-else-all
returns-else-all c = grind (arith, common_steps)
