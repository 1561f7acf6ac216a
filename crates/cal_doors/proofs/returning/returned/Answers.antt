use Rattle.std.proofs.Common.{map, sym, subst}
use Rattle.std.specs.Prelude.{string_bytes}
use Rattle.profile.specs.doors.Adapting.{IsAdapted}
use Rattle.profile.specs.doors.Returning.{IsReturned}
use Rattle.cal_doors.specs.Adapted.{list_of}
use Rattle.cal_doors.specs.Told.{IsReturnedBy}
use Rattle.cal_doors.proofs.RightGiven.{of_some, when_found}
use Rattle.cal_doors.proofs.ToldRight.{returned_plain, returned_adapted}
use Rattle.cal_doors.proofs.returning.returned.Goals as goal

pub returns-in-Some : goal.returns-in-Some
returns-in-Some c =
    let listed = list_of c.args.listed in
    let original = c.args.original.now in
    let answer = c.args.answer.now in
    let adapted = c.in-Some.adapted in
    let names = map string_bytes adapted.going_on.items in
    let is = of_some _ adapted (λ a. IsAdapted listed original (map string_bytes a.going_on.items) a.octets.items) c.in-Some.is c.in_ok-adapted.ensures in
    let readable = c.as_slice.result.now in
    let here = subst (λ octets. IsAdapted listed original names octets) (sym c.as_slice.ensures.value) is in
    when_found c.returned_by.result (λ given. IsReturnedBy original readable answer given.items) (λ given. IsReturned listed original answer given.items)
    (λ given. returned_adapted listed original readable answer given.items names here) c.returned_by.ensures

pub returns-in-None : goal.returns-in-None
returns-in-None c =
    let listed = list_of c.args.listed in
    let original = c.args.original.now in
    let answer = c.args.answer.now in
    when_found c.returned_by-in-None.result (λ given. IsReturnedBy original original answer given.items) (λ given. IsReturned listed original answer given.items)
    (λ given. returned_plain listed original answer given.items) c.returned_by-in-None.ensures
