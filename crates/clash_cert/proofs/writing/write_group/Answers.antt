use Rattle.ical_values.proofs.Exits.{any_err}
use Rattle.clash_cert.proofs.PutLemmas.{keeps_all, keeps_more, keeps_through}
use Rattle.clash_cert.proofs.writing.write_group.Goals as goal

pub returns-in_err-write_number-clause-err : goal.returns-in_err-write_number-clause-err
returns-in_err-write_number-clause-err c =
    let old = c.args.out.now.items in
    let first = keeps_all old c.extend_from_slice.new.self.items _ c.in_ok-extend_from_slice.ensures.items in
    let second = keeps_more old c.extend_from_slice.new.self.items c.write.new.out.items _ first c.in_ok-write.ensures.ok.2 in
    any_err c.from_residual-in_err-write_number.result _ (keeps_through old c.write.new.out.items c.write_number.new.out.items second c.in_err-write_number.ensures.err)

pub returns-in_err-write_numbers-clause-err : goal.returns-in_err-write_numbers-clause-err
returns-in_err-write_numbers-clause-err c =
    let old = c.args.out.now.items in
    let first = keeps_all old c.extend_from_slice.new.self.items _ c.in_ok-extend_from_slice.ensures.items in
    let second = keeps_more old c.extend_from_slice.new.self.items c.write.new.out.items _ first c.in_ok-write.ensures.ok.2 in
    let third = keeps_more old c.write.new.out.items c.write_number.new.out.items _ second c.in_ok-write_number.ensures.ok in
    any_err c.from_residual-in_err-write_numbers.result _ (keeps_through old c.write_number.new.out.items c.write_numbers.new.out.items third c.in_err-write_numbers.ensures.err)
