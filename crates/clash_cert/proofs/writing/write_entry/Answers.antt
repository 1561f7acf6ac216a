use Rattle.std.proofs.Common.{◌≡◌, ◌++◌, codes, decimal, subst, sym, refl, ap}
use Rattle.profile.specs.checker.Certificates.{Entry, Span, IsEntryText}
use Rattle.clash_cert.specs.Texts.{entry_said}
use Rattle.ical_values.proofs.Exits.{any_err}
use Rattle.clash_cert.proofs.PutLemmas.{keeps_all, keeps_more, keeps_through, span_put}
use Rattle.clash_cert.proofs.writing.write_entry.Goals as goal

pub returns-in_err-write_number-in-Span-clause-err :
    goal.returns-in_err-write_number-in-Span-clause-err
returns-in_err-write_number-in-Span-clause-err c =
    let old = c.args.out.now.items in
    let first = keeps_all old c.extend_from_slice-in-Span.new.self.items _ c.in_ok-extend_from_slice-in-Span.ensures.items in
    let second = keeps_more old c.extend_from_slice-in-Span.new.self.items c.write.new.out.items _ first c.in_ok-write-in-Span.ensures.ok.2 in
    any_err c.from_residual-in_err-write_number-in-Span.result _ (keeps_through old c.write.new.out.items c.write_number.new.out.items second c.in_err-write_number-in-Span.ensures.err)

pub returns-in_ok-write_number-in-Span-clause-ok :
    goal.returns-in_ok-write_number-in-Span-clause-ok
returns-in_ok-write_number-in-Span-clause-ok c =
    let w = c.in_ok-write-in-Span.ensures.ok in
    let text = codes "SPAN " ++ (w.0 ++ (codes " " ++ decimal c.in-Span.days)) in
    let said : entry_said c.args.entry ≡ Span c.in-Span.from c.in-Span.days = ap entry_said c.in-Span.is in (
      text,
      subst (λ (entry : Entry). IsEntryText entry text) (sym said) (w.0, w.1, refl),
      span_put w.0 (decimal c.in-Span.days) c.args.out.now.items c.extend_from_slice-in-Span.new.self.items c.write.new.out.items c.write_number.new.out.items
          c.in_ok-extend_from_slice-in-Span.ensures.items w.2 c.in_ok-write_number-in-Span.ensures.ok,
    )
