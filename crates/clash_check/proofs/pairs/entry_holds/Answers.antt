use Rattle.std.proofs.Common.{◌≡◌, ◌∙◌, ◌==◌, ℕ, ℤ, [], ◌∷◌, sym, subst, rules, to_z, of_z, to_z-of_z, w64, FitsSigned}
use Rattle.std.specs.Prelude.{◌↔◌, IfOk, IsTrue, MatchBool}
use Rattle.std.proofs.lemmas.Result.{IfOk-weaker}
use Rattle.profile.specs.checker.Certificates.{IsSeriesAt, EntryHolds, EntryFails, Span, Res}
use Rattle.profile.specs.events.Events.{Event}
use Rattle.profile.specs.events.Residues.{ResiduesHold}
use Rattle.profile.specs.events.Spans.{SpanHolds, SpanFails}
use Rattle.clash_cert.specs.Texts.{entry_said}
use Rattle.clash_cert.specs.declared.certificate.Entry.{Entry}
use Rattle.clash_check.specs.Counted.{IsEntryCount}
use Rattle.clash_check.specs.Entries.{IsEntryDrawn}
use Rattle.clash_check.proofs.EntryLemmas.{end_judged, end_drawn, span_entry}
use Rattle.clash_check.proofs.ResidueLemmas.{residues_judged, residues_drawn}
use Rattle.clash_check.proofs.pairs.entry_holds.Goals as goal

pub returns-in-End-clause-holds : goal.returns-in-End-clause-holds
returns-in-End-clause-holds g c =
    subst (λ (e : Entry). MatchBool c.are_clear.result (EntryHolds (g.D.Drawn.calendar c.args.drawn.now) c.args.i c.args.j (entry_said e)) (EntryFails (g.D.Drawn.calendar c.args.drawn.now) c.args.i c.args.j (entry_said e))) (sym c.in-End.is)
    (end_judged (g.D.Drawn.calendar c.args.drawn.now) c.is_drawable.ensures c.args.i c.args.j c.requires.pair c.are_clear.result c.are_clear.ensures.clear)

pub returns-in-End-clause-count : goal.returns-in-End-clause-count
returns-in-End-clause-count g c = λ n k.
    subst (λ (e : Entry). IsEntryDrawn (g.D.Drawn.calendar c.args.drawn.now) c.args.i c.args.j (entry_said e) c.are_clear.result (g.D.Drawn.count c.args.drawn.now) (g.D.Drawn.count c.are_clear.new.drawn) n) (sym c.in-End.is)
    (end_drawn (g.D.Drawn.calendar c.args.drawn.now) c.args.i c.args.j c.are_clear.result _ _ c.are_clear.ensures.count n (subst (λ (e : Entry). IsEntryCount (g.D.Drawn.calendar c.args.drawn.now) c.args.i c.args.j (entry_said e) n) c.in-End.is k))

pub returns-in-Span-clause-holds : goal.returns-in-Span-clause-holds
returns-in-Span-clause-holds g c =
    let fits : FitsSigned w64 c.instant.result = search rules in
    let same : to_z w64 (of_z w64 c.instant.result) ≡ c.in-Span.from = to_z-of_z fits ∙ c.instant.ensures.value in
    subst (λ (e : Entry). MatchBool c.span_holds.result (EntryHolds (g.D.Drawn.calendar c.args.drawn.now) c.args.i c.args.j (entry_said e)) (EntryFails (g.D.Drawn.calendar c.args.drawn.now) c.args.i c.args.j (entry_said e))) (sym c.in-Span.is)
    (span_entry (g.D.Drawn.calendar c.args.drawn.now) c.args.i c.args.j c.requires.pair c.in-Span.from c.in-Span.days c.span_holds.result
    (λ a b here there. subst (λ (t : ℤ). MatchBool c.span_holds.result (SpanHolds (a ∷ []) (b ∷ []) t c.in-Span.days) (SpanFails (a ∷ []) (b ∷ []) t c.in-Span.days)) same (c.span_holds.ensures.holds a b here there)))

pub returns-in-Span-clause-count : goal.returns-in-Span-clause-count
returns-in-Span-clause-count g c = λ n k.
    let fits : FitsSigned w64 c.instant.result = search rules in
    let same : to_z w64 (of_z w64 c.instant.result) ≡ c.in-Span.from = to_z-of_z fits ∙ c.instant.ensures.value in
    let all = g.D.Drawn.calendar c.args.drawn.now in
    subst (λ (e : Entry). IsEntryDrawn all c.args.i c.args.j (entry_said e) c.span_holds.result (g.D.Drawn.count c.args.drawn.now) (g.D.Drawn.count c.span_holds.new.drawn) n) (sym c.in-Span.is)
    (subst (λ (t : ℤ). IsEntryDrawn all c.args.i c.args.j (Span t c.in-Span.days) c.span_holds.result (g.D.Drawn.count c.args.drawn.now) (g.D.Drawn.count c.span_holds.new.drawn) n) same
    (c.span_holds.ensures.count n (subst (λ (t : ℤ). IsEntryCount all c.args.i c.args.j (Span t c.in-Span.days) n) (sym same) (subst (λ (e : Entry). IsEntryCount all c.args.i c.args.j (entry_said e) n) c.in-Span.is k))))

pub returns-in-Res-clause-holds : goal.returns-in-Res-clause-holds
returns-in-Res-clause-holds g c =
    let all = g.D.Drawn.calendar c.args.drawn.now in
    subst (λ (e : Entry). IfOk c.residues_hold.result (λ r. MatchBool r (EntryHolds all c.args.i c.args.j (entry_said e)) (EntryFails all c.args.i c.args.j (entry_said e)))) (sym c.in-Res.is)
    (IfOk-weaker c.residues_hold.result
    (λ r. (a b : Event) → IsSeriesAt all c.args.i a → IsSeriesAt all c.args.j b → IsTrue r ↔ ResiduesHold (c.args.i == c.args.j) a b c.in-Res.m)
    (λ r. MatchBool r (EntryHolds all c.args.i c.args.j (Res c.in-Res.m)) (EntryFails all c.args.i c.args.j (Res c.in-Res.m)))
    (residues_judged all c.args.i c.args.j c.requires.pair c.in-Res.m) c.residues_hold.ensures)

pub returns-in-Res-clause-count : goal.returns-in-Res-clause-count
returns-in-Res-clause-count g c =
    let all = g.D.Drawn.calendar c.args.drawn.now in
    let count = g.D.Drawn.count c.args.drawn.now in
    subst (λ (e : Entry). IfOk c.residues_hold.result (λ r. (n : ℕ) → IsEntryCount all c.args.i c.args.j (entry_said e) n → IsEntryDrawn all c.args.i c.args.j (entry_said e) r count count n)) (sym c.in-Res.is)
    (IfOk-weaker c.residues_hold.result (λ r. (a b : Event) → IsSeriesAt all c.args.i a → IsSeriesAt all c.args.j b → IsTrue r ↔ ResiduesHold (c.args.i == c.args.j) a b c.in-Res.m)
    (λ r. (n : ℕ) → IsEntryCount all c.args.i c.args.j (Res c.in-Res.m) n → IsEntryDrawn all c.args.i c.args.j (Res c.in-Res.m) r count count n)
    (λ r told n drawn. residues_drawn all c.args.i c.args.j c.in-Res.m r count n drawn) c.residues_hold.ensures)
