use Rattle.std.proofs.Common.{◌≡◌, ◌||◌, ◌&&◌, ◌+◌, false, true, ltb, length, refl, ap, sym, ◌∙◌, arith}
use Rattle.std.specs.List.{list_any, find, prefix_len}
use Rattle.std.proofs.Math.Bool.{and-false}
use Rattle.profile.specs.text.Lines.{is_faulty, line_has}
use Rattle.ical_lines.specs.Breaks.{lines_of}
use Rattle.ical_lines.specs.Limits.{is_bounded}
use Rattle.ical_lines.specs.Text.{lines_left}
use Rattle.ical_lines.proofs.BreakLemmas.{any_later, any_here, lines_of-le}
use Rattle.ical_lines.proofs.FirstLemmas.{next_judged, first_found, too_many, bound_refuses, next_place, fault_place, bound_place, faulty_by, is_right, judged_after}
use Rattle.ical_lines.proofs.text.check_lines.Goals as goal

pub loop-line-init : goal.loop-line-init
loop-line-init c = record {
  counted = omega arith;
  fits = omega (arith, lines_of-le c.args.text.now);
  within = and-false (is_bounded c.args.limits);
  same = refl;
  first = refl;
  place = omega arith;
  among = λ n h. h;
}

pub loop-line-preserved : goal.loop-line-preserved
loop-line-preserved c =
    let s = c.in-Some.ensures.next in
    let b = is_bounded c.args.limits in
    let k = c.loop-line.lines.passed in
    let e : c.next_text.new.self.passed ≡ k + 1 = c.in-Some.ensures.number in
    let within : (b && ltb 65536 c.next_text.new.self.passed) ≡ false = sym c.exceeds_lines.ensures ∙ c.if-exceeds_lines.false in
    let w : (b && ltb 65536 (k + 1)) ≡ false = ap (λ n. b && ltb 65536 n) (sym e) ∙ within in
    let here : prefix_len is_right (judged_after b k (lines_left c.loop-line.lines)) ≡ 1 + prefix_len is_right (judged_after b (k + 1) (lines_left c.next_text.new.self)) = next_place b k _ _ _ s w c.in_default-fault_in.ensures.fault in
    record {
      counted = omega (arith, c.loop-line.invariant.counted, ap length s, e);
      fits = omega (arith, c.loop-line.invariant.fits, ap length s, e);
      within = within;
      same = c.loop-line.invariant.same ∙ (ap (list_any is_faulty) s ∙ ap (λ b. b || list_any is_faulty (lines_left c.next_text.new.self)) c.in_default-fault_in.ensures.fault);
      first = c.loop-line.invariant.first ∙ (next_judged b k _ _ _ s w c.in_default-fault_in.ensures.fault ∙ ap (λ n. find is_faulty (judged_after b n (lines_left c.next_text.new.self))) (sym e));
      place = rw e (omega (arith, c.loop-line.invariant.place, here));
      among = λ n h. c.loop-line.invariant.among n (any_later (line_has n) _ _ _ s h);
    }

pub returns-in-Some-fault_in-clause-fault : goal.returns-in-Some-fault_in-clause-fault
returns-in-Some-fault_in-clause-fault c =
    let n = c.in-Some-fault_in.refusal.number in
    let h = c.loop-line.invariant.among n (any_here (line_has n) _ _ _ c.in-Some.ensures.next c.in-Some-fault_in.ensures.fault) in rw (c.at-in-Some-fault_in.ensures, h) refl

pub returns-clause-fault : goal.returns-clause-fault
returns-clause-fault c =
    let s = c.in_default.ensures.next in
    let e : length (lines_of c.args.text.now) ≡ c.loop-line.lines.passed = omega (arith, c.loop-line.invariant.counted, ap length s.0) in (
      c.loop-line.invariant.same ∙ ap (list_any is_faulty) s.0,
      ap (λ n. is_bounded c.args.limits && ltb 65536 n) e ∙ c.loop-line.invariant.within,
    )

pub returns-in-Some-fault_in-clause-first : goal.returns-in-Some-fault_in-clause-first
returns-in-Some-fault_in-clause-first c =
    let b = is_bounded c.args.limits in
    let w : (b && ltb 65536 (c.loop-line.lines.passed + 1)) ≡ false = ap (λ n. b && ltb 65536 n) (sym c.in-Some.ensures.number) ∙ (sym c.exceeds_lines.ensures ∙ c.if-exceeds_lines.false) in
    rw c.at-in-Some-fault_in.ensures (first_found b c.loop-line.lines.passed c.in-Some-fault_in.refusal.number _ _ _ (lines_of c.args.text.now) c.in-Some.ensures.next w (sym c.in-Some-fault_in.ensures.least) c.loop-line.invariant.first)

pub returns-in-Some-fault_in-clause-at : goal.returns-in-Some-fault_in-clause-at
returns-in-Some-fault_in-clause-at c =
    let b = is_bounded c.args.limits in
    let w : (b && ltb 65536 (c.loop-line.lines.passed + 1)) ≡ false = ap (λ n. b && ltb 65536 n) (sym c.in-Some.ensures.number) ∙ (sym c.exceeds_lines.ensures ∙ c.if-exceeds_lines.false) in
    let here : prefix_len is_right (judged_after b c.loop-line.lines.passed (lines_left c.loop-line.lines)) ≡ 0 = fault_place b c.loop-line.lines.passed _ _ _ c.in-Some.ensures.next w (faulty_by c.in-Some.line.now c.in-Some-fault_in.refusal.number (sym c.in-Some-fault_in.ensures.least)) in
    rw (c.at-in-Some-fault_in.ensures, c.in-Some.ensures.number) (omega (arith, here, c.loop-line.invariant.place))

pub returns-then-exceeds_lines-clause-first : goal.returns-then-exceeds_lines-clause-first
returns-then-exceeds_lines-clause-first c =
    let b = is_bounded c.args.limits in
    let more : (b && ltb 65536 (c.loop-line.lines.passed + 1)) ≡ true = ap (λ n. b && ltb 65536 n) (sym c.in-Some.ensures.number) ∙ (sym c.exceeds_lines.ensures ∙ c.if-exceeds_lines.true) in
    rw c.at.ensures (too_many b c.loop-line.lines.passed _ _ _ (lines_of c.args.text.now) c.in-Some.ensures.next c.loop-line.invariant.within more c.loop-line.invariant.counted c.loop-line.invariant.first)

pub returns-then-exceeds_lines-clause-at : goal.returns-then-exceeds_lines-clause-at
returns-then-exceeds_lines-clause-at c =
    let b = is_bounded c.args.limits in
    let more : (b && ltb 65536 (c.loop-line.lines.passed + 1)) ≡ true = ap (λ n. b && ltb 65536 n) (sym c.in-Some.ensures.number) ∙ (sym c.exceeds_lines.ensures ∙ c.if-exceeds_lines.true) in
    let here : prefix_len is_right (judged_after b c.loop-line.lines.passed (lines_left c.loop-line.lines)) ≡ 0 = bound_place b c.loop-line.lines.passed (lines_left c.loop-line.lines) more in
    rw (c.at.ensures, c.in-Some.ensures.number) (omega (arith, here, c.loop-line.invariant.place))

pub returns-then-exceeds_lines-clause-fault : goal.returns-then-exceeds_lines-clause-fault
returns-then-exceeds_lines-clause-fault c =
    let b = is_bounded c.args.limits in
    let more : (b && ltb 65536 (c.loop-line.lines.passed + 1)) ≡ true = ap (λ n. b && ltb 65536 n) (sym c.in-Some.ensures.number) ∙ (sym c.exceeds_lines.ensures ∙ c.if-exceeds_lines.true) in
    rw c.at.ensures (bound_refuses b c.loop-line.lines.passed _ _ _ (lines_of c.args.text.now) c.in-Some.ensures.next more c.loop-line.invariant.counted)
