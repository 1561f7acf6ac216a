use Rattle.std.proofs.Common.{◌≡◌, ◌∙◌, inl, inr, refl, sym, subst, to_z, of_z, w64, to_z-of_z, rules, FitsSigned, string_bytes, ◌+ℤ◌, codes}
use Rattle.std.proofs.lemmas.Bool.{false≢true}
use Rattle.std.proofs.lemmas.Result.{IfOk-weaker}
use Rattle.profile.specs.series.Zones.{IsOffsetAt}
use Rattle.profile.specs.text.Values.{IsClockSeconds, WritesLocal}
use Rattle.cal_zones.specs.Kinds.{zone_of}
use Rattle.cal_agenda.specs.Printing.{IsLocalTimeText}
use Rattle.cal_agenda.proofs.LocalLemmas.{shown_sum, not_shown}
use Rattle.cal_agenda.proofs.text.local_time_text.Goals as goal

pub returns-in_default : goal.returns-in_default
returns-in_default c =
    let instant = c.args.instant in
    let offset = c.offset-offset.result in
    let sum = c.saturating_add.result in
    let zone = zone_of c.args.zone.now in
    let cast : to_z w64 (of_z w64 instant) ≡ instant = to_z-of_z c.ranges.instant in
    let at : IsOffsetAt zone instant offset = rw cast at c.offset-offset.ensures.offset in
    let fits_sum : FitsSigned w64 sum = search rules in
    let cast_sum : to_z w64 (of_z w64 sum) ≡ sum = to_z-of_z fits_sum in
    let none : IsClockSeconds sum → ⊥ = λ clock. absurd (false≢true (c.in_default.ensures.found.1 (subst IsClockSeconds (sym cast_sum) clock))) in
    let dark = not_shown instant offset sum c.ranges.instant c.offset-offset.ensures.range c.saturating_add.ensures none in
    IfOk-weaker c.from_str.result (λ text. string_bytes text ≡ codes "-") (λ text. IsLocalTimeText zone instant (string_bytes text))
    (λ text is. (instant +ℤ offset, (offset, at, refl), inr (dark, is))) c.from_str.ensures.ok

pub returns : goal.returns
returns c =
    let instant = c.args.instant in
    let offset = c.offset-offset.result in
    let sum = c.saturating_add.result in
    let zone = zone_of c.args.zone.now in
    let cast : to_z w64 (of_z w64 instant) ≡ instant = to_z-of_z c.ranges.instant in
    let at : IsOffsetAt zone instant offset = rw cast at c.offset-offset.ensures.offset in
    let fits_sum : FitsSigned w64 sum = search rules in
    let cast_sum : to_z w64 (of_z w64 sum) ≡ sum = to_z-of_z fits_sum in
    let clock : IsClockSeconds sum = subst IsClockSeconds cast_sum (c.in-Some.ensures.found.0 refl) in
    let shown : instant +ℤ offset ≡ c.in-Some.local = shown_sum instant offset sum c.ranges.instant c.offset-offset.ensures.range c.saturating_add.ensures clock ∙ sym (c.in-Some.ensures.value ∙ cast_sum) in
    IfOk-weaker c.local_text.result (λ text. WritesLocal (string_bytes text) c.in-Some.local) (λ text. IsLocalTimeText zone instant (string_bytes text))
    (λ text writes. (c.in-Some.local, (offset, at, shown), inl writes)) c.local_text.ensures
