use Rattle.std.proofs.Common.{◌≡◌, ◌∙◌, List, [], Option, None, false, sym, ap, subst}
use Rattle.std.specs.Prelude.{option_copied}
use Rattle.itip_order.specs.Parts.{part_of, slot_of}
use Rattle.room_books.specs.declared.meeting.PartAnswer.{PartAnswer}
use Rattle.room_books.specs.declared.kept.Meeting.{Meeting}
use Rattle.room_books.specs.Slots.{givens, left_without, taken_at, is_touched}
use Rattle.room_books.specs.Gone.{IsPartedInto, IsSplitInto}
use Rattle.room_books.specs.Taking.{kept_then}
use Rattle.room_books.specs.Meeting.{all_series, all_singles, series_by, singles_by, AreFewer, SaysLossOfOne}
use Rattle.room_books.specs.Room.{KeepsEach, KeepsSome}
use Rattle.room_books.proofs.change_lemmas.Own.{keeps_new, keeps_all}
use Rattle.room_books.proofs.shared_lemmas.Reordering.{re_parts}
use Rattle.room_books.proofs.shared_lemmas.Fewer.{all_fewer, fewer_none}
use Rattle.room_books.proofs.shared_lemmas.Losses.{all_lost, lost_none}
use Rattle.room_books.proofs.change_lemmas.Splits.{whole_parted}
use Rattle.room_books.proofs.change.Views.change.Goals as goal

pub returns-in_default-clause-kept : goal.returns-in_default-clause-kept
returns-in_default-clause-kept c =
    let part = part_of c.args.self.now.part.now in let slots = c.args.self.now.slots.now in let after = c.args.self.now.after.now in
    let lost = c.new.result.items in let left = c.new-in_default.result.items in
    subst (λ (o : Option Meeting). KeepsEach part slots o after (kept_then o lost left)) (sym (ap option_copied c.in_default.is)) (keeps_new part slots after left c.new-in_default.ensures.items)

pub returns-clause-kept : goal.returns-clause-kept
returns-clause-kept c =
    let part = part_of c.args.self.now.part.now in let slots = c.args.self.now.slots.now in let after = c.args.self.now.after.now in
    let meeting = c.in-Some.meeting.now in let answers = meeting.answers.items in
    let lost = c.in_ok-change.change.lost.items in let left = c.in_ok-change.change.left.items in
    let lost_is : lost ≡ c.in_ok-lost.lost.items = ap (λ v. v.items) c.in_ok-change.ensures.lost in
    let slots_are : c.deref-2.result.now ≡ lost = c.deref-2.ensures.value ∙ sym lost_is in
    let out_is : givens c.deref-3.result.now ≡ taken_at lost answers = ap givens c.deref-3.ensures.value ∙ c.in_ok-out.ensures ∙ (λ i. taken_at (slots_are i) (c.deref.ensures.value i)) in
    subst (λ (o : Option Meeting). KeepsEach part slots o after (kept_then o lost left)) (sym (ap option_copied c.in-Some.is))
    (keeps_all part slots meeting after lost left (subst (λ (l : List PartAnswer). KeepsSome part slots meeting.held after l left) out_is c.in_ok-change.ensures.left)
    (λ given among untouched. c.in_ok-lost.ensures.others given among (sym (ap (λ l. is_touched l (slot_of given.slot)) lost_is) ∙ untouched)))

pub returns-clause-parted : goal.returns-clause-parted
returns-clause-parted c =
    let answers = c.in-Some.meeting.now.answers.items in
    let lost = c.in_ok-change.change.lost.items in let left = c.in_ok-change.change.left.items in let gone = c.in_ok-change.change.gone.items in
    let lost_is : lost ≡ c.in_ok-lost.lost.items = ap (λ v. v.items) c.in_ok-change.ensures.lost in
    let slots_are : c.deref-2.result.now ≡ lost = c.deref-2.ensures.value ∙ sym lost_is in
    let out_is : givens c.deref-3.result.now ≡ taken_at lost answers = ap givens c.deref-3.ensures.value ∙ c.in_ok-out.ensures ∙ (λ i. taken_at (slots_are i) (c.deref.ensures.value i)) in
    subst (λ (o : Option Meeting). IsPartedInto (singles_by o) gone (all_singles (kept_then o lost left))) (sym (ap option_copied c.in-Some.is))
    (whole_parted answers (taken_at lost answers) (left_without lost answers) left gone (re_parts (λ (g : PartAnswer). is_touched lost (slot_of g.slot)) answers)
    (subst (λ (l : List PartAnswer). IsSplitInto (all_singles l) gone (all_singles left)) out_is c.in_ok-change.ensures.split))

pub returns-in_default-clause-sheds : goal.returns-in_default-clause-sheds
returns-in_default-clause-sheds c = λ history s.
    let lost = c.new.result.items in let left = c.new-in_default.result.items in
    subst (λ (o : Option Meeting). SaysLossOfOne false (series_by o) (all_series (kept_then o lost left))) (sym (ap option_copied c.in_default.is)) (lost_none (all_series (kept_then None lost left)))

pub returns-clause-sheds : goal.returns-clause-sheds
returns-clause-sheds c = λ history s.
    let answers = c.in-Some.meeting.now.answers.items in
    let lost = c.in_ok-change.change.lost.items in let left = c.in_ok-change.change.left.items in
    let lost_is : lost ≡ c.in_ok-lost.lost.items = ap (λ v. v.items) c.in_ok-change.ensures.lost in
    let slots_are : c.deref-2.result.now ≡ lost = c.deref-2.ensures.value ∙ sym lost_is in
    let out_is : givens c.deref-3.result.now ≡ taken_at lost answers = ap givens c.deref-3.ensures.value ∙ c.in_ok-out.ensures ∙ (λ i. taken_at (slots_are i) (c.deref.ensures.value i)) in
    let fewer = subst (λ (l : List PartAnswer). AreFewer (all_series l) (all_series left)) out_is c.in_ok-change.ensures.fewer in
    subst (λ (o : Option Meeting). SaysLossOfOne c.in_ok-change.change.sheds (series_by o) (all_series (kept_then o lost left))) (sym (ap option_copied c.in-Some.is))
    (all_lost c.in_ok-change.change.sheds answers (taken_at lost answers) (left_without lost answers) left (re_parts (λ (g : PartAnswer). is_touched lost (slot_of g.slot)) answers) fewer
    (subst (λ (l : List PartAnswer). SaysLossOfOne c.in_ok-change.change.sheds (all_series l) (all_series left)) out_is (c.in_ok-change.ensures.sheds history s)))

pub returns-in_default-clause-fewer : goal.returns-in_default-clause-fewer
returns-in_default-clause-fewer c =
    let lost = c.new.result.items in let left = c.new-in_default.result.items in
    subst (λ (o : Option Meeting). AreFewer (series_by o) (all_series (kept_then o lost left))) (sym (ap option_copied c.in_default.is))
    (subst (λ (l : List PartAnswer). AreFewer [] (all_series l)) (sym c.new-in_default.ensures.items) (fewer_none []))

pub returns-clause-fewer : goal.returns-clause-fewer
returns-clause-fewer c =
    let answers = c.in-Some.meeting.now.answers.items in
    let lost = c.in_ok-change.change.lost.items in let left = c.in_ok-change.change.left.items in
    let lost_is : lost ≡ c.in_ok-lost.lost.items = ap (λ v. v.items) c.in_ok-change.ensures.lost in
    let slots_are : c.deref-2.result.now ≡ lost = c.deref-2.ensures.value ∙ sym lost_is in
    let out_is : givens c.deref-3.result.now ≡ taken_at lost answers = ap givens c.deref-3.ensures.value ∙ c.in_ok-out.ensures ∙ (λ i. taken_at (slots_are i) (c.deref.ensures.value i)) in
    subst (λ (o : Option Meeting). AreFewer (series_by o) (all_series (kept_then o lost left))) (sym (ap option_copied c.in-Some.is))
    (all_fewer answers (taken_at lost answers) (left_without lost answers) left (re_parts (λ (g : PartAnswer). is_touched lost (slot_of g.slot)) answers)
    (subst (λ (l : List PartAnswer). AreFewer (all_series l) (all_series left)) out_is c.in_ok-change.ensures.fewer))
