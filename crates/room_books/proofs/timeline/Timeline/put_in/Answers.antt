-- What a meeting confirms is put in the place after its start.
use Rattle.std.proofs.Common.{◌≡◌, ℤ, List, sym, ◌∙◌, subst, rules, w64, FitsSigned}
use Rattle.std.proofs.lemmas.Bool.{true≢false}
use Rattle.std.proofs.lemmas.Int.{to_z-of_z}
use Rattle.std.specs.List.{insert}
use Rattle.room_books.specs.declared.timeline.Busy.{Busy}
use Rattle.room_books.specs.Timeline.{AreBusy, IsPlaceAfter, IsPut, busy_in}
use Rattle.room_books.proofs.timeline_lemmas.Timelines.{put_busy, put_in, nothing_in}
use Rattle.room_books.proofs.timeline.Timeline.put_in.Goals as goal

pub invariant_of-self-then-holds_instants : goal.invariant_of-self-then-holds_instants
invariant_of-self-then-holds_instants c =
    let fits : FitsSigned w64 c.args.single.span.start = search rules in
    let at = subst (λ (t : ℤ). IsPlaceAfter c.args.self.now.busy.items t c.place_after-at.result) (to_z-of_z w64 c.args.single.span.start fits) c.place_after-at.ensures in
    let put : c.insert.new.self.items ≡ insert c.args.self.now.busy.items c.place_after-at.result (busy_in c.args.place c.args.single) = search rules in
    record {
      apart = subst AreBusy (sym put) (put_busy c.args.self.now.busy.items (busy_in c.args.place c.args.single) c.args.self.now.apart (c.holds_instants.ensures.0 c.if-holds_instants.true) c.place_after-at.result at c.requires.free);
      few = search rules;
    }

pub returns-then-holds_instants-clause-put : goal.returns-then-holds_instants-clause-put
returns-then-holds_instants-clause-put c =
    let fits : FitsSigned w64 c.args.single.span.start = search rules in
    let at = subst (λ (t : ℤ). IsPlaceAfter c.args.self.now.busy.items t c.place_after-at.result) (to_z-of_z w64 c.args.single.span.start fits) c.place_after-at.ensures in
    let put : c.insert.new.self.items ≡ insert c.args.self.now.busy.items c.place_after-at.result (busy_in c.args.place c.args.single) = search rules in
    subst (λ (l : List Busy). IsPut (busy_in c.args.place c.args.single) c.args.self.now.busy.items l) (sym put)
    (put_in c.args.self.now.busy.items (busy_in c.args.place c.args.single) c.args.self.now.apart (c.holds_instants.ensures.0 c.if-holds_instants.true) c.place_after-at.result at)

pub returns-else-holds_instants-clause-put : goal.returns-else-holds_instants-clause-put
returns-else-holds_instants-clause-put c =
    nothing_in c.args.self.now.busy.items (busy_in c.args.place c.args.single) c.args.self.now.apart (λ h. true≢false (sym (c.holds_instants.ensures.1 h) ∙ c.if-holds_instants.false))
