-- What a meeting had confirmed is in the place after its start.
use Rattle.std.proofs.Common.{ℤ, List, sym, ◌∙◌, subst, rules, w64, FitsSigned}
use Rattle.std.proofs.lemmas.Bool.{true≢false}
use Rattle.std.proofs.lemmas.Int.{to_z-of_z}
use Rattle.room_books.specs.declared.timeline.Busy.{Busy}
use Rattle.room_books.specs.Timeline.{AreBusy, IsPlaceAfter, IsTakenOut, busy_in}
use Rattle.room_books.proofs.timeline_lemmas.Timelines.{taken_within, taken_busy, taken_out, nothing_out}
use Rattle.room_books.proofs.timeline.Timeline.take_out.Goals as goal

pub remove-requires : goal.remove-requires
remove-requires c =
    let fits : FitsSigned w64 c.args.single.span.start = search rules in
    let at = subst (λ (t : ℤ). IsPlaceAfter c.args.self.now.busy.items t c.place_after-at.result) (to_z-of_z w64 c.args.single.span.start fits) c.place_after-at.ensures in
    let there = c.requires.held (c.holds_instants.ensures.0 c.if-holds_instants.true) in
    let within = taken_within c.args.self.now.busy.items (busy_in c.args.place c.args.single) c.args.self.now.apart there c.place_after-at.result at in
    search rules

pub invariant_of-self-then-holds_instants : goal.invariant_of-self-then-holds_instants
invariant_of-self-then-holds_instants c =
    let fits : FitsSigned w64 c.args.single.span.start = search rules in
    let at = subst (λ (t : ℤ). IsPlaceAfter c.args.self.now.busy.items t c.place_after-at.result) (to_z-of_z w64 c.args.single.span.start fits) c.place_after-at.ensures in
    let there = c.requires.held (c.holds_instants.ensures.0 c.if-holds_instants.true) in
    record {
      apart = subst AreBusy (sym c.remove.ensures.items) (taken_busy c.args.self.now.busy.items (busy_in c.args.place c.args.single) c.args.self.now.apart there c.place_after-at.result at);
      few = search rules;
    }

pub returns-then-holds_instants-clause-taken : goal.returns-then-holds_instants-clause-taken
returns-then-holds_instants-clause-taken c =
    let fits : FitsSigned w64 c.args.single.span.start = search rules in
    let at = subst (λ (t : ℤ). IsPlaceAfter c.args.self.now.busy.items t c.place_after-at.result) (to_z-of_z w64 c.args.single.span.start fits) c.place_after-at.ensures in
    let there = c.requires.held (c.holds_instants.ensures.0 c.if-holds_instants.true) in
    subst (λ (l : List Busy). IsTakenOut (busy_in c.args.place c.args.single) c.args.self.now.busy.items l) (sym c.remove.ensures.items)
    (taken_out c.args.self.now.busy.items (busy_in c.args.place c.args.single) c.args.self.now.apart there c.place_after-at.result at)

pub returns-else-holds_instants-clause-taken : goal.returns-else-holds_instants-clause-taken
returns-else-holds_instants-clause-taken c =
    nothing_out c.args.self.now.busy.items (busy_in c.args.place c.args.single) c.args.self.now.apart (λ h. true≢false (sym (c.holds_instants.ensures.1 h) ∙ c.if-holds_instants.false))
