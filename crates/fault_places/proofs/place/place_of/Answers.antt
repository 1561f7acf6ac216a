use Rattle.std.proofs.Common.{◌≡◌, ◌∙◌, ◌∷◌, ◌<◌, ◌^◌, [], length, refl, ap, sym, subst, arith, List, ℕ}
use Rattle.std.specs.Prelude.{IfNone, IfSome, false, ◌⊎◌, ◌+◌}
use Rattle.std.proofs.lemmas.Bool.Decides.{nat_tests}
use Rattle.std.proofs.lemmas.Option.{IfSome_then}
use Rattle.std.proofs.lemmas.Result.{IfOk-weaker}
use Rattle.profile.specs.text.Lines.{is_continuation, physical_lines}
use Rattle.ical_lines.specs.Unfold.{lines_after}
use Rattle.fault_places.specs.Places.{Begins, Continues, IsHere}
use Rattle.fault_places.proofs.FlawLemmas.{if_none}
use Rattle.fault_places.proofs.PlaceLemmas.{Walks, first_walk, here_before, here_is, in_memory, no_line, none_after, walks_on}
use Rattle.fault_places.proofs.place.place_of.Goals as goal

pub loop-left-init : goal.loop-left-init
loop-left-init c =
    let begun = c.in_ok-begun in
    let some : 0 < c.args.line = grind (arith, nat_tests) in
    first_walk c.args.octets.now c.args.line (lines_after c.split_line.result.1) c.split_line.result.0.now begun.begun (ap physical_lines (sym c.without_mark.ensures) ∙ c.split_line.ensures.lines)
    begun.ensures.content begun.ensures.at begun.ensures.count begun.ensures.sought some

pub take-requires-clause-fits : goal.take-requires-clause-fits
take-requires-clause-fits c =
    let octets = c.args.octets.now in
    let begun = c.loop-left.begun in
    let next = c.split_line-in-Some.result.0.now in
    let later = lines_after c.split_line-in-Some.result.1 in
    let here : lines_after c.loop-left.left ≡ next ∷ later = ap lines_after c.in-Some.is ∙ c.split_line-in-Some.ensures.lines in
    let walks = subst (λ (l : List (List ℕ)). Walks octets c.args.line l begun.content.items begun.line begun.count begun.sought) here c.loop-left.invariant in
    in_memory octets later next begun.content.items begun.line begun.count walks.unfolds (subst (λ (o : List ℕ). length o < 2 ^ 63) c.without_mark.ensures c.split_line.ensures.memory)

pub returns-in-Some-2-clause-found : goal.returns-in-Some-2-clause-found
returns-in-Some-2-clause-found c =
    let octets = c.args.octets.now in
    let begun = c.loop-left.begun in
    let next = c.split_line-in-Some.result.0.now in
    let later = lines_after c.split_line-in-Some.result.1 in
    let here : lines_after c.loop-left.left ≡ next ∷ later = ap lines_after c.in-Some.is ∙ c.split_line-in-Some.ensures.lines in
    let walks = subst (λ (l : List (List ℕ)). Walks octets c.args.line l begun.content.items begun.line begun.count begun.sought) here c.loop-left.invariant in
    let (ends, is) = subst (λ o. IfSome o (λ place. (is_continuation next ≡ false) × IsHere begun place)) c.in-Some-2.is c.in_ok-place.ensures.found in
    here_before octets c.args.line later next begun c.in-Some-2.place walks ends is

pub loop-left-preserved : goal.loop-left-preserved
loop-left-preserved c =
    let octets = c.args.octets.now in
    let begun = c.loop-left.begun in
    let next = c.split_line-in-Some.result.0.now in
    let later = lines_after c.split_line-in-Some.result.1 in
    let here : lines_after c.loop-left.left ≡ next ∷ later = ap lines_after c.in-Some.is ∙ c.split_line-in-Some.ensures.lines in
    let walks = subst (λ (l : List (List ℕ)). Walks octets c.args.line l begun.content.items begun.line begun.count begun.sought) here c.loop-left.invariant in
    let new = c.take.new.self in
    let taken = subst (λ o. IfNone o (Continues begun next new ⊎ Begins begun next new)) c.in_default-2.is c.in_ok-place.ensures.taken in
    let count = subst (λ o. IfNone o (new.count ≡ begun.count + 1)) c.in_default-2.is c.in_ok-place.ensures.count in
    walks_on octets c.args.line later next begun new walks taken count

pub returns-clause-found : goal.returns-clause-found
returns-clause-found c =
    let octets = c.args.octets.now in
    let begun = c.loop-left.begun in
    let walks = subst (λ (l : List (List ℕ)). Walks octets c.args.line l begun.content.items begun.line begun.count begun.sought) (none_after c.loop-left.left c.in_default.not-Some) c.loop-left.invariant in
    IfOk-weaker c.place.result _ _ (λ found h. IfSome_then found h (λ place is. here_is octets c.args.line [] [] begun place walks refl is)) c.place.ensures.found

pub returns-clause-none : goal.returns-clause-none
returns-clause-none c =
    let octets = c.args.octets.now in
    let begun = c.loop-left.begun in
    let walks = subst (λ (l : List (List ℕ)). Walks octets c.args.line l begun.content.items begun.line begun.count begun.sought) (none_after c.loop-left.left c.in_default.not-Some) c.loop-left.invariant in
    IfOk-weaker c.place.result _ _ (λ found h. if_none found _ _ (no_line octets c.args.line begun walks) h) c.place.ensures.none
