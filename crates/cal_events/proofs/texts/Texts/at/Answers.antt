use Rattle.std.proofs.Common.{◌≡◌, ◌∙◌, ◌<◌, ◌∷◌, ℕ, List, [], length, get_or, sym, ap, subst, arith}
use Rattle.std.specs.Prelude.{string_bytes, slice_range}
use Rattle.std.specs.Str.{IsCharBoundary}
use Rattle.std.proofs.lemmas.List.{get_or_default}
use Rattle.cal_events.proofs.texts_lemmas.TextLemmas.{place_in, piece_at}
use Rattle.cal_events.proofs.texts.Texts.at.Goals as goal

pub start_of-start-requires : goal.start_of-start-requires
start_of-start-requires c =
    let joined = string_bytes c.self.inside.joined in
    let ends = c.self.inside.ends.items in
    let k = c.args.place in
    let within = place_in joined ends c.args.self.now k c.self.view_is c.requires in
    subst (λ (l : List ℕ). k < length l) (sym c.deref.ensures.value) within

pub index-requires : goal.index-requires
index-requires c =
    let joined = string_bytes c.self.inside.joined in
    let ends = c.self.inside.ends.items in
    let k = c.args.place in
    let within = place_in joined ends c.args.self.now k c.self.view_is c.requires in
    omega (arith, within, c.self.inside.ends.ok.0)

pub range-requires-clause-start_le_end : goal.range-requires-clause-start_le_end
range-requires-clause-start_le_end c =
    let joined = string_bytes c.self.inside.joined in
    let ends = c.self.inside.ends.items in
    let k = c.args.place in
    let within = place_in joined ends c.args.self.now k c.self.view_is c.requires in
    let p = piece_at joined 0 ends k c.self.invariant within in
    let start : c.start_of-start.result ≡ get_or (0 ∷ ends) k 0 = c.start_of-start.ensures ∙ ap (λ l. get_or (0 ∷ l) k 0) c.deref.ensures.value in
    let end : c.index.result.now ≡ get_or ends k 0 = c.index.ensures ∙ get_or_default ends k c.index.result.now 0 within in
    omega (arith, p.order, start, end)

pub range-requires-clause-start_boundary : goal.range-requires-clause-start_boundary
range-requires-clause-start_boundary c =
    let joined = string_bytes c.self.inside.joined in
    let ends = c.self.inside.ends.items in
    let k = c.args.place in
    let within = place_in joined ends c.args.self.now k c.self.view_is c.requires in
    let p = piece_at joined 0 ends k c.self.invariant within in
    let start : c.start_of-start.result ≡ get_or (0 ∷ ends) k 0 = c.start_of-start.ensures ∙ ap (λ l. get_or (0 ∷ l) k 0) c.deref.ensures.value in
    let end : c.index.result.now ≡ get_or ends k 0 = c.index.ensures ∙ get_or_default ends k c.index.result.now 0 within in
    λ _. subst (λ (l : List ℕ). IsCharBoundary l c.start_of-start.result) (sym c.deref-2.ensures) (subst (IsCharBoundary joined) (sym start) p.begins)

pub range-requires-clause-end_boundary : goal.range-requires-clause-end_boundary
range-requires-clause-end_boundary c =
    let joined = string_bytes c.self.inside.joined in
    let ends = c.self.inside.ends.items in
    let k = c.args.place in
    let within = place_in joined ends c.args.self.now k c.self.view_is c.requires in
    let p = piece_at joined 0 ends k c.self.invariant within in
    let start : c.start_of-start.result ≡ get_or (0 ∷ ends) k 0 = c.start_of-start.ensures ∙ ap (λ l. get_or (0 ∷ l) k 0) c.deref.ensures.value in
    let end : c.index.result.now ≡ get_or ends k 0 = c.index.ensures ∙ get_or_default ends k c.index.result.now 0 within in
    subst (λ (l : List ℕ). IsCharBoundary l c.index.result.now) (sym c.deref-2.ensures) (subst (IsCharBoundary joined) (sym end) p.stops)

pub returns : goal.returns
returns c =
    let joined = string_bytes c.self.inside.joined in
    let ends = c.self.inside.ends.items in
    let k = c.args.place in
    let within = place_in joined ends c.args.self.now k c.self.view_is c.requires in
    let p = piece_at joined 0 ends k c.self.invariant within in
    let start : c.start_of-start.result ≡ get_or (0 ∷ ends) k 0 = c.start_of-start.ensures ∙ ap (λ l. get_or (0 ∷ l) k 0) c.deref.ensures.value in
    let end : c.index.result.now ≡ get_or ends k 0 = c.index.ensures ∙ get_or_default ends k c.index.result.now 0 within in
    c.range.ensures.value ∙ ap (λ l. slice_range l c.start_of-start.result c.index.result.now) c.deref-2.ensures ∙ ap (λ n. slice_range joined n c.index.result.now) start
    ∙ ap (slice_range joined (get_or (0 ∷ ends) k 0)) end ∙ sym p.is ∙ ap (λ l. get_or l k []) c.self.view_is
