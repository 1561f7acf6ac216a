use Rattle.std.proofs.Common.{◌≡◌, ◌∙◌, ◌∷◌, ◌++◌, ℕ, List, [], length, refl, sym, ap, subst, arith, true}
use Rattle.std.specs.Prelude.{string_bytes}
use Rattle.std.specs.Str.{IsCharBoundary}
use Rattle.std.proofs.lemmas.Str.{IsCharBoundary-at_seam}
use Rattle.cal_events.specs.Texts.{pieces_between, are_pieces}
use Rattle.cal_events.proofs.texts_lemmas.TextLemmas.{pushed, pushed_are}
use Rattle.cal_events.proofs.texts.Texts.push.Goals as goal

pub truncate-requires : goal.truncate-requires
truncate-requires c =
    let joined = string_bytes c.self.inside.joined in
    let more = c.args.text.now in
    let longer : string_bytes c.push_str.new.self ≡ joined ++ more = c.in_ok-push_str.ensures.bytes in
    let kept : length joined ≡ c.len-kept.result = omega (arith, c.len-kept.ensures, c.self.inside.joined.bytes.ok.0) in
    let cut = subst (λ (l : List ℕ). IsCharBoundary l (length joined)) (sym longer) (IsCharBoundary-at_seam (joined ++ more) joined more refl c.utf8.text) in
    let here = subst (IsCharBoundary (string_bytes c.push_str.new.self)) kept cut in
    λ _. (here.0, λ _ w. here.1 w)

pub invariant_of-self-in-Ok : goal.invariant_of-self-in-Ok
invariant_of-self-in-Ok c =
    let joined = string_bytes c.self.inside.joined in
    let more = c.args.text.now in
    let longer : string_bytes c.push_str.new.self ≡ joined ++ more = c.in_ok-push_str.ensures.bytes in
    let ends = c.self.inside.ends.items in
    let end : c.len-end.result ≡ length (joined ++ more) = omega (arith, c.len-end.ensures, c.push_str.new.self.bytes.ok.0, ap length longer) in
    let more_ends : c.push.new.self.items ≡ ends ++ length (joined ++ more) ∷ [] = c.in-Ok.ensures.items ∙ ap (λ n. ends ++ n ∷ []) end in
    subst (λ (l : List ℕ). are_pieces l 0 c.push.new.self.items ≡ true) (sym longer)
    (subst (λ (es : List ℕ). are_pieces (joined ++ more) 0 es ≡ true) (sym more_ends) (pushed_are joined more c.utf8.text 0 ends c.self.invariant))

pub returns-in-Ok-clause-added : goal.returns-in-Ok-clause-added
returns-in-Ok-clause-added c =
    let joined = string_bytes c.self.inside.joined in
    let more = c.args.text.now in
    let longer : string_bytes c.push_str.new.self ≡ joined ++ more = c.in_ok-push_str.ensures.bytes in
    let ends = c.self.inside.ends.items in
    let end : c.len-end.result ≡ length (joined ++ more) = omega (arith, c.len-end.ensures, c.push_str.new.self.bytes.ok.0, ap length longer) in
    let more_ends : c.push.new.self.items ≡ ends ++ length (joined ++ more) ∷ [] = c.in-Ok.ensures.items ∙ ap (λ n. ends ++ n ∷ []) end in
    ap (λ (l : List ℕ). pieces_between l 0 c.push.new.self.items) longer ∙ ap (pieces_between (joined ++ more) 0) more_ends
    ∙ pushed joined more 0 ends c.self.invariant ∙ ap (λ (l : List (List ℕ)). l ++ more ∷ []) c.self.view_is
