-- Properties alone are the body of a component that has no other in it.
use Rattle.std.proofs.Common.{◌≡◌, ℕ, true, List, [], ◌∷◌, ◌++◌, sym, subst, append_assoc, append-nil}
use Rattle.std.specs.List.{list_all}
use Rattle.std.proofs.lemmas.Bool.{and_parts}
use Rattle.profile.specs.text.Objects.{is_property}
use Rattle.profile.specs.text.Objects.SpellsBody.{nothing, property}
use Rattle.ical_tree.proofs.TreeOfLemmas.{BodyT}

abbrev Lines : Type 0
Lines = List (List ℕ)

-- properties, one after another
own_more : (depth : ℕ) (before own : Lines) → BodyT depth before [] before → list_all is_property own ≡ true → BodyT depth (before ++ own) [] (before ++ own)
own_more depth before [] b h = subst (λ (l : Lines). BodyT depth l [] l) (sym (append-nil before)) b
own_more depth before (line ∷ own) b h =
    let both = and_parts (is_property line) (list_all is_property own) h in
    subst (λ (l : Lines). BodyT depth l [] l) (append_assoc before (line ∷ []) own) (own_more depth (before ++ line ∷ []) own (property line both.0 b) both.1)

pub own_body : (depth : ℕ) (own : Lines) → list_all is_property own ≡ true → BodyT depth own [] own
own_body depth own h = own_more depth [] own nothing h
