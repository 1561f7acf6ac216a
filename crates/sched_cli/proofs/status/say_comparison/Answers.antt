use Rattle.std.proofs.Common.{◌≡◌, ◌∙◌, ◌+◌, ◌++◌, ◌∷◌, [], List, ℕ, Global, String, true, get_or, take, take_all, drop, codes, decimal, string_bytes, append_assoc, append-nil, take-append-drop, refl, ap, sym, subst, arith}
use Rattle.std.proofs.KnownBytes.{Appends-nil, Appends-trans}
use Rattle.std.proofs.lemmas.List.{drop_more, take_more}
use Rattle.std.proofs.lemmas.List.Concat.{flat_map-append}
use Rattle.std.specs.Io.KnownBytes.{Appends}
use Rattle.std.specs.List.{flat_map}
use Rattle.sched_cli.specs.Running.{counts_text, differs_text, found_text}
use Rattle.sched_cli.proofs.Saying.{cut_says, put_says}
use Rattle.sched_cli.proofs.status.say_comparison.Goals as goal

abbrev line : String Global → List ℕ
line name = differs_text (string_bytes name)

pub loop-name-init : goal.loop-name-init
loop-name-init g c = Appends-nil _

pub loop-name-preserved : goal.loop-name-preserved
loop-name-preserved g c =
    let names = c.args.found.now.differing.items in
    let i = c.loop-name.name-index in
    let name = c.name-item.result in
    let item : name ≡ get_or names i name = subst (λ (xs : List (String Global)). name ≡ get_or xs i name) c.deref-name-items.ensures.value c.name-item.is in
    let front : flat_map line (take (i + 1) names) ≡ flat_map line (take i names) ++ line name =
    ap (flat_map line) (take_more names i name (omega arith) ∙ ap (λ x. take i names ++ x ∷ []) (sym item)) ∙ flat_map-append line (take i names) (name ∷ []) ∙ ap (λ l. flat_map line (take i names) ++ l) (append-nil (line name)) in
    let said = subst (λ n. Appends (g.E.Output.contents c.loop-name.errors) (g.E.Output.contents c.say_differs.new.errors) (differs_text n)) c.as_str.ensures.value c.in_ok-say_differs.ensures in
    subst (Appends (g.E.Output.contents c.args.errors.now) (g.E.Output.contents c.say_differs.new.errors)) (sym front) (Appends-trans _ _ _ _ _ c.loop-name.invariant said)

pub returns-in_err-say_differs : goal.returns-in_err-say_differs
returns-in_err-say_differs g c =
    let found = c.args.found.now in
    let names = found.differing.items in
    let i = c.loop-name.name-index in
    let name = c.name-item.result in
    let item : name ≡ get_or names i name = subst (λ (xs : List (String Global)). name ≡ get_or xs i name) c.deref-name-items.ensures.value c.name-item.is in
    let counts = counts_text found.files found.missing in
    let split : names ≡ take i names ++ (name ∷ drop (i + 1) names) = sym (take-append-drop i names) ∙ ap (λ l. take i names ++ l) (drop_more names i name (omega arith) ∙ ap (λ x. x ∷ drop (i + 1) names) (sym item)) in
    let is : found_text found ≡ flat_map line (take i names) ++ (line name ++ (flat_map line (drop (i + 1) names) ++ counts)) =
    ap (λ l. flat_map line l ++ counts) split ∙ ap (λ l. l ++ counts) (flat_map-append line (take i names) (name ∷ drop (i + 1) names))
    ∙ append_assoc (flat_map line (take i names)) (line name ++ flat_map line (drop (i + 1) names)) counts ∙ ap (λ l. flat_map line (take i names) ++ l) (append_assoc (line name) (flat_map line (drop (i + 1) names)) counts) in
    let cut = subst (λ n. (g.E.Output.may_lose c.say_differs.new.errors ≡ true) × ((m : ℕ) × Appends (g.E.Output.contents c.loop-name.errors) (g.E.Output.contents c.say_differs.new.errors) (take m (differs_text n)))) c.as_str.ensures.value c.in_err-say_differs.ensures in
    cut_says _ _ _ _ (found_text found) (flat_map line (take i names)) (line name) (flat_map line (drop (i + 1) names) ++ counts) is c.loop-name.invariant cut

pub returns-in_err-say_number : goal.returns-in_err-say_number
returns-in_err-say_number g c =
    let found = c.args.found.now in
    let names = found.differing.items in
    let all = subst (λ l. Appends (g.E.Output.contents c.args.errors.now) (g.E.Output.contents c.loop-name.errors) (flat_map line l)) (take_all c.loop-name.name-index names (omega arith)) c.loop-name.invariant in
    cut_says _ _ _ _ (found_text found) (flat_map line names) (codes "roombox: files: " ++ decimal found.files) ((codes ", missing answers: " ++ decimal found.missing) ++ codes "\n") refl all c.in_err-say_number.ensures

pub returns-in_err-say_number-2 : goal.returns-in_err-say_number-2
returns-in_err-say_number-2 g c =
    let found = c.args.found.now in
    let names = found.differing.items in
    let files = codes "roombox: files: " ++ decimal found.files in
    let missing = codes ", missing answers: " ++ decimal found.missing in
    let all = subst (λ l. Appends (g.E.Output.contents c.args.errors.now) (g.E.Output.contents c.loop-name.errors) (flat_map line l)) (take_all c.loop-name.name-index names (omega arith)) c.loop-name.invariant in
    cut_says _ _ _ _ (found_text found) (flat_map line names ++ files) missing (codes "\n") (sym (append_assoc (flat_map line names) files (missing ++ codes "\n"))) (Appends-trans _ _ _ _ _ all c.in_ok-say_number.ensures) c.in_err-say_number-2.ensures

pub returns : goal.returns
returns g c =
    let found = c.args.found.now in
    let names = found.differing.items in
    let files = codes "roombox: files: " ++ decimal found.files in
    let missing = codes ", missing answers: " ++ decimal found.missing in
    let all = subst (λ l. Appends (g.E.Output.contents c.args.errors.now) (g.E.Output.contents c.loop-name.errors) (flat_map line l)) (take_all c.loop-name.name-index names (omega arith)) c.loop-name.invariant in
    put_says _ _ _ _ _ (found_text found) ((flat_map line names ++ files) ++ missing) (codes "\n") c.put.result
    (sym (append_assoc (flat_map line names) files (missing ++ codes "\n")) ∙ sym (append_assoc (flat_map line names ++ files) missing (codes "\n")))
    (Appends-trans _ _ _ _ _ (Appends-trans _ _ _ _ _ all c.in_ok-say_number.ensures) c.in_ok-say_number-2.ensures) c.put.ensures.written c.put.ensures.stops c.put.ensures.lost
