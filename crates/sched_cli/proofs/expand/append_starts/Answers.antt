use Rattle.std.proofs.Common.{◌≡◌, ◌∙◌, ◌++◌, ◌∷◌, [], ap, sym, subst, slice_range, List, ℕ, arith, length}
use Rattle.std.proofs.lemmas.Bool.Decides.{Decides-int_eq}
use Rattle.profile.specs.text.Values.{WritesStamp}
use Rattle.sched_cli.proofs.Printing.{appended_again}
use Rattle.sched_cli.proofs.expand.append_starts.Goals as goal

pub returns-then-eq : goal.returns-then-eq
returns-then-eq c =
    let (text, writes, grown) = c.in_ok-append_start.ensures in
    let own : List ℕ = text ++ 32 ∷ [] in
    let old = c.args.out.now.items in
    let made = c.append_start.new.out in
    let from : c.len-from.result ≡ length old = omega (arith, c.len-from.ensures, c.args.out.now.ok.0) in
    let end : made.len ≡ length (old ++ own) = omega (arith, made.ok.0, ap length grown) in
    let again = subst (λ (l : List ℕ). slice_range l c.len-from.result made.len ≡ own) (sym grown) (appended_again old own c.len-from.result made.len from end) in
    let same = (Decides-int_eq c.args.slot c.args.start).0 (sym c.if-eq.ensures) in
    (text, text, writes, subst (WritesStamp text) same writes, c.in_ok-extend_from_within.ensures.items ∙ ap (λ l. made.items ++ l) again ∙ ap (λ l. l ++ own) grown)
