use Rattle.std.proofs.Common.{◌≡◌, sym, subst, to_z, of_z, w64, to_z-of_z, FitsSigned, rules}
use Rattle.std.specs.Prelude.{◌↔◌, IsTrue}
use Rattle.profile.specs.events.Residues.{ResiduesHold}
use Rattle.cal_events.specs.Series.{series_said}
use Rattle.cal_period.specs.Around.{AreApart, IsApart}
use Rattle.cal_period.proofs.Turning.{are_around, own_apart, own_hold, two_apart, two_hold}
use Rattle.cal_period.proofs.residue.do_residues_hold.Goals as goal

pub is_apart-requires-clause-all : goal.is_apart-requires-clause-all
is_apart-requires-clause-all c = rw c.deref.ensures.value (are_around (series_said c.args.a.now) c.args.m c.in_ok-first.first.items c.in_ok-first.ensures)

pub are_apart-requires-clause-first : goal.are_apart-requires-clause-first
are_apart-requires-clause-first c = rw c.deref-2.ensures.value (are_around (series_said c.args.a.now) c.args.m c.in_ok-first.first.items c.in_ok-first.ensures)

pub are_apart-requires-clause-second : goal.are_apart-requires-clause-second
are_apart-requires-clause-second c = rw c.deref-3.ensures.value (are_around (series_said c.args.b.now) c.args.m c.in_ok-second.second.items c.in_ok-second.ensures)

pub returns-then-own : goal.returns-then-own
returns-then-own c =
    let a = series_said c.args.a.now in
    let b = series_said c.args.b.now in
    let xs = c.in_ok-first.first.items in
    let w = c.width.result in
    let fits : FitsSigned w64 w = search rules in
    let cast : to_z w64 (of_z w64 w) ≡ w = to_z-of_z fits in
    let told : IsTrue c.is_apart.result ↔ IsApart c.args.m xs w = rw (c.deref.ensures.value, cast) at c.is_apart.ensures in
    subst (λ own. IsTrue c.is_apart.result ↔ ResiduesHold own a b c.args.m) (sym c.if-own.true)
    (λ t. own_hold a b c.args.m c.requires xs c.in_ok-first.ensures w c.width.ensures.of (told.0 t), λ h. told.1 (own_apart a b c.args.m c.requires xs c.in_ok-first.ensures w c.width.ensures.of h))

pub returns : goal.returns
returns c =
    let a = series_said c.args.a.now in
    let b = series_said c.args.b.now in
    let xs = c.in_ok-first.first.items in
    let ys = c.in_ok-second.second.items in
    let w = c.width-2.result in
    let v = c.width-3.result in
    let fits : FitsSigned w64 w = search rules in
    let fit : FitsSigned w64 v = search rules in
    let cast : to_z w64 (of_z w64 w) ≡ w = to_z-of_z fits in
    let other : to_z w64 (of_z w64 v) ≡ v = to_z-of_z fit in
    let told : IsTrue c.are_apart.result ↔ AreApart c.args.m xs w ys v = rw (c.deref-2.ensures.value, c.deref-3.ensures.value, cast, other) at c.are_apart.ensures in
    subst (λ own. IsTrue c.are_apart.result ↔ ResiduesHold own a b c.args.m) (sym c.if-own.false) (
      λ t. two_hold a b c.args.m c.requires xs c.in_ok-first.ensures w c.width-2.ensures.of ys c.in_ok-second.ensures v c.width-3.ensures.of (told.0 t),
      λ h. told.1 (two_apart a b c.args.m c.requires xs c.in_ok-first.ensures w c.width-2.ensures.of ys c.in_ok-second.ensures v c.width-3.ensures.of h),
    )
