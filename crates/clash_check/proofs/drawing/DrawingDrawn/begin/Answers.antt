use Rattle.std.proofs.Common.{◌≡◌, to_z, of_z, w64, to_z-of_z}
use Rattle.clash_check.proofs.DrawLemmas.{begun, others}
use Rattle.clash_check.proofs.drawing.DrawingDrawn.begin.Goals as goal

pub returns-clause-coming : goal.returns-clause-coming
returns-clause-coming c =
    let own = c.args.self.now in
    let from : to_z w64 (of_z w64 c.args.from) ≡ c.args.from = to_z-of_z c.ranges.from in
    let bound : to_z w64 (of_z w64 c.args.bound) ≡ c.args.bound = to_z-of_z c.ranges.bound in
    rw (from, bound, c.place_of.ensures) (begun own.calendar.now own.wanted.items c.args.i (record { from = c.args.from; bound = c.args.bound }) c.requires own.counted)

pub returns-clause-others : goal.returns-clause-others
returns-clause-others c =
    let own = c.args.self.now in
    let from : to_z w64 (of_z w64 c.args.from) ≡ c.args.from = to_z-of_z c.ranges.from in
    let bound : to_z w64 (of_z w64 c.args.bound) ≡ c.args.bound = to_z-of_z c.ranges.bound in
    rw (from, bound, c.place_of.ensures) (others own.calendar.now own.wanted.items c.args.i (record { from = c.args.from; bound = c.args.bound }) c.requires.0)
