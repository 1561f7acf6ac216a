use Rattle.std.proofs.Common.{◌≡◌, to_z, of_z, w64, to_z-of_z}
use Rattle.cal_doors.specs.Runs.{runs_in}
use Rattle.cal_doors.proofs.Stated.{ends_there}
use Rattle.cal_doors.proofs.between.table_end.Goals as goal

pub returns-clause-end : goal.returns-clause-end
returns-clause-end c =
    let last : to_z w64 (of_z w64 c.last_of_all.result) ≡ c.last_of_all.result = to_z-of_z {w = w64} (record { sfits = c.last_of_all.type_inv }) in
    rw last (ends_there (runs_in c.args.runs.now) c.last_of_all.result (c.reaches_tables_end.ensures.yes c.if-not-reaches_tables_end.false) c.last_of_all.ensures)
