use Rattle.std.proofs.Common.{length}
use Rattle.statement.specs.Rows.{Row}
use Rattle.lookup.specs.Lookup.{span_in}
use Rattle.export_tables.proofs.by_row.hooflift_args_of.Given as goal

abbrev pub ghost-put_part_of : goal.ghost-put_part_of
ghost-put_part_of a = λ (w : Row). span_in (length a.file.now) w.arg_start w.arg_end
