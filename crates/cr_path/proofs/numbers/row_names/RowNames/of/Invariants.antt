use Rattle.std.proofs.Common.{length}
use Rattle.cr_path.specs.Representatives.{name_of, AreListed}
use Rattle.cr_path.proofs.numbers.row_names.RowNames.of.Given as goal

abbrev pub invariant-loop-lead : goal.invariant-loop-lead
invariant-loop-lead l =
    AreListed l.made.numbers.items (name_of l.cover l.representatives.places.items) (length l.representatives.rows.items) l.made.records.items l.leads.items l.names.items l.lead-index
