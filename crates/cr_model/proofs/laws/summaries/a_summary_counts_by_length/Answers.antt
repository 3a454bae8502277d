use Rattle.std.proofs.Common.{refl}
use Rattle.std.specs.Fmt.{digits}
use Rattle.cr_model.proofs.laws.summaries.a_summary_counts_by_length.Goals as goal

pub returns : goal.returns
unfolding digits
returns c = record { some = refl; none = refl }
