use Rattle.std.proofs.Common.{◌≡◌, ◌-◌, ◌++◌, length}
use Rattle.std.specs.Prelude.{flat_map}
use Rattle.std.specs.List.{range_with_len}
use Rattle.cr_model.specs.ProblemFiles.{leads_of_method, leads_of}
use Rattle.cr_read.proofs.leads.leads_of.Given as goal

abbrev pub invariant-loop-method : goal.invariant-loop-method
invariant-loop-method l =
    l.leads.items ++ flat_map (leads_of_method l.file l.spellings) (range_with_len l.method (length l.file.methods - l.method)) ≡ leads_of l.file l.spellings
