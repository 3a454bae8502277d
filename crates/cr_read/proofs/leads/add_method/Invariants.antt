use Rattle.std.proofs.Common.{◌≡◌, ◌-◌, ◌++◌}
use Rattle.std.specs.Prelude.{flat_map}
use Rattle.std.specs.List.{range_with_len}
use Rattle.cr_model.specs.ProblemFiles.{called_lead, call_with, leads_of_method}
use Rattle.cr_read.proofs.leads.add_method.Given as goal

abbrev pub invariant-loop-mark : goal.invariant-loop-mark
invariant-loop-mark l =
    l.leads.items ++ flat_map (λ mark. called_lead l.file l.spellings l.method mark (call_with l.file l.method mark)) (range_with_len l.mark (123 - l.mark)) ≡ l.fn.leads.items ++ leads_of_method l.file l.spellings l.method
