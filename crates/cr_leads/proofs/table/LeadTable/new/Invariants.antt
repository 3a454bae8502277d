use Rattle.std.proofs.Common.{◌≡◌, [], ◌∷◌, map}
use Rattle.std.specs.List.{range_with_len}
use Rattle.cr_model.specs.Callings.{rows_of}
use Rattle.cr_leads.specs.Spans.{leads_in, AreInside}
use Rattle.cr_leads.proofs.table.LeadTable.new.Given as goal

abbrev pub invariant-loop-lead : goal.invariant-loop-lead
invariant-loop-lead l = record {
  within : AreInside l.rows.items l.spans.items;
  leads : leads_in l.rows.items l.spans.items ≡ map (λ step. rows_of l.problem (step ∷ [])) (range_with_len 0 l.lead-index);
}
