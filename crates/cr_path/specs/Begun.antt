-- The leads of a problem that are rung, as they are seen.
use Rattle.std.specs.Prelude.{length}
use Rattle.cr_model.specs.Problems.{ProblemParts}
use Rattle.cr_path.specs.Rung.{RungParts}
use Rattle.cr_path.specs.declared.numbers.rung_leads.LeadNumbers.{LeadNumbers}

abbrev pub numbers_in : ProblemParts → LeadNumbers → RungParts
numbers_in p made = record {
  steps = length p.leads;
  heads = made.heads.rows.items;
  rows = made.rows.rows;
  records = made.records.items;
  numbers = made.numbers.items;
}
