use Rattle.cr_path.proofs.Minimus.{numbered}
use Rattle.cr_path.proofs.laws.plain_bob_minimus_has_its_numbers.Goals as goal

pub returns : goal.returns
returns c = numbered (record {
  level = c.levels_list_rows.ensures.level;
  listed = c.no_fewer_leads_lead_to_rounds.ensures.listed;
  greatest = c.the_depth_is_greatest.ensures.greatest;
})
