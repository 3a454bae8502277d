use Rattle.std.proofs.Common.{ℕ, ◌+◌, ◌*◌, ◌||◌, nat_lt, [], ◌∷◌, map, refl, ap}
use Rattle.cr_model.specs.Queries.{extent}
use Rattle.cr_model.specs.Examples.{asks}
use Rattle.cr_path.proofs.Minimus.{one_away}
use Rattle.cr_path.proofs.laws.leads_die_at_the_edges.Goals as goal

pub returns : goal.returns
unfolding extent
returns c = record {
  long = ap (λ (leads : ℕ). map (λ rung. nat_lt 12 (rung + 8) || nat_lt 24 (rung + 8 + 8 * leads)) (4 ∷ 5 ∷ []))
      (one_away (record {
        level = c.levels_list_rows.ensures.level;
        listed = c.no_fewer_leads_lead_to_rounds.ensures.listed;
        greatest = c.the_depth_is_greatest.ensures.greatest;
      }) (asks 1 24 2));
  round_last = refl;
  round_before = refl;
  away = refl;
  twice = refl;
}
