use Rattle.std.proofs.Common.{◌≡◌, true, not, [], ◌∷◌, map, refl}
use Rattle.std.specs.List.{list_all}
use Rattle.std.proofs.lemmas.Bool.Decides.{Decides-not}
use Rattle.cr_model.specs.Queries.{extent, cap, Meets}
use Rattle.cr_model.specs.Decided.{meets}
use Rattle.cr_model.specs.Examples.{pair, asks, exact, near_misses}
use Rattle.cr_model.proofs.Deciding.{all_decided, meets_decided}
use Rattle.cr_model.proofs.laws.examples.the_query_has_its_edges.Goals as goal

met : meets (pair exact) (0 ∷ 0 ∷ 2 ∷ []) ≡ true
unfolding extent
met = refl

missed : list_all (λ query. not (meets (pair query) (0 ∷ 0 ∷ 2 ∷ []))) near_misses ≡ true
unfolding extent
missed = refl

to_the_extent : map (λ high. cap (pair (asks 1 high 1))) (23 ∷ 24 ∷ 25 ∷ []) ≡ 23 ∷ 24 ∷ 24 ∷ []
unfolding extent
to_the_extent = refl

pub returns : goal.returns
returns c = record {
  met = (meets_decided (pair exact) (0 ∷ 0 ∷ 2 ∷ [])).0 met;
  missed = (all_decided (λ query. not (meets (pair query) (0 ∷ 0 ∷ 2 ∷ []))) (λ query. Meets (pair query) (0 ∷ 0 ∷ 2 ∷ []) → ⊥)
      (λ query. Decides-not (meets (pair query) (0 ∷ 0 ∷ 2 ∷ [])) (meets_decided (pair query) (0 ∷ 0 ∷ 2 ∷ []))) near_misses).0 missed;
  to_the_extent = to_the_extent;
}
