use Rattle.std.proofs.Common.{◌≡◌, true, false, [], ◌∷◌, Some, refl, sym, ◌∙◌}
use Rattle.std.proofs.lemmas.Bool.{false≢true}
use Rattle.cr_model.specs.Queries.{extent}
use Rattle.cr_model.specs.Decided.{is_wanted, is_kept}
use Rattle.cr_model.specs.Examples.{pair, asks, com_from}
use Rattle.cr_model.proofs.Deciding.{is_wanted_decided}
use Rattle.cr_model.proofs.KeptTest.{is_kept_decided}
use Rattle.cr_model.proofs.laws.examples.the_least_rotation_is_kept.Goals as goal

wanted : is_wanted (pair (asks 24 24 1)) (0 ∷ 2 ∷ 0 ∷ []) ≡ true
unfolding extent
wanted = refl

not_kept : is_kept (pair (asks 24 24 1)) (0 ∷ 2 ∷ 0 ∷ []) ≡ false
unfolding extent
not_kept = refl

kept : is_kept (pair (asks 24 24 1)) (0 ∷ 0 ∷ 2 ∷ []) ≡ true
unfolding extent
kept = refl

kept_under_a_limit : is_kept (pair (record (asks 24 24 1) { «com» = Some (com_from 2 2) })) (0 ∷ 2 ∷ 0 ∷ []) ≡ true
unfolding extent
kept_under_a_limit = refl

pub returns : goal.returns
returns c = record {
  rotation = (0 ∷ 2 ∷ [], 0 ∷ [], refl, refl);
  wanted = (is_wanted_decided (pair (asks 24 24 1)) (0 ∷ 2 ∷ 0 ∷ [])).0 wanted;
  not_kept = λ h. false≢true (sym not_kept ∙ (is_kept_decided (pair (asks 24 24 1)) (0 ∷ 2 ∷ 0 ∷ [])).1 h);
  kept = (is_kept_decided (pair (asks 24 24 1)) (0 ∷ 0 ∷ 2 ∷ [])).0 kept;
  kept_under_a_limit = (is_kept_decided (pair (record (asks 24 24 1) { «com» = Some (com_from 2 2) })) (0 ∷ 2 ∷ 0 ∷ [])).0 kept_under_a_limit;
}
