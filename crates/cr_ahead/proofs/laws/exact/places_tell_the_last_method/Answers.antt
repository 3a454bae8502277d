use Rattle.std.proofs.Common.{ℕ, ◌/◌, sym, ap, ◌∙◌}
use Rattle.std.proofs.lemmas.Nat.{div-mul-add, mod-mul-add}
use Rattle.cr_ahead.specs.ByMethod.{method_number, method_at}
use Rattle.cr_ahead.proofs.ByMethod.{known_last}
use Rattle.cr_ahead.proofs.laws.exact.places_tell_the_last_method.Goals as goal

pub returns : goal.returns
returns c = record {
  last = λ each place last low. ap method_at (mod-mul-add place each (method_number last) low) ∙ known_last last;
  place = λ each place other last more low less same.
      sym (div-mul-add place each (method_number last) low) ∙ ap (λ (n : ℕ). n / each) same ∙ div-mul-add other each (method_number more) less;
}
