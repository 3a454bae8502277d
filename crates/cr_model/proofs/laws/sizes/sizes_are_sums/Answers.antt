use Rattle.std.proofs.Common.{refl}
use Rattle.std.proofs.lemmas.List.Sums.{sum_by-cons, sum_by-append}
use Rattle.cr_model.specs.Sizes.{size}
use Rattle.cr_model.proofs.Sizing.{size_by_children}
use Rattle.cr_model.proofs.laws.sizes.sizes_are_sums.Goals as goal

pub returns : goal.returns
returns c = record {
  node = λ p most node sound. size_by_children p most sound node;
  none = λ p most. refl;
  first = λ p most node nodes. sum_by-cons (size p most) node nodes;
  joined = λ p most nodes more. sum_by-append (size p most) nodes more;
}
