use Rattle.cr_model.proofs.Counting.{covers_by_count, reached_above}
use Rattle.cr_model.proofs.laws.nodes.covers_are_counted.Goals as goal

pub returns : goal.returns
returns c = λ p found nodes calling. (λ covers. (covers.kept, reached_above p found nodes calling covers), λ h. covers_by_count p found nodes calling h.0 h.1)
