use Rattle.std.proofs.Common.{◌++◌}
use Rattle.cr_model.specs.Dead.{parts_of}
use Rattle.cr_model.proofs.Below.{words_length}
use Rattle.cr_ahead.proofs.laws.home.a_touch_is_as_long_as_its_parts.Goals as goal

pub returns : goal.returns
returns c = λ p node way. words_length p 0 (parts_of p) (node ++ way)
