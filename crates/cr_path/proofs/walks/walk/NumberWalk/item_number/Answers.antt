use Rattle.std.proofs.Common.{◌∙◌, get_or, ap}
use Rattle.cr_query.specs.Meters.{item_numbers}
use Rattle.cr_path.specs.Walks.{WalkParts}
use Rattle.cr_path.proofs.walks.walk.NumberWalk.item_number.Goals as goal

pub returns : goal.returns
returns g c = c.item_number.ensures ∙ ap (λ (w : WalkParts). get_or (item_numbers w.problem w.node) c.args.item 0) c.self.view_is
