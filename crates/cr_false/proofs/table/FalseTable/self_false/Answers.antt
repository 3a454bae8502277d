use Rattle.std.proofs.Common.{◌≡◌, ℕ, ◌∙◌, get_or, ap}
use Rattle.cr_false.specs.Sets.{FalseParts}
use Rattle.cr_false.proofs.Tables.{repeats}
use Rattle.cr_false.proofs.table.FalseTable.self_false.Goals as goal

pub returns : goal.returns
returns c = λ table is.
    let answer = c.index.result.now in
    let place : c.from.result ≡ c.args.a = c.from.ensures in
    let at = c.index.ensures ∙ ap (λ (t : FalseParts). get_or t.twice c.from.result answer) c.self.view_is ∙ ap (λ (k : ℕ). get_or c.args.self.now.twice k answer) place in
    repeats table c.args.self.now c.args.a answer is c.requires at
