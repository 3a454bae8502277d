-- The table answers right.
use Rattle.std.proofs.Common.{◌≡◌, None, arith}
use Rattle.std.proofs.lemmas.Grind.{common_steps}
use Rattle.cr_ahead.specs.Tables.{answer_at}
use Rattle.cr_ahead.proofs.Filling.{answered}
use Rattle.cr_ahead.proofs.ahead.Ahead.at.Goals as goal

pub returns-then-length-greatest-clause-of_moves : goal.returns-then-length-greatest-clause-of_moves
returns-then-length-greatest-clause-of_moves c = λ m least greatest ahead.
    let is : None ≡ answer_at c.args.self.now c.args.place c.args.length = grind (arith, common_steps) in
    answered m least greatest c.args.place c.args.length c.args.self.now None is c.requires ahead

pub returns-clause-of_moves : goal.returns-clause-of_moves
returns-clause-of_moves c = λ m least greatest ahead.
    let is : c.told_by.result ≡ answer_at c.args.self.now c.args.place c.args.length = grind (arith, common_steps) in
    answered m least greatest c.args.place c.args.length c.args.self.now c.told_by.result is c.requires ahead
