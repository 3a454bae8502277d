use Rattle.std.proofs.Common.{◌≡◌, ◌+◌, ◌<◌, length, get_or, ap, ◌∙◌, rules, arith}
use Rattle.std.proofs.lemmas.List.{get_or_read}
use Rattle.cr_query.specs.Fronts.{with_number, counted_on}
use Rattle.cr_query.proofs.Stacks.{is_written}
use Rattle.cr_query.proofs.fronts.Fronts.count.Goals as goal

pub returns : goal.returns
returns c =
    let numbers = c.self.inside.numbers.items in
    let here : c.args.front < length numbers = omega (arith, c.self.invariant, c.requires.room) in
    let read : c.index.result.now ≡ get_or numbers c.args.front 0 = get_or_read numbers c.args.front c.index.result.now here (search rules) 0 in
    is_written (c.args.front + 1) (c.index.result.now + c.args.more) numbers (omega (arith, c.self.invariant, c.requires.room))
    ∙ ap (λ n. with_number (c.args.front + 1) (n + c.args.more) numbers) read
    ∙ ap (counted_on c.args.front c.args.more) c.self.view_is
