use Rattle.std.proofs.Common.{ℕ, ◌<◌, length, Option, sym, ap₂, ◌∙◌, subst, arith}
use Rattle.std.specs.Cmp.Lexicographic.{slice_cmp}
use Rattle.std.specs.Ordering.{nat_cmp}
use Rattle.std.proofs.lemmas.Bool.{false≢true}
use Rattle.cr_node.specs.Overlaps.{item_at, items_of, overlaps, IsLeastBelow, TellsLeast}
use Rattle.cr_node.proofs.Least.{item_read, keeps, takes, stays}
use Rattle.cr_node.proofs.independence.lesser.Goals as goal

pub returns-then-not-overlaps : goal.returns-then-not-overlaps
returns-then-not-overlaps c =
    let words = c.args.words.now in
    let all = items_of words in
    let apart = ap₂ overlaps (item_read words c.args.earlier _ (omega (arith, c.requires.inside, c.requires.before))) (item_read words c.args.later _ c.requires.inside)
    ∙ sym c.overlaps.ensures ∙ c.if-not-overlaps.true in
    keeps all (item_at all c.args.later) c.args.earlier c.args.least c.requires.so_far apart

pub returns-then-is_less : goal.returns-then-is_less
returns-then-is_less c =
    let words = c.args.words.now in
    let all = items_of words in
    let item = item_at all c.args.later in
    let first : IsLeastBelow all item c.args.earlier c.in-Some.best = subst (λ (o : Option ℕ). TellsLeast all item c.args.earlier o) c.in-Some.is c.requires.so_far in
    let inside : c.args.earlier < length words = omega (arith, c.requires.inside, c.requires.before) in
    let within : c.in-Some.best < length words = omega (arith, first.below) in
    let meets = ap₂ overlaps (item_read words c.args.earlier _ inside) (item_read words c.args.later _ c.requires.inside)
    ∙ sym c.overlaps.ensures ∙ c.if-not-overlaps.false in
    let less = ap₂ (λ a b. slice_cmp nat_cmp a.word b.word) (item_read words c.args.earlier _ inside) (item_read words c.in-Some.best _ within)
    ∙ c.is_less.ensures.0 c.if-is_less.true in
    takes all item c.args.earlier c.in-Some.best first meets less

pub returns-else-is_less : goal.returns-else-is_less
returns-else-is_less c =
    let words = c.args.words.now in
    let all = items_of words in
    let item = item_at all c.args.later in
    let first : IsLeastBelow all item c.args.earlier c.in-Some.best = subst (λ (o : Option ℕ). TellsLeast all item c.args.earlier o) c.in-Some.is c.requires.so_far in
    let inside : c.args.earlier < length words = omega (arith, c.requires.inside, c.requires.before) in
    let within : c.in-Some.best < length words = omega (arith, first.below) in
    let read = ap₂ (λ a b. slice_cmp nat_cmp a.word b.word) (item_read words c.args.earlier _ inside) (item_read words c.in-Some.best _ within) in
    stays all item c.args.earlier c.in-Some.best first (λ less. false≢true (sym c.if-is_less.false ∙ c.is_less.ensures.1 (sym read ∙ less)))
