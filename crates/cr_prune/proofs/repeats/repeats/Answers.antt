use Rattle.std.proofs.Common.{◌≡◌, ◌+◌, ◌-◌, ◌<◌, ◌∙◌, ℕ, Bool, true, false, not, ◌&&◌, List, length, get_or, take, drop, sym, ap, arith, nat_eq}
use Rattle.std.specs.Cmp.Lexicographic.{pointwise}
use Rattle.std.specs.List.{list_any}
use Rattle.std.proofs.lemmas.List.{take_rest}
use Rattle.cr_model.specs.Decided.{rows_differ}
use Rattle.cr_prune.proofs.Twice.{differ_on}
use Rattle.cr_prune.proofs.repeats.repeats.Goals as goal

-- what the test of the later rows says of the rows from this one on
told : (rows : List (List ℕ)) (index : ℕ) (row : List ℕ) (b found : Bool) → index < length rows → row ≡ get_or rows index row →
    found ≡ list_any (λ other. pointwise nat_eq other row) (take (length rows - (index + 1)) (drop (index + 1) rows)) → found ≡ b →
    rows_differ (drop index rows) ≡ (not b && rows_differ (drop (index + 1) rows))
told rows index row b found inside is value e =
    differ_on rows index row inside is
    ∙ ap (λ f. not f && rows_differ (drop (index + 1) rows)) (ap (list_any (λ other. pointwise nat_eq other row)) (sym (take_rest rows (index + 1))) ∙ sym value ∙ e)

pub returns-then-contains : goal.returns-then-contains
returns-then-contains c =
    let inside : c.loop-index.index < length c.args.rows.now = omega (arith, c.loop-index-test.true) in
    ap not (sym (c.loop-index.invariant ∙ told c.args.rows.now c.loop-index.index c.index-rows-index.result true c.contains.result inside c.index-rows-index.is c.contains.ensures.value c.if-contains.true))

pub loop-index-preserved : goal.loop-index-preserved
loop-index-preserved c =
    let inside : c.loop-index.index < length c.args.rows.now = omega (arith, c.loop-index-test.true) in
    c.loop-index.invariant ∙ told c.args.rows.now c.loop-index.index c.index-rows-index.result false c.contains.result inside c.index-rows-index.is c.contains.ensures.value c.if-contains.false
