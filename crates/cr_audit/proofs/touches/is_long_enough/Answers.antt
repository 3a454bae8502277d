use Rattle.std.proofs.Common.{◌≡◌, ℕ, ◌*◌, length, pos, int_lt, true, ap, ap₂, sym, ◌∙◌, rules}
use Rattle.std.proofs.lemmas.Bool.{not-false}
use Rattle.cr_model.specs.Callings.{length_of}
use Rattle.cr_model.specs.OneTurn.{touch_of}
use Rattle.cr_model.specs.Problems.{QueryParts}
use Rattle.cr_audit.proofs.Kept.{too_short, length_in_parts}
use Rattle.cr_audit.proofs.RowPlaces.{counted}
use Rattle.cr_audit.proofs.touches.is_long_enough.Goals as goal

pub returns : goal.returns
returns c = λ short kept.
    let p = c.args.problem.now in
    let node = c.args.path.now.node.items in
    let few : c.len.result ≡ length c.args.path.now.rows.items = search rules in
    let long : c.from.result ≡ length_of p node = c.from.ensures ∙ few ∙ ap length c.requires.rows ∙ counted p node in
    let whole : c.in_parts-length.result ≡ length_of p (touch_of p node) = c.in_parts-length.ensures.is ∙ ap₂ (λ (m n : ℕ). m * n) c.parts.ensures.is long ∙ length_in_parts p node in
    let less : int_lt (pos c.in_parts-length.result) p.query.min ≡ true =
    ap (λ (q : QueryParts). int_lt (pos c.in_parts-length.result) q.min) (sym c.query.ensures.is) ∙ sym c.is_too_short.ensures ∙ not-false c.is_too_short.result short in
    too_short p.query.min c.in_parts-length.result (length_of p (touch_of p node)) less whole kept.wanted.meets.long
