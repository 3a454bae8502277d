use Rattle.std.proofs.Common.{◌≡◌, ◌+◌, ◌<◌, length, get_or, ap, ◌∙◌, arith}
use Rattle.std.proofs.lemmas.List.FromFn.{get_or-map-range_with_len, length-map-range_with_len}
use Rattle.cr_query.specs.declared.kinds.Kind.{Kind}
use Rattle.cr_query.specs.Kinds.{kind_of}
use Rattle.cr_query.proofs.nodes.kind_at.Goals as goal

pub returns : goal.returns
returns c = λ p is.
    let none : Kind = record { method = 0; mark = 0; letter = 0; length = 0 } in
    let long : length c.args.kinds.now ≡ length p.leads = ap length is ∙ length-map-range_with_len (kind_of p) 0 (length p.leads) in
    let inside : c.args.step < length p.leads = omega (arith, c.requires) in
    let at : 0 + c.args.step ≡ c.args.step = omega arith in
    let same : c.from.result ≡ c.args.step = omega (arith, c.from.ensures) in
    ap (λ i. get_or c.args.kinds.now i none) same
    ∙ ap (λ kinds. get_or kinds c.args.step none) is
    ∙ get_or-map-range_with_len (kind_of p) 0 (length p.leads) c.args.step c.args.step none inside at
