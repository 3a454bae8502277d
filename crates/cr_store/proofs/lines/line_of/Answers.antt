-- The line of a found touch comes after the line `found`; the first job's line comes after these and the line `jobs`.
use Rattle.std.proofs.Common.{◌+◌, ◌-◌, get_or, sym, ap, ◌∙◌, arith}
use Rattle.cr_store.specs.Lines.{node_numbers}
use Rattle.cr_store.specs.Reading.{outline_parts}
use Rattle.cr_store.proofs.LineNumbers.{of_touch, of_node, after_found}
use Rattle.cr_store.proofs.lines.line_of.Goals as goal

pub overflow_add-result : goal.overflow_add-result
overflow_add-result c = omega (arith, c.requires.few, after_found (outline_parts c.args.outline.now))

pub overflow_add-result-then-item-outline : goal.overflow_add-result-then-item-outline
overflow_add-result-then-item-outline c = omega (arith, c.requires.few, after_found (outline_parts c.args.outline.now))

pub returns-then-item-outline : goal.returns-then-item-outline
returns-then-item-outline c = sym (of_touch (outline_parts c.args.outline.now) c.args.item (omega arith))

pub overflow_add-first : goal.overflow_add-first
overflow_add-first c = omega (arith, c.requires.few, after_found (outline_parts c.args.outline.now))

pub overflow_add-first-2 : goal.overflow_add-first-2
overflow_add-first-2 c = omega (arith, c.requires.few, after_found (outline_parts c.args.outline.now))

pub returns : goal.returns
returns c =
    let outline = outline_parts c.args.outline.now in
    c.line_of_node.ensures ∙ ap (λ ss. get_or (node_numbers (outline.found_at + outline.touches + 2) ss) (c.args.item - outline.touches) 0) c.deref.ensures.value
    ∙ sym (of_node outline c.args.item (omega arith))
