-- What each stage answers, as a first fault or the lines.
use Rattle.std.proofs.Common.{sym, subst, ◌^◌, ◌<◌, arith}
use Rattle.cr_store.specs.ShapeReads.{shape_parts}
use Rattle.cr_store.specs.Lines.{last_in}
use Rattle.cr_store.specs.Reading.{AreOutlined}
use Rattle.cr_store.proofs.LineCount.{few_lines}
use Rattle.cr_store.proofs.ItemFacts.{outlined}
use Rattle.cr_store.proofs.checkpoint.read_lines.Goals as goal

pub read_items-requires-clause-few : goal.read_items-requires-clause-few
read_items-requires-clause-few c =
    subst (λ o. last_in o < 2 ^ 64) (sym c.in_ok-outline.ensures) (few_lines c.args.bytes.now (shape_parts c.in_ok-shape.shape) (omega arith) c.in_ok-shape.ensures.shape)

pub returns : goal.returns
returns c =
    let shape = shape_parts c.in_ok-shape.shape in
    let p = c.in_ok-problem.problem in
    let items = c.in_ok-items.items in
    record {
      shape = shape;
      lines = record { problem = record { shape_is = c.in_ok-shape.ensures.shape; problem = c.in_ok-problem.ensures }; items = c.in_ok-items.ensures };
      file_is = c.in_ok-problem_bytes.ensures.items_if_clones_equal (λ x y same. same);
      outline_is = c.in_ok-outline.ensures;
      outlined = subst (λ o. AreOutlined p o items.found.items items.nodes.items) (sym c.in_ok-outline.ensures)
          (outlined p shape items.found.items items.nodes.items c.in_ok-items.ensures (few_lines c.args.bytes.now shape (omega arith) c.in_ok-shape.ensures.shape));
    }
