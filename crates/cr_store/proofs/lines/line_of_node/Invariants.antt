use Rattle.std.proofs.Common.{get_or, drop}
use Rattle.cr_store.specs.Lines.{node_numbers}
use Rattle.cr_store.proofs.LineNumbers.{IsAt}
use Rattle.cr_store.proofs.lines.line_of_node.Given as goal

-- the node stands among the jobs that are left, and its number is told by them
abbrev pub invariant-loop-index : goal.invariant-loop-index
invariant-loop-index l = IsAt (drop l.index l.sizes) l.line l.left (get_or (node_numbers l.first l.sizes) l.node 0)
