use Rattle.std.proofs.Common.{◌≡◌, ◌++◌, map, take}
use Rattle.cr_node.specs.Overlaps.{of_found, of_node, items_of}
use Rattle.cr_node.proofs.words.words_of.Given as goal

abbrev pub invariant-loop-calling : goal.invariant-loop-calling
invariant-loop-calling l = items_of l.words.items ≡ map (of_found l.problem) (take l.calling-index l.found)

abbrev pub invariant-loop-node : goal.invariant-loop-node
invariant-loop-node l = items_of l.words.items ≡ map (of_found l.problem) l.found ++ map of_node (take l.node-index l.nodes)
