-- A text has no more lines than bytes.
use Rattle.std.proofs.Common.{◌≡◌, ℕ, ◌+◌, ◌^◌, ◌<◌, ◌≤◌, Bool, true, false, cond, nat_eq, List, [], ◌∷◌, ◌++◌, length, map, flat_map, codes, decimal, ap, ◌∙◌, arith, length-append}
use Rattle.std.proofs.lemmas.List.Sums.{count_by-le-length}
use Rattle.cr_model.specs.Checkpoints.{number_line}
use Rattle.cr_store.specs.Shapes.{FoundParts, NodeParts, ShapeParts, found_text, node_text, job_text, HasShape, found_line}
use Rattle.cr_store.specs.Lines.{last_after, last_line}

long_count : (name : List ℕ) (number : ℕ) → 1 ≤ length (number_line name number)
long_count name number = simp length-append (omega arith)

long_found : (found : List FoundParts) → length found ≤ length (flat_map found_text found)
long_found [] = omega arith
long_found (line ∷ found) = omega (arith, one line, length-append (found_text line) (flat_map found_text found), long_found found)
  where
    one : (l : FoundParts) → 1 ≤ length (found_text l)
    one l = simp length-append (omega arith)

module _ (version : ℕ) where
  long_node : (node : NodeParts) → 1 ≤ length (node_text version node)
  long_node node = by (nat_eq version 1)
    where
      by : (b : Bool) → 1 ≤ length (cond b (node.steps ++ codes "\n") (decimal node.shared ++ codes " " ++ node.steps ++ codes "\n"))
      by true = simp length-append (omega arith)
      by false = simp length-append (omega arith)

  long_nodes : (nodes : List NodeParts) → length nodes ≤ length (flat_map (node_text version) nodes)
  long_nodes [] = omega arith
  long_nodes (node ∷ nodes) = omega (arith, long_node node, length-append (node_text version node) (flat_map (node_text version) nodes), long_nodes nodes)

  long_jobs : (line : ℕ) (jobs : List (List NodeParts)) → last_after line (map length jobs) ≤ line + length (flat_map (job_text version) jobs)
  long_jobs line [] = omega arith
  long_jobs line (job ∷ jobs) =
      omega (
        arith,
        long_jobs (line + 1 + length job) jobs,
        length-append (job_text version job) (flat_map (job_text version) jobs),
        length-append (number_line (codes "job") (length job)) (flat_map (node_text version) job),
        long_count (codes "job") (length job),
        long_nodes job,
      )

long_parts : (a b c d e f g h i : List ℕ)
    → length (a ++ b ++ c ++ d ++ e ++ f ++ g ++ h ++ i) ≡ length a + length b + length c + length d + length e + length f + length g + length h + length i
long_parts a b c d e f g h i = simp length-append

-- the last line's number fits
pub few_lines : (text : List ℕ) (s : ShapeParts) → length text < 2 ^ 63 → HasShape text s → last_line s < 2 ^ 64
few_lines text s few has =
    let whole = ap length has.is ∙ long_parts (number_line (codes "ringsearch checkpoint") s.version) (number_line (codes "problem") (length s.problem)) s.problem (codes "\n")
    (number_line (codes "found") (length s.found)) (flat_map found_text s.found) (number_line (codes "jobs") (length s.jobs)) (flat_map (job_text s.version) s.jobs) (codes "end\n") in
    omega (arith, whole, few, count_by-le-length (nat_eq 10) s.problem, long_found s.found, long_jobs s.version (found_line s + length s.found + 2) s.jobs)
