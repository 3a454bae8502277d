-- Shards as blocks in pieces.
use Rattle.std.proofs.Common.{◌≡◌, ℕ, ◌+◌, ◌<◌, ◌≤◌, Bool, true, false, cond, nat_eq, List, [], ◌∷◌, ◌++◌, length, get_or, set, codes, refl, sym, ap, ap₂, ◌∙◌, subst, arith, append-nil, append_assoc, eqb-true, length-append}
use Rattle.std.specs.Global.{Vec}
use Rattle.std.proofs.lemmas.List.{get_or-set_other, length-set}
use Rattle.std.proofs.lemmas.List.Concat.{flat_map-append}
use Rattle.cr_model.specs.Problems.{ProblemParts}
use Rattle.cr_model.specs.Checkpoints.{number_line, node_lines, job_lines, checkpoint_text, nodes_of_jobs}
use Rattle.cr_book.specs.Pieces.{pieces_joined}
use Rattle.cr_store.specs.Blocks.{block, blocks}
use Rattle.cr_store.specs.Written.{front_text, tail_text}
use Rattle.cr_shard.specs.declared.dealer.NodeLines.{NodeLines}
use Rattle.cr_shard.specs.Deals.{dealt_nodes, as_jobs, shard_text, first_shards}
use Rattle.cr_shard.specs.Dealers.{AreLinesOf, HaveLines, job_head}
use Rattle.cr_shard.proofs.Cutting.{one_shard_more}

module _ (p : ProblemParts) where
  -- a checkpoint is what stands before its jobs, and these
  pub whole_text : (bytes : List ℕ) (found : List (List ℕ)) (jobs : List (List (List ℕ))) → checkpoint_text p bytes found jobs ≡ front_text p bytes found ++ tail_text p jobs
  whole_text bytes found jobs =
      let front = front_text p bytes found in
      let many = number_line (codes "jobs") (length jobs) in
      let lines = job_lines p 2 [] jobs in
      ap (λ l. l ++ codes "end\n") (append_assoc front many lines) ∙ append_assoc front (many ++ lines) (codes "end\n")

  -- behind found touches a shard has its nodes' lines
  tail_is : (nodes : List (List ℕ)) → tail_text p (as_jobs nodes) ≡ job_head (length nodes) ++ (node_lines p 2 [] nodes ++ codes "end\n")
  tail_is [] = ap (λ l. l ++ codes "end\n") (append-nil (number_line (codes "jobs") 0))
  tail_is (node ∷ nodes) = by (nat_eq (length (node ∷ nodes)) 0) refl
    where
      by : (b : Bool) → nat_eq (length (node ∷ nodes)) 0 ≡ b → tail_text p ((node ∷ nodes) ∷ [])
          ≡ cond b (number_line (codes "jobs") 0) (number_line (codes "jobs") 1 ++ number_line (codes "job") (length (node ∷ nodes))) ++ (node_lines p 2 [] (node ∷ nodes) ++ codes "end\n")
      by true none = absurd (omega (arith, eqb-true (length (node ∷ nodes)) 0 none))
      by false some =
          let one = number_line (codes "jobs") 1 in
          let many = number_line (codes "job") (length (node ∷ nodes)) in
          let lines = node_lines p 2 [] (node ∷ nodes) in
          ap (λ l. one ++ l ++ codes "end\n") (append-nil (many ++ lines)) ∙ ap (λ l. l ++ codes "end\n") (sym (append_assoc one many lines))
          ∙ append_assoc (one ++ many) lines (codes "end\n")

  -- the block of a shard, in two pieces
  pub pieces_more : (nodes : List (List ℕ)) (lines : NodeLines) (front head text : List ℕ) (pieces more : List (Vec ℕ)) (first second : Vec ℕ) → AreLinesOf p nodes lines
      → head ≡ front ++ job_head lines.nodes → text ≡ lines.text.items ++ codes "end\n" → first.items ≡ number_line (codes "block") (length head + length text) ++ head → second.items ≡ text
      → more ≡ pieces ++ first ∷ [] ++ second ∷ [] → pieces_joined more ≡ pieces_joined pieces ++ block (front ++ tail_text p (as_jobs nodes))
  pieces_more nodes lines front head text pieces more first second are head_is text_is first_is second_is is =
      let joined : pieces_joined more ≡ pieces_joined pieces ++ first.items ++ second.items =
      ap pieces_joined is ∙ flat_map-append (λ (piece : Vec ℕ). piece.items) (pieces ++ first ∷ []) (second ∷ [])
      ∙ ap₂ ◌++◌ (flat_map-append (λ (piece : Vec ℕ). piece.items) pieces (first ∷ []) ∙ ap (λ l. pieces_joined pieces ++ l) (append-nil first.items)) (append-nil second.items) in
      let body : front ++ tail_text p (as_jobs nodes) ≡ head ++ text =
      ap (λ l. front ++ l) (tail_is nodes) ∙ sym (append_assoc front (job_head (length nodes)) (node_lines p 2 [] nodes ++ codes "end\n"))
      ∙ ap₂ (λ n l. front ++ job_head n ++ (l ++ codes "end\n")) (sym are.many) (sym are.text_is) ∙ ap₂ ◌++◌ (sym head_is) (sym text_is) in
      let size : length head + length text ≡ length (front ++ tail_text p (as_jobs nodes)) = sym (ap length body ∙ length-append head text) in
      let number = number_line (codes "block") (length head + length text) in
      joined ∙ ap₂ (λ l m. pieces_joined pieces ++ l ++ m) first_is second_is ∙ append_assoc (pieces_joined pieces) (number ++ head) text
      ∙ ap (λ l. pieces_joined pieces ++ l) (append_assoc number head text ∙ ap₂ (λ n l. number_line (codes "block") n ++ l) size (sym body))

  -- what stands before the jobs of a shard
  shard_is : (bytes : List ℕ) (found : List (List ℕ)) (jobs : List (List (List ℕ))) (b : Bool) → checkpoint_text p bytes (cond b found []) jobs
      ≡ cond b (front_text p bytes found) (front_text p bytes []) ++ tail_text p jobs
  shard_is bytes found jobs true = whole_text bytes found jobs
  shard_is bytes found jobs false = whole_text bytes [] jobs

  module _ (bytes : List ℕ) (before : List NodeLines) where
    -- the first shards were written, and those from a number on have their lines still
    pub record AreWritten (front : List ℕ) (now : List NodeLines) (shard : ℕ) (text : List ℕ) : Type 0 where
      pub many : length now ≡ length before
      pub later : (j : ℕ) (d : NodeLines) → shard ≤ j → get_or now j d ≡ get_or before j d
      pub is : (found : List (List ℕ)) (jobs : List (List (List ℕ))) → front ≡ front_text p bytes found → HaveLines p (nodes_of_jobs jobs) before
          → text ≡ blocks (first_shards p bytes found jobs (length before) shard)

    pub none_written : (front : List ℕ) → AreWritten front before 0 []
    none_written front = record {
      many = refl;
      later = λ j d low. refl;
      is = λ found jobs front_is have. refl;
    }

    pub shard_written : (front bare place : List ℕ) (now : List NodeLines) (shard : ℕ) (text more : List ℕ) (old new : NodeLines) → AreWritten front now shard text → shard < length now
        → old ≡ get_or now shard old → bare ≡ front_text p bytes [] → place ≡ cond (nat_eq shard 0) front bare
        → ((q : ProblemParts) (nodes : List (List ℕ)) → AreLinesOf q nodes old → more ≡ text ++ block (place ++ tail_text q (as_jobs nodes)))
        → AreWritten front (set now shard new) (shard + 1) more
    shard_written front bare place now shard text more old new written inside read bare_is place_is adds = record {
      many = length-set now shard new ∙ written.many;
      later = λ j d low. get_or-set_other now shard j new d (λ same. absurd (omega (arith, same, low))) ∙ written.later j d (omega (arith, low));
      is = λ found jobs front_is have.
          let nodes = nodes_of_jobs jobs in
          let own = dealt_nodes (length before) shard nodes in
          let it : old ≡ get_or before shard old = read ∙ written.later shard old (omega arith) in
          let lines : AreLinesOf p own old = subst (λ (l : NodeLines). AreLinesOf p own l) (sym it) (have shard old (omega (arith, inside, written.many))) in
          let body : shard_text p bytes found jobs (length before) shard ≡ place ++ tail_text p (as_jobs own) =
          shard_is bytes found (as_jobs own) (nat_eq shard 0) ∙ ap (λ l. l ++ tail_text p (as_jobs own)) (ap₂ (cond (nat_eq shard 0)) (sym front_is) (sym bare_is) ∙ sym place_is) in
          adds p own lines ∙ ap (λ l. text ++ block l) (sym body)
          ∙ one_shard_more p bytes found jobs (length before) text shard (written.is found jobs front_is have);
    }
