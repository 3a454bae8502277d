-- A search that is cut, searched shard by shard and joined again has the book of the whole.
use Rattle.std.proofs.Common.{◌≡◌, ℕ, suc, zero, ◌^◌, ◌<◌, ◌↔◌, List, [], ◌∷◌, length, get_or, inl, refl, sym, ◌∙◌, subst, arith}
use Rattle.std.specs.Prelude.{All}
use Rattle.std.specs.List.{AllZip}
use Rattle.std.specs.List.Sorted.{IsPermutation}
use Rattle.std.proofs.lemmas.List.{get_or_default}
use Rattle.std.proofs.lemmas.List.Elements.{AllZip-get_or, length_all_zip, Contains-get_or}
use Rattle.std.proofs.lemmas.List.Sorted.{Contains-permutation, IsPermutation-sym}
use Rattle.cr_model.specs.Problems.{ProblemParts}
use Rattle.cr_model.specs.Nodes.{Covers}
use Rattle.cr_model.specs.Books.{IsBook}
use Rattle.cr_model.specs.ProblemFiles.{ProblemFile}
use Rattle.cr_model.specs.Checkpoints.{CanGoOn, CheckFile, IsCheckpoint, nodes_of_jobs}
use Rattle.cr_model.specs.Inputs.{Input, SameCover}
use Rattle.cr_store.specs.Chains.{AreSame}
use Rattle.cr_store.specs.Progress.{Progress}
use Rattle.cr_shard.specs.Deals.{dealt_found, dealt_nodes, as_jobs, shard_text, IsDealt}
use Rattle.cr_shard.specs.Joins.{IsRead, AreRead, IsJoinedOf, NoneOverlap, all_jobs, nodes_of}
use Rattle.cr_shard.proofs.Shards.{nodes_as_jobs, shard_is_checkpoint, shard_covers, covered_once}
use Rattle.cr_shard.proofs.JoinedFacts.{read_many, covered_by_some, joined_covers}

-- what the laws on inputs and checkpoints say
abbrev pub PartsAlone : Type 0
PartsAlone = (text bytes : List ℕ) (p : ProblemParts) (found nodes : List (List ℕ)) (other : List ℕ) (q : ProblemParts) (founds rest : List (List ℕ))
    → length text < 2 ^ 63 → Input text bytes p found nodes → Input text other q founds rest → AreSame bytes p found nodes other q founds rest

abbrev pub BeginAsSuch : Type 0
BeginAsSuch = (text bytes : List ℕ) (p : ProblemParts) (found : List (List ℕ)) (jobs : List (List (List ℕ))) → CheckFile text bytes p found jobs → IsCheckpoint text

abbrev pub OneBook : Type 0
OneBook = (p : ProblemParts) (found nodes book other : List (List ℕ)) → IsBook p found nodes book → IsBook p found nodes other → book ≡ other

-- of equal parts one covers what the other does
moved : (p q : ProblemParts) (found founds nodes rest : List (List ℕ)) (calling : List ℕ) → p ≡ q → found ≡ founds → nodes ≡ rest
    → Covers p found nodes calling → Covers q founds rest calling
moved p q found founds nodes rest calling same are also covers =
    subst (λ (r : ProblemParts). Covers r founds rest calling) same
    (subst (λ (l : List (List ℕ)). Covers p l rest calling) are (subst (λ (l : List (List ℕ)). Covers p found l calling) also covers))

read_body : (bodies : List (List ℕ)) (parts : List Progress) (k : ℕ) (d : Progress) → AreRead bodies parts → k < length parts
    → IsRead (get_or bodies k []) (get_or parts k d)
read_body [] [] k d read inside = absurd (omega (arith, inside))
read_body [] (c ∷ parts) k d read inside = absurd read
read_body (body ∷ bodies) [] k d read inside = absurd read
read_body (body ∷ bodies) (c ∷ parts) zero d read inside = read.0
read_body (body ∷ bodies) (c ∷ parts) (suc k) d read inside = read_body bodies parts k d read.1 (omega (arith, inside))

module _ (alone : PartsAlone) (begins : BeginAsSuch) where
  input_of : (text bytes : List ℕ) (p : ProblemParts) (found : List (List ℕ)) (jobs : List (List (List ℕ))) → CheckFile text bytes p found jobs
      → Input text bytes p found (nodes_of_jobs jobs)
  input_of text bytes p found jobs file = inl (record { begins = begins text bytes p found jobs file; jobs = jobs; file = file; nodes_are = refl })

  module _ (text other : List ℕ) (cover : SameCover text other) (long : length text < 2 ^ 63) (wide : length other < 2 ^ 63)
      (bytes : List ℕ) (p : ProblemParts) (found : List (List ℕ)) (jobs : List (List (List ℕ))) (file : CheckFile text bytes p found jobs)
      (c : Progress) (read : IsRead other c) where
    one : AreSame bytes p found (nodes_of_jobs jobs) cover.bytes cover.p cover.found cover.nodes
    one = alone text bytes p found (nodes_of_jobs jobs) cover.bytes cover.p cover.found cover.nodes long (input_of text bytes p found jobs file) cover.input

    two : AreSame c.bytes c.problem c.found (nodes_of c) cover.bytes cover.p cover.other_found cover.other_nodes
    two = alone other c.bytes c.problem c.found (nodes_of c) cover.bytes cover.p cover.other_found cover.other_nodes wide
        (input_of other c.bytes c.problem c.found c.jobs read) cover.other_input

    same_problem : p ≡ c.problem
    same_problem = one.problem_is ∙ sym two.problem_is

    same_file : bytes ≡ c.bytes
    same_file = one.bytes_are ∙ sym two.bytes_are

    same_covers : (calling : List ℕ) → Covers p found (nodes_of_jobs jobs) calling ↔ Covers c.problem c.found (nodes_of c) calling
    same_covers calling = (
      λ covers. moved cover.p c.problem cover.other_found c.found cover.other_nodes (nodes_of c) calling (sym two.problem_is) (sym two.found_are) (sym two.nodes_are)
          ((cover.covers calling).0 (moved p cover.p found cover.found (nodes_of_jobs jobs) cover.nodes calling one.problem_is one.found_are one.nodes_are covers)),
      λ covers. moved cover.p p cover.found found cover.nodes (nodes_of_jobs jobs) calling (sym one.problem_is) (sym one.found_are) (sym one.nodes_are)
          ((cover.covers calling).1 (moved c.problem cover.p c.found cover.other_found (nodes_of c) cover.other_nodes calling two.problem_is two.found_are two.nodes_are covers)),
    )

  module _ (p : ProblemParts) (bytes : List ℕ) (found : List (List ℕ)) (jobs : List (List (List ℕ))) (into : ℕ) (shards searched bodies : List (List ℕ))
      (parts : List Progress) (q : ProblemParts) (others joined : List ℕ) (file : ProblemFile bytes p) (goes_on : CanGoOn p found jobs) (some : 0 < into)
      (dealt : IsDealt p bytes found jobs into shards) (covers : AllZip SameCover shards searched) (same : IsPermutation searched bodies)
      (short : All (λ text. length text < 2 ^ 63) shards) (few : All (λ text. length text < 2 ^ 63) bodies)
      (read : AreRead bodies parts) (is : IsJoinedOf parts others q joined) where
    -- where the shard of a number stands among the bodies
    module _ (j k : ℕ) (d : Progress) (below : j < into) (inside : k < length parts) (stands : get_or searched j [] ≡ get_or bodies k []) where
      text_of : get_or shards j [] ≡ shard_text p bytes found jobs into j
      text_of = dealt.each j below

      shard_file : CheckFile (get_or shards j []) bytes p (dealt_found j found) (as_jobs (dealt_nodes into j (nodes_of_jobs jobs)))
      shard_file = subst (λ (t : List ℕ). CheckFile t bytes p (dealt_found j found) (as_jobs (dealt_nodes into j (nodes_of_jobs jobs)))) (sym text_of)
          (shard_is_checkpoint p bytes found jobs into j file goes_on)

      cover : SameCover (get_or shards j []) (get_or bodies k [])
      cover = subst (SameCover (get_or shards j [])) stands (AllZip-get_or SameCover shards searched j [] [] covers (omega (arith, below, dealt.many)))

      at_body : length (get_or bodies k []) < 2 ^ 63
      at_body = few k [] (omega (arith, inside, read_many bodies parts read))

      at_shard : length (get_or shards j []) < 2 ^ 63
      at_shard = short j [] (omega (arith, below, dealt.many))

      part_problem : p ≡ q
      part_problem = same_problem (get_or shards j []) (get_or bodies k []) cover at_shard at_body bytes p (dealt_found j found)
          (as_jobs (dealt_nodes into j (nodes_of_jobs jobs))) shard_file (get_or parts k d) (read_body bodies parts k d read inside) ∙ (is.of_one k d inside).1

      part_file : bytes ≡ others
      part_file = same_file (get_or shards j []) (get_or bodies k []) cover at_shard at_body bytes p (dealt_found j found)
          (as_jobs (dealt_nodes into j (nodes_of_jobs jobs))) shard_file (get_or parts k d) (read_body bodies parts k d read inside) ∙ (is.of_one k d inside).0

      part_covers : (calling : List ℕ) → Covers p (dealt_found j found) (dealt_nodes into j (nodes_of_jobs jobs)) calling
          ↔ Covers q (get_or parts k d).found (nodes_of (get_or parts k d)) calling
      part_covers calling =
          let both = same_covers (get_or shards j []) (get_or bodies k []) cover at_shard at_body bytes p (dealt_found j found)
          (as_jobs (dealt_nodes into j (nodes_of_jobs jobs))) shard_file (get_or parts k d) (read_body bodies parts k d read inside) calling in
          let nodes = nodes_as_jobs (dealt_nodes into j (nodes_of_jobs jobs)) in
          let problem = (is.of_one k d inside).1 in (
            λ h. subst (λ (r : ProblemParts). Covers r (get_or parts k d).found (nodes_of (get_or parts k d)) calling) problem
                (both.0 (subst (λ (l : List (List ℕ)). Covers p (dealt_found j found) l calling) (sym nodes) h)),
            λ h. subst (λ (l : List (List ℕ)). Covers p (dealt_found j found) l calling) nodes
                (both.1 (subst (λ (r : ProblemParts). Covers r (get_or parts k d).found (nodes_of (get_or parts k d)) calling) (sym problem) h)),
          )

    -- a body for each shard, and a shard for each body
    body_of : (j : ℕ) → j < into → (k : ℕ) × (k < length parts) × (get_or searched j [] ≡ get_or bodies k [])
    body_of j below =
        let inside : j < length searched = omega (arith, below, dealt.many, length_all_zip SameCover shards searched covers) in
        let held = Contains-permutation searched bodies (get_or searched j []) same (Contains-get_or searched j [] inside) in
        (held.0, omega (arith, held.1, read_many bodies parts read), sym held.2 ∙ get_or_default bodies held.0 (get_or searched j []) [] held.1)

    shard_of : (k : ℕ) → k < length parts → (j : ℕ) × (j < into) × (get_or searched j [] ≡ get_or bodies k [])
    shard_of k inside =
        let within : k < length bodies = omega (arith, inside, read_many bodies parts read) in
        let held = Contains-permutation bodies searched (get_or bodies k []) (IsPermutation-sym searched bodies same) (Contains-get_or bodies k [] within) in
        (held.0, omega (arith, held.1, dealt.many, length_all_zip SameCover shards searched covers), get_or_default searched held.0 [] (get_or bodies k []) held.1 ∙ held.2)

    blank : Progress
    blank = record { bytes = []; problem = p; found = []; jobs = [] }

    pub one_problem : p ≡ q
    one_problem = let at = body_of 0 some in part_problem 0 at.0 blank some at.1 at.2

    one_file : bytes ≡ others
    one_file = let at = body_of 0 some in part_file 0 at.0 blank some at.1 at.2

    pub whole_covers : (calling : List ℕ) → Covers p found (nodes_of_jobs jobs) calling ↔ Covers q is.found (nodes_of_jobs (all_jobs parts)) calling
    whole_covers calling = (
      λ h.
          let once = covered_once p found (nodes_of_jobs jobs) into goes_on.independent calling some h in
          let at = body_of once.0 once.1 in
          (covered_by_some q parts is.found is.same calling).1 (at.0, at.1, λ d. (part_covers once.0 at.0 d once.1 at.1 at.2 calling).0 once.2),
      λ h.
          let one = (covered_by_some q parts is.found is.same calling).0 h in
          let at = shard_of one.0 one.1 in
          shard_covers p found (nodes_of_jobs jobs) into at.0 calling ((part_covers at.0 one.0 blank at.1 one.1 at.2 calling).1 (one.2 blank)),
    )

    -- what is joined covers what the whole covered
    module _ (input : List ℕ) (whole : Input input bytes p found (nodes_of_jobs jobs)) (apart : NoneOverlap q parts) where
      joined_file : CheckFile joined others q is.found (all_jobs parts)
      joined_file =
          let at = body_of 0 some in
          joined_covers bodies parts others q joined (omega (arith, at.1, read_many bodies parts read)) read apart is

      joined_input : Input joined bytes p is.found (nodes_of_jobs (all_jobs parts))
      joined_input = input_of joined bytes p is.found (all_jobs parts)
          (subst (λ (r : ProblemParts). CheckFile joined bytes r is.found (all_jobs parts)) (sym one_problem)
          (subst (λ (b : List ℕ). CheckFile joined b q is.found (all_jobs parts)) (sym one_file) joined_file))

      pub joined_same : SameCover input joined
      joined_same = record {
        bytes = bytes;
        p = p;
        found = found;
        nodes = nodes_of_jobs jobs;
        other_found = is.found;
        other_nodes = nodes_of_jobs (all_jobs parts);
        input = whole;
        other_input = joined_input;
        covers = λ calling. (
          λ h. subst (λ (r : ProblemParts). Covers r is.found (nodes_of_jobs (all_jobs parts)) calling) (sym one_problem) ((whole_covers calling).0 h),
          λ h. (whole_covers calling).1 (subst (λ (r : ProblemParts). Covers r is.found (nodes_of_jobs (all_jobs parts)) calling) one_problem h),
        );
      }

    pub same_book : OneBook → (book other : List (List ℕ)) → IsBook p found (nodes_of_jobs jobs) book → IsBook q is.found (nodes_of_jobs (all_jobs parts)) other → book ≡ other
    same_book unique book other one two = unique q is.found (nodes_of_jobs (all_jobs parts)) book other
        (subst (λ (r : ProblemParts). IsBook r is.found (nodes_of_jobs (all_jobs parts)) book) one_problem (record {
          ascending = one.ascending;
          covered = λ calling. (
            λ held. at_p calling ((whole_covers calling).0 ((one.covered calling).0 held)),
            λ h. (one.covered calling).1 ((whole_covers calling).1 (at_q calling h)),
          );
        })) two
      where
        at_p : (calling : List ℕ) → Covers q is.found (nodes_of_jobs (all_jobs parts)) calling → Covers p is.found (nodes_of_jobs (all_jobs parts)) calling
        at_p calling h = subst (λ (r : ProblemParts). Covers r is.found (nodes_of_jobs (all_jobs parts)) calling) (sym one_problem) h

        at_q : (calling : List ℕ) → Covers p is.found (nodes_of_jobs (all_jobs parts)) calling → Covers q is.found (nodes_of_jobs (all_jobs parts)) calling
        at_q calling h = subst (λ (r : ProblemParts). Covers r is.found (nodes_of_jobs (all_jobs parts)) calling) one_problem h
