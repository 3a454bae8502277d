-- Shards of one search: each is a checkpoint, and they cover together what the search covers, each calling once.
use Rattle.std.proofs.Common.{◌≡◌, ◌≢◌, ℕ, ◌+◌, ◌%◌, ◌<◌, Bool, true, false, cond, nat_eq, List, [], ◌∷◌, length, get_or, inl, inr, refl, sym, ap, ap₂, ◌∙◌, subst, arith, append-nil}
use Rattle.std.specs.Prelude.{Contains, All}
use Rattle.std.specs.List.Sorted.{IsStrictlySortedBy}
use Rattle.std.proofs.lemmas.Bool.{true≢false, eqb-true, cases_eq}
use Rattle.std.proofs.lemmas.Nat.{mod_below}
use Rattle.std.proofs.lemmas.List.{get_or_default}
use Rattle.std.proofs.lemmas.List.Elements.{All-nil, All-cons}
use Rattle.cr_model.specs.Problems.{ProblemParts}
use Rattle.cr_model.specs.Touches.{Kept}
use Rattle.cr_model.specs.Nodes.{part_of, is_prefix, is_above, IsValid, IsAbove, Covers, Independent}
use Rattle.cr_model.specs.Books.{book_order}
use Rattle.cr_model.specs.Checkpoints.{CanGoOn, CheckFile, nodes_of_jobs}
use Rattle.cr_model.specs.ProblemFiles.{ProblemFile}
use Rattle.cr_model.proofs.InOrder.{none_held}
use Rattle.cr_model.proofs.Prefixes.{one_begins}
use Rattle.cr_shard.specs.Deals.{dealt_found, dealt_nodes, as_jobs, shard_text}
use Rattle.cr_shard.proofs.Dealing.{dealt_stands, stands_dealt, dealt_all, dealt_apart}
use Rattle.cr_shard.proofs.Apart.{alike, nodes_distinct, none_above, independent_from, above_none}

-- the nodes of one job are its nodes
pub nodes_as_jobs : (nodes : List (List ℕ)) → nodes_of_jobs (as_jobs nodes) ≡ nodes
nodes_as_jobs [] = refl
nodes_as_jobs (node ∷ nodes) = append-nil (node ∷ nodes)

filled : (nodes : List (List ℕ)) → All (λ job. 0 < length job) (as_jobs nodes)
filled [] = All-nil (λ job. 0 < length job)
filled (node ∷ nodes) = All-cons (λ job. 0 < length job) (node ∷ nodes) [] (omega arith) (All-nil (λ job. 0 < length job))

none_in_order : (p : ProblemParts) → IsStrictlySortedBy (book_order p) []
unfolding IsStrictlySortedBy
none_in_order p = tt

-- some of what was found
found_all : (P : List ℕ → Type 0) (t : Bool) (found : List (List ℕ)) → All P found → All P (cond t found [])
found_all P true found all = all
found_all P false found all = All-nil P

found_ascending : (p : ProblemParts) (t : Bool) (found : List (List ℕ)) → IsStrictlySortedBy (book_order p) found
    → IsStrictlySortedBy (book_order p) (cond t found [])
found_ascending p true found up = up
found_ascending p false found up = none_in_order p

found_held : (t : Bool) (found : List (List ℕ)) (touch : List ℕ) → Contains (cond t found []) touch → Contains found touch
found_held true found touch held = held
found_held false found touch held = absurd (none_held touch held)

fewer_above : (p : ProblemParts) (t : Bool) (found nodes : List (List ℕ)) → Independent p found nodes → Independent p (cond t found []) nodes
fewer_above p true found nodes independent = independent
fewer_above p false found nodes independent = record {
  nodes_apart = independent.nodes_apart;
  found_apart = λ i j inside within. absurd (omega (arith, within));
}

module _ (p : ProblemParts) (found nodes : List (List ℕ)) (into : ℕ) where
  shard_independent : (shard : ℕ) → Independent p found nodes → Independent p (dealt_found shard found) (dealt_nodes into shard nodes)
  shard_independent shard independent =
      fewer_above p (nat_eq shard 0) found (dealt_nodes into shard nodes)
      (independent_from p found (dealt_nodes into shard nodes)
      (dealt_apart alike into shard nodes 0 (nodes_distinct p found nodes independent))
      (dealt_all (λ node. (j : ℕ) → j < length found → is_above p node (get_or found j []) ≡ false) into shard nodes 0 (none_above p found nodes independent)))

  -- what a shard covers the search covers
  pub shard_covers : (shard : ℕ) (calling : List ℕ) → Covers p (dealt_found shard found) (dealt_nodes into shard nodes) calling → Covers p found nodes calling
  shard_covers shard calling covers = record {
    kept = covers.kept;
    reached = elim covers.reached [
      | inl seen ↦ inl (found_held (nat_eq shard 0) found calling seen)
      | inr held ↦
          let stands = dealt_stands into shard nodes 0 held.0 held.1 in
          inr (held.0, (stands.0, stands.1, stands.3), held.2)
    ];
  }

  module _ (independent : Independent p found nodes) (calling : List ℕ) where
    -- a calling that was found is covered by shard 0 alone
    found_once : Contains found calling → (shard : ℕ) → Covers p (dealt_found shard found) (dealt_nodes into shard nodes) calling → shard ≡ 0
    found_once seen shard covers = elim covers.reached [
      | inl held ↦ by (nat_eq shard 0) refl held
      | inr held ↦
          let stands = dealt_stands into shard nodes 0 held.0 held.1 in
          absurd (above_none p found nodes independent held.0 calling (stands.0, stands.1, stands.3) seen held.2)
    ]
      where
        by : (t : Bool) → nat_eq shard 0 ≡ t → Contains (cond t found []) calling → shard ≡ 0
        by true is held = eqb-true shard 0 is
        by false is held = absurd (none_held calling held)

    -- one position has a node above a calling
    one_position : (i k : ℕ) (node other : List ℕ) → i < length nodes → k < length nodes → get_or nodes i node ≡ node → get_or nodes k other ≡ other
        → IsAbove p node calling → IsAbove p other calling → i ≡ k
    one_position i k node other inside within is are one two = elim (cases_eq i k) [
      | inl same ↦ same
      | inr differ ↦
          let first : get_or nodes i [] ≡ node = get_or_default nodes i [] node inside ∙ is in
          let second : get_or nodes k [] ≡ other = get_or_default nodes k [] other within ∙ are in
          let turned : k ≢ i = λ same. differ (sym same) in
          elim (one_begins node other (part_of p calling) one two) [
            | inl begins ↦ absurd (true≢false (sym begins ∙ ap₂ is_prefix (sym first) (sym second) ∙ independent.nodes_apart i k inside within differ))
            | inr begins ↦ absurd (true≢false (sym begins ∙ ap₂ is_prefix (sym second) (sym first) ∙ independent.nodes_apart k i within inside turned))
          ]
    ]

    -- a calling below a node is covered by the shard of that node's position alone
    node_once : (node : List ℕ) (held : Contains nodes node) → IsAbove p node calling → (shard : ℕ)
        → Covers p (dealt_found shard found) (dealt_nodes into shard nodes) calling → shard ≡ held.0 % into
    node_once node held above shard covers = elim covers.reached [
      | inl seen ↦ absurd (above_none p found nodes independent node calling held (found_held (nat_eq shard 0) found calling seen) above)
      | inr there ↦
          let stands = dealt_stands into shard nodes 0 there.0 there.1 in
          let same : held.0 ≡ stands.0 = one_position held.0 stands.0 node there.0 held.1 stands.1 held.2 stands.3 above there.2 in
          let sum : held.0 ≡ 0 + stands.0 = omega (arith, same) in
          sym stands.2 ∙ ap (λ n. n % into) (sym sum)
    ]

    pub covered_once : 0 < into → Covers p found nodes calling
        → (shard : ℕ) × (shard < into) × Covers p (dealt_found shard found) (dealt_nodes into shard nodes) calling
        × ((other : ℕ) → other < into → Covers p (dealt_found other found) (dealt_nodes into other nodes) calling → other ≡ shard)
    covered_once some covers = elim covers.reached [
      | inl seen ↦ (0, some, record { kept = covers.kept; reached = inl seen }, λ other below also. found_once seen other also)
      | inr held ↦
          let (node, there, above) = held in
          let place : ℕ = there.0 in
          let sum : 0 + place ≡ place = omega arith in
          let dealt : Contains (dealt_nodes into (place % into) nodes) node =
          subst (Contains (dealt_nodes into (place % into) nodes)) there.2
          (stands_dealt into (place % into) nodes 0 place node there.1 (ap (λ n. n % into) sum)) in (
            place % into,
            mod_below place into some,
            record { kept = covers.kept; reached = inr (node, dealt, above) },
            λ other below also. node_once node there above other also,
          )
    ]

-- a search can go on from a shard
pub shard_goes_on : (p : ProblemParts) (found : List (List ℕ)) (jobs : List (List (List ℕ))) (into shard : ℕ) → CanGoOn p found jobs
    → CanGoOn p (dealt_found shard found) (as_jobs (dealt_nodes into shard (nodes_of_jobs jobs)))
shard_goes_on p found jobs into shard goes_on =
    let nodes = nodes_of_jobs jobs in
    let dealt = dealt_nodes into shard nodes in
    record {
      kept = found_all (Kept p) (nat_eq shard 0) found goes_on.kept;
      ascending = found_ascending p (nat_eq shard 0) found goes_on.ascending;
      filled = filled dealt;
      valid = subst (All (IsValid p)) (sym (nodes_as_jobs dealt)) (dealt_all (IsValid p) into shard nodes 0 goes_on.valid);
      independent = subst (Independent p (dealt_found shard found)) (sym (nodes_as_jobs dealt))
          (shard_independent p found nodes into shard goes_on.independent);
    }

pub shard_is_checkpoint : (p : ProblemParts) (bytes : List ℕ) (found : List (List ℕ)) (jobs : List (List (List ℕ))) (into shard : ℕ)
    → ProblemFile bytes p → CanGoOn p found jobs
    → CheckFile (shard_text p bytes found jobs into shard) bytes p (dealt_found shard found) (as_jobs (dealt_nodes into shard (nodes_of_jobs jobs)))
shard_is_checkpoint p bytes found jobs into shard file goes_on = record {
  problem = file;
  is = inl refl;
  goes_on = shard_goes_on p found jobs into shard goes_on;
}
