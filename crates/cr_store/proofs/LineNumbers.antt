-- The numbers of lines.
use Rattle.std.proofs.Common.{◌≡◌, ℕ, ◌+◌, ◌-◌, ◌^◌, ◌<◌, ◌≤◌, List, [], ◌∷◌, ◌++◌, length, get_or, map, drop, flat_map, refl, sym, ap, ap₂, ◌∙◌, subst, arith, length-append}
use Rattle.std.specs.List.{range_with_len}
use Rattle.std.proofs.lemmas.List.{get_or_append_left, get_or-append_right, drop_all, drop_more}
use Rattle.std.proofs.lemmas.List.FromFn.{length-range_with_len, get_or-range_with_len}
use Rattle.cr_store.specs.Shapes.{NodeParts}
use Rattle.cr_store.specs.Lines.{OutlineParts, in_all, node_numbers, last_after, last_in, line_at}

-- lines have ascending numbers
pub after_all : (line : ℕ) (sizes : List ℕ) → line ≤ last_after line sizes
after_all line [] = omega arith
after_all line (size ∷ sizes) = omega (arith, after_all (line + 1 + size) sizes)

-- a node in the first job, and one in the others
pub in_first : (line size : ℕ) (sizes : List ℕ) (node : ℕ) → node < size → get_or (node_numbers line (size ∷ sizes)) node 0 ≡ line + 1 + node
in_first line size sizes node inside =
    get_or_append_left (range_with_len (line + 1) size) (node_numbers (line + 1 + size) sizes) 0 node (omega (arith, inside, length-range_with_len (line + 1) size))
    ∙ get_or-range_with_len (line + 1) size node 0 inside

pub in_others : (line size : ℕ) (sizes : List ℕ) (node : ℕ) → size ≤ node
    → get_or (node_numbers line (size ∷ sizes)) node 0 ≡ get_or (node_numbers (line + 1 + size) sizes) (node - size) 0
in_others line size sizes node past =
    get_or-append_right (range_with_len (line + 1) size) (node_numbers (line + 1 + size) sizes) size node 0 (length-range_with_len (line + 1) size) past

-- where a node stands among the jobs that are left
pub record IsAt (sizes : List ℕ) (line node number : ℕ) : Type 0 where
  pub few : last_after line sizes < 2 ^ 64
  pub inside : node < in_all sizes
  pub told : get_or (node_numbers line sizes) node 0 ≡ number

module _ (sizes : List ℕ) (i line node number : ℕ) (low : i < length sizes) (at : IsAt (drop i sizes) line node number) where
  abbrev size : ℕ
  size = get_or sizes i 0

  first : IsAt (size ∷ drop (i + 1) sizes) line node number
  first = subst (λ ss. IsAt ss line node number) (drop_more sizes i 0 low) at

  few : last_after (line + 1 + size) (drop (i + 1) sizes) < 2 ^ 64
  few = first.few

  within : node < size + in_all (drop (i + 1) sizes)
  within = first.inside

  -- the number of the line after the job fits
  pub job_fits : line + 1 + size < 2 ^ 64
  job_fits = omega (arith, few, after_all (line + 1 + size) (drop (i + 1) sizes))

  pub told_here : node < size → line + 1 + node ≡ number
  told_here inside = sym (in_first line size (drop (i + 1) sizes) node inside) ∙ first.told

  pub told_later : size ≤ node → (next left : ℕ) → next ≡ line + 1 + size → left ≡ node - size → IsAt (drop (i + 1) sizes) next left number
  told_later past next left next_is left_is =
      let rest = drop (i + 1) sizes in
      record {
        few = subst (λ n. last_after n rest < 2 ^ 64) (sym next_is) few;
        inside = omega (arith, within, left_is, past);
        told = ap₂ (λ n k. get_or (node_numbers n rest) k 0) next_is left_is ∙ sym (in_others line size rest node past) ∙ first.told;
      }

-- no node stands where no jobs are left
pub none_left : (sizes : List ℕ) (i : ℕ) (line node number : ℕ) → length sizes ≤ i → IsAt (drop i sizes) line node number → ⊥
none_left sizes i line node number past at =
    let none : node < 0 = subst (λ ss. node < in_all ss) (drop_all i sizes past) at.inside in
    absurd (omega arith)

-- the number of a found line, and of a node's
pub of_touch : (outline : OutlineParts) (item : ℕ) → item < outline.touches → line_at outline item ≡ outline.found_at + 1 + item
of_touch outline item inside =
    let first = outline.found_at + outline.touches + 2 in
    get_or_append_left (range_with_len (outline.found_at + 1) outline.touches) (node_numbers first outline.sizes) 0 item
    (omega (arith, inside, length-range_with_len (outline.found_at + 1) outline.touches))
    ∙ get_or-range_with_len (outline.found_at + 1) outline.touches item 0 inside

pub of_node : (outline : OutlineParts) (item : ℕ) → outline.touches ≤ item
    → line_at outline item ≡ get_or (node_numbers (outline.found_at + outline.touches + 2) outline.sizes) (item - outline.touches) 0
of_node outline item past =
    get_or-append_right (range_with_len (outline.found_at + 1) outline.touches) (node_numbers (outline.found_at + outline.touches + 2) outline.sizes) outline.touches item 0
    (length-range_with_len (outline.found_at + 1) outline.touches) past

pub after_found : (outline : OutlineParts) → outline.found_at + outline.touches + 2 ≤ last_in outline
after_found outline = after_all (outline.found_at + outline.touches + 2) outline.sizes

-- jobs have as many nodes in all as their sizes say
pub all_nodes : (jobs : List (List NodeParts)) → in_all (map length jobs) ≡ length (flat_map (λ job. job) jobs)
all_nodes [] = refl
all_nodes (job ∷ jobs) = omega (arith, all_nodes jobs, length-append job (flat_map (λ j. j) jobs))
