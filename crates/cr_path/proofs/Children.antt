-- Nodes with a lead more, and with one less.
use Rattle.std.proofs.Common.{◌≡◌, ℕ, ◌+◌, ◌-◌, ◌*◌, ◌<◌, ◌≤◌, true, List, [], ◌∷◌, ◌++◌, length, get_or, take, drop, sym, ap, ◌∙◌, subst, arith, append-nil}
use Rattle.std.proofs.lemmas.Bool.{and_parts}
use Rattle.std.proofs.lemmas.Int.{ints}
use Rattle.std.proofs.lemmas.List.{take-append-drop, take_more, take_all, length-map, length-take-le}
use Rattle.std.proofs.lemmas.List.Elements.{All-take}
use Rattle.std.proofs.lemmas.Nat.{le-div}
use Rattle.std.proofs.Math.Nat.{div-le_self}
use Rattle.cr_row.specs.Rows.{rounds, product}
use Rattle.cr_row.proofs.ChangeLaws.{IsRow-changed, length-changed, changed-product}
use Rattle.cr_row.proofs.RowLaws.{IsRow-rounds, length-rounds, product-rounds, rounds-product, product_assoc, inverse_right}
use Rattle.cr_model.specs.Problems.{ProblemParts}
use Rattle.cr_model.specs.Callings.{shortest, lead_length, changes_of, changes_of_all, rows_from, rows_of, length_of, head_of}
use Rattle.cr_model.specs.Decided.{rows_differ}
use Rattle.cr_model.specs.Dead.{parts_of}
use Rattle.cr_model.specs.Nodes.{IsValid}
use Rattle.cr_model.specs.Queries.{cap, part_cap}
use Rattle.cr_model.specs.Sizes.{child}
use Rattle.cr_model.specs.Sound.{IsSound, sound_leads, sound_range, sound_depth}
use Rattle.cr_model.proofs.Bells.{RowLaws, last_is_row}
use Rattle.cr_model.proofs.Below.{rows_counted, some_shortest, shortest_leads}
use Rattle.cr_model.proofs.Ringing.{rows_on, lengths_on}
use Rattle.cr_model.proofs.Turned.{rows_joined, head_joined}
use Rattle.cr_path.specs.Numbers.{lead_from, head_after}
use Rattle.cr_path.specs.Walks.{parent}
use Rattle.cr_path.proofs.Listed.{differ_joined}

-- the laws of rows and changes
pub row_laws : RowLaws
row_laws = record {
  rounds_row = IsRow-rounds;
  rounds_length = length-rounds;
  rounds_right = product-rounds;
  rounds_left = rounds-product;
  after_row = λ c r. IsRow-changed c.made r;
  after_length = λ c r. length-changed c.made 1 r;
  after_product = λ c h r. changed-product h c.made 1 r;
  associates = product_assoc;
  one_side = inverse_right;
}

pub head_long : (p : ProblemParts) (calling : List ℕ) → length (head_of p calling) ≡ p.stage
head_long p calling = (last_is_row row_laws p.stage (changes_of_all p calling)).long

-- one lead more
pub child_rows : (p : ProblemParts) (node : List ℕ) (step : ℕ) → rows_of p (child node step) ≡ rows_of p node ++ lead_from p (head_of p node) step
child_rows p node step = rows_joined row_laws p node (step ∷ [])

pub child_head : (p : ProblemParts) (node : List ℕ) (step : ℕ) → head_of p (child node step) ≡ head_after p (head_of p node) step
child_head p node step = head_joined row_laws p node (step ∷ [])

pub child_length : (p : ProblemParts) (node : List ℕ) (step : ℕ) → length_of p (child node step) ≡ length_of p node + lead_length p step
child_length p node step = lengths_on p node (step ∷ []) ∙ ap (λ changes. length_of p node + length changes) (append-nil (changes_of p step))

pub lead_long : (p : ProblemParts) (head : List ℕ) (step : ℕ) → length (lead_from p head step) ≡ lead_length p step
lead_long p head step =
    length-map (rows_of p (step ∷ [])) (product head) ∙ rows_counted (rounds p.stage) (changes_of_all p (step ∷ [])) ∙ ap length (append-nil (changes_of p step))

-- the first leads of a node are no longer, and their rows differ where those of the node do
pub first_fewer : (p : ProblemParts) (calling : List ℕ) (n : ℕ) → length_of p (take n calling) ≤ length_of p calling
first_fewer p calling n =
    let whole : length_of p (take n calling ++ drop n calling) ≡ length_of p calling = ap (length_of p) (take-append-drop n calling) in
    omega (arith, whole, lengths_on p (take n calling) (drop n calling))

pub leads_differ : (p : ProblemParts) (calling : List ℕ) (n : ℕ) → rows_differ (rows_of p calling) ≡ true → rows_differ (rows_of p (take n calling)) ≡ true
leads_differ p calling n differ =
    let more = rows_from (head_of p (take n calling)) (changes_of_all p (drop n calling)) in
    let whole : rows_of p calling ≡ rows_of p (take n calling) ++ more = ap (rows_of p) (sym (take-append-drop n calling)) ∙ rows_on p (take n calling) (drop n calling) in
    (and_parts (rows_differ (rows_of p (take n calling))) _ (sym (differ_joined (rows_of p (take n calling)) more) ∙ sym (ap rows_differ whole) ∙ differ)).0

-- a node is its parent with its last step
pub last_step : (node : List ℕ) (step index : ℕ) → 0 < length node → index ≡ length node - 1 → step ≡ get_or node index 0 → node ≡ child (parent node) step
last_step node step index some last at =
    let up : length node - 1 + 1 ≡ length node = omega (arith, some) in
    sym (take_all (length node - 1 + 1) node (omega (arith, up)))
    ∙ take_more node (length node - 1) 0 (omega (arith, some))
    ∙ ap (λ s. take (length node - 1) node ++ s ∷ []) (sym (at ∙ ap (λ i. get_or node i 0) last))

-- a valid node's first leads are valid
pub valid_first : (p : ProblemParts) (node : List ℕ) (n : ℕ) → IsValid p node → IsValid p (take n node)
valid_first p node n valid = record {
  steps = All-take (λ (step : ℕ). step < length p.leads) n node valid.steps;
  short = omega (arith, first_fewer p node n, valid.short);
}

-- the numbers of a sound problem are small
pub cap_few : (p : ProblemParts) → IsSound p → cap p ≤ 12000
cap_few p sound =
    let range = sound_range p sound in
    let from = range.from in
    let order = range.order in
    let to = range.to in
    omega (arith, ints)

pub part_few : (p : ProblemParts) → IsSound p → part_cap p ≤ 12000
part_few p sound = omega (arith, cap_few p sound, div-le_self (cap p) (parts_of p))

pub some_changes : (p : ProblemParts) (step : ℕ) → IsSound p → step < length p.leads → 0 < lead_length p step
some_changes p step sound inside = omega (arith, ((sound_leads p sound).each step inside).changes.some)

pub few_leads : (p : ProblemParts) (node : List ℕ) → IsSound p → IsValid p node → length node ≤ 1024
few_leads p node sound valid =
    let within : length node * shortest p ≤ cap p = omega (arith, shortest_leads p node valid.steps, valid.short, div-le_self (cap p) (parts_of p)) in
    omega (arith, le-div (length node) (cap p) (shortest p) (some_shortest p sound) within, sound_depth p sound)

-- one step further to a valid node
pub next_valid : (p : ProblemParts) (node : List ℕ) (index : ℕ) → IsValid p node → index < length node → IsValid p (child (take index node) (get_or node index 0))
next_valid p node index valid inside = subst (IsValid p) (take_more node index 0 inside) (valid_first p node (index + 1) valid)

pub next_few : (p : ProblemParts) (node : List ℕ) (index : ℕ) → IsSound p → IsValid p node → index < length node → length (take index node) < 1024
next_few p node index sound valid inside = omega (arith, length-take-le index node (omega (arith, inside)), few_leads p node sound valid, inside)
