-- The items that moves answer exactly are some of the query's.
use Rattle.std.proofs.Common.{◌≡◌, ℕ, ◌⊎◌, Bool, true, false, cond, ◌||◌, nat_eq, List, [], ◌++◌, map, All, Any, Contains, Option, None, Decides, inl, inr, refl, sym, ap, ◌∙◌}
use Rattle.std.specs.List.{list_any}
use Rattle.std.proofs.lemmas.Bool.Decides.{Decides-or}
use Rattle.std.proofs.lemmas.List.Folds.{list_any-append}
use Rattle.std.proofs.lemmas.List.Elements.{All-nil, All-append, All-map, All-weaker, All-contains, All-contains_itself, Contains-append_left, Contains-append_right}
use Rattle.cr_model.specs.declared.query.Com.{Com}
use Rattle.cr_model.specs.Problems.{PatternParts, ProblemParts}
use Rattle.cr_model.specs.Queries.{changes_of_method, MeetsCom, Meets}
use Rattle.cr_model.specs.Sound.{IsSound}
use Rattle.cr_model.specs.Dead.{HasNoneBelow, parts_of}
use Rattle.cr_ahead.specs.Home.{HasNoWayHome, each_way_home}
use Rattle.cr_ahead.specs.Items.{Item, count_item, method_item, pattern_item, com_items, items_of, CannotMeet, cannot_meet, CannotCome, cannot_come}
use Rattle.cr_ahead.specs.Exact.{exact_patterns, exact_com, head_items, exact_items, CannotComeBy, cannot_come_by, cannot_come_by_heads}
use Rattle.cr_ahead.proofs.Home.{each_decided, item_decided, come_decided, any_decided, none_decided}
use Rattle.cr_ahead.proofs.Items.{Within, com_within}
use Rattle.cr_ahead.proofs.Kept.{none_below}
use Rattle.cr_ahead.proofs.Powers.{HeadsMultiply}

-- what holds of all patterns holds of these
some_patterns : (P : PatternParts → Type 0) (b : Bool) (patterns : List PatternParts) → All P patterns → All P (cond b patterns [])
some_patterns P true patterns all = all
some_patterns P false patterns all = All-nil P

-- and limits that are met are met where they are looked at
some_com : (b : Bool) (limits : Option Com) (changes : ℕ) → MeetsCom limits changes → MeetsCom (cond b limits None) changes
some_com true limits changes meets = meets
some_com false limits changes meets = tt

heads_within : (p : ProblemParts) (calling : List ℕ) → Meets p calling → All (Within calling) (head_items p)
heads_within p calling meets =
    All-append (Within calling) (map (count_item p) p.query.counts) _ (All-map (Within calling) (count_item p) p.query.counts meets.counts)
    (All-append (Within calling) (map (method_item p) p.query.method_counts) _ (All-map (Within calling) (method_item p) p.query.method_counts meets.method_counts)
    (All-map (Within calling) (pattern_item p) (exact_patterns p) (some_patterns (λ pattern. Within calling (pattern_item p pattern)) (nat_eq (parts_of p) 1) p.query.patterns meets.patterns)))

pub exact_within : (p : ProblemParts) (calling : List ℕ) → Meets p calling → All (Within calling) (exact_items p)
exact_within p calling meets =
    All-append (Within calling) (head_items p) (com_items p (exact_com p)) (heads_within p calling meets)
    (com_within p calling (exact_com p) (some_com (nat_eq (parts_of p) 1) p.query.com (changes_of_method p calling) meets.com))

pub exact_decided : (p : ProblemParts) (node : List ℕ) → IsSound p → Decides (cannot_come_by p node) (CannotComeBy p node)
exact_decided p node sound =
    Decides-or (each_way_home p node (λ way. false)) (list_any (cannot_meet p node) (exact_items p))
    (each_decided p node (λ way. false) (λ way. ⊥) sound (λ way. none_decided))
    (any_decided (cannot_meet p node) (CannotMeet p node) (λ item. item_decided p node item sound) (exact_items p))

-- the same by the items of which the head tells all
abbrev pub CannotComeByHeads : ProblemParts → List ℕ → Type 0
CannotComeByHeads p node = HasNoWayHome p node ⊎ Any (CannotMeet p node) (head_items p)

pub heads_decided : (p : ProblemParts) (node : List ℕ) → IsSound p → Decides (cannot_come_by_heads p node) (CannotComeByHeads p node)
heads_decided p node sound =
    Decides-or (each_way_home p node (λ way. false)) (list_any (cannot_meet p node) (head_items p))
    (each_decided p node (λ way. false) (λ way. ⊥) sound (λ way. none_decided))
    (any_decided (cannot_meet p node) (CannotMeet p node) (λ item. item_decided p node item sound) (head_items p))

or_joined : (x y z : Bool) → (x || (y || z)) ≡ ((x || y) || z)
or_joined true y z = refl
or_joined false y z = refl

pub or_none : (x : Bool) → (x || false) ≡ x
or_none true = refl
or_none false = refl

-- a test of all is one of these, and one of the limit on changes of method
pub come_by_parts : (p : ProblemParts) (node : List ℕ) → cannot_come_by p node ≡ (cannot_come_by_heads p node || list_any (cannot_meet p node) (com_items p (exact_com p)))
come_by_parts p node =
    ap (λ b. each_way_home p node (λ way. false) || b) (list_any-append (cannot_meet p node) (head_items p) (com_items p (exact_com p)))
    ∙ or_joined (each_way_home p node (λ way. false)) (list_any (cannot_meet p node) (head_items p)) (list_any (cannot_meet p node) (com_items p (exact_com p)))

-- each of them is one of all items
module _ (p : ProblemParts) where
  abbrev marks : List Item
  marks = map (count_item p) p.query.counts

  abbrev letters : List Item
  letters = map (method_item p) p.query.method_counts

  abbrev rows : List Item
  rows = map (pattern_item p) p.query.patterns

  mark_held : (item : Item) → Contains marks item → Contains (items_of p) item
  mark_held item held = Contains-append_left marks (letters ++ (rows ++ com_items p p.query.com)) item held

  letter_held : (item : Item) → Contains letters item → Contains (items_of p) item
  letter_held item held = Contains-append_right marks (letters ++ (rows ++ com_items p p.query.com)) item
      (Contains-append_left letters (rows ++ com_items p p.query.com) item held)

  rows_held : (item : Item) → Contains rows item → Contains (items_of p) item
  rows_held item held = Contains-append_right marks (letters ++ (rows ++ com_items p p.query.com)) item
      (Contains-append_right letters (rows ++ com_items p p.query.com) item (Contains-append_left rows (com_items p p.query.com) item held))

  some_rows : (b : Bool) → All (Contains (items_of p)) (map (pattern_item p) (cond b p.query.patterns []))
  some_rows true = All-weaker (Contains rows) (Contains (items_of p)) rows_held rows (All-contains_itself rows)
  some_rows false = All-nil (Contains (items_of p))

  com_held : (item : Item) → Contains (com_items p p.query.com) item → Contains (items_of p) item
  com_held item held = Contains-append_right marks (letters ++ (rows ++ com_items p p.query.com)) item
      (Contains-append_right letters (rows ++ com_items p p.query.com) item (Contains-append_right rows (com_items p p.query.com) item held))

  some_limits : (b : Bool) → All (Contains (items_of p)) (com_items p (cond b p.query.com None))
  some_limits true = All-weaker (Contains (com_items p p.query.com)) (Contains (items_of p)) com_held (com_items p p.query.com) (All-contains_itself (com_items p p.query.com))
  some_limits false = All-nil (Contains (items_of p))

  heads_held : All (Contains (items_of p)) (head_items p)
  heads_held =
      All-append (Contains (items_of p)) marks _ (All-weaker (Contains marks) (Contains (items_of p)) mark_held marks (All-contains_itself marks))
      (All-append (Contains (items_of p)) letters _ (All-weaker (Contains letters) (Contains (items_of p)) letter_held letters (All-contains_itself letters))
      (some_rows (nat_eq (parts_of p) 1)))

  all_held : All (Contains (items_of p)) (exact_items p)
  all_held = All-append (Contains (items_of p)) (head_items p) (com_items p (exact_com p)) heads_held (some_limits (nat_eq (parts_of p) 1))

  come_by : (node : List ℕ) → CannotComeBy p node → CannotCome p node
  come_by node cannot = elim cannot [
    | inl none ↦ inl none
    | inr any ↦ let held = All-contains (Contains (items_of p)) (exact_items p) any.1 all_held (any.0, any.2, any.3) in
        inr (held.0, any.1, held.1, held.2, any.4)
  ]

pub exact_come : (p : ProblemParts) (node : List ℕ) → IsSound p → cannot_come_by p node ≡ true → cannot_come p node ≡ true
exact_come p node sound cannot = (come_decided p node sound).1 (come_by p node ((exact_decided p node sound).0 cannot))

pub none_below_exact : HeadsMultiply → (p : ProblemParts) (node : List ℕ) → IsSound p → cannot_come_by p node ≡ true → HasNoneBelow p node
none_below_exact joined p node sound cannot = none_below joined p node sound (exact_come p node sound cannot)
