-- The items of a query, and nodes whose touches cannot come to what one of them asks.
use Rattle.std.specs.Prelude.{ℕ, Bool, false, ◌||◌, ◌⊎◌, ℤ, pos, int_lt, ◌<ℤ◌, List, [], ◌∷◌, ◌++◌, map, Any, Option, Some, None}
use Rattle.std.specs.List.{list_any}
use Rattle.cr_model.specs.declared.query.Com.{Com}
use Rattle.cr_model.specs.declared.query.Count.{Count}
use Rattle.cr_model.specs.declared.query.MethodCount.{MethodCount}
use Rattle.cr_model.specs.Problems.{PatternParts, ProblemParts}
use Rattle.cr_model.specs.Callings.{rows_of}
use Rattle.cr_model.specs.Queries.{leads_marked, leads_lettered, rows_fitting, changes_of_method}
use Rattle.cr_ahead.specs.Home.{touch_with, IsWayHome, HasNoWayHome, each_way_home}

-- an item: a number that a touch has, and from where to where it may be, both included
pub record Item : Type 0 where
  pub number_of : List ℕ → ℕ
  pub min : ℤ
  pub max : ℤ

-- a count of a mark, a count of a method, a pattern, and the limit on changes of method, as items
abbrev pub count_item : ProblemParts → Count → Item
count_item p count = record { number_of = leads_marked p count.mark; min = count.min; max = count.max }

abbrev pub method_item : ProblemParts → MethodCount → Item
method_item p count = record { number_of = leads_lettered p count.letter; min = count.min; max = count.max }

abbrev pub pattern_item : ProblemParts → PatternParts → Item
pattern_item p pattern = record { number_of = λ calling. rows_fitting pattern.cells (rows_of p calling); min = pattern.min; max = pattern.max }

abbrev pub com_item : ProblemParts → Com → Item
com_item p limits = record { number_of = changes_of_method p; min = limits.min; max = limits.max }

abbrev pub com_items : ProblemParts → Option Com → List Item
com_items p None = []
com_items p (Some limits) = com_item p limits ∷ []

-- all items of a query
abbrev pub items_of : ProblemParts → List Item
items_of p =
    map (count_item p) p.query.counts
    ++ (map (method_item p) p.query.method_counts
    ++ (map (pattern_item p) p.query.patterns
    ++ com_items p p.query.com))

-- what a touch of a node has of an item, by the way home. It is the number of the whole touch, not of its part
abbrev pub number_with : ProblemParts → List ℕ → Item → List ℕ → ℕ
number_with p node item way = item.number_of (touch_with p node way)

-- by each way home it is above the max, or by each it is below the min
abbrev pub AllAbove : ProblemParts → List ℕ → Item → Type 0
AllAbove p node item = (way : List ℕ) → IsWayHome p node way → item.max <ℤ pos (number_with p node item way)

abbrev pub AllBelow : ProblemParts → List ℕ → Item → Type 0
AllBelow p node item = (way : List ℕ) → IsWayHome p node way → pos (number_with p node item way) <ℤ item.min

abbrev pub CannotMeet : ProblemParts → List ℕ → Item → Type 0
CannotMeet p node item = AllAbove p node item ⊎ AllBelow p node item

abbrev pub cannot_meet : ProblemParts → List ℕ → Item → Bool
cannot_meet p node item =
    each_way_home p node (λ way. int_lt item.max (pos (number_with p node item way)))
    || each_way_home p node (λ way. int_lt (pos (number_with p node item way)) item.min)

-- a node cannot come to what is asked: it has no way home, or none that meets the max of some item, or none that
-- meets the min of some item. One limit is looked at at a time
abbrev pub CannotCome : ProblemParts → List ℕ → Type 0
CannotCome p node = HasNoWayHome p node ⊎ Any (CannotMeet p node) (items_of p)

abbrev pub cannot_come : ProblemParts → List ℕ → Bool
cannot_come p node = each_way_home p node (λ way. false) || list_any (cannot_meet p node) (items_of p)
