-- The items of which moves from lead head to lead head answer exactly, and the nodes that cannot come to what these ask.
use Rattle.std.specs.Prelude.{ℕ, Bool, false, cond, ◌||◌, ◌⊎◌, nat_eq, List, [], ◌++◌, map, Any, Option, None}
use Rattle.std.specs.List.{list_any}
use Rattle.cr_model.specs.declared.query.Com.{Com}
use Rattle.cr_model.specs.Problems.{PatternParts, ProblemParts}
use Rattle.cr_model.specs.Dead.{parts_of}
use Rattle.cr_ahead.specs.Home.{HasNoWayHome, each_way_home}
use Rattle.cr_ahead.specs.Items.{Item, count_item, method_item, pattern_item, com_items, CannotMeet, cannot_meet}

-- the patterns of a query in one part. In several parts a pattern's rows are not those of each part again
abbrev pub exact_patterns : ProblemParts → List PatternParts
exact_patterns p = cond (nat_eq (parts_of p) 1) p.query.patterns []

-- the limit on changes of method in one part. In several parts each join of parts may be one more
abbrev pub exact_com : ProblemParts → Option Com
exact_com p = cond (nat_eq (parts_of p) 1) p.query.com None

-- the items of which the lead head tells all: counts of marks and of methods, and these patterns
abbrev pub head_items : ProblemParts → List Item
head_items p =
    map (count_item p) p.query.counts
    ++ (map (method_item p) p.query.method_counts
    ++ map (pattern_item p) (exact_patterns p))

-- these, and the limit on changes of method
abbrev pub exact_items : ProblemParts → List Item
exact_items p = head_items p ++ com_items p (exact_com p)

-- a node cannot come to what these items ask: it has no way home, or none that meets the max of some of them, or none
-- that meets the min of some of them
abbrev pub CannotComeBy : ProblemParts → List ℕ → Type 0
CannotComeBy p node = HasNoWayHome p node ⊎ Any (CannotMeet p node) (exact_items p)

abbrev pub cannot_come_by : ProblemParts → List ℕ → Bool
cannot_come_by p node = each_way_home p node (λ way. false) || list_any (cannot_meet p node) (exact_items p)

-- the same by the items of which the lead head tells all
abbrev pub cannot_come_by_heads : ProblemParts → List ℕ → Bool
cannot_come_by_heads p node = each_way_home p node (λ way. false) || list_any (cannot_meet p node) (head_items p)
