-- Outlooks: what tables of moves say of a problem's touches, as contracts see it.
use Rattle.std.specs.Prelude.{◌≡◌, ℕ, ◌+◌, ◌*◌, ◌<◌, ◌≤◌, Bool, true, false, pos, List, [], length, get_or, All, Option, Some, None, IfSome}
use Rattle.std.specs.List.{AllZip}
use Rattle.cr_model.specs.declared.query.Com.{Com}
use Rattle.cr_model.specs.Problems.{ProblemParts}
use Rattle.cr_model.specs.Callings.{HasSteps, changes_of, length_of}
use Rattle.cr_model.specs.Queries.{changes_of_method}
use Rattle.cr_model.specs.Levels.{head_from}
use Rattle.cr_model.specs.Sound.{IsSound}
use Rattle.cr_model.specs.Dead.{parts_of}
use Rattle.cr_ahead.specs.declared.outlook.ItemTable.{ItemTable}
use Rattle.cr_ahead.specs.declared.units.Range.{Range}
use Rattle.cr_ahead.specs.Moves.{MovesParts}
use Rattle.cr_ahead.specs.Ways.{gain_of, Tells}
use Rattle.cr_ahead.specs.Tables.{AheadParts, answer_at}
use Rattle.cr_ahead.specs.Home.{touch_with, IsWayHome}
use Rattle.cr_ahead.specs.Items.{Item, number_with}
use Rattle.cr_ahead.specs.LeadMoves.{AreMovesOf, IsPlaceOf, last_method, of_touches, refuses}
use Rattle.cr_ahead.specs.Exact.{exact_com, head_items}
use Rattle.cr_ahead.specs.ByMethod.{places_each, place_by}
use Rattle.cr_ahead.specs.Units.{IsUnit, IsRange, in_changes}

-- the place of the head that a step leads to, by place and step, place after place
abbrev pub led_to : ProblemParts → List ℕ → ℕ → ℕ → ℕ
led_to p next place step = get_or next (place * length p.leads + step) 0

-- some lead heads, and to which of them each step leads from each of them, by its changes
pub record AreLeadHeads (p : ProblemParts) (heads : List (List ℕ)) (next : List ℕ) : Type 0 where
  pub few : length heads ≤ 4294967296
  pub staged : All (λ head. length head ≡ p.stage) heads
  pub counted : length next ≡ length heads * length p.leads
  pub there : All (λ place. place < length heads) next
  pub leads : (place step : ℕ) → place < length heads → step < length p.leads
      → get_or heads (led_to p next place step) [] ≡ head_from (get_or heads place []) (changes_of p step)

-- moves between these heads, in units of length, and how long a part may be
pub record AreGround (p : ProblemParts) (heads : List (List ℕ)) (range : Range) (m : MovesParts) : Type 0 where
  pub sound : IsSound p
  pub few : length heads ≤ 4294967296
  pub staged : All (λ head. length head ≡ p.stage) heads
  pub moves : AreMovesOf p heads (in_changes range.unit m)
  pub lengths : IsRange p range.unit range.least range.greatest

-- the gains add up to what an item has: what a touch has is what each of its parts has, the node's and what the way gains
abbrev pub AddUp : ProblemParts → List (List ℕ) → MovesParts → Item → Type 0
AddUp p heads m item = (place : ℕ) (node way : List ℕ) → IsPlaceOf p heads place node → HasSteps p way
    → item.number_of (touch_with p node way) ≡ parts_of p * (item.number_of node + gain_of m place way)

-- these gains do so, by moves between the heads
abbrev pub GainItem : ProblemParts → List (List ℕ) → List ℕ → Item → Type 0
GainItem p heads gains item = (m : MovesParts) → AreMovesOf p heads m → m.gains ≡ gains → AddUp p heads m item

-- what a table answers for the place of a node's head and the node's length in units says of its whole touches
pub record IsTableOf (p : ProblemParts) (heads : List (List ℕ)) (unit : ℕ) (item : Item) (table : AheadParts) : Type 0 where
  pub places : table.places ≡ length heads
  pub tells : (place long : ℕ) (node : List ℕ) → IsPlaceOf p heads place node → length_of p node ≡ unit * long
      → Tells (IsWayHome p node) (number_with p node item) (of_touches (parts_of p) (item.number_of node) (answer_at table place long))

-- of an item: its limits and its table
pub record IsItemTable (p : ProblemParts) (heads : List (List ℕ)) (unit : ℕ) (item : Item) (of_item : ItemTable) : Type 0 where
  pub min : of_item.min ≡ item.min
  pub max : of_item.max ≡ item.max
  pub table : IsTableOf p heads unit item of_item.table

abbrev pub AreItemTables : ProblemParts → List (List ℕ) → ℕ → List Item → List ItemTable → Type 0
AreItemTables p heads unit items tables = AllZip (IsItemTable p heads unit) items tables

-- no touch has anything of this item, and each has what it asks
abbrev pub no_item : Item
no_item = record { number_of = λ calling. 0; min = pos 0; max = pos 0 }

-- the item at an index, of those of which the head tells all
abbrev pub head_item : ProblemParts → ℕ → Item
head_item p i = get_or (head_items p) i no_item

-- a table that tells only whether there is a way home. There is one exactly where there are no items of which the head tells all
abbrev pub IsHomeTable : ProblemParts → List (List ℕ) → ℕ → Option AheadParts → Type 0
IsHomeTable p heads unit None = 0 < length (head_items p)
IsHomeTable p heads unit (Some table) = (head_items p ≡ []) × IsTableOf p heads unit no_item table

-- what a table answers for the place of a node's head with the method of its last lead, and the node's length in units, says
-- of the changes of method of its whole touches
pub record IsTableByMethod (p : ProblemParts) (heads : List (List ℕ)) (unit : ℕ) (table : AheadParts) : Type 0 where
  pub places : table.places ≡ length heads * places_each p
  pub tells : (place long : ℕ) (node : List ℕ) → IsPlaceOf p heads place node → length_of p node ≡ unit * long
      → Tells (IsWayHome p node) (λ way. changes_of_method p (touch_with p node way))
      (of_touches (parts_of p) (changes_of_method p node) (answer_at table (place_by (places_each p) place (last_method p node)) long))

-- of the limit on changes of method: its limits and its table. There is one exactly where there is the limit
pub record IsLimitTable (p : ProblemParts) (heads : List (List ℕ)) (unit : ℕ) (limits : Com) (of_item : ItemTable) : Type 0 where
  pub min : of_item.min ≡ limits.min
  pub max : of_item.max ≡ limits.max
  pub table : IsTableByMethod p heads unit of_item.table

abbrev pub IsComTable : ProblemParts → List (List ℕ) → ℕ → Option Com → Option ItemTable → Type 0
IsComTable p heads unit None None = Unit {0}
IsComTable p heads unit None (Some of_item) = ⊥
IsComTable p heads unit (Some limits) None = ⊥
IsComTable p heads unit (Some limits) (Some of_item) = IsLimitTable p heads unit limits of_item

-- the unit of length, the number of parts of a touch, the number of places and of methods, and the tables
pub record OutlookParts : Type 0 where
  pub unit : ℕ
  pub parts : ℕ
  pub places : ℕ
  pub methods : ℕ
  pub home : Option AheadParts
  pub items : List ItemTable
  pub changing : Option ItemTable

-- the outlook of a problem from some lead heads
pub record IsOutlook (p : ProblemParts) (heads : List (List ℕ)) (outlook : OutlookParts) : Type 0 where
  pub sound : IsSound p
  pub parts : outlook.parts ≡ parts_of p
  pub places : outlook.places ≡ length heads
  pub methods : outlook.methods ≡ length p.letters
  pub unit : IsUnit p outlook.unit
  pub home : IsHomeTable p heads outlook.unit outlook.home
  pub items : AreItemTables p heads outlook.unit (head_items p) outlook.items
  pub changing : IsComTable p heads outlook.unit (exact_com p) outlook.changing

-- what every outlook keeps
pub record IsKept (unit parts places methods : ℕ) (home : Option AheadParts) (items : List ItemTable) (changing : Option ItemTable) : Type 0 where
  pub some : 1 ≤ unit
  pub few : parts ≤ 64
  pub few_methods : methods ≤ 8
  pub at_home : IfSome home (λ table. table.places ≡ places)
  pub all : All (λ of_item. of_item.table.places ≡ places) items
  pub by_method : IfSome changing (λ of_item. (of_item.table.places ≡ places * (methods + 1)) × (of_item.table.places ≤ 4294967296))

-- an item is refused: a touch that has so much of it so far, and still what its table answers, cannot meet its limits
abbrev pub is_refused : ℕ → ℕ → ℕ → ItemTable → ℕ → Bool
is_refused parts place long of_item so_far = refuses of_item.min of_item.max (of_touches parts so_far (answer_at of_item.table place long))

-- the item at an index is refused
abbrev pub none_at : ItemTable
none_at = record { min = pos 0; max = pos 0; table = record { places = 0; greatest = 0; cells = [] } }

abbrev pub is_refused_at : ℕ → ℕ → ℕ → List ItemTable → List ℕ → ℕ → Bool
is_refused_at parts place long items so_far i = is_refused parts place long (get_or items i none_at) (get_or so_far i 0)

-- whether one of some items is
abbrev pub IsSomeRefused : ℕ → ℕ → ℕ → List ItemTable → List ℕ → Bool → Type 0
IsSomeRefused parts place long items so_far true = (i : ℕ) × (i < length items) × (is_refused_at parts place long items so_far i ≡ true)
IsSomeRefused parts place long items so_far false = (i : ℕ) → i < length items → is_refused_at parts place long items so_far i ≡ false
