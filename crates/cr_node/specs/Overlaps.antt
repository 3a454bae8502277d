-- Found touches and nodes, numbered together, and which of them overlap.
use Rattle.std.specs.Prelude.{◌≡◌, ℕ, ◌+◌, ◌<◌, ◌≤◌, ◌⊎◌, Bool, true, false, not, ◌&&◌, ◌||◌, List, [], ◌++◌, length, get_or, map, Option, Some, None}
use Rattle.cr_model.specs.Problems.{ProblemParts}
use Rattle.cr_model.specs.Touches.{IsLess}
use Rattle.cr_model.specs.Nodes.{part_of, is_prefix, Independent}
use Rattle.cr_node.specs.declared.words.Word.{Word}

-- a found touch or a node, by its word
pub record Item : Type 0 where
  pub word : List ℕ
  pub found : Bool

-- the word of a found touch is its part
abbrev pub of_found : ProblemParts → List ℕ → Item
of_found p calling = record { word = part_of p calling; found = true }

-- the word of a node is the node
abbrev pub of_node : List ℕ → Item
of_node node = record { word = node; found = false }

-- the found touches, and then the nodes
abbrev pub items : ProblemParts → List (List ℕ) → List (List ℕ) → List Item
items p found nodes = map (of_found p) found ++ map of_node nodes

-- what is the item of a number
abbrev pub item_at : List Item → ℕ → Item
item_at all number = get_or all number (of_node [])

-- the first is a node, and a prefix of the other's word
abbrev pub begins : Item → Item → Bool
begins item other = not item.found && is_prefix item.word other.word

-- one of the two is a node that begins the other's word, so that two found touches never overlap
abbrev pub overlaps : Item → Item → Bool
overlaps item other = begins item other || begins other item

-- no two of the items below a number overlap
abbrev pub ApartBelow : List Item → ℕ → Type 0
ApartBelow all number = (i j : ℕ) → i < j → j < number → overlaps (item_at all i) (item_at all j) ≡ false

-- a word is less, or it is equal and its number is no greater
abbrev pub ComesFirst : List Item → ℕ → ℕ → Type 0
ComesFirst all i k = IsLess (item_at all i).word (item_at all k).word ⊎ (((item_at all i).word ≡ (item_at all k).word) × (i ≤ k))

-- of the items below a number that overlap an item, the one that comes first
pub record IsLeastBelow (all : List Item) (item : Item) (number i : ℕ) : Type 0 where
  pub below : i < number
  pub meets : overlaps (item_at all i) item ≡ true
  pub least : (k : ℕ) → k < number → overlaps (item_at all k) item ≡ true → ComesFirst all i k

-- the least number whose item overlaps an earlier one, and the first of those that it overlaps
pub record IsFirstOverlap (all : List Item) (i j : ℕ) : Type 0 where
  pub inside : j < length all
  pub apart : ApartBelow all j
  pub least : IsLeastBelow all (item_at all j) j i

-- none where found touches and nodes are independent, else the first overlap
abbrev pub TellsOverlap : ProblemParts → List (List ℕ) → List (List ℕ) → Option (ℕ × ℕ) → Type 0
TellsOverlap p found nodes None = Independent p found nodes
TellsOverlap p found nodes (Some pair) = IsFirstOverlap (items p found nodes) pair.0 pair.1

-- none where no item below a number overlaps an item, else the one of them that comes first
abbrev pub TellsLeast : List Item → Item → ℕ → Option ℕ → Type 0
TellsLeast all item number None = (k : ℕ) → k < number → overlaps (item_at all k) item ≡ false
TellsLeast all item number (Some i) = IsLeastBelow all item number i

-- the item that a word is of
abbrev pub item_of : Word → Item
item_of word = record { word = word.steps.now; found = word.is_found }

abbrev pub items_of : List Word → List Item
items_of words = map item_of words

-- no item begins the one after it
abbrev pub NoneBeginsNext : List Item → Type 0
NoneBeginsNext all = (k : ℕ) → k + 1 < length all → begins (item_at all k) (item_at all (k + 1)) ≡ false
