-- Which wish the words read as, and what reading them may answer.
use Rattle.std.specs.Prelude.{⊤, ◌≡◌, ◌⊎◌, Bool, true, false, List, ◌∷◌}
use Rattle.clap.specs.Words.{Text}
use Rattle.cr_words.specs.Commands.{are_taken, assigned}
use Rattle.cr_words.specs.Values.{IsWishOf, faults_of}
use Rattle.cr_words.specs.declared.fault.WordsFault.{WordsFault}
use Rattle.cr_words.specs.declared.fault.WordsFault.TheVariants.{Line, NoMemory}
use Rattle.cr_words.specs.declared.wish.Wish.{Wish}

-- how clap refuses words: they are not taken, or there was not enough memory
abbrev pub IsRefused : Bool → WordsFault → Type 0
IsRefused taken Line = taken ≡ false
IsRefused taken NoMemory = ⊤
IsRefused taken _ = ⊥

-- the words read as the wish
abbrev pub ReadsAs : List Text → Wish → Type 0
ReadsAs words wish = IsWishOf (assigned words) wish

-- the words are taken, and read as the wish
abbrev pub IsAccepted : List Text → Wish → Type 0
IsAccepted words wish = (are_taken words ≡ true) × ReadsAs words wish

-- a fault is the first of a list
abbrev pub IsFirst : List WordsFault → WordsFault → Type 0
IsFirst faults fault = (rest : List WordsFault) × (faults ≡ fault ∷ rest)

-- the fault of words: they are not taken, or they are and it is the first that is wrong with what they assign
abbrev pub IsWordsFaultOf : List Text → WordsFault → Type 0
IsWordsFaultOf words Line = are_taken words ≡ false
IsWordsFaultOf words NoMemory = ⊥
IsWordsFaultOf words fault = (are_taken words ≡ true) × IsFirst (faults_of (assigned words)) fault

-- where a fault may come: memory may always run out
abbrev pub MayFail : List Text → WordsFault → Type 0
MayFail words fault = (fault ≡ NoMemory) ⊎ IsWordsFaultOf words fault
