-- What may still follow in a text that has a checkpoint's shape, stage by stage.
use Rattle.std.specs.Prelude.{◌≡◌, ℕ, zero, suc, ◌<◌, ◌⊎◌, List, ◌++◌, length, codes}
use Rattle.cr_model.specs.Checkpoints.{number_line}
use Rattle.cr_model.specs.Texts.{IsNumber}
use Rattle.cr_store.specs.Shapes.{found_text, node_text, IsFoundLine, IsNodeLine, line_feeds}

-- the text of one value, and then a text of a set that the value tells
pub record Then {V : Type 0} (text : V → List ℕ) (Known : V → Type 0) (Next : V → List ℕ → Type 0) (all : List ℕ) : Type 0 where
  pub value : V
  pub rest : List ℕ
  pub known : Known value
  pub is : all ≡ text value ++ rest
  pub next : Next value rest

-- the texts of so many values, and then a text of a set
abbrev pub Lines : {V : Type 0} → (V → List ℕ) → (V → Type 0) → (List ℕ → Type 0) → ℕ → List ℕ → Type 0
Lines text Known Next zero all = Next all
Lines text Known Next (suc n) all = Then text Known (λ _. Lines text Known Next n) all

abbrev pub AtEnd : List ℕ → Type 0
AtEnd all = all ≡ codes "end\n"

-- a number of one or more
abbrev pub IsCount : ℕ → Type 0
IsCount n = (0 < n) × IsNumber n

-- the lines of so many nodes, and what comes after them
abbrev pub AtNodes : ℕ → (List ℕ → Type 0) → ℕ → List ℕ → Type 0
AtNodes version Next = Lines (node_text version) (IsNodeLine version) Next

-- so many jobs, and the end
abbrev pub AtJobs : ℕ → ℕ → List ℕ → Type 0
AtJobs version zero all = AtEnd all
AtJobs version (suc n) all = Then (number_line (codes "job")) IsCount (AtNodes version (AtJobs version n)) all

-- the line `jobs` and what comes after it
abbrev pub AtJobCount : ℕ → List ℕ → Type 0
AtJobCount version = Then (number_line (codes "jobs")) IsNumber (AtJobs version)

-- so many found lines, and what comes after them
abbrev pub AtFound : ℕ → ℕ → List ℕ → Type 0
AtFound version = Lines found_text IsFoundLine (AtJobCount version)

-- the line `found` and what comes after it
abbrev pub AtFoundCount : ℕ → List ℕ → Type 0
AtFoundCount version = Then (number_line (codes "found")) IsNumber (AtFound version)

-- so many bytes of a problem, a line feed, and what comes after it
pub record AtProblem (version size : ℕ) (all : List ℕ) : Type 0 where
  pub problem : List ℕ
  pub rest : List ℕ
  pub long : length problem ≡ size
  pub is : all ≡ problem ++ codes "\n" ++ rest
  pub next : AtFoundCount version rest

-- the line `problem` and what comes after it
abbrev pub AtProblemSize : ℕ → List ℕ → Type 0
AtProblemSize version = Then (number_line (codes "problem")) IsNumber (AtProblem version)

abbrev pub IsVersion : ℕ → Type 0
IsVersion version = (version ≡ 1) ⊎ (version ≡ 2)

-- the whole text
abbrev pub AtStart : List ℕ → Type 0
AtStart = Then (number_line (codes "ringsearch checkpoint")) IsVersion AtProblemSize

-- a text is none of the set, and it goes wrong first on the line on which the byte stands that has so many bytes from
-- it to the end, or where that many bytes are left, which are none, the next byte would stand
pub record IsWrongAt (Set : List ℕ → Type 0) (text : List ℕ) (left : ℕ) : Type 0 where
  pub front : List ℕ
  pub rest : List ℕ
  pub is : text ≡ front ++ rest
  pub left_is : length rest ≡ left
  pub none : Set text → ⊥
  pub more : List ℕ
  pub before : Set (front ++ more)
  pub here : (upto others next : List ℕ) → text ≡ upto ++ others → line_feeds front < line_feeds upto → Set (upto ++ next) → ⊥
