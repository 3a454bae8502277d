-- The representative rows, and the leads by them.
use Rattle.std.specs.Prelude.{◌≡◌, ℕ, ◌-◌, ◌*◌, ◌<◌, Bool, false, nat_eq, List, [], ◌++◌, length, get_or, map, flat_map, replicate, take, drop, All}
use Rattle.std.specs.List.{list_any}
use Rattle.cr_rowset.specs.Pushing.{StandsAt}
use Rattle.cr_path.specs.Rung.{rung_numbers, IsHeld}
use Rattle.cr_path.specs.declared.numbers.rung_leads.RungLead.{RungLead}
use Rattle.cr_path.specs.declared.numbers.table.LeadRecord.{LeadRecord}

-- of the first so many rows those that cover themselves, in their order, and the place that each row has or would have among them
pub record AreRepresentatives (rows : List (List ℕ)) (cover : List ℕ) (representatives : List (List ℕ)) (places : List ℕ) (done : ℕ) : Type 0 where
  pub long : length places ≡ done
  pub placed : (row : ℕ) → row < done → get_or cover row 0 ≡ row → StandsAt representatives (get_or rows row []) (get_or places row 0)
  pub each : (place : ℕ) → place < length representatives → (row : ℕ) × (row < done) × (get_or cover row 0 ≡ row) × (get_or places row 0 ≡ place)
  pub first : 0 < done → get_or places 0 0 ≡ 0

-- the number that a row gets: the place of what covers it
abbrev pub name_of : List ℕ → List ℕ → ℕ → ℕ
name_of cover places row = get_or places (get_or cover row 0) 0

-- what covers a row has a place, and the row a name below a number
abbrev pub HasName : List ℕ → List ℕ → ℕ → ℕ → Type 0
HasName cover places below row = (row < length cover) × (get_or cover row 0 < length places) × (name_of cover places row < below)

-- the same numbers stand in both lists
pub record AreSame (names now : List ℕ) : Type 0 where
  pub same : (name : ℕ) → list_any (nat_eq name) now ≡ list_any (nat_eq name) names

-- a lead that was rung, with names in place of the numbers of its rows
pub record IsListed (numbers : List ℕ) (name : ℕ → ℕ) (names : List ℕ) (rung lead : RungLead) : Type 0 where
  pub held : IsHeld (length names) lead
  pub same : AreSame (map name (rung_numbers numbers rung)) (rung_numbers names lead)

-- the first so many leads, by names below a number
pub record AreListed (numbers : List ℕ) (name : ℕ → ℕ) (below : ℕ) (rung leads : List RungLead) (names : List ℕ) (done : ℕ) : Type 0 where
  pub long : length leads ≡ done
  pub within : All (λ n. n < below) names
  pub each : (i : ℕ) (d e : RungLead) → i < done → IsListed numbers name names (get_or rung i d) (get_or leads i e)

-- as many names as a width, with the first one again where they are fewer
abbrev pub padded : ℕ → List ℕ → List ℕ
padded width names = names ++ replicate (width - length names) (get_or names 0 0)

-- those of some leads, one after another
abbrev pub all_padded : ℕ → List ℕ → List RungLead → List ℕ
all_padded width names leads = flat_map (λ lead. padded width (rung_numbers names lead)) leads

-- what a lead keeps of the one that was rung, where each head has so many records, and these heads come round
pub record IsLike (steps : ℕ) (round_heads : List Bool) (rung : RungLead) (lead : LeadRecord) : Type 0 where
  pub next : lead.next ≡ rung.next * steps
  pub round : lead.round ≡ get_or round_heads rung.next false
  pub limit : lead.limit ≡ rung.limit
  pub long : lead.length ≡ rung.length

-- the same of the first so many leads
pub record AreLike (steps : ℕ) (round_heads : List Bool) (rung : List RungLead) (leads : List LeadRecord) (done : ℕ) : Type 0 where
  pub long : length leads ≡ done
  pub each : (i : ℕ) (d : RungLead) (e : LeadRecord) → i < done → IsLike steps round_heads (get_or rung i d) (get_or leads i e)

-- leads that were rung, each with so many names below a number
pub record AreNamed (numbers : List ℕ) (name : ℕ → ℕ) (below width : ℕ) (rung : List RungLead) (names : List ℕ) : Type 0 where
  pub long : length names ≡ length rung * width
  pub within : All (λ n. n < below) names
  pub each : (i : ℕ) (d : RungLead) → i < length rung → AreSame (map name (rung_numbers numbers (get_or rung i d))) (take width (drop (i * width) names))
