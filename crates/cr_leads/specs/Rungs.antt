-- What ringing a calling tells.
use Rattle.std.specs.Prelude.{◌≡◌, ◌≢◌, ◌↔◌, ℕ, List, [], IsTrue}
use Rattle.cr_row.specs.Rows.{rounds}
use Rattle.cr_model.specs.Problems.{ProblemParts}
use Rattle.cr_model.specs.Callings.{rows_of, head_of, AllDiffer, TrueTouch}
use Rattle.cr_leads.specs.declared.rung.Rung.{Rung}

-- there is a last row, and it is rounds
pub record ComesRound (p : ProblemParts) (calling : List ℕ) : Type 0 where
  pub some : rows_of p calling ≢ []
  pub last : head_of p calling ≡ rounds p.stage

-- the calling's rows, and what is told of them
pub record IsRung (p : ProblemParts) (calling : List ℕ) (rung : Rung) : Type 0 where
  pub rows : rung.rows.items ≡ rows_of p calling
  pub round : IsTrue rung.round ↔ ComesRound p calling
  pub distinct : IsTrue rung.distinct ↔ AllDiffer (rows_of p calling)
  pub touch : TrueTouch p calling ↔ (IsTrue rung.round × IsTrue rung.distinct)
