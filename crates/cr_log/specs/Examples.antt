-- Verdicts in the order in which they are looked at.
use Rattle.std.specs.Prelude.{Bool, true, not, ◌&&◌, List, [], ◌∷◌}
use Rattle.std.specs.List.{list_all}
use Rattle.cr_audit.specs.declared.verdict.Item.TheVariants as item
use Rattle.cr_audit.specs.declared.verdict.Verdict.{Verdict}
use Rattle.cr_audit.specs.declared.verdict.Verdict.TheVariants as verdict
use Rattle.cr_log.specs.FirstVerdicts.{comes_before}

-- each comes before all that follow it, and none of these before it
abbrev pub each_before : List Verdict → Bool
each_before [] = true
each_before (one ∷ others) = list_all (λ other. comes_before one other && not (comes_before other one)) others && each_before others

abbrev pub in_order : List Verdict
in_order =
    verdict.Long ∷ verdict.Again 5 6 ∷ verdict.Again 0 7 ∷ verdict.Home 0 ∷ verdict.Home 1
    ∷ verdict.Many (item.Count 0) ∷ verdict.Many (item.Count 1) ∷ verdict.Many (item.Leads 0) ∷ verdict.Many (item.Rows 0) ∷ verdict.Many item.Com
    ∷ verdict.Few (item.Count 0) ∷ verdict.Few (item.Leads 0) ∷ verdict.Few (item.Leads 1) ∷ verdict.Few (item.Rows 0) ∷ verdict.Few item.Com
    ∷ verdict.Back 1 ∷ verdict.Back 2 ∷ verdict.Open ∷ []
