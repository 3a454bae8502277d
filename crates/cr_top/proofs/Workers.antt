-- A wish has 1 to 64 workers, and a trail a checkpoint after one turn or more.
use Rattle.std.proofs.Common.{◌≡◌, ℕ, ◌≤◌, Bool, true, false, cond, List, Option, Some, None, refl, subst, arith}
use Rattle.std.proofs.lemmas.Bool.Decides.{nat_tests}
use Rattle.std.specs.Prelude.{option_map, option_and_then, nat_le, ◌&&◌}
use Rattle.clap.specs.Words.{Text}
use Rattle.cr_words.specs.Commands.{assigned}
use Rattle.cr_words.specs.Numbers.{number_of, in_range, number_from}
use Rattle.cr_words.specs.Readings.{IsAccepted}
use Rattle.cr_words.specs.Values.{Assigned, Task, turns_among, every_of, search_with, number_for, into_of, mode_for, task_of}
use Rattle.cr_words.specs.declared.table.Kind.{Kind}
use Rattle.cr_words.specs.declared.table.Kind.TheVariants as kind
use Rattle.cr_words.specs.declared.wish.Wish.{Wish}
use Rattle.cr_words.specs.declared.wish.Mode.{Mode}
use Rattle.cr_words.specs.declared.wish.Mode.TheVariants as mode
use Rattle.cr_top.specs.Endings.{HasTurns}

in_bounds : (least most n k : ℕ) → in_range least most n ≡ Some k → (least ≤ k) × (k ≤ most)
in_bounds least most n k is = by (nat_le least n && nat_le n most) refl is
  where
    by : (b : Bool) → (nat_le least n && nat_le n most) ≡ b → cond b (Some n) None ≡ Some k → (least ≤ k) × (k ≤ most)
    by true within found = let same : n ≡ k = cc in grind (arith, nat_tests)
    by false within found = absurd (cc)

from_number : (least most : ℕ) (number : Option ℕ) (k : ℕ) → option_and_then (in_range least most) number ≡ Some k → (least ≤ k) × (k ≤ most)
from_number least most None k is = absurd (cc)
from_number least most (Some n) k is = in_bounds least most n k is

pub from_text : (least most : ℕ) (text : Option (List ℕ)) (k : ℕ) → option_and_then (number_from least most) text ≡ Some k → (least ≤ k) × (k ≤ most)
unfolding number_from
from_text least most None k is = absurd (cc)
from_text least most (Some text) k is = from_number least most (number_of text) k is

pub some_workers : (words : List Text) (wish : Wish) → IsAccepted words wish → 1 ≤ wish.workers
some_workers words wish accepted = (from_text 1 64 _ wish.workers accepted.1.has_workers).0

pub few_workers : (words : List Text) (wish : Wish) → IsAccepted words wish → wish.workers ≤ 64
few_workers words wish accepted = (from_text 1 64 _ wish.workers accepted.1.has_workers).1

-- what `--every` gives is 1 or more
some_every : (text : Option (List ℕ)) (every : ℕ) → turns_among 1 text ≡ Some (Some every) → 1 ≤ every
some_every None every is = absurd (cc)
some_every (Some text) every is = by (number_from 1 9223372036854775807 text) refl is
  where
    by : (number : Option ℕ) → number_from 1 9223372036854775807 text ≡ number → option_map Some number ≡ Some (Some every) → 1 ≤ every
    by None found is = absurd (cc)
    by (Some n) found is = let same : n ≡ every = cc in omega (arith, same, (from_text 1 9223372036854775807 (Some text) n found).0)

of_search : (a : Assigned) (given : Option (Option ℕ)) → every_of a ≡ given → (wished : Mode) → option_map search_with given ≡ Some wished → HasTurns wished
of_search a None found wished is = absurd (cc)
of_search a (Some None) found wished is = let same : mode.Search ≡ wished = cc in subst HasTurns same tt
of_search a (Some (Some every)) found wished is =
    let same : mode.Trail every ≡ wished = cc in subst HasTurns same (some_every (a.value _) every found)

of_kind : (a : Assigned) (kind : Kind) (wished : Mode) → mode_for a kind ≡ Some wished → HasTurns wished
of_kind a kind.Search wished is = of_search a (every_of a) refl wished is
of_kind a kind.Make wished is = by (number_for a) is
  where
    by : (number : Option ℕ) → option_map mode.Make number ≡ Some wished → HasTurns wished
    by None is = absurd (cc)
    by (Some n) is = let same : mode.Make n ≡ wished = cc in subst HasTurns same tt
of_kind a kind.Last wished is = let same : mode.Last ≡ wished = cc in subst HasTurns same tt
of_kind a kind.Cut wished is = by (into_of a) is
  where
    by : (number : Option ℕ) → option_map mode.Cut number ≡ Some wished → HasTurns wished
    by None is = absurd (cc)
    by (Some n) is = let same : mode.Cut n ≡ wished = cc in subst HasTurns same tt
of_kind a kind.Join wished is = let same : mode.Join ≡ wished = cc in subst HasTurns same tt
of_kind a kind.Log wished is = let same : mode.Log ≡ wished = cc in subst HasTurns same tt
of_kind a kind.Audit wished is = let same : mode.Audit ≡ wished = cc in subst HasTurns same tt

of_task : (a : Assigned) (task : Option Task) (wished : Mode) → option_and_then (λ task. mode_for a task.kind) task ≡ Some wished → HasTurns wished
of_task a None wished is = absurd (cc)
of_task a (Some task) wished is = of_kind a task.kind wished is

pub some_turns : (words : List Text) (wish : Wish) → IsAccepted words wish → HasTurns wish.mode
some_turns words wish accepted = of_task (assigned words) (task_of (assigned words)) wish.mode accepted.1.has_mode
