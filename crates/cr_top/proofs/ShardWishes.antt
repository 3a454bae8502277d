-- A cut has one shard or more.
use Rattle.std.proofs.Common.{◌≡◌, ℕ, Option, Some, None, List, refl, subst}
use Rattle.std.specs.Prelude.{option_map, option_and_then}
use Rattle.clap.specs.Words.{Text}
use Rattle.cr_words.specs.Commands.{assigned}
use Rattle.cr_words.specs.Readings.{IsAccepted}
use Rattle.cr_words.specs.Values.{Assigned, Task, every_of, search_with, number_for, into_of, mode_for, task_of}
use Rattle.cr_words.specs.declared.table.Kind.{Kind}
use Rattle.cr_words.specs.declared.table.Kind.TheVariants as kind
use Rattle.cr_words.specs.declared.wish.Wish.{Wish}
use Rattle.cr_words.specs.declared.wish.Mode.{Mode}
use Rattle.cr_words.specs.declared.wish.Mode.TheVariants as mode
use Rattle.cr_top.specs.Endings.{HasShards}
use Rattle.cr_top.proofs.Workers.{from_text}

of_search : (given : Option (Option ℕ)) (wished : Mode) → option_map search_with given ≡ Some wished → HasShards wished
of_search None wished is = absurd (cc)
of_search (Some None) wished is = let same : mode.Search ≡ wished = cc in subst HasShards same tt
of_search (Some (Some every)) wished is = let same : mode.Trail every ≡ wished = cc in subst HasShards same tt

of_make : (number : Option ℕ) (wished : Mode) → option_map mode.Make number ≡ Some wished → HasShards wished
of_make None wished is = absurd (cc)
of_make (Some n) wished is = let same : mode.Make n ≡ wished = cc in subst HasShards same tt

of_cut : (a : Assigned) (into : Option ℕ) → into_of a ≡ into → (wished : Mode) → option_map mode.Cut into ≡ Some wished → HasShards wished
of_cut a None found wished is = absurd (cc)
of_cut a (Some n) found wished is = let same : mode.Cut n ≡ wished = cc in subst HasShards same (from_text 1 1024 (a.value _) n found).0

of_kind : (a : Assigned) (kind : Kind) (wished : Mode) → mode_for a kind ≡ Some wished → HasShards wished
of_kind a kind.Search wished is = of_search (every_of a) wished is
of_kind a kind.Make wished is = of_make (number_for a) wished is
of_kind a kind.Last wished is = let same : mode.Last ≡ wished = cc in subst HasShards same tt
of_kind a kind.Cut wished is = of_cut a (into_of a) refl wished is
of_kind a kind.Join wished is = let same : mode.Join ≡ wished = cc in subst HasShards same tt
of_kind a kind.Log wished is = let same : mode.Log ≡ wished = cc in subst HasShards same tt
of_kind a kind.Audit wished is = let same : mode.Audit ≡ wished = cc in subst HasShards same tt

of_task : (a : Assigned) (task : Option Task) (wished : Mode) → option_and_then (λ task. mode_for a task.kind) task ≡ Some wished → HasShards wished
of_task a None wished is = absurd (cc)
of_task a (Some task) wished is = of_kind a task.kind wished is

pub some_shards : (words : List Text) (wish : Wish) → IsAccepted words wish → HasShards wish.mode
some_shards words wish accepted = of_task (assigned words) (task_of (assigned words)) wish.mode accepted.1.has_mode
