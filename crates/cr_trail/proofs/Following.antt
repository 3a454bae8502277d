-- Runs one after another.
use Rattle.std.proofs.Common.{◌≡◌, ℕ, ◌+◌, ◌-◌, ◌≤◌, ◌⊎◌, List, [], ◌++◌, Option, Some, None, inl, inr, sym, ap, ◌∙◌, subst, arith, append-nil}
use Rattle.std.proofs.lemmas.List.{append_assoc}
use Rattle.cr_model.specs.Problems.{ProblemParts}
use Rattle.cr_model.specs.Checkpoints.{CanGoOn, nodes_of_jobs}
use Rattle.cr_board.specs.Partitions.{IsPartition}
use Rattle.cr_trail.specs.Runs.{KeepsTo, RunsTo, RunsOn, BoardRan, UnderWay, OnTheWay, board_turns, turns_after}
use Rattle.cr_trail.proofs.Going.{Begun, Onward, can_open, begins, goes_on, is_run}

-- a run behind what was found before
pub begun_run : Begun → Onward → (p : ProblemParts) (found : List (List ℕ)) (jobs : List (List (List ℕ))) (turns : Option ℕ)
    (now : List (List ℕ)) (left : List (List (List ℕ))) → CanGoOn p found jobs → RunsOn p found jobs turns now left → RunsTo p found jobs turns now left
begun_run begun onward p found jobs turns now left on ran =
    let nothing_more : 0 + ran.run.used ≡ ran.run.used = omega arith in
    record {
      used = ran.run.used;
      way = record {
        began = on;
        nodes = subst (λ touches. IsPartition p found (nodes_of_jobs jobs) touches (nodes_of_jobs left) ran.run.used) (sym ran.behind)
            (subst (λ spent. IsPartition p found (nodes_of_jobs jobs) (found ++ ran.more) (nodes_of_jobs left) spent) nothing_more
            (onward p found (nodes_of_jobs jobs) found (nodes_of_jobs jobs) ran.more (nodes_of_jobs left) 0 ran.run.used
            (begun p found (nodes_of_jobs jobs) on.kept on.valid on.independent) ran.run.way.nodes));
        filled = ran.run.way.filled;
      };
      keeps = ran.run.keeps;
      ends = ran.run.ends;
    }

-- what a run left can be gone on with
pub can_follow : (p : ProblemParts) (found : List (List ℕ)) (jobs : List (List (List ℕ))) (turns : Option ℕ)
    (now : List (List ℕ)) (left : List (List (List ℕ))) → RunsOn p found jobs turns now left → CanGoOn p [] left
can_follow p found jobs turns now left ran = can_open p [] jobs ran.more left ran.run.used ran.run.way

-- fewer turns keep to what more of them keep to
fewer : (turns : Option ℕ) (used first : ℕ) → used ≤ first → KeepsTo turns first → KeepsTo turns used
fewer None used first less keeps = tt
fewer (Some most) used first less keeps = omega (arith, less, keeps)

-- a run that left no job is one of all turns that are allowed
pub over_run : (p : ProblemParts) (found : List (List ℕ)) (jobs : List (List (List ℕ))) (turns : Option ℕ) (first : ℕ)
    (now : List (List ℕ)) (left : List (List (List ℕ))) → RunsOn p found jobs (Some first) now left → KeepsTo turns first
    → left ≡ [] → RunsOn p found jobs turns now left
over_run p found jobs turns first now left ran keeps none = record {
  more = ran.more;
  behind = ran.behind;
  run = record { used = ran.run.used; way = ran.run.way; keeps = fewer turns ran.run.used first ran.run.keeps keeps; ends = inl none };
}

-- so many turns, and then at most the rest of those that are allowed
rest_kept : (turns : Option ℕ) (first used : ℕ) → KeepsTo turns first → KeepsTo (turns_after turns first) used → KeepsTo turns (first + used)
rest_kept None first used keeps rest = tt
rest_kept (Some most) first used keeps rest = omega (arith, keeps, rest)

rest_ends : (turns : Option ℕ) (first used : ℕ) → KeepsTo turns first → turns_after turns first ≡ Some used → turns ≡ Some (first + used)
rest_ends None first used keeps is = absurd (cc)
rest_ends (Some most) first used keeps is =
    let same : most - first ≡ used = cc in
    ap Some (omega (arith, same, keeps))

-- a run by the rest of the turns behind another one
pub longer_run : Onward → (p : ProblemParts) (found : List (List ℕ)) (jobs : List (List (List ℕ))) (turns : Option ℕ) (first : ℕ)
    (now : List (List ℕ)) (left : List (List (List ℕ))) (later : List (List ℕ)) (rest : List (List (List ℕ)))
    → RunsOn p found jobs (Some first) now left → KeepsTo turns first → (left ≡ [] → ⊥)
    → RunsOn p now left (turns_after turns first) later rest → RunsOn p found jobs turns later rest
longer_run onward p found jobs turns first now left later rest ran keeps some next =
    let all_used : first ≡ ran.run.used = elim ran.run.ends [
      | inl none ↦ absurd (some none)
      | inr is ↦ cc
    ] in
    record {
      more = ran.more ++ next.more;
      behind = next.behind ∙ ap (λ touches. touches ++ next.more) ran.behind ∙ append_assoc found ran.more next.more;
      run = record {
        used = ran.run.used + next.run.used;
        way = record {
          began = ran.run.way.began;
          nodes = onward p [] (nodes_of_jobs jobs) ran.more (nodes_of_jobs left) next.more (nodes_of_jobs rest) ran.run.used next.run.used
              ran.run.way.nodes next.run.way.nodes;
          filled = next.run.way.filled;
        };
        keeps = subst (λ turn. KeepsTo turns (turn + next.run.used)) all_used (rest_kept turns first next.run.used keeps next.run.keeps);
        ends = elim next.run.ends [
          | inl none ↦ inl none
          | inr is ↦ inr (subst (λ turn. turns ≡ Some (turn + next.run.used)) all_used (rest_ends turns first next.run.used keeps is))
        ];
      };
    }

-- behind touches that were found before: at first, after one board more, and at the end
pub way_begun : Begun → (p : ProblemParts) (found : List (List ℕ)) (jobs : List (List (List ℕ))) (turns : Option ℕ) → CanGoOn p [] jobs
    → OnTheWay p found jobs turns found jobs turns
way_begun begun p found jobs turns on = record { more = []; behind = sym (append-nil found); way = begins p [] jobs turns begun on }

pub way_on : Onward → (p : ProblemParts) (found : List (List ℕ)) (jobs : List (List (List ℕ))) (turns : Option ℕ) (now new after : List (List ℕ))
    (left rest : List (List (List ℕ))) (allowed later : Option ℕ) (most used : ℕ) → OnTheWay p found jobs turns now left allowed
    → BoardRan p left (board_turns allowed most) new rest used → after ≡ now ++ new → later ≡ turns_after allowed used
    → OnTheWay p found jobs turns after rest later
way_on onward p found jobs turns now new after left rest allowed later most used on ran is then = record {
  more = on.more ++ new;
  behind = is ∙ ap (λ touches. touches ++ new) on.behind ∙ append_assoc found on.more new;
  way = subst (UnderWay p [] jobs turns (on.more ++ new) rest) (sym then) (goes_on p [] jobs turns onward on.more new left rest allowed most used on.way ran);
}

pub way_ends : (p : ProblemParts) (found : List (List ℕ)) (jobs : List (List (List ℕ))) (turns : Option ℕ) (now : List (List ℕ))
    (left : List (List (List ℕ))) (allowed : Option ℕ) → OnTheWay p found jobs turns now left allowed → (left ≡ []) ⊎ (allowed ≡ Some 0)
    → RunsOn p found jobs turns now left
way_ends p found jobs turns now left allowed on over = record { more = on.more; behind = on.behind; run = is_run p [] jobs turns on.more left allowed on.way over }
