-- The heads after leads, one more at a time.
use Rattle.std.proofs.Common.{◌≡◌, ℕ, ◌+◌, ◌*◌, ◌<◌, List, [], ◌∷◌, ◌++◌, length, get_or, inl, inr, refl, sym, ap, ap₂, ◌∙◌, subst, arith, length-append}
use Rattle.std.proofs.lemmas.Bool.{cases_eq}
use Rattle.std.proofs.lemmas.Nat.{same_from_place}
use Rattle.std.proofs.lemmas.List.{get_or_append_left, get_or_push}
use Rattle.cr_model.specs.Problems.{ProblemParts}
use Rattle.cr_rowset.specs.Pushing.{StandsAt}
use Rattle.cr_path.specs.Numbers.{head_after}
use Rattle.cr_path.specs.RungLeads.{IsKept, HasNumber}
use Rattle.cr_path.specs.Heads.{AreNext}
use Rattle.cr_path.proofs.Grown.{kept_by}
use Rattle.cr_path.proofs.Recorded.{row_inside}

pub next_none : (p : ProblemParts) (heads : List (List ℕ)) → AreNext p heads [] 0
next_none p heads = record { counted = refl; each = λ place step place_in step_in low. absurd (omega (arith, low)) }

pub next_more : (p : ProblemParts) (old new : List (List ℕ)) (next later : List ℕ) (place step done number : ℕ) → AreNext p old next done
    → done ≡ place * length p.leads + step → place < length old → step < length p.leads
    → HasNumber old (head_after p (get_or old place []) step) number new → later ≡ next ++ number ∷ [] → AreNext p new later (done + 1)
next_more p old new next later place step done number are at place_in step_in has is =
    let kept : IsKept old new = kept_by old new (head_after p (get_or old place []) step) number has in
    record {
      counted = ap length is ∙ length-append next (number ∷ []) ∙ ap (λ n. n + 1) are.counted;
      each = λ other its other_in its_in low.
          let index : ℕ = other * length p.leads + its in
          elim (cases_eq index done) [
            | inl last ↦
                let same = same_from_place other its place step (length p.leads) its_in step_in (last ∙ at) in
                let here : number ≡ get_or later index 0 =
                sym (ap₂ (λ (xs : List ℕ) (n : ℕ). get_or xs n 0) is last ∙ get_or_push next number 0 done are.counted) in
                let from : get_or old place [] ≡ get_or new other [] =
                sym (kept.same place place_in) ∙ ap (λ n. get_or new n []) (sym same.0) in
                subst (λ (n : ℕ). StandsAt new (head_after p (get_or new other []) its) n) here
                (subst (λ (h : List ℕ). StandsAt new (head_after p h its) number) from
                (subst (λ (s : ℕ). StandsAt new (head_after p (get_or old place []) s) number) (sym same.1) has.stands))
            | inr earlier ↦
                let below : index < done = omega (arith, low, earlier) in
                let inside : other < length old = row_inside other its place step (length old) (length p.leads) place_in step_in (omega (arith, below, at)) in
                let stands : StandsAt old (head_after p (get_or old other []) its) (get_or next index 0) = are.each other its inside its_in below in
                let here : get_or next index 0 ≡ get_or later index 0 =
                sym (ap (λ (xs : List ℕ). get_or xs index 0) is ∙ get_or_append_left next (number ∷ []) 0 index (omega (arith, below, are.counted))) in
                let from : get_or old other [] ≡ get_or new other [] = sym (kept.same other inside) in
                subst (λ (n : ℕ). StandsAt new (head_after p (get_or new other []) its) n) here
                (subst (λ (h : List ℕ). StandsAt new (head_after p h its) (get_or next index 0)) from
                (record { within = omega (arith, stands.within, kept.long); is = kept.same (get_or next index 0) stands.within ∙ stands.is }))
          ];
    }
