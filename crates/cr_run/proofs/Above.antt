-- What is above the last number is above all.
use Rattle.std.proofs.Common.{◌≡◌, ℕ, ◌<◌, ◌≤◌, List, [], ◌∷◌, ◌++◌, All, Some, refl, sym, subst, arith}
use Rattle.std.proofs.lemmas.List.Elements.{All-weaker, All-push}
use Rattle.cr_run.specs.Keys.{IsLast}

pub above_all : (last number : ℕ) (put : List ℕ) → last < number → IsLast (Some last) put → All (λ x. x < number) put
above_all last number put low h = All-weaker (λ x. x ≤ last) (λ x. x < number) (λ x l. omega arith) put (h.0 last refl)

pub last_more : (number : ℕ) (put more : List ℕ) → more ≡ put ++ number ∷ [] → All (λ x. x < number) put → IsLast (Some number) more
last_more number put more is above =
    let all : All (λ x. x ≤ number) more = subst (All (λ x. x ≤ number)) (sym is) (All-push (λ x. x ≤ number) put number (All-weaker (λ x. x < number) (λ x. x ≤ number) (λ x l. omega arith) put above) (omega arith)) in
    ((λ n e. let same : number ≡ n = cc in subst (λ m. All (λ x. x ≤ m) more) same all), λ e. cc)
