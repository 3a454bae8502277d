-- A front of a line and a body.
use Rattle.std.proofs.Common.{ℕ, ◌+◌, List, ◌++◌, length, take, Result, Ok, Err, sym, subst, arith, length-append}
use Rattle.std.specs.Prelude.{OnErr}
use Rattle.std.proofs.lemmas.List.{take-append-le}
use Rattle.std.proofs.Math.Seq.{take-append-add}
use Rattle.cr_io.specs.Grown.{GrowsByFront}

module _ {K : Type 0} (grew : K → K → List ℕ → Type 0) where
  -- what a sink promises of bytes appended one after another
  abbrev pub Chains : Type 0
  Chains = (a b c : K) (x y : List ℕ) → grew a b x → grew b c y → grew a c (x ++ y)

  pub front_of_first : (a b : K) (x y : List ℕ) → GrowsByFront grew a b x → GrowsByFront grew a b (x ++ y)
  front_of_first a b x y front = (
    front.0,
    omega (arith, front.1, length-append x y),
    subst (grew a b) (sym (take-append-le front.0 x y (omega (arith, front.1)))) front.2,
  )

  pub front_of_both : Chains → (a b c : K) (x y : List ℕ) → grew a b x → GrowsByFront grew b c y → GrowsByFront grew a c (x ++ y)
  front_of_both chains a b c x y whole front = (
    length x + front.0,
    omega (arith, front.1, length-append x y),
    subst (grew a c) (sym (take-append-add x y front.0)) (chains a b c x (take front.0 y) whole front.2),
  )

-- what holds of an error
pub on_err : {A E : Type 0} (result : Result A E) {X : Type 0} → X → OnErr result X
on_err (Ok a) x = tt
on_err (Err e) x = x

pub on_err_more : {A E : Type 0} (result : Result A E) {X Y : Type 0} → (X → Y) → OnErr result X → OnErr result Y
on_err_more (Ok a) more x = tt
on_err_more (Err e) more x = more x
