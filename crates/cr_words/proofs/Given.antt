-- Whether an option was given, by the source of its value.
use Rattle.std.proofs.Common.{◌≡◌, ◌∙◌, refl, ap, sym, Bool, true, false, Option, Some, None, is_some, List, ℕ}
use Rattle.std.proofs.lemmas.Bool.{both_ways}
use Rattle.std.specs.Option.{option_map_or}
use Rattle.std.specs.Prelude.{option_and_then}
use Rattle.clap.specs.Facts.{explicit_source}
use Rattle.clap.specs.Matches.{matched_of}
use Rattle.clap.specs.Takes.{is_given}
use Rattle.clap.specs.Walk.{rows_of}
use Rattle.clap.proofs.TakesLemmas.{present_row}
use Rattle.clap.specs.declared.parser.matches.Found.{Found}
use Rattle.clap.specs.declared.parser.matches.MatchedArg.{MatchedArg}
use Rattle.clap.specs.declared.parser.matches.ValueSource.{ValueSource}

by_source : (o : Option MatchedArg) (source : ValueSource) → Some source ≡ option_and_then (λ a. a.source) o
    → explicit_source (Some source) ≡ option_map_or (λ a. explicit_source a.source) o false
by_source None source e = absurd (both_ways true (ap is_some e) refl)
by_source (Some a) source e = ap explicit_source e

by_entry : (o : Option MatchedArg) → None ≡ option_and_then (λ a. a.source) o
    → is_some o ≡ option_map_or (λ a. explicit_source a.source) o false
by_entry None e = refl
by_entry (Some a) e = ap explicit_source e

-- a source tells whether the option was given, and without one its entry does
pub given_by_source : (f : Found) (id : List ℕ) (source is : ValueSource) → source ≡ is
    → Some source ≡ option_and_then (λ a. a.source) (matched_of f id) → explicit_source (Some is) ≡ is_given id (rows_of f)
given_by_source f id source is same found =
    ap (λ s. explicit_source (Some s)) (sym same) ∙ by_source (matched_of f id) source found ∙ present_row f id

pub given_by_entry : (f : Found) (id : List ℕ) (b : Bool) → None ≡ option_and_then (λ a. a.source) (matched_of f id)
    → b ≡ is_some (matched_of f id) → b ≡ is_given id (rows_of f)
given_by_entry f id b is tells = tells ∙ by_entry (matched_of f id) is ∙ present_row f id
