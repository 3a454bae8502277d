use Rattle.std.proofs.Common.{◌<◌, ◌+◌, [], ◌∷◌, ◌++◌, length, take, arith, rules}
use Rattle.std.proofs.lemmas.List.{length-map}
use Rattle.std.specs.List.{AllZip}
use Rattle.cr_model.specs.Notation.{Spells}
use Rattle.cr_model.specs.ProblemFiles.{method_texts}
use Rattle.cr_read.specs.Reading.{Refused}
use Rattle.cr_read.proofs.Spelled.{one_more, method_refused}
use Rattle.cr_read.proofs.spellings.spellings_of_methods.Goals as goal

pub returns-in_err-spelling_of : goal.returns-in_err-spelling_of
returns-in_err-spelling_of c =
    let h : c.loop-index.index < length c.args.file.now.methods = omega arith in
    let refused : Refused c.args.file.now c.in_err-spelling_of.field-0.0 =
    method_refused c.args.file.now c.args.stage c.loop-index.index c.loop-index.spellings.items c.method_notation-text.result.now c.in_err-spelling_of.field-0.0 c.requires h c.loop-index.invariant c.method_notation-text.ensures c.in_err-spelling_of.ensures in
    search rules

pub loop-index-preserved : goal.loop-index-preserved
loop-index-preserved c =
    let h : c.loop-index.index < length (method_texts c.args.file.now) = omega (arith, length-map c.args.file.now.methods (λ m. m.notation)) in
    let more : AllZip (Spells c.args.stage) (take (c.loop-index.index + 1) (method_texts c.args.file.now)) (c.loop-index.spellings.items ++ c.in_ok-spelling_of.field-0 ∷ []) =
    one_more c.args.stage (method_texts c.args.file.now) c.loop-index.index c.loop-index.spellings.items c.method_notation-text.result.now c.in_ok-spelling_of.field-0 h c.loop-index.invariant c.method_notation-text.ensures c.in_ok-spelling_of.ensures in
    search rules
