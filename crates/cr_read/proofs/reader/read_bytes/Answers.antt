use Rattle.std.proofs.Common.{◌≤◌, length, subst, sym}
use Rattle.toml.specs.View.{view}
use Rattle.cr_model.specs.Keys.{members_in}
use Rattle.cr_model.specs.Files.{FileParts}
use Rattle.cr_read.proofs.Exact.{answered}
use Rattle.cr_read.proofs.MethodsThere.{methods_there}
use Rattle.cr_read.proofs.reader.read_bytes.Goals as goal

pub problem_of-requires : goal.problem_of-requires
problem_of-requires c =
    subst (λ (file : FileParts). 1 ≤ length file.methods) (sym c.in_ok-file.ensures) (methods_there (members_in (view c.in_ok-root.root)) c.in_ok-root.ensures.1)

pub returns : goal.returns
returns c = answered c.args.bytes.now c.in_ok-file.file c.problem_of.result
    (record { table = members_in (view c.in_ok-root.root); reads = c.in_ok-root.ensures.0; keys = c.in_ok-root.ensures.1; is = c.in_ok-file.ensures })
    c.problem_of.ensures
