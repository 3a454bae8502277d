use Rattle.std.proofs.Common.{◌≡◌, sym, ap, ◌∙◌, subst, take}
use Rattle.std.proofs.lemmas.Result.{IfOk-weaker}
use Rattle.cr_shard.specs.Hashes.{IsClean}
use Rattle.cr_shard.specs.Ways.{AreHashed, steps_of}
use Rattle.cr_shard.proofs.Hashing.{hashed_take, steps_taken, clean_take}
use Rattle.cr_shard.proofs.way.Way.go_to.Goals as goal

pub invariant_of-self : goal.invariant_of-self
invariant_of-self c = subst (AreHashed 0) (sym c.truncate.ensures.items) (hashed_take 0 c.shared-shared.result c.self.inside.fronts.items c.self.invariant)

pub go_on-requires-clause-begins : goal.go_on-requires-clause-begins
go_on-requires-clause-begins c =
    ap steps_of c.truncate.ensures.items ∙ steps_taken c.shared-shared.result c.self.inside.fronts.items ∙ ap (take c.shared-shared.result) c.self.view_is
    ∙ c.shared-shared.ensures.same

pub returns : goal.returns
returns c =
    let begun = c.shared-shared.result in
    let hashes = c.args.known.now.hashes in
    let back : steps_of c.truncate.new.self.items ≡ take begun c.args.self.now =
    ap steps_of c.truncate.ensures.items ∙ steps_taken begun c.self.inside.fronts.items ∙ ap (take begun) c.self.view_is in
    IfOk-weaker c.go_on.result _ _
    (λ going gives ended clean. gives ended (subst (IsClean hashes) (sym back) (clean_take hashes c.args.self.now begun clean)))
    c.go_on.ensures
