use Rattle.std.proofs.Common.{◌≡◌, ◌+◌, [], ◌∷◌, ◌++◌, inr, sym, ap, ◌∙◌, subst}
use Rattle.std.proofs.lemmas.List.{map-append}
use Rattle.cr_shard.specs.Reads.{bytes_seen, IsReadTo}
use Rattle.cr_shard.proofs.BodyReads.{read_nothing, read_on, read_wrong}
use Rattle.cr_shard.proofs.bodies.all_bodies.Goals as goal

pub loop-place-init : goal.loop-place-init
loop-place-init c = subst (IsReadTo c.args.text.now 0) (sym (ap bytes_seen c.new-bodies.ensures.items)) (read_nothing c.args.text.now)

pub loop-place-preserved : goal.loop-place-preserved
loop-place-preserved c =
    let text = c.args.text.now in
    let before = bytes_seen c.loop-place.bodies.items in
    let more : bytes_seen c.push.new.self.items ≡ before ++ c.body_at.result.now ∷ [] =
    ap bytes_seen c.in_ok-push-in-Block.ensures.items ∙ map-append (λ body. body.now) c.loop-place.bodies.items (c.body_at.result ∷ []) in
    subst (IsReadTo text (c.in-Block.place + c.in-Block.size)) (sym more)
    (read_on text c.loop-place.at before c.loop-place.invariant c.in-Block.place c.in-Block.size c.in-Block.ensures c.body_at.result.now c.body_at.ensures)

pub returns-in-Form : goal.returns-in-Form
returns-in-Form c = inr (read_wrong c.args.text.now c.loop-place.at (bytes_seen c.loop-place.bodies.items) c.loop-place.invariant c.in-Form.place c.in-Form.ensures)
