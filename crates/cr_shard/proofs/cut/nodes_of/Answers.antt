use Rattle.std.proofs.Common.{◌≡◌, ◌+◌, ◌<◌, ◌++◌, ◌∷◌, [], length, get_or, drop, sym, ap, ◌∙◌, arith}
use Rattle.std.proofs.lemmas.List.{get_or-map, length-map, map-append}
use Rattle.cr_shard.specs.Deals.{dealt_from, dealt_nodes, nodes_seen}
use Rattle.cr_shard.proofs.Dealing.{first_round, round_more}
use Rattle.cr_shard.proofs.cut.nodes_of.Goals as goal

pub loop-place-init : goal.loop-place-init
loop-place-init c =
    let first = first_round c.args.into c.args.shard (nodes_seen c.args.nodes.now) c.requires in
    let rest = dealt_from c.args.into c.args.shard c.args.shard (drop c.args.shard (nodes_seen c.args.nodes.now)) in
    (first.0, ap (λ l. nodes_seen l ++ rest) c.in_ok-dealt.ensures.items ∙ first.1)

pub loop-place-preserved : goal.loop-place-preserved
loop-place-preserved c =
    let all = c.args.nodes.now in
    let nodes = nodes_seen all in
    let place = c.loop-place.place in
    let dealt = c.loop-place.dealt.items in
    let node = c.index-nodes-place.result in
    let seen : place < length all = omega (arith, c.loop-place-test.true) in
    let inside : place < length nodes = omega (arith, seen, length-map all (λ node. node.now)) in
    let read : node.now ≡ get_or nodes place [] =
    ap (λ node. node.now) c.index-nodes-place.is ∙ sym (get_or-map (λ node. node.now) all place node [] seen) in
    let more = round_more c.args.into c.args.shard nodes (nodes_seen dealt) (dealt_nodes c.args.into c.args.shard nodes) place node.now
    c.requires c.loop-place.invariant.0 inside read c.loop-place.invariant.1 in
    let rest = dealt_from c.args.into c.args.shard (place + c.args.into) (drop (place + c.args.into) nodes) in
    (more.0, ap (λ l. nodes_seen l ++ rest) c.in_ok-push.ensures.items ∙ ap (λ l. l ++ rest) (map-append (λ node. node.now) dealt (node ∷ [])) ∙ more.1)
