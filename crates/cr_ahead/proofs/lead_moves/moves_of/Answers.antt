-- The lists hang together.
use Rattle.std.proofs.Common.{length, sym, ap, ◌∙◌, subst}
use Rattle.std.proofs.lemmas.Bool.{false≢true}
use Rattle.std.proofs.lemmas.List.{length-replicate}
use Rattle.cr_ahead.specs.Moves.{MovesParts}
use Rattle.cr_ahead.specs.Outlooks.{AreGround}
use Rattle.cr_ahead.proofs.HeadMoves.{AreLists, lists_sound, moves_are}
use Rattle.cr_ahead.proofs.lead_moves.moves_of.Goals as goal

pub unreachable-requires : goal.unreachable-requires
unreachable-requires c =
    let p = c.args.problem.now in
    let m : MovesParts = record { next = c.in_ok-next.next.items; lengths = c.in_ok-lengths.lengths.items; gains = c.in_ok-gains.gains.items; ends = c.in_ok-ends.ends.items } in
    let are : AreLists p c.args.heads.now c.args.next.now c.args.range.unit m = record {
      places = c.in_ok-next.ensures.items_if_clones_equal (λ x y same. same);
      lengths = c.in_ok-lengths.ensures;
      gains = ap length (c.in_ok-gains.ensures.items_if_clones_equal (λ y same. same)) ∙ length-replicate _ _;
      ends = c.in_ok-ends.ensures;
    } in
    false≢true (c.in-None.ensures.some.1 (lists_sound p c.args.heads.now c.args.next.now c.args.range.unit m c.stage.ensures.sound c.requires.leads c.requires.range.is_unit are))

pub returns-clause-ground : goal.returns-clause-ground
returns-clause-ground c =
    let p = c.args.problem.now in
    let m : MovesParts = record { next = c.in_ok-next.next.items; lengths = c.in_ok-lengths.lengths.items; gains = c.in_ok-gains.gains.items; ends = c.in_ok-ends.ends.items } in
    let are : AreLists p c.args.heads.now c.args.next.now c.args.range.unit m = record {
      places = c.in_ok-next.ensures.items_if_clones_equal (λ x y same. same);
      lengths = c.in_ok-lengths.ensures;
      gains = ap length (c.in_ok-gains.ensures.items_if_clones_equal (λ y same. same)) ∙ length-replicate _ _;
      ends = c.in_ok-ends.ensures;
    } in
    subst (AreGround p c.args.heads.now c.args.range) (sym c.in-Some.ensures.is)
    (record {
      sound = c.stage.ensures.sound;
      few = c.requires.leads.few;
      staged = c.requires.leads.staged;
      moves = moves_are p c.args.heads.now c.args.next.now c.args.range.unit m c.stage.ensures.sound c.requires.leads c.requires.range.is_unit are;
      lengths = c.requires.range;
    })

pub returns-clause-next : goal.returns-clause-next
returns-clause-next c = ap (λ (m : MovesParts). m.next) c.in-Some.ensures.is ∙ c.in_ok-next.ensures.items_if_clones_equal (λ x y same. same)
