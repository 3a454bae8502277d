use Rattle.std.proofs.Common.{◌∙◌, ◌&&◌, ap, sym, nat_eq}
use Rattle.std.proofs.lemmas.Bool.{eq-eqb, ne_eqb}
use Rattle.cr_row.proofs.PackedOrder.{packed_eq}
use Rattle.cr_row.proofs.rows.RowPartialEq.eq.Goals as goal

pub returns-then-self-other : goal.returns-then-self-other
returns-then-self-other c =
    sym (ap (λ t. t && nat_eq c.self.inside.stage c.other.inside.stage) (eq-eqb c.self.inside.bits c.other.inside.bits c.if-self-other.true))
    ∙ packed_eq c.self.inside.stage c.other.inside.stage c.self.inside.bits c.other.inside.bits c.args.self.now c.args.other.now c.self.invariant.fits c.other.invariant.fits c.self.view_is c.other.view_is

pub returns-else-self-other : goal.returns-else-self-other
returns-else-self-other c =
    let no = ne_eqb c.self.inside.bits c.other.inside.bits c.if-self-other.false in
    no ∙ sym (ap (λ t. t && nat_eq c.self.inside.stage c.other.inside.stage) no)
    ∙ packed_eq c.self.inside.stage c.other.inside.stage c.self.inside.bits c.other.inside.bits c.args.self.now c.args.other.now c.self.invariant.fits c.other.invariant.fits c.self.view_is c.other.view_is
