use Rattle.std.proofs.Common.{◌≡◌, length, ap, subst, sym, arith}
use Rattle.std.proofs.lemmas.Result.{err_from_is_err_and}
use Rattle.cr_notation.specs.Reading.{read_from, limited, read_all}
use Rattle.cr_notation.specs.Refining.{state_of, IsReady, Gives}
use Rattle.cr_notation.proofs.Refined.{one_more, stops, at_end}
use Rattle.cr_notation.proofs.reader.read_bytes.Goals as goal

pub loop-at-init : goal.loop-at-init
unfolding read_all
loop-at-init c = record {
  ready = c.new-reader.ensures.ready;
  same = ap (λ s. limited (length c.args.bytes.now) (read_from c.args.stage s 0 c.args.bytes.now)) c.new-reader.ensures.nothing;
}

pub take-requires : goal.take-requires
take-requires c = subst (λ n. IsReady n c.loop-at.reader) (sym c.loop-at.invariant.ready.stage) c.loop-at.invariant.ready

pub returns-in_err-take : goal.returns-in_err-take
returns-in_err-take c =
    let p = err_from_is_err_and c.from_residual.result c.from_residual.ensures.1 in
    rw (p.1, p.2) (stops c.args.stage (length c.args.bytes.now) (state_of c.loop-at.reader) c.loop-at.at c.args.bytes.now c.in_err-take.field-0.0 _ c.loop-at-test.true (rw c.loop-at.invariant.ready.stage at c.in_err-take.ensures.steps) c.loop-at.invariant.same)

pub loop-at-preserved : goal.loop-at-preserved
loop-at-preserved c = record {
  ready = rw c.loop-at.invariant.ready.stage at c.in_ok-take.ensures.ready;
  same = one_more c.args.stage (length c.args.bytes.now) (state_of c.loop-at.reader) (state_of c.take.new.self) c.loop-at.at c.args.bytes.now _ c.loop-at-test.true (rw c.loop-at.invariant.ready.stage at c.in_ok-take.ensures.steps) c.loop-at.invariant.same;
}

pub finish-requires : goal.finish-requires
finish-requires c = subst (λ n. IsReady n c.loop-at.reader) (sym c.loop-at.invariant.ready.stage) c.loop-at.invariant.ready

pub returns : goal.returns
returns c =
    let whole : c.loop-at.at ≡ length c.args.bytes.now = omega arith in
    subst (λ r. Gives (λ v. v.items) c.finish.result r)
    (at_end c.args.stage (length c.args.bytes.now) (state_of c.loop-at.reader) c.loop-at.at c.args.bytes.now _ whole c.loop-at.invariant.same) (rw c.loop-at.invariant.ready.stage at c.finish.ensures)
