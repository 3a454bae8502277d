use Rattle.std.proofs.Common.{ℕ, ◌<◌, length, refl, ap, sym, subst}
use Rattle.cr_lanes.specs.Ends.{EndParts}
use Rattle.cr_run.proofs.Above.{last_more}
use Rattle.cr_run.proofs.hints.LaneHintsHints.put.Goals as goal

pub put-requires : goal.put-requires
put-requires c = c.if-not-is_above.ensures refl c.args.self.now.end.put c.args.self.now.last_is

pub invariant_of-self : goal.invariant_of-self
invariant_of-self c = record {
  last_is = last_more c.args.number c.args.self.now.end.put c.put.new.self.put (ap (λ (e : EndParts). e.put) c.in-Ok.ensures.put) (c.if-not-is_above.ensures refl c.args.self.now.end.put c.args.self.now.last_is);
  lane = subst (λ (n : ℕ). n < length c.args.self.now.lanes.now) (sym (ap (λ (e : EndParts). e.lane) c.in-Ok.ensures.put)) c.args.self.now.lane;
  theirs = c.args.self.now.theirs;
}
