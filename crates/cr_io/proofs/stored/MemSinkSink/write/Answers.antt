use Rattle.std.proofs.lemmas.Result.{MatchResult-from_err}
use Rattle.cr_io.proofs.stored.MemSinkSink.write.Goals as goal

pub returns-in_err-call-clause-cause : goal.returns-in_err-call-clause-cause
returns-in_err-call-clause-cause c = rw (← c.self.view_is) record {
  later = c.in_err-call.ensures.cause.later;
  failed = MatchResult-from_err _ _ _ c.from_residual.ensures.0 (λ _. c.in_err-call.ensures.cause.failed);
  same = MatchResult-from_err _ _ _ c.from_residual.ensures.0 (λ _. tt);
}
