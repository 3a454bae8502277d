use Rattle.std.proofs.Common.{refl}
use Rattle.cr_audit.specs.Logs.{log_text}
use Rattle.cr_model.specs.Books.{book_text}
use Rattle.cr_top.proofs.audit_laws.a_log_is_audited_with_yes.Goals as goal

pub returns : goal.returns
returns c = λ input text is. record {
  bytes = input;
  book = book_text is.p is.book;
  log = log_text is.p is.lines;
  are = is.are;
  p = is.p;
  file = is.file;
  audits = record { touches = is.book; proved = is.proved; text = refl; counted = refl };
}
