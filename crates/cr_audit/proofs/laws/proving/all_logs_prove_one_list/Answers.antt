use Rattle.std.proofs.Common.{[], ◌∷◌}
use Rattle.cr_audit.proofs.laws.proving.all_logs_prove_one_list.Goals as goal

pub returns : goal.returns
returns c p log other touches others sound proved also =
    c.book_is_unique.ensures p [] ([] ∷ []) touches others
    (c.what_a_log_proves_is_the_book.ensures p log touches sound proved)
    (c.what_a_log_proves_is_the_book.ensures p other others sound also)
