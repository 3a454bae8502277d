use Rattle.std.proofs.Common.{◌≡◌, ◌++◌, length, inl, sym, ap, ap₂, ◌∙◌, subst}
use Rattle.std.specs.Prelude.{IfSome}
use Rattle.cr_model.specs.Checkpoints.{nodes_of_jobs}
use Rattle.cr_book.specs.Pieces.{pieces_joined}
use Rattle.cr_store.specs.Written.{front_text, tail_text}
use Rattle.cr_shard.specs.Deals.{IsCut}
use Rattle.cr_shard.specs.Dealers.{HaveLines, IsDealtText}
use Rattle.cr_shard.proofs.ShardPieces.{whole_text}
use Rattle.cr_shard.proofs.text_cut.cut_behind.Goals as goal

pub returns : goal.returns
returns c =
    let p = c.args.problem.now in
    let bytes = c.args.problem_bytes.now in
    let found = c.args.found.now in
    let lines = c.in-Some.lines.now in
    let text = pieces_joined c.in_ok-pieces.pieces.items in
    let dealt = subst (λ o. IfSome o (λ shards. IsDealtText p found lines c.args.into shards.items)) c.in-Some-2.is c.in_ok-shards.ensures in
    let front : c.in_ok-front.front.items ≡ front_text p bytes found = c.in_ok-front.ensures in
    let whole : c.args.text.now ≡ front_text p bytes found ++ tail_text p dealt.jobs = c.in-Some.ensures ∙ ap₂ ◌++◌ (c.deref.ensures.value ∙ front) dealt.is in
    let have : HaveLines p (nodes_of_jobs dealt.jobs) c.deref_mut.result.now = subst (HaveLines p (nodes_of_jobs dealt.jobs)) (sym c.deref_mut.ensures.value) dealt.each in
    record {
      bytes = bytes;
      p = p;
      found = found;
      jobs = dealt.jobs;
      file = record {
        problem = c.requires.file;
        is = inl (whole ∙ sym (whole_text p bytes found dealt.jobs));
        goes_on = dealt.goes_on;
      };
      cut_is = subst (λ n. IsCut p bytes found dealt.jobs n text) (ap length c.deref_mut.ensures.value ∙ dealt.many)
          (c.in_ok-pieces.ensures found dealt.jobs (c.deref-2.ensures.value ∙ front) have);
    }
