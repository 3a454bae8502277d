use Rattle.std.proofs.Common.{arith, []}
use Rattle.cr_shard.proofs.Seen.{independent_of_seen}
use Rattle.cr_shard.proofs.text_cut.dealt.Goals as goal

pub returns-then-len-into : goal.returns-then-len-into
returns-then-len-into c =
    let p = c.args.problem.now in
    let found = c.args.found.now in
    let handed = c.in_ok-each_node-2.ensures c.if-not-branch-2.false in
    let dealing = handed.took [] (c.in_ok-dealer.ensures p) in
    record {
      jobs = handed.jobs;
      is = handed.is;
      goes_on = record {
        kept = c.requires.kept;
        ascending = c.requires.ascending;
        filled = handed.filled;
        valid = handed.valid;
        independent = independent_of_seen _ _ _ dealing.seen p found (c.are_clear.ensures c.if-are_clear.true);
      };
      many = omega (arith, c.len.ensures, c.if-len-into.true);
      each = dealing.dealt.each;
    }
