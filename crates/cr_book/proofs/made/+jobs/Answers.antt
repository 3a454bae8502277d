-- The first job is made in a thread, and the others after it.
use denote.Param.Send.{sendable}
use Rattle.std.proofs.Common.{sym, subst, arith}
use Rattle.std.proofs.lemmas.Result.{IfOk-at_ok}
use Rattle.std.specs.Fork.{AcceptsJobs}
use Rattle.std.specs.Fork.Halves.{GivesFor}
use Rattle.cr_book.proofs.Jobs.{accepts_first, accepts_others, gives_all}
use Rattle.cr_book.proofs.made.+jobs.Goals as goal

pub join-one-requires-after_bounds : goal.join-one-requires-after_bounds
join-one-requires-after_bounds g t c κs within =
    let make = c.args.make.now in
    let cut = c.in_ok-others.ensures in
    let low = subst (AcceptsJobs g.F.Fn make) (sym cut.items) (accepts_first g.F.Fn make c.args.first.items c.requires) in
    let high = subst (AcceptsJobs g.F.Fn make) (sym cut.tail) (accepts_others g.F.Fn make c.args.first.items c.requires) in (
      (low, omega (arith, cut.len)),
      (
        omega (arith, cut.tail_len),
        (
          λ a m. m,
          (
            λ a m. m,
            (
              λ a m. m,
              (
                λ a m. m,
                (
                  (search sendable, search sendable, search sendable, search sendable, high),
                  (search sendable, search sendable, search sendable, search sendable),
                ),
              ),
            ),
          ),
        ),
      ),
    )

pub returns : goal.returns
returns g t c =
    let make = c.args.make.now in
    let cut = c.in_ok-others.ensures in
    let jobs = c.args.first.items in
    let one = subst (λ js. GivesFor g.F.Fn make js c.in_ok-all.all.items) cut.items (IfOk-at_ok (λ v. GivesFor g.F.Fn make _ v.items) c.in_ok-all.was c.join-one.ensures.first) in
    let more = subst (λ js. GivesFor g.F.Fn make js c.in_ok-rest.rest.items) cut.tail (IfOk-at_ok (λ v. GivesFor g.F.Fn make _ v.items) c.in_ok-rest.was c.join-one.ensures.second) in
    subst (GivesFor g.F.Fn make jobs) (sym c.in_ok-append.ensures.items) (gives_all g.F.Fn make jobs (omega (arith, cut.tail_len)) _ _ one more)
