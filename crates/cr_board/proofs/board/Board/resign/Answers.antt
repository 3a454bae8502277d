use Rattle.std.proofs.Common.{◌≡◌, ◌<◌, true, set, vec_len, sym, ap, ◌∙◌, subst, arith}
use Rattle.cr_board.specs.Boards.{BoardParts}
use Rattle.cr_board.specs.Partitions.{IsKept}
use Rattle.cr_board.specs.Rooms.{parts_of}
use Rattle.cr_board.proofs.Keeping.{resign_keeps}
use Rattle.cr_board.proofs.board.Board.resign.Goals as goal

pub index_mut-requires : goal.index_mut-requires
index_mut-requires c =
    let len : vec_len c.give_back.new.state.resigned ≡ vec_len c.self.inside.state.resigned = ap vec_len c.give_back.ensures.resigned in
    let inside : c.args.worker < c.self.inside.opening.workers = subst (λ (b : BoardParts). c.args.worker < b.opening.workers) (sym c.self.view_is) c.requires in
    omega (arith, len, inside, c.self.invariant.facts.partition.shape.resigned, c.self.inside.state.resigned.ok)

pub invariant_of-self : goal.invariant_of-self
invariant_of-self c =
    let old : BoardParts = parts_of c.self.inside.opening c.self.inside.state in
    record {
      facts = subst IsKept
          (sym (ap {B = BoardParts} (λ flags. record (parts_of c.self.inside.opening c.give_back.new.state) { resigned = set flags.items c.args.worker true }) c.give_back.ensures.resigned
          ∙ ap {A = BoardParts} (λ b. record b { resigned = set old.resigned c.args.worker true }) (c.give_back.ensures.is c.self.inside.opening)))
          (resign_keeps old c.args.worker c.self.invariant.facts);
      rooms = record { lanes = c.give_back.ensures.rooms.lanes; journal = c.give_back.ensures.rooms.journal };
    }
