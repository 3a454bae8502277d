use Rattle.std.proofs.Common.{◌≡◌, ◌+◌, ◌*◌, ◌<◌, ◌≤◌, ◌∙◌, ℕ, length, take, drop, sym, ap, subst, List}
use Rattle.cr_path.specs.Numbers.{NumberParts, numbers_of}
use Rattle.cr_path.proofs.Places.{numbers_within}
use Rattle.cr_path.proofs.walks.borrowed_lists.BorrowedNumbers.numbers_at.Goals as goal

pub numbers_in-requires : goal.numbers_in-requires
numbers_in-requires g c =
    let e = c.self.inside in
    let t = e.table.now in
    let wide : t.width ≡ g.row.WIDTH = subst (λ (t : NumberParts). t.width ≡ g.row.WIDTH) (sym c.self.view_is) c.requires.width in
    let low : c.args.place < length t.records = subst (λ (t : NumberParts). c.args.place < length t.records) (sym c.self.view_is) c.requires.place in
    let all = numbers_within c.args.place (length t.records) t.width (length t.numbers) low c.self.invariant.2 in
    subst (λ (numbers : List ℕ). c.args.place * g.row.WIDTH + g.row.WIDTH ≤ length numbers) (sym c.self.invariant.1)
    (subst (λ (n : ℕ). c.args.place * n + n ≤ length t.numbers) wide all)

pub returns : goal.returns
returns g c =
    let e = c.self.inside in
    let t = e.table.now in
    let wide : t.width ≡ g.row.WIDTH = subst (λ (t : NumberParts). t.width ≡ g.row.WIDTH) (sym c.self.view_is) c.requires.width in
    c.numbers_in.ensures ∙ ap (λ (numbers : List ℕ). take g.row.WIDTH (drop (c.args.place * g.row.WIDTH) numbers)) c.self.invariant.1
    ∙ ap (λ (n : ℕ). take n (drop (c.args.place * n) t.numbers)) (sym wide)
    ∙ ap (λ (t : NumberParts). numbers_of t c.args.place) c.self.view_is
