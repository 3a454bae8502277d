-- Numbers of a sound problem.
use Rattle.std.proofs.Common.{◌≤◌, ℤ, pos, ◌≤ℤ◌, nat_abs, arith}
use Rattle.std.proofs.Math.Nat.{div-le_self}
use Rattle.std.proofs.lemmas.Int.{ints}
use Rattle.cr_model.specs.Problems.{ProblemParts}
use Rattle.cr_model.specs.Sound.{IsSound, sound_parts, sound_range}
use Rattle.cr_model.specs.Queries.{cap, part_cap}

-- a number from 1 to 64
between : (z : ℤ) → pos 1 ≤ℤ z → z ≤ℤ pos 64 → (1 ≤ nat_abs z) × (nat_abs z ≤ 64)
between z low high = (grind (arith, ints), grind (arith, ints))

-- the number of parts
pub parts_some : (p : ProblemParts) → IsSound p → 1 ≤ nat_abs p.query.parts
parts_some p sound = (between p.query.parts (sound_parts p sound).0 (sound_parts p sound).1).0

pub parts_few : (p : ProblemParts) → IsSound p → nat_abs p.query.parts ≤ 64
parts_few p sound = (between p.query.parts (sound_parts p sound).0 (sound_parts p sound).1).1

-- a number from 1 on that is no more than 12,000
short : (low high : ℤ) → pos 1 ≤ℤ low → low ≤ℤ high → high ≤ℤ pos 12000 → nat_abs high ≤ 12000
short low high from order to = grind (arith, ints)

-- the greatest lengths of a touch and of a part
pub cap_short : (p : ProblemParts) → IsSound p → cap p ≤ 12000
cap_short p sound =
    let right = sound_range p sound in
    let few : nat_abs p.query.max ≤ 12000 = short p.query.min p.query.max right.from right.order right.to in
    omega (arith, few)

pub part_cap_short : (p : ProblemParts) → IsSound p → part_cap p ≤ 12000
part_cap_short p sound = omega (arith, cap_short p sound, div-le_self (cap p) (nat_abs p.query.parts))
