-- Each part of each row lies within a file of the length that its header says.
use Rattle.std.proofs.Common.{ℕ, suc, ◌+◌, ◌*◌, ◌<◌, ◌≤◌, subst, mul-le-mul_right, suc-mul, arith}
use Rattle.layout.specs.declared.header.Header.{Header}
use Rattle.layout.specs.Layout.{header_length, position_length, answer_length, position_start, answer_start, packed_start, body_length}

-- the i-th of n parts of width w ends within them all
pub part_within : (i n w : ℕ) → i < n → i * w + w ≤ n * w
part_within i n w l = subst (λ x. x ≤ n * w) (suc-mul i w) (mul-le-mul_right {m = suc i} {n = n} w l)

pub position_within : (h : Header) (i : ℕ) → i < h.rows → position_start h i + position_length h ≤ header_length + body_length h
position_within h i l = omega (arith, part_within i h.rows (position_length h) l)

pub answer_within : (h : Header) (i : ℕ) → i < h.rows → answer_start h i + answer_length h ≤ header_length + body_length h
answer_within h i l = omega (arith, part_within i h.rows (answer_length h) l)

pub packed_within : (h : Header) (i j : ℕ) → i < h.rows → j < h.bins → packed_start h i j + h.classes ≤ header_length + body_length h
packed_within h i j l b = omega (arith, answer_within h i l, part_within j h.bins h.classes b)
