-- Where the parts of a certificate file lie, rules 1 to 7, and what the bytes mean.
use Rattle.std.specs.Prelude.{ℕ, ◌+◌, ◌*◌, Bool, not, ◌||◌, List, [], ◌∷◌, ◌++◌, map, length, take, drop, Ok, Result, ◌==◌, nat_lt, slice_index}
use Rattle.std.specs.List.{range_with_len}
use Rattle.certificate.specs.declared.fault.Fault.{Fault}
use Rattle.certificate.specs.Rules.{Rule, whole, judge_all, next_after}
use Rattle.certificate.specs.Certificates.{Certificate, Row}
use Rattle.certificate.specs.Lawful.{most_bins, most_capacity, most_classes, most_rows}
use Rattle.layout.specs.declared.header.Header.{Header}

-- ---- the header

-- byte i of a file
abbrev pub byte : List ℕ → ℕ → ℕ
byte file i = slice_index file i

abbrev pub header_length : ℕ
header_length = 6

-- m, T, R, K and the two bytes of N, high byte first
abbrev pub header_of : List ℕ → Header
header_of file = record { bins = byte file 0; capacity = byte file 1; target = byte file 2; classes = byte file 3; rows = 256 * byte file 4 + byte file 5 }

-- ---- the parts behind it: K sizes, N positions, N answers

abbrev pub position_length : Header → ℕ
position_length h = h.bins + h.classes

abbrev pub answer_length : Header → ℕ
answer_length h = 1 + h.bins * h.classes

-- where row i's position and answer start, and in the answer the counts of packing bin j
abbrev pub positions_start : Header → ℕ
positions_start h = header_length + h.classes

abbrev pub position_start : Header → ℕ → ℕ
position_start h i = positions_start h + i * position_length h

abbrev pub answers_start : Header → ℕ
answers_start h = positions_start h + h.rows * position_length h

abbrev pub answer_start : Header → ℕ → ℕ
answer_start h i = answers_start h + i * answer_length h

abbrev pub packed_start : Header → ℕ → ℕ → ℕ
packed_start h i j = answer_start h i + 1 + j * h.classes

-- how many bytes follow the header
abbrev pub body_length : Header → ℕ
body_length h = h.classes + (h.rows * position_length h + h.rows * answer_length h)

-- ---- rules 1 to 7

-- the value is below low or above high
abbrev pub outside : ℕ → ℕ → ℕ → Bool
outside low high value = nat_lt value low || nat_lt high value

abbrev pub range_rule : ℕ → ℕ → ℕ → ℕ → Rule
range_rule n low high value = whole n (outside low high value)

-- 2 to 6: m, T, R, K or N is outside its range
abbrev pub range_rules : Header → List Rule
range_rules h = range_rule 2 2 most_bins h.bins ∷ (range_rule 3 1 most_capacity h.capacity ∷ (range_rule 4 (h.capacity + 1) (2 * h.capacity) h.target ∷ (range_rule 5 1 most_classes h.classes ∷ (range_rule 6 1 most_rows h.rows ∷ []))))

-- 1: fewer than 6 bytes; 7: the length is not what the header says
abbrev pub frame_rules : List ℕ → List Rule
frame_rules file = whole 1 (nat_lt (length file) header_length) ∷ (range_rules (header_of file) ++ (whole 7 (not (length file == header_length + body_length (header_of file))) ∷ []))

-- the header of a file that keeps rules 1 to 7, else the least fault
abbrev pub header_read : List ℕ → Result Header Fault
header_read file = next_after (judge_all (frame_rules file)) (Ok (header_of file))

-- ---- what a file means

-- n bytes of the file from byte a on
abbrev pub part : ℕ → ℕ → List ℕ → List ℕ
part a n file = take n (drop a file)

-- the counts of packing bin j in row i
abbrev pub packed_of : List ℕ → ℕ → ℕ → List ℕ
packed_of file i j = part (packed_start (header_of file) i j) (header_of file).classes file

abbrev pub row_of : List ℕ → ℕ → Row
row_of file i = record {
  loads = part (position_start (header_of file) i) (header_of file).bins file;
  counts = part (position_start (header_of file) i + (header_of file).bins) (header_of file).classes file;
  offered = byte file (answer_start (header_of file) i);
  witness = map (packed_of file i) (range_with_len 0 (header_of file).bins);
}

abbrev pub certificate_of : List ℕ → Certificate
certificate_of file = record {
  bins = (header_of file).bins;
  capacity = (header_of file).capacity;
  target = (header_of file).target;
  sizes = part header_length (header_of file).classes file;
  rows = map (row_of file) (range_with_len 0 (header_of file).rows);
}
