-- What a certificate says: the header, the sizes of the items and the rows; and how each part of it is read.
use Rattle.std.specs.Prelude.{◌≡◌, ℕ, zero, suc, ◌+◌, ◌<◌, Bool, true, false, cond, ◌&&◌, List, [], ◌∷◌, ◌++◌, length, Some, None, Option, ◌==◌, nat_lt, slice_index, slice_index_or}
use Rattle.certificate.specs.Rules.{first}

-- one row: a position (the loads of the bins, and how many items of each class are placed), the class that is
-- offered there, and a witness, which gives for each packing bin how many items of each class it holds
pub record Row : Type 0 where
  pub loads : List ℕ
  pub counts : List ℕ
  pub offered : ℕ
  pub witness : List (List ℕ)

-- a certificate: m bins, capacity T, target R, the size of each class, and the rows
pub record Certificate : Type 0 where
  pub bins : ℕ
  pub capacity : ℕ
  pub target : ℕ
  pub sizes : List ℕ
  pub rows : List Row

-- a row of nothing, which stands where a row is missing
abbrev pub no_row : Row
no_row = record { loads = []; counts = []; offered = 0; witness = [] }

-- how many classes and how many rows there are
abbrev pub class_count : Certificate → ℕ
class_count c = length c.sizes

abbrev pub row_count : Certificate → ℕ
row_count c = length c.rows

-- row i, and its parts
abbrev pub row : Certificate → ℕ → Row
row c i = slice_index_or c.rows i no_row

-- the size of class k
abbrev pub size : Certificate → ℕ → ℕ
size c k = slice_index c.sizes k

-- the load of bin j in row i
abbrev pub load : Certificate → ℕ → ℕ → ℕ
load c i j = slice_index (row c i).loads j

-- how many items of class k are placed in row i
abbrev pub count : Certificate → ℕ → ℕ → ℕ
count c i k = slice_index (row c i).counts k

-- the class that row i offers
abbrev pub offered : Certificate → ℕ → ℕ
offered c i = (row c i).offered

-- how many items of class k the witness of row i puts into packing bin j
abbrev pub packed : Certificate → ℕ → ℕ → ℕ → ℕ
packed c i j k = slice_index (slice_index_or (row c i).witness j []) k

-- a position as one list: the loads, then the counts
abbrev pub position : Certificate → ℕ → List ℕ
position c i = (row c i).loads ++ (row c i).counts

-- ---- what a store answers: none about a missing row, bin or class

abbrev pub given : Bool → ℕ → Option ℕ
given there x = cond there (Some x) None

abbrev pub size_at : Certificate → ℕ → Option ℕ
size_at c k = given (nat_lt k (class_count c)) (size c k)

abbrev pub load_at : Certificate → ℕ → ℕ → Option ℕ
load_at c i j = given (nat_lt i (row_count c) && nat_lt j c.bins) (load c i j)

abbrev pub count_at : Certificate → ℕ → ℕ → Option ℕ
count_at c i k = given (nat_lt i (row_count c) && nat_lt k (class_count c)) (count c i k)

abbrev pub offered_at : Certificate → ℕ → Option ℕ
offered_at c i = given (nat_lt i (row_count c)) (offered c i)

abbrev pub packed_at : Certificate → ℕ → ℕ → ℕ → Option ℕ
packed_at c i j k = given (nat_lt i (row_count c) && (nat_lt j c.bins && nat_lt k (class_count c))) (packed c i j k)

-- ---- finding a position

-- whether two lists of numbers are equal
abbrev pub same : List ℕ → List ℕ → Bool
same [] [] = true
same [] (y ∷ ys) = false
same (x ∷ xs) [] = false
same (x ∷ xs) (y ∷ ys) = x == y && same xs ys

-- row i has these loads and counts
abbrev pub Stands : Certificate → List ℕ → List ℕ → ℕ → Type 0
Stands c loads counts i = (i < row_count c) × ((row c i).loads ≡ loads) × ((row c i).counts ≡ counts)

-- whether row i has these loads and counts
abbrev pub stands : Certificate → List ℕ → List ℕ → ℕ → Bool
stands c loads counts i = same (row c i).loads loads && same (row c i).counts counts

-- the row that has these loads and counts, or none
abbrev pub find_row : Certificate → List ℕ → List ℕ → Option ℕ
find_row c loads counts = first (stands c loads counts) (row_count c)

-- ---- sums

-- f 0 + f 1 + .. up to f (n - 1)
abbrev pub total : (ℕ → ℕ) → ℕ → ℕ
total f zero = 0
total f (suc n) = total f n + f n
