-- The laws that every store keeps, of the certificate that it means.
use Rattle.std.specs.Prelude.{◌≡◌, ℕ, ◌+◌, ◌*◌, ◌<◌, ◌≤◌, [], length, slice_index_or}
use Rattle.certificate.specs.Certificates.{Certificate, class_count, row_count, row, size, load, count, offered, packed}

-- ---- the limits of a file

abbrev pub most_bins : ℕ
most_bins = 8

abbrev pub most_capacity : ℕ
most_capacity = 127

abbrev pub most_classes : ℕ
most_classes = 32

abbrev pub most_rows : ℕ
most_rows = 65535

-- a count, and a load that a row can hold, is one byte
abbrev pub most_count : ℕ
most_count = 255

-- the header keeps its ranges, sizes ascend strictly within 1 to T, every row is complete and in range,
-- and no two rows have equal positions
pub record Lawful (c : Certificate) : Type 0 where
  pub some_bins : (2 ≤ c.bins) × (c.bins ≤ most_bins)
  pub some_capacity : (1 ≤ c.capacity) × (c.capacity ≤ most_capacity)
  pub target_range : (c.capacity + 1 ≤ c.target) × (c.target ≤ 2 * c.capacity)
  pub some_classes : (1 ≤ class_count c) × (class_count c ≤ most_classes)
  pub some_rows : (1 ≤ row_count c) × (row_count c ≤ most_rows)
  pub size_range : (k : ℕ) → k < class_count c → (1 ≤ size c k) × (size c k ≤ c.capacity)
  pub sizes_ascend : (k : ℕ) → k + 1 < class_count c → size c k < size c (k + 1)
  pub all_loads : (i : ℕ) → i < row_count c → length (row c i).loads ≡ c.bins
  pub all_counts : (i : ℕ) → i < row_count c → length (row c i).counts ≡ class_count c
  pub all_packed : (i : ℕ) → i < row_count c → length (row c i).witness ≡ c.bins
  pub all_packed_counts : (i j : ℕ) → i < row_count c → j < c.bins → length (slice_index_or (row c i).witness j []) ≡ class_count c
  pub load_range : (i j : ℕ) → i < row_count c → j < c.bins → load c i j < c.target
  pub count_range : (i k : ℕ) → count c i k ≤ most_count
  pub packed_range : (i j k : ℕ) → packed c i j k ≤ most_count
  pub offered_range : (i : ℕ) → i < row_count c → offered c i < class_count c
  pub distinct : (i j : ℕ) → i < row_count c → j < row_count c → (row c i).loads ≡ (row c j).loads → (row c i).counts ≡ (row c j).counts → i ≡ j
