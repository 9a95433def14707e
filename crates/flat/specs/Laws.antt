-- A file that keeps rules 1 to 11 means a lawful certificate, with positions that ascend.
use Rattle.std.specs.Prelude.{◌≡◌, ℕ, ◌+◌, ◌-◌, ◌<◌, ◌≤◌, true, cond, List, [], ◌++◌, length, drop, is_ok, Ok, Err, Result, nat_le, nat_lt, slice_index, slice_index_or, refl}
use Rattle.std.specs.declared.cmp.Ordering.TheVariants.{Less}
use Rattle.std.proofs.Common.{arith, sym, ap, subst, ◌∙◌, inl, inr, length-take}
use Rattle.std.specs.List.{AllByRecursion}
use Rattle.std.proofs.lemmas.Bool.{ltb-false, leb-false, ne_eqb, or_parts, cases_lt, cases_order, false≢true}
use Rattle.std.proofs.lemmas.List.{get_or_past}
use Rattle.std.proofs.lemmas.List.FromFn.{length-map-range_with_len}
use Rattle.certificate.specs.declared.fault.Fault.{Fault}
use Rattle.certificate.specs.Rules.{judge_all}
use Rattle.certificate.specs.Certificates.{Certificate, Row, no_row, class_count, row_count, row, size, load, count, offered, packed, position}
use Rattle.certificate.specs.Lawful.{Lawful, most_count}
use Rattle.certificate.specs.Contents.{size_before}
use Rattle.certificate.proofs.Judged.{Holds, hold_from_judge_all}
use Rattle.search.specs.Ascending.{standing, Ascending}
use Rattle.search.proofs.Orders.{not_before_itself}
use Rattle.search.proofs.Halving.{earlier}
use Rattle.search.proofs.Rising.{ascending_from_rule}
use Rattle.layout.specs.declared.header.Header.{Header}
use Rattle.layout.specs.Layout.{byte, header_of, position_start, packed_start, part, packed_of, row_of, certificate_of}
use Rattle.layout.proofs.Frames.{Framed}
use Rattle.layout.proofs.Offsets.{position_within, packed_within}
use Rattle.layout.proofs.Meanings.{part_length, part_at, row_is, row_count_is, class_count_is, packed_list}
use Rattle.flat.specs.Flat.{table_rules}

-- the test says that nothing was refused
pub passed_from_test : (a : Result (Unit {0}) Fault) → is_ok a ≡ true → a ≡ Ok tt
passed_from_test (Ok u) e = refl
passed_from_test (Err f) e = absurd (false≢true e)

module _ (c : Certificate) (sound : is_ok (judge_all (table_rules c)) ≡ true) where
  all_hold : AllByRecursion Holds (table_rules c)
  all_hold = hold_from_judge_all (table_rules c) (passed_from_test (judge_all (table_rules c)) sound)

  -- a size is above the one before and at most T
  size_between : (k : ℕ) → k < class_count c → (size_before c k < size c k) × (size c k ≤ c.capacity)
  size_between k l =
      let p = or_parts (nat_le (size c k) (size_before c k)) (nat_lt c.capacity (size c k)) (all_hold.0 k 0 l (omega arith)) in
      (leb-false (size c k) (size_before c k) p.0, ltb-false c.capacity (size c k) p.1)

  sizes_rise : (k : ℕ) → k + 1 < class_count c → size c k < size c (k + 1)
  sizes_rise k l =
      let before : size_before c (k + 1) ≡ size c k = ap (λ b. cond b 0 (size c (k + 1 - 1))) (ne_eqb (k + 1) 0 (λ e. omega arith)) ∙ ap (size c) (omega arith) in
      subst (λ x. x < size c (k + 1)) before (size_between (k + 1) l).0

  loads_low : (i j : ℕ) → i < row_count c → j < c.bins → load c i j < c.target
  loads_low i j l b = leb-false c.target (load c i j) (all_hold.1.0 i j l b)

  offers_low : (i : ℕ) → i < row_count c → offered c i < class_count c
  offers_low i l = leb-false (class_count c) (offered c i) (all_hold.1.1.0 i 0 l (omega arith))

  -- each position comes before the next
  pub positions_ascend : Ascending (position c) (row_count c)
  positions_ascend = ascending_from_rule 11 (position c) (row_count c) all_hold.1.1.1.0

  -- equal positions are those of one row
  positions_differ : (i j : ℕ) → i < row_count c → j < row_count c → position c i ≡ position c j → i ≡ j
  positions_differ i j l h e =
      elim (cases_order i j) [
        | inl same_row ↦ same_row
        | inr (inl less) ↦ absurd (not_before_itself (position c j) (subst (λ x. standing x (position c j) ≡ Less) e (earlier (position c) (row_count c) positions_ascend i j less h)))
        | inr (inr more) ↦ absurd (not_before_itself (position c j) (subst (λ x. standing (position c j) x ≡ Less) e (earlier (position c) (row_count c) positions_ascend j i more l)))
      ]

-- ---- what a part of a file of bytes holds

module _ (file : List ℕ) (bytes : (i : ℕ) → byte file i ≤ most_count) where
  -- each number of a part is a byte
  part_small : (a n k : ℕ) → slice_index (part a n file) k ≤ most_count
  part_small a n k =
      elim (cases_lt k n) [
        | inl l ↦ subst (λ x. x ≤ most_count) (sym (part_at a n file k l)) (bytes (a + k))
        | inr h ↦ subst (λ x. x ≤ most_count) (sym (get_or_past (part a n file) k 0 (let e = length-take n (drop a file) in omega arith))) (omega arith)
      ]

  missing_row : (i : ℕ) → (header_of file).rows ≤ i → row (certificate_of file) i ≡ no_row
  missing_row i h = get_or_past (certificate_of file).rows i no_row (let e = row_count_is file in omega arith)

  counts_small : (i k : ℕ) → count (certificate_of file) i k ≤ most_count
  counts_small i k =
      elim (cases_lt i (header_of file).rows) [
        | inl l ↦ subst (λ (r : Row). slice_index r.counts k ≤ most_count) (sym (row_is file i l)) (part_small (position_start (header_of file) i + (header_of file).bins) (header_of file).classes k)
        | inr h ↦ subst (λ (r : Row). slice_index r.counts k ≤ most_count) (sym (missing_row i h)) (omega arith)
      ]

  packed_small : (i j k : ℕ) → packed (certificate_of file) i j k ≤ most_count
  packed_small i j k =
      elim (cases_lt i (header_of file).rows) [
        | inl l ↦ elim (cases_lt j (header_of file).bins) [
          | inl b ↦ subst (λ xs. slice_index xs k ≤ most_count) (sym (packed_list file i l j b)) (part_small (packed_start (header_of file) i j) (header_of file).classes k)
          | inr h ↦ subst (λ (r : Row). slice_index (slice_index_or r.witness j []) k ≤ most_count) (sym (row_is file i l)) (subst (λ xs. slice_index xs k ≤ most_count) (sym (get_or_past (row_of file i).witness j [] (let e = length-map-range_with_len (packed_of file i) 0 (header_of file).bins in omega arith))) (omega arith))
        ]
        | inr h ↦ subst (λ (r : Row). slice_index (slice_index_or r.witness j []) k ≤ most_count) (sym (missing_row i h)) (omega arith)
      ]

  module _ (framed : Framed file (header_of file)) where
    rows_of_file : row_count (certificate_of file) ≡ (header_of file).rows
    rows_of_file = row_count_is file

    classes_of_file : class_count (certificate_of file) ≡ (header_of file).classes
    classes_of_file = class_count_is file framed.long

    own_row : (i : ℕ) → i < row_count (certificate_of file) → i < (header_of file).rows
    own_row i l = subst (λ n. i < n) rows_of_file l

    -- rules 1 to 11 make a lawful certificate
    own_lawful : is_ok (judge_all (table_rules (certificate_of file))) ≡ true → Lawful (certificate_of file)
    own_lawful sound =
        let c = certificate_of file in
        let h = header_of file in
        record {
          some_bins = framed.some_bins;
          some_capacity = framed.some_capacity;
          target_range = framed.target_range;
          some_classes = subst (λ n. (1 ≤ n) × (n ≤ 32)) (sym classes_of_file) framed.some_classes;
          some_rows = subst (λ n. (1 ≤ n) × (n ≤ 65535)) (sym rows_of_file) framed.some_rows;
          size_range = λ k l. let p = size_between c sound k l in (omega arith, p.1);
          sizes_ascend = sizes_rise c sound;
          all_loads = λ i l. ap (λ (r : Row). length r.loads) (row_is file i (own_row i l)) ∙ part_length (position_start h i) h.bins file (omega (arith, position_within h i (own_row i l), framed.long));
          all_counts = λ i l. ap (λ (r : Row). length r.counts) (row_is file i (own_row i l)) ∙ (part_length (position_start h i + h.bins) h.classes file (omega (arith, position_within h i (own_row i l), framed.long)) ∙ sym classes_of_file);
          all_packed = λ i l. ap (λ (r : Row). length r.witness) (row_is file i (own_row i l)) ∙ length-map-range_with_len (packed_of file i) 0 h.bins;
          all_packed_counts = λ i j l b. ap length (packed_list file i (own_row i l) j b) ∙ (part_length (packed_start h i j) h.classes file (omega (arith, packed_within h i j (own_row i l) b, framed.long)) ∙ sym classes_of_file);
          load_range = loads_low c sound;
          count_range = counts_small;
          packed_range = packed_small;
          offered_range = offers_low c sound;
          distinct = λ i j l m p q. positions_differ c sound i j l m (λ t. p t ++ q t);
        }

-- the same for a header that was read from the file
pub flat_lawful : (file : List ℕ) (h : Header) → Framed file h → ((i : ℕ) → byte file i ≤ most_count) → is_ok (judge_all (table_rules (certificate_of file))) ≡ true → Lawful (certificate_of file)
flat_lawful file h framed bytes sound = own_lawful file bytes (subst (λ x. Framed file x) framed.read framed) sound
