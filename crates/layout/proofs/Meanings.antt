-- What a certificate file means, byte by byte.
use Rattle.std.proofs.Common.{◌≡◌, ℕ, ◌+◌, ◌-◌, ◌<◌, ◌≤◌, List, [], ◌++◌, length, get_or, take, drop, sym, ap, ◌∙◌, subst, zero-add, arith, length-drop, take-add}
use Rattle.std.proofs.lemmas.List.{length-take-le, get_or-take, get_or-drop, get_or_past, drop-drop}
use Rattle.std.proofs.lemmas.List.FromFn.{length-map-range_with_len, get_or-map-range_with_len}
use Rattle.certificate.specs.Certificates.{Row, no_row, class_count, row_count, row, size, load, count, offered, packed, position}
use Rattle.layout.specs.declared.header.Header.{Header}
use Rattle.layout.specs.Layout.{byte, header_of, header_length, position_length, position_start, answer_start, packed_start, body_length, part, packed_of, row_of, certificate_of}

-- a part that lies within the file is whole
pub part_length : (a n : ℕ) (file : List ℕ) → a + n ≤ length file → length (part a n file) ≡ n
part_length a n file h = length-take-le n (drop a file) (let e = length-drop a file in omega arith)

-- a byte of a part
pub part_at : (a n : ℕ) (file : List ℕ) (i : ℕ) → i < n → get_or (part a n file) i 0 ≡ byte file (a + i)
part_at a n file i l = get_or-take n (drop a file) i 0 l ∙ get_or-drop a file i 0

-- row i of the meaning is what the bytes of row i say
pub row_is : (file : List ℕ) (i : ℕ) → i < (header_of file).rows → row (certificate_of file) i ≡ row_of file i
row_is file i l = get_or-map-range_with_len (row_of file) 0 (header_of file).rows i i no_row l (zero-add i)

pub row_count_is : (file : List ℕ) → row_count (certificate_of file) ≡ (header_of file).rows
row_count_is file = length-map-range_with_len (row_of file) 0 (header_of file).rows

pub size_is : (file : List ℕ) (k : ℕ) → k < (header_of file).classes → size (certificate_of file) k ≡ byte file (header_length + k)
size_is file k l = part_at header_length (header_of file).classes file k l

module _ (file : List ℕ) (i : ℕ) (l : i < (header_of file).rows) where
  pub load_is : (j : ℕ) → j < (header_of file).bins → load (certificate_of file) i j ≡ byte file (position_start (header_of file) i + j)
  load_is j b = ap (λ (r : Row). get_or r.loads j 0) (row_is file i l) ∙ part_at (position_start (header_of file) i) (header_of file).bins file j b

  pub count_is : (k : ℕ) → k < (header_of file).classes → count (certificate_of file) i k ≡ byte file (position_start (header_of file) i + (header_of file).bins + k)
  count_is k b = ap (λ (r : Row). get_or r.counts k 0) (row_is file i l) ∙ part_at (position_start (header_of file) i + (header_of file).bins) (header_of file).classes file k b

  pub offered_is : offered (certificate_of file) i ≡ byte file (answer_start (header_of file) i)
  offered_is = ap (λ (r : Row). r.offered) (row_is file i l)

  -- the counts of packing bin j
  pub packed_list : (j : ℕ) → j < (header_of file).bins → get_or (row (certificate_of file) i).witness j [] ≡ packed_of file i j
  packed_list j b = ap (λ (r : Row). get_or r.witness j []) (row_is file i l) ∙ get_or-map-range_with_len (packed_of file i) 0 (header_of file).bins j j [] b (zero-add j)

  pub packed_is : (j k : ℕ) → j < (header_of file).bins → k < (header_of file).classes → packed (certificate_of file) i j k ≡ byte file (packed_start (header_of file) i j + k)
  packed_is j k b d = ap (λ xs. get_or xs k 0) (packed_list j b) ∙ part_at (packed_start (header_of file) i j) (header_of file).classes file k d

-- the sizes are whole
pub class_count_is : (file : List ℕ) → length file ≡ header_length + body_length (header_of file) → class_count (certificate_of file) ≡ (header_of file).classes
class_count_is file e = part_length header_length (header_of file).classes file (omega arith)

-- the rows, for a header that was read from the file
pub rows_read : (file : List ℕ) (h : Header) → h ≡ header_of file → h.rows ≡ row_count (certificate_of file)
rows_read file h e = ap (λ (x : Header). x.rows) e ∙ sym (row_count_is file)

-- the position of a missing row is empty
pub no_position : (file : List ℕ) (h : Header) → h ≡ header_of file → (i : ℕ) → h.rows ≤ i → [] ≡ position (certificate_of file) i
no_position file h e i l = ap (λ (r : Row). r.loads ++ r.counts) (sym (get_or_past (certificate_of file).rows i no_row (subst (λ n. n ≤ i) (rows_read file h e) l)))

-- the position of row i is one part of the file
pub position_is : (file : List ℕ) (h : Header) → h ≡ header_of file → (i : ℕ) → i < h.rows → (p w : ℕ) → p ≡ position_start h i → w ≡ position_length h → take (p + w - p) (drop p file) ≡ position (certificate_of file) i
position_is file h e i l p w ep ew =
    let own : i < (header_of file).rows = subst (λ (x : Header). i < x.rows) e l in
    let m = (header_of file).bins in
    let k = (header_of file).classes in
    let a = position_start (header_of file) i in
    let joined : take (m + k) (drop a file) ≡ take m (drop a file) ++ take k (drop (a + m) file) = take-add m k (drop a file) ∙ ap (λ xs. take m (drop a file) ++ take k xs) (drop-drop m a file) in
    ap (λ n. take n (drop p file)) (let t : p + w - p ≡ w = omega arith in t)
    ∙ (ap (λ (x : ℕ × ℕ). take x.0 (drop x.1 file)) {x = (w, p)} {y = (m + k, a)} (λ t. ((ew ∙ ap position_length e) t, (ep ∙ ap (λ (x : Header). position_start x i) e) t))
    ∙ (joined ∙ ap (λ (r : Row). r.loads ++ r.counts) (sym (row_is file i own))))
