-- A book: m, the number of its rows, the situation of each row and the bin that each row advises, as bytes.
use Rattle.std.specs.Prelude.{◌≡◌, ℕ, ◌+◌, ◌*◌, ◌<◌, ◌≤◌, Bool, cond, not, ◌⊎◌, List, [], ◌∷◌, ◌++◌, length, take, drop, replicate, Ok, Err, Option, Result, ◌==◌, nat_le, nat_lt, slice_index}
use Rattle.std.specs.Option.{option_map}
use Rattle.certificate.specs.declared.fault.Fault.{Fault}
use Rattle.certificate.specs.Lawful.{most_count, most_rows}
use Rattle.certificate.specs.Rules.{Rule, whole, judged, judge_all, next_after}
use Rattle.search.specs.Ascending.{order_rule as keys_rule, row_with}
use Rattle.players.specs.Placing.{bins_rule}
use Rattle.players.specs.Choosing.{least_full, preferring}
use Rattle.players.specs.Fitting.{LeastFull}

-- ---- the layout

-- m and the two bytes of N come first
abbrev pub header_bytes : ℕ
header_bytes = 3

-- m, the number of bins
abbrev pub book_bins : List ℕ → ℕ
book_bins book = slice_index book 0

-- N, the number of rows, its high byte first
abbrev pub book_rows : List ℕ → ℕ
book_rows book = 256 * slice_index book 1 + slice_index book 2

-- how many bytes all situations have together, each a load for each bin and a size
abbrev pub situations_bytes : List ℕ → ℕ
situations_bytes book = book_rows book * (book_bins book + 1)

-- how many bytes the book has: the header, the situations, and a bin for each row
abbrev pub book_bytes : List ℕ → ℕ
book_bytes book = header_bytes + situations_bytes book + book_rows book

-- the situation of row i: the loads in bin order and the size; nothing for a missing row
abbrev pub situation_of : List ℕ → ℕ → List ℕ
situation_of book i = cond (nat_lt i (book_rows book)) (take (book_bins book + 1) (drop (header_bytes + i * (book_bins book + 1)) book)) []

-- the bin that row i advises
abbrev pub advised_by : List ℕ → ℕ → ℕ
advised_by book i = slice_index book (header_bytes + situations_bytes book + i)

-- ---- the rules of a book

-- 17: too short for its header
abbrev pub header_rule : List ℕ → Rule
header_rule book = whole 17 (nat_lt (length book) header_bytes)

-- 17: its length is not that of its rows
abbrev pub length_rule : List ℕ → Rule
length_rule book = whole 17 (not (length book == book_bytes book))

-- 18: a situation is not above the one before (row)
abbrev pub order_rule : List ℕ → Rule
order_rule book = keys_rule 18 (situation_of book) (book_rows book)

-- whether the bin that row i advises is m or more
abbrev pub bin_unknown : List ℕ → ℕ → ℕ → Bool
bin_unknown book i _ = nat_le (book_bins book) (advised_by book i)

-- 19: a row advises a bin of m or more (row)
abbrev pub advice_rule : List ℕ → Rule
advice_rule book = record { number = 19; rows = book_rows book; places = 1; broken = bin_unknown book }

-- the rules of the size of a book
abbrev pub size_rules : List ℕ → List Rule
size_rules book = bins_rule (book_bins book) ∷ (length_rule book ∷ [])

-- the rules of its rows
abbrev pub row_rules : List ℕ → List Rule
row_rules book = order_rule book ∷ (advice_rule book ∷ [])

-- the rules of a book that has its header
abbrev pub book_rules : List ℕ → List Rule
book_rules book = size_rules book ++ row_rules book

-- the judgement of a book up to its length
abbrev pub size_judged : List ℕ → Result (Unit {0}) Fault
size_judged book = next_after (judged (header_rule book)) (judge_all (size_rules book))

-- the judgement of the whole book
abbrev pub book_judged : List ℕ → Result (Unit {0}) Fault
book_judged book = next_after (judged (header_rule book)) (judge_all (book_rules book))

-- what is read of a book of the right length, which consists of bytes: empty bins and N; or what refuses it
abbrev pub Headed : {B : Type 0} → (B → List ℕ) → List ℕ → Result (B × ℕ) Fault → Type 0
Headed loads book (Ok h) = (size_judged book ≡ Ok tt) × (loads h.0 ≡ replicate (book_bins book) 0) × (h.1 ≡ book_rows book) × (h.1 ≤ most_rows) × ((i : ℕ) → slice_index book i ≤ most_count)
Headed loads book (Err f) = size_judged book ≡ Err f

-- the judgement that an opening reports, where a refusal tells its fault
abbrev pub verdict_of : {B E : Type 0} → (E → Fault) → Result B E → Result (Unit {0}) Fault
verdict_of told (Ok b) = Ok tt
verdict_of told (Err e) = Err (told e)

-- ---- what a book advises

-- the row whose situation is these loads and this size, or none
abbrev pub row_for : List ℕ → List ℕ → ℕ → Option ℕ
row_for book loads size = row_with (situation_of book) (book_rows book) (loads ++ (size ∷ []))

-- the bin that the book advises, or none
abbrev pub advice_of : List ℕ → List ℕ → ℕ → Option ℕ
advice_of book loads size = option_map (advised_by book) (row_for book loads size)

-- the book's bin: the one that it advises, else the least full bin
abbrev pub book_choice : List ℕ → List ℕ → ℕ → ℕ
book_choice book = preferring (advice_of book)

-- row i has these loads and this size
abbrev pub Applies : List ℕ → List ℕ → ℕ → ℕ → Type 0
Applies book loads size i = (i < book_rows book) × (situation_of book i ≡ loads ++ (size ∷ []))

-- bin b is that of a row with these loads and this size, or the least full bin where there is no such row
abbrev pub ByBook : List ℕ → List ℕ → ℕ → ℕ → Type 0
ByBook book loads size b =
    ((i : ℕ) × Applies book loads size i × (b ≡ advised_by book i))
    ⊎ (((i : ℕ) → Applies book loads size i → ⊥) × LeastFull loads b)

-- what is true of the book's bin: it is that of the row, and the least full one where a load is above every byte
pub record FitsBook (book loads : List ℕ) (size b : ℕ) : Type 0 where
  pub by_book : ByBook book loads size b
  pub wide : (k : ℕ) → most_count < slice_index loads k → b ≡ least_full loads
