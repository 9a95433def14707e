-- Rows in ascending order of their keys, and the row that has a key.
use Rattle.std.specs.Prelude.{◌≡◌, ℕ, ◌+◌, ◌-◌, ◌<◌, Bool, true, not, ◌&&◌, List, Option, nat_lt}
use Rattle.std.specs.declared.cmp.Ordering.{Ordering}
use Rattle.std.specs.Cmp.Lexicographic.{slice_cmp}
use Rattle.std.specs.Ordering.{is_lt, nat_cmp}
use Rattle.certificate.specs.Rules.{Rule, first}
use Rattle.certificate.specs.Certificates.{same}

-- how a key stands to another: the first number that differs decides, and a key that ends first is less
abbrev pub standing : List ℕ → List ℕ → Ordering
standing = slice_cmp nat_cmp

-- whether a key comes before another
abbrev pub precedes : List ℕ → List ℕ → Bool
precedes a b = is_lt (standing a b)

-- each key comes before the next
abbrev pub Ascending : (ℕ → List ℕ) → ℕ → Type 0
Ascending key n = (i : ℕ) → i + 1 < n → precedes (key i) (key (i + 1)) ≡ true

-- whether the key of row i is not above the one before
abbrev pub out_of_order : (ℕ → List ℕ) → ℕ → ℕ → Bool
out_of_order key i _ = nat_lt 0 i && not (precedes (key (i - 1)) (key i))

-- the rule of this number: a key is not above the one before (the later row)
abbrev pub order_rule : ℕ → (ℕ → List ℕ) → ℕ → Rule
order_rule number key n = record { number = number; rows = n; places = 1; broken = out_of_order key }

-- whether row i has the key that is sought
abbrev pub has_key : (ℕ → List ℕ) → List ℕ → ℕ → Bool
has_key key sought i = same (key i) sought

-- the row that has the key, or none
abbrev pub row_with : (ℕ → List ℕ) → ℕ → List ℕ → Option ℕ
row_with key n sought = first (has_key key sought) n
