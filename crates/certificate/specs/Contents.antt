-- Rules 8 to 10, of what the rows of a file hold.
use Rattle.std.specs.Prelude.{ℕ, ◌-◌, Bool, cond, ◌||◌, List, [], ◌∷◌, ◌==◌, nat_le, nat_lt}
use Rattle.certificate.specs.Rules.{Rule}
use Rattle.certificate.specs.Certificates.{Certificate, class_count, row_count, size, load, offered}

-- the size of the class before k, 0 where there is none
abbrev pub size_before : Certificate → ℕ → ℕ
size_before c k = cond (k == 0) 0 (size c (k - 1))

-- whether the size of class k is 0, above T, or not above the one before
abbrev pub size_wrong : Certificate → ℕ → ℕ → Bool
size_wrong c k _ = nat_le (size c k) (size_before c k) || nat_lt c.capacity (size c k)

-- 8: a size is 0, above T or not above the one before (class)
abbrev pub sizes_rule : Certificate → Rule
sizes_rule c = record { number = 8; rows = class_count c; places = 1; broken = size_wrong c }

abbrev pub load_high : Certificate → ℕ → ℕ → Bool
load_high c i j = nat_le c.target (load c i j)

-- 9: a load is R or more (row, bin)
abbrev pub loads_rule : Certificate → Rule
loads_rule c = record { number = 9; rows = row_count c; places = c.bins; broken = load_high c }

abbrev pub offer_unknown : Certificate → ℕ → ℕ → Bool
offer_unknown c i _ = nat_le (class_count c) (offered c i)

-- 10: the offered class is K or more (row)
abbrev pub offers_rule : Certificate → Rule
offers_rule c = record { number = 10; rows = row_count c; places = 1; broken = offer_unknown c }

abbrev pub contents_rules : Certificate → List Rule
contents_rules c = sizes_rule c ∷ (loads_rule c ∷ (offers_rule c ∷ []))
