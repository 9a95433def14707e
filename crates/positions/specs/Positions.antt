-- The empty position, and the position that follows when the offered item is placed.
use Rattle.std.specs.Prelude.{ℕ, zero, suc, ◌+◌, cond, List, [], ◌∷◌, ◌++◌, Option, option_to_list, replicate, nat_lt, slice_index, slice_set}
use Rattle.certificate.specs.Certificates.{Certificate, class_count, size, offered}

-- all loads and counts are 0
abbrev pub empty_loads : Certificate → List ℕ
empty_loads c = replicate c.bins 0

abbrev pub empty_counts : Certificate → List ℕ
empty_counts c = replicate (class_count c) 0

-- the list without the number at place j
abbrev pub without : ℕ → List ℕ → List ℕ
without j [] = []
without zero (x ∷ xs) = xs
without (suc j) (x ∷ xs) = x ∷ without j xs

-- x before the first number that is smaller
abbrev pub insert : ℕ → List ℕ → List ℕ
insert x [] = x ∷ []
insert x (y ∷ ys) = cond (nat_lt y x) (x ∷ (y ∷ ys)) (y ∷ insert x ys)

-- the load of bin j grows by s and moves before all smaller loads
abbrev pub next_loads : List ℕ → ℕ → ℕ → List ℕ
next_loads loads j s = insert (slice_index loads j + s) (without j loads)

-- one more item of class k is placed
abbrev pub next_counts : List ℕ → ℕ → List ℕ
next_counts counts k = slice_set counts k (slice_index counts k + 1)

-- the size of the item that row i offers
abbrev pub offer : Certificate → ℕ → ℕ
offer c i = size c (offered c i)

-- what f tells of the places below n, without those that it tells nothing of
abbrev pub gathered : (ℕ → Option ℕ) → ℕ → List ℕ
gathered f zero = []
gathered f (suc n) = gathered f n ++ option_to_list (f n)
