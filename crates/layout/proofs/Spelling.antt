-- Positions that have no bytes.
use Rattle.std.proofs.Common.{◌≡◌, ℕ, ◌+◌, ◌<◌, List, ◌++◌, length, sym, subst, inl, inr, arith}
use Rattle.std.proofs.lemmas.List.{length-append, get_or_append_left, get_or-append-add}
use Rattle.layout.specs.Keys.{NoRoom, Unspelled}

-- the first part has no bytes
pub unspelled_left : (xs ys : List ℕ) → NoRoom 0 xs → Unspelled (xs ++ ys)
unspelled_left xs ys (inl h) = inl (omega (arith, length-append xs ys))
unspelled_left xs ys (inr (i, l, h)) = inr (i, omega (arith, length-append xs ys), subst (λ (x : ℕ). 255 < x) (sym (get_or_append_left xs ys 0 i l)) h)

-- the second part has no bytes behind the first
pub unspelled_right : (xs ys : List ℕ) (n : ℕ) → n ≡ 0 + length xs → NoRoom n ys → Unspelled (xs ++ ys)
unspelled_right xs ys n e (inl h) = inl (omega (arith, length-append xs ys))
unspelled_right xs ys n e (inr (i, k, h)) = inr (length xs + i, omega (arith, length-append xs ys), subst (λ (x : ℕ). 255 < x) (sym (get_or-append-add xs ys i 0)) h)
