-- The order of keys: no key stands before itself, and keys that stand level are equal.
use Rattle.std.proofs.Common.{◌≡◌, ℕ, true, List, [], ◌∷◌, Ordering, Less, Equal, Greater, sym, refl, ap, ◌∙◌, arith}
use Rattle.std.specs.Cmp.{nat_cmp_total}
use Rattle.std.specs.Cmp.Lexicographic.{lists_total}
use Rattle.std.specs.Ordering.{is_lt, ordering_reverse, ordering_then, nat_cmp}
use Rattle.std.proofs.lemmas.Bool.Decides.{nat_tests}
use Rattle.std.proofs.lemmas.Bool.{false≢true}
use Rattle.search.specs.Ascending.{standing}

-- an answer that comes before is `Less`
pub less_from_test : (o : Ordering) → is_lt o ≡ true → o ≡ Less
less_from_test Less e = refl
less_from_test Equal e = absurd (false≢true e)
less_from_test Greater e = absurd (false≢true e)

not_own_reverse : (o : Ordering) → o ≡ ordering_reverse o → o ≡ Less → ⊥
not_own_reverse o e l = let z : ◌≡◌ {A = Ordering} Less Greater = sym l ∙ (e ∙ ap ordering_reverse l) in let w : ◌≡◌ {A = ℕ} 0 1 = cc in omega arith

-- no key comes before itself
pub not_before_itself : (a : List ℕ) → standing a a ≡ Less → ⊥
not_before_itself a = not_own_reverse (standing a a) ((lists_total nat_cmp_total).antisymm a a)

-- what stands after turns round
pub turned : (a b : List ℕ) → standing a b ≡ Greater → standing b a ≡ Less
turned a b e = (lists_total nat_cmp_total).antisymm b a ∙ ap ordering_reverse e

level_parts : (k m : Ordering) → ordering_then k m ≡ Equal → (k ≡ Equal) × (m ≡ Equal)
level_parts Less m e = let w : ◌≡◌ {A = ℕ} 0 1 = cc in absurd (omega arith)
level_parts Equal m e = (refl, e)
level_parts Greater m e = let w : ◌≡◌ {A = ℕ} 0 1 = cc in absurd (omega arith)

level_numbers : (x y : ℕ) → nat_cmp x y ≡ Equal → x ≡ y
level_numbers x y e = grind (arith, nat_tests)

-- keys that stand level are equal
pub level_equal : (a b : List ℕ) → standing a b ≡ Equal → a ≡ b
level_equal [] [] e = refl
level_equal [] (y ∷ ys) e = let w : ◌≡◌ {A = ℕ} 0 1 = cc in absurd (omega arith)
level_equal (x ∷ xs) [] e = let w : ◌≡◌ {A = ℕ} 0 1 = cc in absurd (omega arith)
level_equal (x ∷ xs) (y ∷ ys) e =
    let p = level_parts (nat_cmp x y) (standing xs ys) e in
    let head = level_numbers x y p.0 in
    let tail = level_equal xs ys p.1 in
    cc

-- the order is transitive
pub chain : (a b c : List ℕ) → standing a b ≡ Less → standing b c ≡ Less → standing a c ≡ Less
chain = (lists_total nat_cmp_total).trans
