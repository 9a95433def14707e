-- The rows of a book: where they lie, what the rules say of them, and which of them applies.
use Rattle.std.proofs.Common.{◌≡◌, ℕ, suc, ◌+◌, ◌*◌, ◌<◌, ◌≤◌, Bool, cond, ltb, List, [], ◌∷◌, ◌++◌, length, get_or, take, drop, Some, None, Ok, Err, Option, Result, sym, refl, ap, ◌∙◌, subst, inl, inr, ⊎_elim, mul-le-mul_right, suc-mul, arith, MatchOption}
use Rattle.std.specs.Option.{option_map}
use Rattle.std.proofs.lemmas.List.{length-take, length-drop, length-append, get_or-take, get_or-drop, get_or_past, get_or_append_left}
use Rattle.std.proofs.lemmas.Bool.{le-ltb, leb-false, lt-ltb, both_ways, cases_Bool, cases_lt, cond-true, cond_both}
use Rattle.certificate.specs.declared.fault.Fault.{Fault}
use Rattle.certificate.specs.Faults.{fault}
use Rattle.certificate.specs.Lawful.{most_count}
use Rattle.certificate.specs.Rules.{judged, judge_all, next_after}
use Rattle.certificate.specs.Least.{Judges}
use Rattle.certificate.proofs.Firsts.{Quiet, LeastAt, first_says, first_none}
use Rattle.certificate.proofs.Finding.{equal_from_same, same_from_equal}
use Rattle.certificate.proofs.Judged.{hold_from_judge_all}
use Rattle.certificate.proofs.Least.{judges}
use Rattle.certificate.proofs.Rules.{judged_whole}
use Rattle.search.specs.Ascending.{Ascending, has_key}
use Rattle.search.proofs.Rising.{ascending_from_rule}
use Rattle.players.specs.Choosing.{least_full, or_least_full}
use Rattle.books.specs.Books.{header_bytes, book_bins, book_rows, book_bytes, situation_of, advised_by, header_rule, row_rules, book_rules, book_judged, row_for, book_choice, Applies, ByBook, FitsBook}
use Rattle.players.proofs.LeastLoads.{least_full_says}

module _ (book : List ℕ) where
  -- ---- the judgement of a book

  -- the judgement of a book that has its header names the least fault
  pub book_least : (a : Result (Unit {0}) Fault) → a ≡ book_judged book → header_bytes ≤ length book → Judges (book_rules book) a
  book_least a e h =
      let headed : judged (header_rule book) ≡ Ok tt = judged_whole 17 (ltb (length book) header_bytes) ∙ ap (λ b. cond b (Err (fault 17 0 0)) (Ok tt)) (le-ltb (length book) header_bytes h) in
      subst (Judges (book_rules book)) (sym (e ∙ ap (λ b. next_after b (judge_all (book_rules book))) headed)) (judges 15 (book_rules book) refl)

  -- ---- what the rules of the rows say

  module _ (e : judge_all (row_rules book) ≡ Ok tt) where
    -- the situations ascend
    pub rows_rising : Ascending (situation_of book) (book_rows book)
    rows_rising = ascending_from_rule 18 (situation_of book) (book_rows book) (hold_from_judge_all (row_rules book) e).0

    -- each row advises one of the book's bins
    pub rows_known : (i : ℕ) → i < book_rows book → advised_by book i < book_bins book
    rows_known i l = leb-false (book_bins book) (advised_by book i) ((hold_from_judge_all (row_rules book) e).1.0 i 0 l (omega arith))

  -- ---- loads that no row can hold

  module _ (octets : (i : ℕ) → get_or book i 0 ≤ most_count) where
    -- the numbers of a situation are bytes
    small_numbers : (i k : ℕ) → get_or (situation_of book i) k 0 ≤ most_count
    small_numbers i k =
        cond_both (ltb i (book_rows book)) (take (book_bins book + 1) (drop (header_bytes + i * (book_bins book + 1)) book)) [] (λ xs. get_or xs k 0 ≤ most_count)
        (λ _. in_take (book_bins book + 1) (drop (header_bytes + i * (book_bins book + 1)) book) (λ j. rw get_or-drop (octets (header_bytes + i * (book_bins book + 1) + j))) k)
        (λ _. omega arith)
      where
        in_take : (n : ℕ) (xs : List ℕ) → ((j : ℕ) → get_or xs j 0 ≤ most_count) → (j : ℕ) → get_or (take n xs) j 0 ≤ most_count
        in_take n xs h j =
            ⊎_elim (λ (l : j < n). rw get_or-take (h j))
            (λ (l : n ≤ j). let past = get_or_past (take n xs) j 0 (omega (arith, length-take n xs)) in omega arith)
            (cases_lt j n)

    -- no row applies to a load above them
    none_applies : (loads : List ℕ) (size k : ℕ) → most_count < get_or loads k 0 → (i : ℕ) → Applies book loads size i → ⊥
    none_applies loads size k high i a =
        let there : k < length loads = ⊎_elim (λ (l : k < length loads). l) (λ (l : length loads ≤ k). absurd (omega (arith, get_or_past loads k 0 l))) (cases_lt k (length loads)) in
        omega (arith, small_numbers i k, ap (λ xs. get_or xs k 0) a.1, get_or_append_left loads (size ∷ []) 0 k there)

    -- so the book has no advice
    pub wide_choice : (loads : List ℕ) (size k : ℕ) → most_count < get_or loads k 0 → book_choice book loads size ≡ least_full loads
    wide_choice loads size k high =
        ap (λ o. or_least_full (option_map (advised_by book) o) loads)
        (first_none (has_key (situation_of book) (loads ++ (size ∷ []))) (book_rows book)
        (λ i l. ⊎_elim (λ e. absurd (none_applies loads size k high i (l, equal_from_same (situation_of book i) (loads ++ (size ∷ [])) e))) (λ e. e) (cases_Bool (has_key (situation_of book) (loads ++ (size ∷ [])) i))))

  -- ---- what the book advises

  module _ (loads : List ℕ) (size : ℕ) (known : (i : ℕ) → i < book_rows book → advised_by book i < book_bins book) (whole : length book ≡ book_bytes book) (some : 0 < length loads) where
    abbrev passes : ℕ → Bool
    passes = has_key (situation_of book) (loads ++ (size ∷ []))

    -- a row applies to as many loads as the book has bins
    level : (i : ℕ) → Applies book loads size i → length loads ≡ book_bins book
    level i a =
        let here = suc-mul i (book_bins book + 1) in
        let below : suc i * (book_bins book + 1) ≤ book_rows book * (book_bins book + 1) = mul-le-mul_right (book_bins book + 1) a.0 in
        let long : length (situation_of book i) ≡ book_bins book + 1 = rw (cond-true (ltb i (book_rows book)) (take (book_bins book + 1) (drop (header_bytes + i * (book_bins book + 1)) book)) [] (lt-ltb i (book_rows book) a.0)) (simp (length-take, length-drop) (omega arith)) in
        omega (arith, long, ap length a.1, length-append loads (size ∷ []))

    by_row : (o : Option ℕ) → MatchOption o (Quiet passes (book_rows book)) (LeastAt passes (book_rows book)) → ByBook book loads size (or_least_full (option_map (advised_by book) o) loads)
    by_row None h =
        inr (λ i a. both_ways (passes i) (h i a.0) (same_from_equal (situation_of book i) (loads ++ (size ∷ [])) a.1), least_full_says loads some)
    by_row (Some i) h =
        let applies : Applies book loads size i = (h.0, equal_from_same (situation_of book i) (loads ++ (size ∷ [])) h.1) in
        let there : advised_by book i < length loads = omega (arith, known i h.0, level i applies) in
        inl (i, applies, cond-true (ltb (advised_by book i) (length loads)) (advised_by book i) (least_full loads) (lt-ltb (advised_by book i) (length loads) there))

    -- the book's bin is that of the row that applies, or the least full where none does
    pub book_says : ByBook book loads size (book_choice book loads size)
    book_says = by_row (row_for book loads size) (first_says passes (book_rows book))

    -- and where a load is above every byte it is the least full one
    pub fits_book : ((i : ℕ) → get_or book i 0 ≤ most_count) → (o : Option ℕ) → o ≡ row_for book loads size → FitsBook book loads size (or_least_full (option_map (advised_by book) o) loads)
    fits_book octets o e = subst (λ a. FitsBook book loads size (or_least_full (option_map (advised_by book) a) loads)) (sym e) record { by_book = book_says; wide = wide_choice octets loads size }
