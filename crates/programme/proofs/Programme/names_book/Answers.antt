use Rattle.std.proofs.Common.{rules, ◌≡◌, ℕ, zero, suc, ◌+◌, ◌<◌, ◌≤◌, Bool, true, false, is_some, Some, None, Option, MatchBool, MatchOption, vec_items, sym, refl, ap, arith}
use Rattle.std.proofs.lemmas.Bool.{both_ways}
use Rattle.std.proofs.iter.runs.Sources.{ranges}
use Rattle.certificate.specs.Rules.{first}
use Rattle.certificate.proofs.Firsts.{Quiet, LeastAt, first_says, first_none}
use Rattle.programme.specs.Programmes.{match_count, book_at}
use Rattle.programme.proofs.Programme.names_book.Goals as goal

module _ (test : ℕ → Bool) where
  -- what passes is found, or something below it
  found : (n : ℕ) (o : Option ℕ) → MatchOption o (Quiet test n) (LeastAt test n) → (k : ℕ) → k < n → test k ≡ true → is_some o ≡ true
  found n None q k l e = absurd (both_ways (test k) (q k l) e)
  found n (Some i) h k l e = refl

  -- nothing passes from 1 on, nor at 0
  quiet : (n : ℕ) → test 0 ≡ false → ((k : ℕ) → 1 ≤ k → k ≤ n → test k ≡ false) → Quiet test (n + 1)
  quiet n e h zero l = e
  quiet n e h (suc k) l = h (suc k) (omega arith) (omega arith)

  -- whether something from 1 to n passes is whether it is found
  any_found : (n : ℕ) → test 0 ≡ false → (r : Bool) → MatchBool r ((k : ℕ) × (1 ≤ k) × (k ≤ n) × (test k ≡ true)) ((k : ℕ) → 1 ≤ k → k ≤ n → test k ≡ false) → r ≡ is_some (first test (n + 1))
  any_found n e true h = sym (found (n + 1) (first test (n + 1)) (first_says test (n + 1)) h.0 (omega (arith, h.2)) h.3)
  any_found n e false h = sym (ap is_some (first_none test (n + 1) (quiet n e h)))

pub returns : goal.returns
returns c =
    let bytes = vec_items c.args.self.now.bytes in
    let n = match_count bytes in
    any_found (book_at bytes) n refl c.any.result (search (rules, ranges))
