-- The text of a sheet's matches, as it grows by one match after another.
use Rattle.std.proofs.Common.{◌≡◌, ℕ, suc, ◌+◌, ◌-◌, ◌<◌, cond, List, [], ◌++◌, is_ok, Ok, Err, Result, sym, ap, ◌∙◌, append_assoc, append-nil, arith}
use Rattle.certificate.specs.declared.fault.Fault.{Fault}
use Rattle.certificate.specs.Certificates.{Certificate}
use Rattle.lines.specs.Lines.{match_line, refused_line}
use Rattle.match_sheet.specs.declared.stop.Stop.{Stop}
use Rattle.match_sheet.specs.declared.stop.Stop.TheVariants.{Refused, Memory}
use Rattle.match_sheet.specs.Saying.{Says, Adds}
use Rattle.match_sheet.specs.Sheet.{match_result, match_text, matches_from, lines_or_refusal}

module _ (c : Certificate) (programme book : List ℕ) where
  -- the matches from k on: match k, and the others where it was not refused
  one_more : (k end : ℕ) → k < end → matches_from c programme book k (end - k) ≡ match_text c programme book k ++ cond (is_ok (match_result c programme book k)) (matches_from c programme book (k + 1) (end - (k + 1))) []
  one_more k end l = let e : end - k ≡ suc (end - (k + 1)) = omega arith in ap (matches_from c programme book k) e

  -- what follows the line of match k, once its result is known
  abbrev behind : (k end : ℕ) → Result (List ℕ) Fault → List ℕ
  behind k end r = lines_or_refusal r ++ cond (is_ok r) (matches_from c programme book (k + 1) (end - (k + 1))) []

  module _ (k end : ℕ) (l : k < end) (before titled start wanted : List ℕ) (so_far : before ++ matches_from c programme book k (end - k) ≡ start ++ wanted) (title : titled ≡ before ++ match_line k) where
    printed : (r : Result (List ℕ) Fault) → match_result c programme book k ≡ r → titled ++ behind k end r ≡ start ++ wanted
    printed r e =
        let result = match_result c programme book k in
        ap (λ t. titled ++ behind k end t) (sym e) ∙ (ap (λ t. t ++ behind k end result) title ∙ (append_assoc before (match_line k) (behind k end result)
        ∙ (ap (λ t. before ++ t) (sym (one_more k end l ∙ append_assoc (match_line k) (lines_or_refusal result) (cond (is_ok result) (matches_from c programme book (k + 1) (end - (k + 1))) []))) ∙ so_far)))

    -- match k was not refused: the others follow
    pub printed_on : (lines text : List ℕ) → match_result c programme book k ≡ Ok lines → text ≡ titled ++ lines → text ++ matches_from c programme book (k + 1) (end - (k + 1)) ≡ start ++ wanted
    printed_on lines text e added = let rest = matches_from c programme book (k + 1) (end - (k + 1)) in ap (λ t. t ++ rest) added ∙ (append_assoc titled lines rest ∙ printed (Ok lines) e)

    -- the last match was not refused: nothing is left
    pub printed_all : end ≡ k + 1 → (lines text : List ℕ) → match_result c programme book k ≡ Ok lines → text ≡ titled ++ lines → text ≡ start ++ wanted
    printed_all last lines text e added =
        let none : 0 ≡ end - (k + 1) = omega arith in
        sym (append-nil text) ∙ (ap (λ n. text ++ matches_from c programme book (k + 1) n) none ∙ printed_on lines text e added)

    -- match k was refused: the line of its fault is all that follows
    pub printed_last : {S : Type 0} (bytes : S → List ℕ) (e : Stop) → Says bytes (match_result c programme book k) (Err e) → Adds start titled wanted (Err e)
    printed_last bytes (Refused f) e = ap (λ t. titled ++ t) (sym (append-nil (refused_line f))) ∙ printed (Err f) e
    printed_last bytes (Memory m) e = tt
