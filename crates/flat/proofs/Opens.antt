-- How a flat table is opened: the file's frame first, then its rows.
use Rattle.std.proofs.Common.{◌≡◌, ℕ, List, Ok, Err, Result, sym, refl, ap, ◌∙◌, subst}
use Rattle.certificate.specs.declared.fault.Fault.{Fault}
use Rattle.certificate.specs.Rules.{judge_all, next_after}
use Rattle.certificate.specs.Certificates.{Certificate}
use Rattle.certificate.specs.Least.{Judges}
use Rattle.layout.specs.Layout.{frame_rules, certificate_of}
use Rattle.files.specs.Opening.{opened}
use Rattle.files.proofs.Opening.{opened_first, opened_second, opened_least}
use Rattle.flat.specs.Flat.{table_rules, flat_rules}

-- a fault of the frame
pub frame_fault : (file : List ℕ) (f : Fault) → Err f ≡ opened (frame_rules file) file → Err f ≡ opened (flat_rules file) file
frame_fault file f e = sym (opened_first (frame_rules file) (table_rules (certificate_of file)) file f (sym e))

module _ (file held : List ℕ) (same_bytes : held ≡ file) (framed : Ok (certificate_of held) ≡ opened (frame_rules file) file) where
  behind_frame : opened (flat_rules file) file ≡ next_after (judge_all (table_rules (certificate_of held))) (Ok (certificate_of held))
  behind_frame = opened_second (frame_rules file) (table_rules (certificate_of file)) file (certificate_of held) (sym framed) ∙ ap (λ x. next_after (judge_all (table_rules (certificate_of x))) (Ok (certificate_of x))) (sym same_bytes)

  -- a fault of the rows
  pub rows_fault : (f : Fault) → Err f ≡ judge_all (table_rules (certificate_of held)) → Err f ≡ opened (flat_rules file) file
  rows_fault f e = ap (λ a. next_after a (Ok (certificate_of held))) e ∙ sym behind_frame

  -- no fault at all
  pub no_fault : Ok tt ≡ judge_all (table_rules (certificate_of held)) → Ok (certificate_of held) ≡ opened (flat_rules file) file
  no_fault e = ap (λ a. next_after a (Ok (certificate_of held))) e ∙ sym behind_frame

-- the fault that is told is the least
pub told_least : (file : List ℕ) (a : Result Certificate Fault) → a ≡ opened (flat_rules file) file → Judges (flat_rules file) a
told_least file a e = subst (λ x. Judges (flat_rules file) x) (sym e) (opened_least 0 (flat_rules file) file refl)
