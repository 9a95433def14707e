-- Opening a file by one list of rules after another.
use Rattle.std.proofs.Common.{◌≡◌, ℕ, true, List, ◌++◌, Ok, Err, Result, sym, refl, ap, ◌∙◌, arith}
use Rattle.certificate.specs.declared.fault.Fault.{Fault}
use Rattle.certificate.specs.Rules.{Rule, judge_all, next_after}
use Rattle.certificate.specs.Certificates.{Certificate}
use Rattle.certificate.specs.Least.{Judges}
use Rattle.certificate.proofs.Rules.{judge_append, next_after_assoc, next_after_ok}
use Rattle.certificate.proofs.Least.{rising, judges, judges_after}
use Rattle.layout.specs.Layout.{certificate_of}
use Rattle.files.specs.Opening.{opened}

-- the second list is asked where the first passes
pub opened_append : (rs ss : List Rule) (file : List ℕ) → opened (rs ++ ss) file ≡ next_after (judge_all rs) (opened ss file)
opened_append rs ss file = ap (λ a. next_after a (Ok (certificate_of file))) (judge_append rs ss) ∙ next_after_assoc (judge_all rs) (judge_all ss) (Ok (certificate_of file))

stopped : (a : Result (Unit {0}) Fault) (d e : Result Certificate Fault) (f : Fault) (c : Certificate) → e ≡ Ok c → next_after a e ≡ Err f → next_after a d ≡ Err f
stopped (Ok u) d e f c p q = let z : ◌≡◌ {A = ℕ} 0 1 = cc in absurd (omega arith)
stopped (Err g) d e f c p q = let z : g ≡ f = cc in ap Err z

-- a fault of the first list stands
pub opened_first : (rs ss : List Rule) (file : List ℕ) (f : Fault) → opened rs file ≡ Err f → opened (rs ++ ss) file ≡ Err f
opened_first rs ss file f e = opened_append rs ss file ∙ stopped (judge_all rs) (opened ss file) (Ok (certificate_of file)) f (certificate_of file) refl e

-- a file that passes the first list is opened by the second
pub opened_second : (rs ss : List Rule) (file : List ℕ) (c : Certificate) → opened rs file ≡ Ok c → opened (rs ++ ss) file ≡ opened ss file
opened_second rs ss file c e = opened_append rs ss file ∙ ap (λ a. next_after a (opened ss file)) (next_after_ok (judge_all rs) (Ok (certificate_of file)) c e).0

-- what is told of a file is the least fault of rules with rising numbers
pub opened_least : (n : ℕ) (rs : List Rule) (file : List ℕ) → rising n rs ≡ true → Judges rs (opened rs file)
opened_least n rs file e = judges_after rs (judge_all rs) (certificate_of file) (judges n rs e)

-- what an opened file means is what its bytes say
pub opened_means : (rs : List Rule) (file : List ℕ) (c : Certificate) → Ok c ≡ opened rs file → c ≡ certificate_of file
opened_means rs file c e = let p = (next_after_ok (judge_all rs) (Ok (certificate_of file)) c (sym e)).1 in cc
