-- What the opening of a file tells: what the file means, or the fault.
use Rattle.std.specs.Prelude.{ℕ, List, Ok, Err, Result}
use Rattle.certificate.specs.declared.fault.Fault.{Fault}
use Rattle.certificate.specs.Rules.{Rule, judge_all, next_after}
use Rattle.certificate.specs.Certificates.{Certificate}
use Rattle.certificate.specs.declared.refused.Refused.{Refused}
use Rattle.layout.specs.Layout.{certificate_of}

-- an answer without the bytes that a refusal hands back
abbrev pub told : {X : Type 0} → (X → Certificate) → Result X Refused → Result Certificate Fault
told meaning (Ok x) = Ok (meaning x)
told meaning (Err e) = Err e.fault

-- a file that keeps the rules means its certificate; else the least fault is told
abbrev pub opened : List Rule → List ℕ → Result Certificate Fault
opened rules file = next_after (judge_all rules) (Ok (certificate_of file))
