-- What is told of a certificate file: the opened table with its verdict, or the fault.
use Rattle.std.specs.Prelude.{◌≡◌, ℕ, List, Ok, Err, Result}
use Rattle.certificate.specs.declared.fault.Fault.{Fault}
use Rattle.layout.specs.Layout.{certificate_of}
use Rattle.flat.specs.Tables.{table_meant}
use Rattle.sheet.specs.declared.judgement.Checked.{Checked}
use Rattle.sheet.specs.Sheet.{judgement}

-- the table means what the file says, and the verdict, or the fault, is the file's
abbrev pub JudgedAs : List ℕ → Result Checked Fault → Type 0
JudgedAs file (Ok k) = (judgement file ≡ Ok k.verdict) × (table_meant k.table ≡ certificate_of file)
JudgedAs file (Err f) = judgement file ≡ Err f
