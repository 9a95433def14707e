-- The printed sheet, as a function of the certificate's bytes.
use Rattle.std.specs.Prelude.{ℕ, List, Ok, Err, Result}
use Rattle.certificate.specs.declared.fault.Fault.{Fault}
use Rattle.certificate.specs.Certificates.{Certificate}
use Rattle.files.specs.Opening.{opened}
use Rattle.flat.specs.Flat.{flat_rules}
use Rattle.plan.specs.declared.verdict.Verdict.{Verdict}
use Rattle.plan.specs.Plan.{verdict}
use Rattle.lines.specs.Lines.{accepted_line, refused_line}

-- a fault of opening stands; else the certificate is checked
abbrev pub checked : Result Certificate Fault → Result Verdict Fault
checked (Ok c) = verdict c
checked (Err f) = Err f

-- what the referee says of a file
abbrev pub judgement : List ℕ → Result Verdict Fault
judgement file = checked (opened (flat_rules file) file)

-- the line of a verdict, or of the fault that stands in its place
abbrev pub line_of : Result Verdict Fault → List ℕ
line_of (Ok v) = accepted_line v
line_of (Err f) = refused_line f

-- the bytes that are printed
abbrev pub sheet : List ℕ → List ℕ
sheet file = line_of (judgement file)
