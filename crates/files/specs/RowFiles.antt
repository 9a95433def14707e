-- What a file with a right header and length holds and means.
use Rattle.std.specs.Prelude.{ℕ, List, vec_items}
use Rattle.certificate.specs.Certificates.{Certificate}
use Rattle.files.specs.declared.row_file.RowFile.{RowFile}
use Rattle.layout.specs.Layout.{certificate_of}

-- its bytes
abbrev pub held : RowFile → List ℕ
held f = vec_items f.bytes

-- the certificate that they say
abbrev pub meant : RowFile → Certificate
meant f = certificate_of (held f)
