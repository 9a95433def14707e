-- What a flat table means.
use Rattle.certificate.specs.Certificates.{Certificate}
use Rattle.files.specs.RowFiles.{meant}
use Rattle.flat.specs.declared.flat_table.FlatTable.{FlatTable}

-- the certificate that its file says
abbrev pub table_meant : FlatTable → Certificate
table_meant t = meant t.file
