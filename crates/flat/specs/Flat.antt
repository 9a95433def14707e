-- The rules of a flat table: those of every file, and rule 11.
use Rattle.std.specs.Prelude.{ℕ, List, [], ◌∷◌, ◌++◌}
use Rattle.certificate.specs.Rules.{Rule}
use Rattle.certificate.specs.Certificates.{Certificate, row_count, position}
use Rattle.certificate.specs.Contents.{contents_rules}
use Rattle.search.specs.Ascending.{order_rule}
use Rattle.layout.specs.Layout.{frame_rules, certificate_of}

-- 11: a position is not above the one before (the later row)
abbrev pub ascends_rule : Certificate → Rule
ascends_rule c = order_rule 11 (position c) (row_count c)

-- 8 to 11, of a file whose header and length are right
abbrev pub table_rules : Certificate → List Rule
table_rules c = contents_rules c ++ (ascends_rule c ∷ [])

-- 1 to 11
abbrev pub flat_rules : List ℕ → List Rule
flat_rules file = frame_rules file ++ table_rules (certificate_of file)
