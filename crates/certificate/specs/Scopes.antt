-- Where a rule is tried, as the code holds it.
use Rattle.certificate.specs.declared.rule.Scope.{Scope}
use Rattle.certificate.specs.Rules.{Rule}

abbrev pub scope_of : Rule → Scope
scope_of r = record { number = r.number; rows = r.rows; places = r.places }
