-- What a judgement by a list of rules means, in words of order: the least broken (number, place, place).
use Rattle.std.specs.Prelude.{◌≡◌, ◌<◌, true, ◌⊎◌, List, [], ◌∷◌, Result, MatchResult}
use Rattle.certificate.specs.declared.fault.Fault.{Fault}
use Rattle.certificate.specs.Rules.{Rule}

-- the fault has the rule's number, and names a place that breaks it
abbrev pub Breaks : Rule → Fault → Type 0
Breaks r f = (f.number ≡ r.number) × (f.first < r.rows) × (f.second < r.places) × (r.broken f.first f.second ≡ true)

-- the fault names a place that breaks one of the rules
abbrev pub Broken : List Rule → Fault → Type 0
Broken [] f = ⊥
Broken (r ∷ rs) f = Breaks r f ⊎ Broken rs f

-- f comes before g: by its number, then its first place, then its second
abbrev pub Before : Fault → Fault → Type 0
Before f g = (f.number < g.number) ⊎ ((f.number ≡ g.number) × ((f.first < g.first) ⊎ ((f.first ≡ g.first) × (f.second < g.second))))

-- the fault is broken, and none before it is
pub record Least (rs : List Rule) (f : Fault) : Type 0 where
  pub broken : Broken rs f
  pub none_before : (g : Fault) → Before g f → Broken rs g → ⊥

-- nothing is broken where the answer is no fault, and a fault is the least one
abbrev pub Judges : {X : Type 0} → List Rule → Result X Fault → Type 0
Judges rs answer = MatchResult answer (λ _. (f : Fault) → Broken rs f → ⊥) (Least rs)
