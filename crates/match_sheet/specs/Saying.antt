-- What a text says of a match: its lines, or its fault; nothing is promised where memory ran out.
use Rattle.std.specs.Prelude.{◌≡◌, ℕ, List, ◌++◌, Ok, Err, Result}
use Rattle.certificate.specs.declared.fault.Fault.{Fault}
use Rattle.lines.specs.Lines.{refused_line}
use Rattle.match_sheet.specs.declared.stop.Stop.{Stop}
use Rattle.match_sheet.specs.declared.stop.Stop.TheVariants.{Refused, Memory}

abbrev pub Says : {S : Type 0} → (S → List ℕ) → Result (List ℕ) Fault → Result S Stop → Type 0
Says bytes wanted (Ok s) = wanted ≡ Ok (bytes s)
Says bytes wanted (Err (Refused f)) = wanted ≡ Err f
Says bytes wanted (Err (Memory e)) = Unit {0}

-- what was added to a text: all that is wanted, or all but the line of the fault that ends it
abbrev pub Adds : List ℕ → List ℕ → List ℕ → Result (Unit {0}) Stop → Type 0
Adds before after wanted (Ok u) = after ≡ before ++ wanted
Adds before after wanted (Err (Refused f)) = after ++ refused_line f ≡ before ++ wanted
Adds before after wanted (Err (Memory e)) = Unit {0}
