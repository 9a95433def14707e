-- How an ending of a match is named in print.
use Rattle.std.specs.Prelude.{ℕ, List, codes}
use Rattle.game.specs.declared.matches.Outcome.{Outcome}
use Rattle.game.specs.declared.matches.Outcome.TheVariants.{Over, Escape, Forfeit}

abbrev pub outcome_word : Outcome → List ℕ
outcome_word Over = codes "over"
outcome_word Escape = codes "escape"
outcome_word Forfeit = codes "forfeit"
