use Rattle.std.proofs.Common.{Ok, sym, ap, ◌∙◌}
use Rattle.std.proofs.lemmas.Result.{err_from_is_err_and}
use Rattle.match_sheet.specs.Sheet.{lines_played}
use Rattle.match_sheet.proofs.matches.Matches.played_match.Goals as goal

pub returns-in_err-ended : goal.returns-in_err-ended
returns-in_err-ended g c choose e =
    let p = err_from_is_err_and c.from_residual.result c.from_residual.ensures.1 in
    rw (p.1, p.2) (sym (ap lines_played (c.in_err-ended.ensures.computed choose e)))

pub returns : goal.returns
returns g c choose e =
    sym (ap lines_played (c.in_ok-ended.ensures.computed choose e)) ∙ ap Ok (sym c.in_ok-lines.ensures)
