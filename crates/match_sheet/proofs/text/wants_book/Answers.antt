use Rattle.std.proofs.Common.{vec_items, sym, ◌∙◌}
use Rattle.layout.specs.Layout.{certificate_of}
use Rattle.sheet.specs.Sheet.{judgement}
use Rattle.match_sheet.proofs.Idle.{sheet_idle}
use Rattle.match_sheet.proofs.text.wants_book.Goals as goal

pub returns-clause-idle : goal.returns-clause-idle
returns-clause-idle c e file book other = sheet_idle (certificate_of file) (vec_items c.args.programme.now.bytes) book other (sym c.names_book.ensures ∙ e) (judgement file)
