use Rattle.std.proofs.Common.{◌≡◌, string_bytes}
use Rattle.lines.specs.Lines.{upto, entry_line}
use Rattle.lines.proofs.record_lines.Given as goal

-- the text has a line for each settlement so far
abbrev pub invariant-loop-size : goal.invariant-loop-size
invariant-loop-size l = string_bytes l.text ≡ upto (entry_line l.record) l.size-index
