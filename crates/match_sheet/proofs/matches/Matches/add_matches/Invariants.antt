use Rattle.std.proofs.Common.{◌≡◌, ◌+◌, ◌-◌, ◌++◌, vec_items, string_bytes}
use Rattle.programme.specs.Programmes.{match_count}
use Rattle.match_sheet.specs.Sheet.{matches_from}
use Rattle.match_sheet.proofs.matches.Matches.add_matches.Given as goal

-- the text so far, with the matches that are left, is the text of all
abbrev pub invariant-loop-number : goal.invariant-loop-number
invariant-loop-number g l =
    let c = g.S.Store.meaning l.self.store.now in
    let p = vec_items l.self.programme.now.bytes in
    let book = l.self.book.now in
    string_bytes l.text ++ matches_from c p book l.number ((match_count p + 1) - l.number) ≡ string_bytes l.initial.text ++ matches_from c p book 1 (match_count p)
