use Rattle.std.proofs.Common.{◌+◌, ◌-◌, ◌/◌, ◌<◌, sym, ⊎_elim, arith}
use Rattle.std.proofs.lemmas.Bool.{cases_lt}
use Rattle.search.proofs.Halving.{not_below, not_above, level_found, none_with}
use Rattle.search.proofs.search.Goals as goal

pub loop-low-preserved-in-Less : goal.loop-low-preserved-in-Less
loop-low-preserved-in-Less g c =
    let t = g.T.OrderedRows in
    let table = c.args.table.now in
    let middle = c.loop-low.low + (c.loop-low.high - c.loop-low.low) / 2 in
    let inside : middle < t.rows table = omega arith in
    (c.loop-low.invariant.0, not_below (t.key table) (t.rows table) (g.met.T.OrderedRows.ascending table) (t.spelled c.args.sought.now) middle inside (sym c.in-Less.ensures), c.loop-low.invariant.2)

pub returns-in-Equal : goal.returns-in-Equal
returns-in-Equal g c =
    let t = g.T.OrderedRows in
    let table = c.args.table.now in
    let middle = c.loop-low.low + (c.loop-low.high - c.loop-low.low) / 2 in
    let inside : middle < t.rows table = omega arith in
    record { answer = level_found (t.key table) (t.rows table) (g.met.T.OrderedRows.ascending table) (t.spelled c.args.sought.now) middle inside (sym c.in-Equal.ensures) }

pub loop-low-preserved : goal.loop-low-preserved
loop-low-preserved g c =
    let t = g.T.OrderedRows in
    let table = c.args.table.now in
    let middle = c.loop-low.low + (c.loop-low.high - c.loop-low.low) / 2 in
    (omega arith, c.loop-low.invariant.1, not_above (t.key table) (t.rows table) (g.met.T.OrderedRows.ascending table) (t.spelled c.args.sought.now) middle (sym c.in-Greater.ensures))

pub returns : goal.returns
returns g c =
    let t = g.T.OrderedRows in
    let table = c.args.table.now in
    record {
      answer = none_with (t.key table) (t.rows table) (g.met.T.OrderedRows.ascending table) (t.spelled c.args.sought.now)
          (λ i l e. ⊎_elim (λ (b : i < c.loop-low.low). c.loop-low.invariant.1 i b e) (λ b. c.loop-low.invariant.2 i (omega arith) l e) (cases_lt i c.loop-low.low));
    }
