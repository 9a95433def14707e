use Rattle.std.proofs.Common.{Ok, Err, ◌∙◌, arith}
use Rattle.std.proofs.lemmas.Result.{err_from_is_err_and}
use Rattle.play.specs.Playing.{stops, ends, goes}
use Rattle.play.proofs.Turning.{settled_raises}
use Rattle.play.proofs.Victories.{turns_say}
use Rattle.play.proofs.take_turns.Goals as goal

pub returns-in_err-next : goal.returns-in_err-next
returns-in_err-next g c =
    let fault = c.in_err-next.field-0.0 in
    let turns = c.loop-next.invariant.1 (Err fault) (g.P.Player.loads c.take_turn.new.player) c.take_turn.new.record (stops fault c.in_err-next.ensures.turn) in
    let (plays, computed, wins, room) = turns_say (g.met.S.Store.lawful c.args.store.now) (g.met.P.Player.light c.args.player.now) c.requires turns in
    let p = err_from_is_err_and c.from_residual.result c.from_residual.ensures.1 in
    rw (p.1, p.2) (record { plays = plays; computed = computed; wins = wins; kept = c.take_turn.ensures.kept ∙ c.loop-next.invariant.0; room = room })

pub loop-next-smaller : goal.loop-next-smaller
loop-next-smaller g c = omega (arith, settled_raises c.in_ok-next.ensures.turn.2, g.met.P.Player.light c.take_turn.new.player)

pub loop-next-preserved : goal.loop-next-preserved
loop-next-preserved g c =
    let turn = rw (c.loop-next.invariant.0, c.in-GoesOn.is) at c.in_ok-next.ensures.turn in
    (c.take_turn.ensures.kept ∙ c.loop-next.invariant.0, λ answer loads' bytes' rest. c.loop-next.invariant.1 answer loads' bytes' (goes c.in-GoesOn.next turn rest))

pub returns-in-Ends : goal.returns-in-Ends
returns-in-Ends g c =
    let turn = rw (c.loop-next.invariant.0, c.in-Ends.is) at c.in_ok-next.ensures.turn in
    let turns = c.loop-next.invariant.1 (Ok c.in-Ends.ended) (g.P.Player.loads c.take_turn.new.player) c.take_turn.new.record (ends c.in-Ends.ended turn) in
    let (plays, computed, wins, room) = turns_say (g.met.S.Store.lawful c.args.store.now) (g.met.P.Player.light c.args.player.now) c.requires turns in
    record { plays = plays; computed = computed; wins = wins; kept = c.take_turn.ensures.kept ∙ c.loop-next.invariant.0; room = room }
