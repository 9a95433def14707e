use Rattle.play.proofs.take_turn.Goals as goal

-- an accepted settlement of what was offered is a turn
pub returns-in-Ok-clause-turn : goal.returns-in-Ok-clause-turn
returns-in-Ok-clause-turn g c =
    let (b, taken, settled) = rw (c.offer.ensures.0, c.offer.ensures.1) at c.in-Ok.ensures.ruled in
    (b, taken, rw settled.paid at settled)
