use Rattle.std.proofs.Common.{rules, take, [], ◌∷◌, ◌++◌, ap, ◌∙◌, arith}
use Rattle.std.proofs.lemmas.List.{take_more_set}
use Rattle.certificate.proofs.Appending.{append_more, append_all}
use Rattle.layout.proofs.key.PositionKey.append.Goals as goal

pub loop-number-preserved : goal.loop-number-preserved
loop-number-preserved c =
    let key = c.loop-number.self in
    let start = c.args.self.now in
    let numbers = c.args.numbers.now in
    let i = c.loop-number.number-index in
    let so_far = take key.length key.bytes in
    (omega arith, take_more_set key.bytes key.length c.in_ok-byte.byte (omega arith) ∙ (ap (λ b. so_far ++ b ∷ []) (search rules) ∙ append_more (take start.length start.bytes) numbers i so_far c.loop-number.invariant.1 (omega arith)))

pub returns : goal.returns
returns c =
    let key = c.loop-number.self in
    let start = c.args.self.now in
    (omega arith, append_all (take start.length start.bytes) c.args.numbers.now c.loop-number.number-index (take key.length key.bytes) c.loop-number.invariant.1 (omega arith))
