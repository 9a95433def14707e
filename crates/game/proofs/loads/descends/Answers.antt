use Rattle.std.proofs.Common.{leb, rules}
use Rattle.std.proofs.lemmas.List.Sorted.{answers_always}
use Rattle.game.proofs.RowLoads.{sorted_descends}
use Rattle.game.proofs.loads.descends.Goals as goal

pub returns : goal.returns
returns c = sorted_descends c.args.loads.now c.is_sorted_by.result (c.is_sorted_by.ensures.cases (λ x y. leb y x) (answers_always _ _ _ (λ f a r f' k. search rules)))
