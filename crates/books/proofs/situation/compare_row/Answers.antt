use Rattle.std.proofs.Common.{◌≡◌, ℕ, refl, ap, ◌∙◌, map-id, rules}
use Rattle.std.specs.Ordering.{nat_cmp}
use Rattle.std.proofs.lemmas.Iterator.{YieldsList-from_slice, YieldsList-from_map}
use Rattle.std.proofs.lemmas.Iterator.Consumers.{YieldsList-from_copied}
use Rattle.std.proofs.lemmas.Iterator.Search.{cmp_from_yields_List}
use Rattle.search.specs.Ascending.{standing}
use Rattle.books.proofs.situation.compare_row.Goals as goal

pub returns : goal.returns
returns c =
    cmp_from_yields_List (λ x y. y ≡ x) _ nat_cmp _ c.cmp.ensures.ran (YieldsList-from_map _ (λ (x : ℕ). x) (YieldsList-from_slice c.args.row.now (cc)) c.map.ensures.closure (λ x r q k. search rules)) (λ it e. YieldsList-from_copied (YieldsList-from_slice c.args.numbers.now (cc))) (λ x y. refl)
    ∙ ap (λ xs. standing xs c.args.numbers.now) (map-id c.args.row.now)
