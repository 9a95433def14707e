-- The sizes of a lawful certificate's classes: none is 0, none is below the smallest, and so only so many items fit.
use Rattle.std.proofs.Common.{ℕ, zero, suc, ◌*◌, ◌<◌, ◌≤◌, List, map, length, subst, le-div_iff_mul-le, add-one, arith}
use Rattle.std.specs.List.{AllByRecursion}
use Rattle.std.proofs.lemmas.List.{length-map}
use Rattle.std.proofs.ByRecursion.{All-weaker, All-map}
use Rattle.certificate.specs.Certificates.{Certificate, class_count, size}
use Rattle.certificate.specs.Lawful.{Lawful}
use Rattle.plan.specs.Plan.{smallest, bound}
use Rattle.plan.specs.Bound.{Fit}
use Rattle.plan.proofs.Packing.{fit_few}

module _ (c : Certificate) (lawful : Lawful c) where
  -- no class is smaller than the first
  pub smallest_least : (k : ℕ) → k < class_count c → smallest c ≤ size c k
  smallest_least zero l = omega arith
  smallest_least (suc k) l =
      let ascends : size c k < size c (suc k) = subst (λ n. size c k < size c n) (add-one k) (lawful.sizes_ascend k (omega arith)) in
      omega (arith, smallest_least k (omega arith))

  -- the smallest size is not 0
  pub smallest_some : 1 ≤ smallest c
  smallest_some = (lawful.size_range 0 lawful.some_classes.0).0

  -- no item is smaller than the smallest
  pub items_least : (ks : List ℕ) → AllByRecursion (λ k. k < class_count c) ks → AllByRecursion (λ x. smallest c ≤ x) (map (size c) ks)
  items_least ks below =
      let sizes = All-weaker (λ k. k < class_count c) (λ k. smallest c ≤ size c k) smallest_least ks below in
      All-map (λ x. smallest c ≤ x) (size c) ks sizes

  -- no item has size 0
  pub items_some : (ks : List ℕ) → AllByRecursion (λ k. k < class_count c) ks → AllByRecursion (λ x. 1 ≤ x) (map (size c) ks)
  items_some ks below =
      let sizes = All-weaker (λ k. k < class_count c) (λ k. 1 ≤ size c k) (λ k l. (lawful.size_range k l).0) ks below in
      All-map (λ x. 1 ≤ x) (size c) ks sizes

  -- no more items fit than the bound says
  pub fit_bound : (ks : List ℕ) → AllByRecursion (λ k. k < class_count c) ks → Fit c.bins c.capacity (map (size c) ks) → length ks ≤ bound c
  fit_bound ks below fit =
      let few = fit_few c.bins c.capacity (smallest c) (map (size c) ks) (items_least ks below) fit in
      let placed = subst (λ n. n * smallest c ≤ c.bins * c.capacity) (length-map ks (size c)) few in
      (le-div_iff_mul-le {k = smallest c} {x = length ks} {y = c.bins * c.capacity} smallest_some).1 placed
