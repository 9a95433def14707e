-- What holds along every list of calls, over the values that are read off the list, and each step that keeps it.
use Rattle.std.proofs.Common.{◌≡◌, ℕ, ◌+◌, ◌<◌, ◌≤◌, Bool, true, false, cond, eqb, leb, List, [], ◌∷◌, ◌++◌, map, length, get_or, Some, None, Ok, Option, sym, refl, ap, ◌∙◌, inl, inr, arith}
use Rattle.std.proofs.lemmas.Bool.{both_ways, not-false, eqb-true, eq-eqb, leb-true, leb-false, cases_Bool}
use Rattle.std.proofs.lemmas.Bool.Decides.{nat_tests}
use Rattle.std.proofs.lemmas.List.{map_push, length_push, length-set, get_or-set_same}
use Rattle.certificate.specs.Certificates.{Certificate, row, size, load, offered}
use Rattle.certificate.specs.Lawful.{Lawful}
use Rattle.certificate.specs.Rules.{judge_all}
use Rattle.certificate.proofs.Firsts.{none_quiet, some_least}
use Rattle.certificate.proofs.Finding.{stands_found}
use Rattle.certificate.proofs.Judged.{hold_from_judge_all}
use Rattle.certificate.proofs.Rules.{next_after_ok}
use Rattle.positions.specs.Positions.{next_loads, next_counts, offer}
use Rattle.plan.specs.Plan.{bound}
use Rattle.plan.specs.Winning.{Winning}
use Rattle.plan.specs.Bound.{Fit}
use Rattle.plan.proofs.Step.{Reached, Follows, reached_like, reached_next, place_of_bin, offer_fits, offer_in_bound, raised_set}
use Rattle.players.specs.Placing.{declined, raised}
use Rattle.game.specs.declared.matches.Waiting.{Waiting}
use Rattle.game.specs.declared.matches.Ended.{Ended}
use Rattle.game.specs.Turns.{Match, as_ready, as_waiting, as_ended, number_of}
use Rattle.game.specs.Settling.{settling, settling_rules, bears, place_of, row_after, next_row, led, leads, ready_at}
use Rattle.game.specs.Law.{IsOver, reached}

-- the match goes on: items of the classes ks were placed, row i stands for that, and no bin carries the target
pub record Playing (c : Certificate) (ks ps loads : List ℕ) (i n : ℕ) : Type 0 where
  pub stands : Reached c ks (λ b. get_or loads b 0) i
  pub placed : ps ≡ map (size c) ks
  pub number : n ≡ length ks
  pub below : (b : ℕ) → b < c.bins → get_or loads b 0 < c.target

-- the match is over: the items given are those placed, and they fit; the match names a bin with its load
pub record Finished (c : Certificate) (gs ps loads : List ℕ) (n : ℕ) (e : Ended) : Type 0 where
  pub fits : Fit c.bins c.capacity gs
  pub placed : gs ≡ ps
  pub few : n ≤ bound c
  pub is_over : IsOver e.outcome
  pub there : e.bin < c.bins
  pub carries : e.load ≡ get_or loads e.bin 0
  pub high : c.target ≤ e.load

-- by the match's state, where the items gs were given, ps were placed by n settlements, and the bins carry these loads
abbrev pub State : Certificate → List ℕ → List ℕ → ℕ → List ℕ → Match → Type 0
State c gs ps n loads (as_ready m) =
    (ks : List ℕ) × Playing c ks ps loads m.row n × (gs ≡ map (size c) ks) × (m.size ≡ offer c m.row)
State c gs ps n loads (as_waiting m) =
    (ks : List ℕ) × Playing c ks ps loads m.row n × (gs ≡ map (size c) (ks ++ offered c m.row ∷ [])) × (m.size ≡ offer c m.row)
State c gs ps n loads (as_ended m) = Finished c gs ps loads n m

-- in each state: the loads are what the calls placed
abbrev pub Carrying : Certificate → (ℕ → ℕ) → List ℕ → Type 0
Carrying c load loads = (length loads ≡ c.bins) × ((b : ℕ) → b < c.bins → get_or loads b 0 ≡ load b)

-- ---- an item of the size shown

-- a settlement that is admitted is of the size shown
pub admitted_size : (c : Certificate) (w : Waiting) (s len : ℕ) (loads : List ℕ) → settling c w s len loads ≡ Ok tt → s ≡ w.size
admitted_size c w s len loads e =
    let rules = settling_rules c w s len loads in
    let hold = hold_from_judge_all rules (next_after_ok (judge_all rules) (declined loads s) tt e).0 in
    eqb-true s w.size (not-false (eqb s w.size) (hold.1.1.0 0 0 (omega arith) (omega arith)))

-- ---- the row that follows

module _ (c : Certificate) (lawful : Lawful c) (winning : Winning c) (ks : List ℕ) (loads : List ℕ) (i b : ℕ)
    (r : Reached c ks (λ x. get_or loads x 0) i) (l : b < c.bins) (below : get_or loads b 0 + offer c i < c.target) where
  -- what the bin carried
  abbrev v : ℕ
  v = get_or loads b 0

  -- a place of the row that has the bin's load, and the row that follows it
  abbrev Found : Type 0
  Found = (j : ℕ) × (next : ℕ) × (j < c.bins) × (load c i j ≡ v) × Follows c i j next × (next_row c i v ≡ Some next)

  -- the first place that has the bin's load, by cases
  found_at : (o : Option ℕ) → place_of c i v ≡ o → Found
  found_at None e =
      let place = place_of_bin c lawful b r l in
      absurd (both_ways (bears c i v place.0) (none_quiet (bears c i v) c.bins e place.0 place.1) (eq-eqb (load c i place.0) v place.2))
  found_at (Some j) e =
      let least = some_least (bears c i v) c.bins j e in
      let same = eqb-true (load c i j) v least.1 in
      let covers = winning.goes_on i j r.there least.0 (omega (arith, same)) in
      let found = stands_found c (next_loads (row c i).loads j (offer c i)) (next_counts (row c i).counts (offered c i)) lawful covers.0 covers.1 in
      (j, covers.0, least.0, same, covers.1, ap (row_after c i) e ∙ found)

  -- the plan goes on at the first place that has the bin's load
  pub row_found : Found
  row_found = found_at (place_of c i v) refl

-- ---- a settlement

-- however it leads on, the number of settlements is the one given
pub leads_number : (c : Certificate) (n i b v s : ℕ) → number_of (reached (leads c n i b v s)) ≡ n
leads_number c n i b v s = step (leb c.target (v + s)) (next_row c i v)
  where
    step : (over : Bool) (found : Option ℕ) → number_of (reached (led c n b (v + s) over found)) ≡ n
    step true found = refl
    step false None = refl
    step false (Some j) = refl

module _ (c : Certificate) (lawful : Lawful c) (winning : Winning c) (ks gs ps loads : List ℕ) (i n b : ℕ)
    (p : Playing c ks ps loads i n) (given : gs ≡ map (size c) (ks ++ offered c i ∷ [])) (whole : length loads ≡ c.bins) (l : b < c.bins) where
  -- the item's size
  abbrev s : ℕ
  s = offer c i

  -- the bin is the player's
  inside : b < length loads
  inside = omega (arith, whole)

  -- what was placed, with the item on the table, is what was given
  all_placed : ps ++ s ∷ [] ≡ map (size c) (ks ++ offered c i ∷ [])
  all_placed = ap (λ xs. xs ++ s ∷ []) p.placed ∙ sym (map_push (size c) ks (offered c i))

  -- the bin carries the item too
  own : get_or (raised loads b s) b 0 ≡ get_or loads b 0 + s
  own = get_or-set_same loads b (get_or loads b 0 + s) 0 inside

  -- the bin reaches the target
  finishes : c.target ≤ get_or loads b 0 + s → State c gs (ps ++ s ∷ []) (n + 1) (raised loads b s) (reached (led c (n + 1) b (get_or loads b 0 + s) true (next_row c i (get_or loads b 0))))
  finishes high = record {
    fits = rw given (offer_fits c lawful winning p.stands);
    placed = given ∙ sym all_placed;
    few = omega (arith, p.number, offer_in_bound c lawful winning p.stands);
    is_over = tt;
    there = l;
    carries = sym own;
    high = high;
  }

  -- no bin carries the target yet
  still_below : get_or loads b 0 + s < c.target → (x : ℕ) → x < c.bins → get_or (raised loads b s) x 0 < c.target
  still_below low x q =
      let below = p.below x q in
      let now = raised_set loads b s x inside in
      grind (arith, nat_tests)

  -- the match is ready at the row that follows
  goes_on : get_or loads b 0 + s < c.target → (j next : ℕ) → j < c.bins → load c i j ≡ get_or loads b 0 → Follows c i j next
      → State c gs (ps ++ s ∷ []) (n + 1) (raised loads b s) (as_ready (ready_at c next (n + 1)))
  goes_on low j next q e follows =
      let more = ks ++ offered c i ∷ [] in
      let step = reached_next c lawful b j next p.stands l q e follows in
      let playing : Playing c more (ps ++ s ∷ []) (raised loads b s) next (n + 1) = record {
        stands = reached_like c (λ x. get_or (raised loads b s) x 0) step (λ x _. sym (raised_set loads b s x inside));
        placed = all_placed;
        number = omega (arith, p.number, length_push ks (offered c i));
        below = still_below low;
      } in
      (more, playing, given, refl)

  -- the state that a settlement leads to
  pub settled_state : State c gs (ps ++ s ∷ []) (n + 1) (raised loads b s) (reached (leads c (n + 1) i b (get_or loads b 0) s))
  settled_state =
      let v = get_or loads b 0 in
      elim (cases_Bool (leb c.target (v + s))) [
        | inl e ↦ rw e (finishes (leb-true c.target (v + s) e))
        | inr e ↦
            let low = leb-false c.target (v + s) e in
            let (j, next, there, same, follows, found) = row_found c lawful winning ks loads i b p.stands l low in
            rw (e, found) (goes_on low j next there same follows)
      ]

  -- the loads that a settlement leaves
  pub settled_loads : (load : ℕ → ℕ) → ((x : ℕ) → x < c.bins → get_or loads x 0 ≡ load x) → Carrying c (λ x. load x + cond (eqb b x) s 0) (raised loads b s)
  settled_loads load h =
      (length-set loads b (get_or loads b 0 + s) ∙ whole, λ x q. raised_set loads b s x inside ∙ ap (λ y. y + cond (eqb b x) s 0) (h x q))
