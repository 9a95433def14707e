-- Every list of calls keeps the law.
use Rattle.std.proofs.Common.{◌≡◌, ℕ, ◌+◌, ◌*◌, ◌/◌, ◌<◌, ◌≤◌, Bool, true, false, not, ◌||◌, ltb, eqb, ltb, List, [], ◌∷◌, ◌++◌, map, length, get_or, is_ok, Ok, Err, sum, Result, sym, refl, ap, ◌∙◌, arith}
use Rattle.std.proofs.lemmas.Bool.{not_from_true, le-ltb, lt-leb}
use Rattle.std.proofs.lemmas.Bool.Decides.{nat_tests}
use Rattle.std.proofs.lemmas.List.{map_push, append-nil}
use Rattle.certificate.specs.Certificates.{Certificate, row, size, offered, Stands}
use Rattle.certificate.specs.Lawful.{Lawful}
use Rattle.certificate.specs.Rules.{whole, judge_all, next_after}
use Rattle.positions.specs.Positions.{empty_loads, empty_counts, offer}
use Rattle.plan.specs.Winning.{Winning}
use Rattle.plan.proofs.Step.{reached_start, reached_like, placed_fit, offer_fits, offer_in_bound}
use Rattle.players.specs.Placing.{most_size, most_total, raised}
use Rattle.game.specs.declared.matches.Ready.{Ready}
use Rattle.game.specs.declared.matches.Waiting.{Waiting}
use Rattle.game.specs.declared.matches.Outcome.{Outcome}
use Rattle.game.specs.declared.matches.Outcome.TheVariants.{Over, Escape, Forfeit}
use Rattle.game.specs.declared.matches.Declined.{Declined}
use Rattle.game.specs.declared.matches.Item.{Item}
use Rattle.game.specs.declared.matches.Next.{Next}
use Rattle.game.specs.Loads.{row_is}
use Rattle.game.specs.Turns.{Match, as_ready, as_waiting, as_ended, number_of, Offers}
use Rattle.game.specs.Settling.{still_offers, settling, Settled, Settles, leads, ready_at}
use Rattle.game.specs.Law.{Call, gave, put, Run, opened, offer as offers, settle, refuse, ask, look}
use Rattle.game.specs.Law.{items, placed_items, accepted, carried, ToldRight, IsOver, IsEscape, Reaches, KeptAfter, Keeps, reached}
use Rattle.game.proofs.RowLoads.{row_is_reached, sum_light}
use Rattle.game.proofs.Progress.{Playing, State, Carrying, admitted_size, leads_number, settled_state, settled_loads}

-- what holds after the calls, over what is read off them
pub record Holding (c : Certificate) (gs ps : List ℕ) (n : ℕ) (load : ℕ → ℕ) (x : Match) (loads : List ℕ) : Type 0 where
  pub state : State c gs ps n loads x
  pub carrying : Carrying c load loads
  pub number : number_of x ≡ n

-- the same, read off the calls, with every question answered right
abbrev pub Held : Certificate → List Call → Match → List ℕ → Type 0
Held c cs x loads = Holding c (items cs) (placed_items cs) (accepted cs) (λ b. carried cs b) x loads × ToldRight cs

-- all tests of a settlement pass
passes : {a b d e f g : Bool} → a ≡ false → b ≡ false → d ≡ false → e ≡ false → f ≡ false → g ≡ false
    → next_after (judge_all (whole 34 a ∷ (whole 35 b ∷ (whole 36 d ∷ (whole 37 e ∷ []))))) (judge_all (whole 38 f ∷ (whole 39 g ∷ []))) ≡ Ok tt
passes p q r s t u =
    λ i. next_after (judge_all (whole 34 (p i) ∷ (whole 35 (q i) ∷ (whole 36 (r i) ∷ (whole 37 (s i) ∷ []))))) (judge_all (whole 38 (t i) ∷ (whole 39 (u i) ∷ [])))

-- an outcome is not both over and an escape
not_both : (o : Outcome) → IsOver o → IsEscape o → ⊥
not_both Over a b = b
not_both Escape a b = a
not_both Forfeit a b = b

-- a settlement that nothing speaks against is accepted
accepts : (c : Certificate) (w : Waiting) (token : Item) (bytes loads : List ℕ) → token.size ≡ w.size → settling c w w.size (length bytes) loads ≡ Ok tt
    → (answer : Result Next Declined) (token' : Item) (bytes' loads' : List ℕ) → Settles c w token bytes loads answer token' bytes' loads' → is_ok answer ≡ true
accepts c w token bytes loads same e (Ok next) token' bytes' loads' h = refl
accepts c w token bytes loads same e (Err d) token' bytes' loads' h =
    let clash : Ok tt ≡ Err d.fault = sym e ∙ (ap (λ s. settling c w s (length bytes) loads) (sym same) ∙ h.faulty) in cc

module _ (c : Certificate) (lawful : Lawful c) (winning : Winning c) where
  -- ---- what the law says follows

  -- an item of the size shown is welcome
  welcomes : (w : Waiting) (loads : List ℕ) {ks ps : List ℕ} {n : ℕ} → Playing c ks ps loads w.row n → w.size ≡ offer c w.row → length loads ≡ c.bins → w.count ≡ n
      → (len : ℕ) → 2 * n + 2 ≤ len → settling c w w.size len loads ≡ Ok tt
  welcomes w loads {n = n} p es el en len room =
      let i = w.row in
      let s = w.size in
      let there = p.stands.there in
      let range = lawful.size_range (offered c i) (lawful.offered_range i there) in
      let small : s ≤ 127 = omega (arith, range.1, lawful.some_capacity.1) in
      let some : 1 ≤ s = omega (arith, range.0) in
      let light = sum_light c lawful loads el p.below in
      let row_there : not (still_offers c i s) ≡ false = grind (arith, nat_tests) in
      let row_same = not_from_true (row_is (row c i).loads loads) (row_is_reached c lawful winning loads i el p.stands) in
      let item_same : not (eqb s s) ≡ false = grind (arith, nat_tests) in
      let long = lt-leb (len / 2) w.count (omega arith) in
      let sized : (eqb s 0 || ltb most_size s) ≡ false = grind (arith, nat_tests) in
      let loaded = le-ltb most_total (sum loads + s) (omega arith) in
      passes row_there row_same item_same long sized loaded

  -- no bin reaches the target where all are below it
  none_reaches : (cs : List Call) (loads : List ℕ) → Carrying c (λ b. carried cs b) loads → ((b : ℕ) → b < c.bins → get_or loads b 0 < c.target) → Reaches c cs → ⊥
  none_reaches cs loads h below r = omega (arith, below r.0 r.1, h.1 r.0 r.1, r.2)

  -- so the law holds after the calls
  kept : (cs : List Call) (x : Match) (loads : List ℕ) → Held c cs x loads → KeptAfter c cs x loads
  kept cs (as_ready m) loads (h, answers) =
      let (ks, p, given, shown) = h.state in
      let room = offer_in_bound c lawful winning p.stands in
      let none_waits = append-nil (placed_items cs) in
      record {
        fits = rw given (placed_fit c winning p.stands);
        no_escape = λ e. e;
        ends = λ e. e;
        over = ((λ e. absurd e), none_reaches cs loads h.carrying p.below);
        counted = (h.number, answers);
        few = omega (arith, p.number);
        last = λ e. omega (arith, p.number);
        placed = cc p.placed;
        bins_carry = h.carrying;
        named = tt;
        welcome = tt;
      }
  kept cs (as_waiting m) loads (h, answers) =
      let (ks, p, given, shown) = h.state in
      let room = offer_in_bound c lawful winning p.stands in
      let one_more = map_push (size c) ks (offered c m.row) in
      record {
        fits = rw given (offer_fits c lawful winning p.stands);
        no_escape = λ e. e;
        ends = λ e. e;
        over = ((λ e. absurd e), none_reaches cs loads h.carrying p.below);
        counted = (h.number, answers);
        few = omega (arith, p.number);
        last = λ e. omega (arith, p.number);
        placed = cc p.placed;
        bins_carry = h.carrying;
        named = tt;
        welcome = λ token bytes same room. accepts c m token bytes loads same (welcomes m loads p shown h.carrying.0 h.number (length bytes) room);
      }
  kept cs (as_ended m) loads (h, answers) =
      let e = h.state in
      let carries : m.load ≡ carried cs m.bin = e.carries ∙ h.carrying.1 m.bin e.there in
      record {
        fits = e.fits;
        no_escape = not_both m.outcome e.is_over;
        ends = λ _. e.is_over;
        over = ((λ _. (m.bin, e.there, omega (arith, e.high))), (λ _. e.is_over));
        counted = (h.number, answers);
        few = e.few;
        last = λ _. e.is_over;
        placed = e.placed ∙ sym (append-nil (placed_items cs));
        bins_carry = h.carrying;
        named = λ _. (e.there, carries, e.high);
        welcome = tt;
      }

  -- ---- each call keeps it

  -- an offer does
  offer_step : (cs : List Call) (r : Ready) (w : Waiting) (token : Item) (loads : List ℕ) → Held c cs (as_ready r) loads → Offers r w token → Held c (gave token.size ∷ cs) (as_waiting w) loads
  offer_step cs r w token loads (h, answers) (ew, et) =
      let (ks, playing, placed, shown) = h.state in
      let given : items cs ++ r.size ∷ [] ≡ map (size c) (ks ++ offered c r.row ∷ []) = (λ i. placed i ++ shown i ∷ []) ∙ sym (map_push (size c) ks (offered c r.row)) in
      rw (ew, et) (record { state = (ks, playing, given, shown); carrying = h.carrying; number = h.number }, answers)

  -- an accepted settlement does
  settle_step :
      (cs : List Call) (w : Waiting) (loads : List ℕ) (token : Item) (bytes : List ℕ) (b : ℕ) (next : Next) (token' : Item) (bytes' loads' : List ℕ)
      → Held c cs (as_waiting w) loads → Settled c w token bytes loads b next token' bytes' loads' → Held c (put token.size b ∷ cs) (reached next) loads'
  settle_step cs w loads token bytes b next token' bytes' loads' (h, answers) settled =
      let i = w.row in
      let s = offer c i in
      let n = accepted cs in
      let v = get_or loads b 0 in
      let st = h.state in
      let there : b < c.bins = omega (arith, settled.there, h.carrying.0) in
      let same : token.size ≡ s = admitted_size c w token.size (length bytes) loads settled.admitted ∙ st.3 in
      let state = settled_state c lawful winning st.0 (items cs) (placed_items cs) loads i n b st.1 st.2 h.carrying.0 there in
      let carrying = settled_loads c lawful winning st.0 (items cs) (placed_items cs) loads i n b st.1 st.2 h.carrying.0 there (λ x. carried cs x) h.carrying.1 in
      let leading : next ≡ leads c (n + 1) i b v s = settled.leading ∙ (λ t. leads c (h.number t + 1) i b v (same t)) in
      let after : loads' ≡ raised loads b s = settled.placed ∙ ap (raised loads b) same in
      rw (same, leading, after) (record { state = state; carrying = carrying; number = leads_number c (n + 1) i b v s }, answers)

  -- the row of the empty position, with bins that are empty
  start_held : (i : ℕ) (loads : List ℕ) → Stands c (empty_loads c) (empty_counts c) i → length loads ≡ c.bins → ((b : ℕ) → b < c.bins → get_or loads b 0 ≡ 0) → Held c [] (as_ready (ready_at c i 0)) loads
  start_held i loads stands el h =
      let playing : Playing c [] [] loads i 0 = record {
        stands = reached_like c (λ b. get_or loads b 0) (reached_start c i stands) (λ b l. sym (h b l));
        placed = refl;
        number = refl;
        below = λ b l. omega (arith, h b l, lawful.target_range.0);
      } in
      (record { state = ([], playing, refl, refl); carrying = (el, h); number = refl }, tt)

  module _ (m : Ready) (loads : List ℕ) (start : Held c [] (as_ready m) loads) where
    -- along every list of calls
    along : {cs : List Call} {x : Match} {now : List ℕ} → Run c m loads cs x now → Held c cs x now
    along opened = start
    along (offers {cs} {r} {now} w token run h) = offer_step cs r w token now (along run) h
    along (settle {cs} {w} {now} token bytes b next token' bytes' now' run h) = settle_step cs w now token bytes b next token' bytes' now' (along run) h
    along (refuse {cs} {w} {now} token bytes f w' token' bytes' now' run h) =
        rw (h.match_kept, h.loads_kept) (along run)
    along (ask {cs} {x} {now} n run e) = ((along run).0, (e ∙ (along run).0.number, (along run).1))
    along (look {cs} {w} {now} s run e) =
        let all = (kept cs (as_waiting w) now (along run)).placed in
        ((along run).0, (all ∙ ap (λ y. placed_items cs ++ y ∷ []) (sym e), (along run).1))

    -- so the match keeps the law
    pub keeps : Keeps c loads m
    keeps cs x now run = kept cs x now (along run)

  -- a match at the row of the empty position, with a player whose bins are empty, keeps the law
  pub keeps_from_start : (i : ℕ) (loads : List ℕ) → Stands c (empty_loads c) (empty_counts c) i → length loads ≡ c.bins → ((b : ℕ) → b < c.bins → get_or loads b 0 ≡ 0) → Keeps c loads (ready_at c i 0)
  keeps_from_start i loads stands el h = keeps (ready_at c i 0) loads (start_held i loads stands el h)
