-- What a played match says, said of the entrant whose player was made.
use Rattle.std.proofs.Common.{◌≡◌, ℕ, List, replicate, Ok, Result, sym, subst}
use Rattle.certificate.specs.declared.fault.Fault.{Fault}
use Rattle.certificate.specs.Certificates.{Certificate}
use Rattle.certificate.specs.Rules.{next_after}
use Rattle.play.specs.Playing.{played}
use Rattle.programme.specs.declared.Entrant.{Entrant}
use Rattle.match_sheet.specs.declared.stop.Stop.{Stop}
use Rattle.match_sheet.specs.Saying.{Says}
use Rattle.match_sheet.specs.Sheet.{blank_record, lines_played, match_by, match_of}

module _ {S : Type 0} (bytes : S → List ℕ) (c : Certificate) (r : Result S Stop) where
  -- a player that was made, judged by what it was made of, plays from loads of 0
  pub made_says : {X : Type 0} (judge : X → Result (Unit {0}) Fault) (bins : X → ℕ) (choose : X → List ℕ → ℕ → ℕ) (x y : X) → x ≡ y → judge x ≡ Ok tt → (loads : List ℕ) → loads ≡ replicate (bins x) 0
      → Says bytes (lines_played (played c (choose y) loads blank_record)) r → Says bytes (next_after (judge y) (match_by c (choose y) (bins y))) r
  made_says judge bins choose x y e j loads l says =
      let at : next_after (judge x) (match_by c (choose y) (bins x)) ≡ next_after (judge y) (match_by c (choose y) (bins y)) = λ i. next_after (judge (e i)) (match_by c (choose y) (bins (e i))) in
      let from : lines_played (played c (choose y) loads blank_record) ≡ next_after (judge x) (match_by c (choose y) (bins x)) = λ i. next_after (sym j i) (lines_played (played c (choose y) (l i) blank_record)) in
      subst (λ (w : Result (List ℕ) Fault). Says bytes w r) at (subst (λ (w : Result (List ℕ) Fault). Says bytes w r) from says)

  -- the entrant is the one that was asked for
  pub entrant_says : (book : List ℕ) (e f : Entrant) → e ≡ f → Says bytes (match_of c book f) r → Says bytes (match_of c book e) r
  entrant_says book e f is says = subst (λ (x : Entrant). Says bytes (match_of c book x) r) (sym is) says
