-- `header_read`: where rules 1 to 7 stop, and what they say of a file that keeps them.
use Rattle.std.proofs.Common.{◌≡◌, ℕ, ◌+◌, ◌*◌, ◌≤◌, not, eqb, ltb, List, [], ◌∷◌, ◌++◌, length, Ok, sym, refl, ap, ◌∙◌, subst}
use Rattle.std.proofs.lemmas.Bool.{le-ltb, ltb-false, eqb-true, not-false, or_parts}
use Rattle.certificate.specs.Rules.{Rule, whole, judged, judge_all, next_after}
use Rattle.certificate.proofs.Rules.{judge_append, judge_one, next_after_ok, passed, whole_passed}
use Rattle.certificate.specs.Lawful.{most_bins, most_capacity, most_classes, most_rows}
use Rattle.layout.specs.declared.header.Header.{Header}
use Rattle.layout.specs.Layout.{header_of, header_length, body_length, outside, range_rule, range_rules, frame_rules, header_read}

-- the last of the rules on a file's frame: its length
abbrev pub length_rule : List ℕ → Rule
length_rule file = whole 7 (not (eqb (length file) (header_length + body_length (header_of file))))

-- a file of 6 bytes or more is judged by its header and its length
pub framed : (file : List ℕ) → header_length ≤ length file → judge_all (frame_rules file) ≡ next_after (judge_all (range_rules (header_of file))) (judged (length_rule file))
framed file h =
    ap (λ b. next_after (judged (whole 1 b)) (judge_all (range_rules (header_of file) ++ (length_rule file ∷ [])))) (le-ltb (length file) header_length h)
    ∙ (judge_append (range_rules (header_of file)) (length_rule file ∷ []) ∙ ap (next_after (judge_all (range_rules (header_of file)))) (judge_one (length_rule file)))

-- a value that passes its range rule is in the range
pub range_passed : (n low high v : ℕ) → judged (range_rule n low high v) ≡ Ok tt → (low ≤ v) × (v ≤ high)
range_passed n low high v e =
    let p = or_parts (ltb v low) (ltb high v) (whole_passed n (outside low high v) e) in
    (ltb-false v low p.0, ltb-false high v p.1)

-- what rules 1 to 7 say of a file
pub record Framed (file : List ℕ) (h : Header) : Type 0 where
  pub read : h ≡ header_of file
  pub long : length file ≡ header_length + body_length h
  pub some_bins : (2 ≤ h.bins) × (h.bins ≤ most_bins)
  pub some_capacity : (1 ≤ h.capacity) × (h.capacity ≤ most_capacity)
  pub target_range : (h.capacity + 1 ≤ h.target) × (h.target ≤ 2 * h.capacity)
  pub some_classes : (1 ≤ h.classes) × (h.classes ≤ most_classes)
  pub some_rows : (1 ≤ h.rows) × (h.rows ≤ most_rows)

framed_own : (file : List ℕ) → judge_all (frame_rules file) ≡ Ok tt → Framed file (header_of file)
framed_own file e =
    let h = header_of file in
    let r1 = whole 1 (ltb (length file) header_length) in
    let r7 = length_rule file in
    let p1 = passed r1 (range_rules h ++ (r7 ∷ [])) e in
    let p = next_after_ok (judge_all (range_rules h)) (judge_all (r7 ∷ [])) tt (sym (judge_append (range_rules h) (r7 ∷ [])) ∙ p1.1) in
    let r2 = range_rule 2 2 most_bins h.bins in
    let r3 = range_rule 3 1 most_capacity h.capacity in
    let r4 = range_rule 4 (h.capacity + 1) (2 * h.capacity) h.target in
    let r5 = range_rule 5 1 most_classes h.classes in
    let r6 = range_rule 6 1 most_rows h.rows in
    let p2 = passed r2 (r3 ∷ (r4 ∷ (r5 ∷ (r6 ∷ [])))) p.0 in
    let p3 = passed r3 (r4 ∷ (r5 ∷ (r6 ∷ []))) p2.1 in
    let p4 = passed r4 (r5 ∷ (r6 ∷ [])) p3.1 in
    let p5 = passed r5 (r6 ∷ []) p4.1 in
    let p6 = passed r6 [] p5.1 in
    let n = whole_passed 7 (not (eqb (length file) (header_length + body_length h))) (passed r7 [] p.1).0 in
    record {
      read = refl;
      long = eqb-true (length file) (header_length + body_length h) (not-false (eqb (length file) (header_length + body_length h)) n);
      some_bins = range_passed 2 2 most_bins h.bins p2.0;
      some_capacity = range_passed 3 1 most_capacity h.capacity p3.0;
      target_range = range_passed 4 (h.capacity + 1) (2 * h.capacity) h.target p4.0;
      some_classes = range_passed 5 1 most_classes h.classes p5.0;
      some_rows = range_passed 6 1 most_rows h.rows p6.0;
    }

-- a header that was read is that of a file which keeps rules 1 to 7
pub framed_from : (file : List ℕ) (h : Header) → header_read file ≡ Ok h → Framed file h
framed_from file h e =
    let p = next_after_ok (judge_all (frame_rules file)) (Ok (header_of file)) h e in
    let q : header_of file ≡ h = cc p.1 in
    subst (λ x. Framed file x) q (framed_own file p.0)
