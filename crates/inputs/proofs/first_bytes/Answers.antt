use Rattle.std.proofs.Common.{◌≡◌, ℕ, List, [], ◌++◌, Some, None, Option, IfSome, option_map, take, ap, ◌∙◌, subst, arith}
use Rattle.std.proofs.lemmas.List.{take-take}
use Rattle.inputs.specs.declared.TheConstants.{MOST_BYTES}
use Rattle.inputs.proofs.first_bytes.Goals as goal

-- what was cut when it was read is kept by a second cut
cut_twice : (n : ℕ) (o : Option (List ℕ)) (none read kept : List ℕ) → none ≡ [] → IfSome (option_map (take n) o) (λ xs. read ≡ none ++ xs) → kept ≡ take n read → IfSome o (λ xs. kept ≡ take n xs)
cut_twice n None none read kept e h k = tt
cut_twice n (Some xs) none read kept e h k = k ∙ (ap (take n) (h ∙ ap (λ (l : List ℕ). l ++ take n xs) e) ∙ take-take n n xs (omega arith))

pub returns-clause-bytes : goal.returns-clause-bytes
returns-clause-bytes g c =
    let left = g.R.Read.remaining in
    let none = c.new-bytes.result.items in
    let read = c.read_to_end.new.buf.items in
    let cut : option_map (take c.take.result.limit) (left c.take.result.inner) ≡ option_map (take MOST_BYTES) (left c.args.reader) = λ i. option_map (take (c.take.ensures.limit i)) (left (c.take.ensures.inner i)) in
    cut_twice MOST_BYTES (left c.args.reader) none read c.truncate.new.self.items c.new-bytes.ensures.items
    (subst (λ (o : Option (List ℕ)). IfSome o (λ xs. read ≡ none ++ xs)) cut c.in_ok-read_to_end.ensures.bytes) c.truncate.ensures.items
