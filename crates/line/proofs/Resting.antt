-- Whether an instrument is at rest, section by section.
use Rattle.std.proofs.Common.{◌≡◌, ℕ, zero, suc, ◌+◌, ◌<◌, ◌&&◌, List, length, drop, sym, ap, ◌∙◌, add-one, arith, drop-cons}
use Rattle.std.proofs.lemmas.List.{drop_all}
use Rattle.std.specs.List.{range_with_len, list_all}
use Rattle.block.specs.Meaning.{phase_answer}
use Rattle.block.specs.declared.order.Phase.{Phase}
use Rattle.block.specs.declared.order.Phase.TheVariants.{Rest}
use Rattle.block.proofs.Laws.{phase_there}
use Rattle.line.specs.Lines.{at_rest, told_rest}

module _ (ps : List Phase) where
  rests_from : (k n : ℕ) → k + n ≡ length ps → list_all (λ j. told_rest (phase_answer ps j)) (range_with_len k n) ≡ at_rest (drop k ps)
  rests_from k zero all = sym (ap at_rest (drop_all k ps (omega arith)))
  rests_from k (suc n) all =
      let here : k < length ps = omega arith in
      ap (λ b. told_rest (phase_answer ps k) && b) (rests_from (k + 1) n (omega arith)) ∙ ap (λ j. told_rest (phase_answer ps k) && at_rest (drop j ps)) (add-one k)
      ∙ ap (λ b. b && at_rest (drop (suc k) ps)) (ap told_rest (phase_there ps k here)) ∙ sym (ap at_rest (drop-cons ps k Rest here))

  -- each section's answer is rest exactly where the instrument is at rest
  pub rests_throughout : list_all (λ j. told_rest (phase_answer ps j)) (range_with_len 0 (length ps)) ≡ at_rest ps
  rests_throughout = rests_from 0 (length ps) (omega arith)
