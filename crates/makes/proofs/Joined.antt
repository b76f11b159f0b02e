-- What a joined instrument answers, from what its two parts answer. The most sections that count are a variable here, since a
-- tactic that reads `take 16` goes through sixteen elements.
use Rattle.std.proofs.Common.{◌≡◌, ℕ, ◌+◌, ◌-◌, ◌<◌, ◌≤◌, min, List, ◌++◌, length, take, ⊎_elim, arith, length-append, length-take, get_or-take}
use Rattle.std.proofs.Math.Seq.{take-set-lt}
use Rattle.std.proofs.lemmas.List.{get_or_append_left, get_or-append_right, set-append_left, set-append_right}
use Rattle.std.proofs.lemmas.Bool.{cases_lt}
use Rattle.std.proofs.lemmas.Bool.Decides.{nat_tests}
use Rattle.std.proofs.lemmas.Grind.{common_steps}
use Rattle.block.specs.Meaning.{phase_answer, answer, after}
use Rattle.block.specs.Refusals.{retold}
use Rattle.block.specs.declared.order.Action.{Action}
use Rattle.block.specs.declared.order.Direction.{Direction}
use Rattle.block.specs.declared.order.Phase.{Phase}
use Rattle.block.proofs.Laws.{after_there, answer_told, after_told}

module _ (most : ℕ) (ps qs : List Phase) where
  pub joined_length : length (take most (ps ++ qs)) ≡ min (length ps + length qs) most
  joined_length = grind (arith, common_steps)

  -- a section of the first part
  module _ (k : ℕ) (few : length ps ≤ most) (here : k < length ps) where
    pub first_phase : phase_answer (take most (ps ++ qs)) k ≡ phase_answer ps k
    unfolding phase_answer
    first_phase = grind (arith, nat_tests, common_steps)

    module _ (a : Action) (d : Direction) where
      pub first_answer : answer (take most (ps ++ qs)) a k d ≡ answer ps a k d
      unfolding answer
      first_answer = grind (arith, nat_tests, common_steps)

      pub first_after : after (take most (ps ++ qs)) a k d ≡ take most (after ps a k d ++ qs)
      first_after =
          rw (after_there ps k here a d, ← set-append_left ps qs k _ here)
          (grind (arith, after_there, take-set-lt, length-take, length-append, get_or-take, get_or_append_left))

  -- a section of the second part
  module _ (k : ℕ) (from : length ps ≤ k) (under : k < most) where
    pub second_phase : phase_answer (take most (ps ++ qs)) k ≡ retold k (phase_answer qs (k - length ps))
    unfolding phase_answer
    second_phase = grind (arith, nat_tests, common_steps)

    module _ (a : Action) (d : Direction) where
      pub second_answer : answer (take most (ps ++ qs)) a k d ≡ retold k (answer qs a (k - length ps) d)
      unfolding answer
      second_answer = grind (arith, nat_tests, common_steps, answer_told)

      second_after_there : k - length ps < length qs → after (take most (ps ++ qs)) a k d ≡ take most (ps ++ after qs a (k - length ps) d)
      second_after_there here =
          grind (arith, after_there, after_told, take-set-lt, set-append_right, length-take, length-append, get_or-take, get_or-append_right)

      second_after_past : length qs ≤ k - length ps → after (take most (ps ++ qs)) a k d ≡ take most (ps ++ after qs a (k - length ps) d)
      unfolding after
      second_after_past past = grind (arith, nat_tests, length-take, length-append)

      pub second_after : after (take most (ps ++ qs)) a k d ≡ take most (ps ++ after qs a (k - length ps) d)
      second_after = ⊎_elim second_after_there second_after_past (cases_lt (k - length ps) (length qs))

  -- no section of a pile is numbered so high
  pub past_pile : (k : ℕ) → most ≤ k → length (take most (ps ++ qs)) ≤ k
  past_pile k above = grind (arith, common_steps)
