-- The readings of single fields agree with what is written.
use Rattle.std.proofs.Common.{◌≡◌, ℕ, ◌+◌, ◌<◌, List, [], ◌∷◌, ◌++◌, length, take, sym, refl, ap, ◌∙◌, arith}
use Rattle.std.proofs.lemmas.Bool.Decides.{nat_tests}
use Rattle.block.specs.declared.order.Direction.{Direction}
use Rattle.block.specs.declared.order.Direction.TheVariants.{Up, Down}
use Rattle.reading.specs.Outcomes.{Outcome, Got, Stuck}
use Rattle.reading.specs.Written.{direction_letter}
use Rattle.reading.specs.Grammar.{exactly, direction}
use Rattle.reading.proofs.Lawful.{Lawful, Read, Ends}

-- a reading of one byte that is stuck, is stuck at once
pub nothing_taken : {A : Type 0} {text : A → List ℕ} {Fits : A → Type 0} {read : List ℕ → Outcome A} (a : A) → Fits a → (bytes : List ℕ) (p : ℕ) → p ≡ 0
    → (0 < length bytes → (ys : List ℕ) → read (take 1 bytes ++ ys) ≡ Stuck 0) → Ends read text Fits bytes p
nothing_taken {text = text} {read = read} a f bytes p e stays =
    record {
      within = omega arith;
      starts = record { value = a; fits = f; rest = text a; whole = ap (λ i. take i bytes ++ text a) e };
      stays = λ l ys. ap (λ i. read (take (i + 1) bytes ++ ys)) e ∙ stays (omega arith) ys ∙ ap Stuck (sym e);
    }

-- ONE BYTE

exactly_got : (b : ℕ) (bytes : List ℕ) (a : Unit {0}) (n : ℕ) → exactly b bytes ≡ Got a n → Read (λ _. b ∷ []) (λ _. Unit {0}) bytes a n
exactly_got b [] a n h = cc
exactly_got b (x ∷ xs) a n h = record { fits = tt; long = grind (arith, nat_tests); whole = grind (arith, nat_tests) }

exactly_stuck : (b : ℕ) (bytes : List ℕ) (p : ℕ) → exactly b bytes ≡ Stuck p → Ends (exactly b) (λ _. b ∷ []) (λ _. Unit {0}) bytes p
exactly_stuck b [] p h = nothing_taken tt tt [] p (cc) (λ l ys. absurd (omega arith))
exactly_stuck b (x ∷ xs) p h = nothing_taken tt tt (x ∷ xs) p (grind (arith, nat_tests)) (λ l ys. grind (arith, nat_tests))

pub exactly_lawful : (b : ℕ) → Lawful (λ _. b ∷ []) (λ _. Unit {0}) (exactly b)
exactly_lawful b = record { reads = λ _ _ rest. grind (arith, nat_tests); got = exactly_got b; stuck = exactly_stuck b }

-- A DIRECTION

abbrev direction_text : Direction → List ℕ
direction_text d = direction_letter d ∷ []

direction_got : (bytes : List ℕ) (d : Direction) (n : ℕ) → direction bytes ≡ Got d n → Read direction_text (λ _. Unit {0}) bytes d n
direction_got [] d n h = cc
direction_got (x ∷ xs) d n h = record { fits = tt; long = grind (arith, nat_tests); whole = grind (arith, nat_tests) }

direction_stuck : (bytes : List ℕ) (p : ℕ) → direction bytes ≡ Stuck p → Ends direction direction_text (λ _. Unit {0}) bytes p
direction_stuck [] p h = nothing_taken Up tt [] p (cc) (λ l ys. absurd (omega arith))
direction_stuck (x ∷ xs) p h = nothing_taken Up tt (x ∷ xs) p (grind (arith, nat_tests)) (λ l ys. grind (arith, nat_tests))

pub direction_lawful : Lawful direction_text (λ _. Unit {0}) direction
direction_lawful = record { reads = reads; got = direction_got; stuck = direction_stuck }
  where
    reads : (d : Direction) → Unit {0} → (rest : List ℕ) → direction (direction_text d ++ rest) ≡ Got d 1
    reads Up f rest = refl
    reads Down f rest = refl
