-- Small facts about options, tests and functions changed at one number.
use Rattle.std.proofs.Common.{◌≡◌, ℕ, Bool, true, false, cond, not, eqb, Some, None, sym, refl, ap, subst, ⊎_elim, arith, eq-eqb, ne_eqb}
use Rattle.std.proofs.lemmas.Bool.{cases_eq}

pub none_some : {X : Type 0} {x : X} → None ≡ Some x → ⊥
none_some e = let z : ◌≡◌ {A = ℕ} 0 1 = cc in omega arith

pub some_same : {X : Type 0} {x y : X} → Some x ≡ Some y → x ≡ y
some_same e = cc

pub true_false : true ≡ false → ⊥
true_false e = let z : ◌≡◌ {A = ℕ} 0 1 = cc in omega arith

pub not_false : (b : Bool) → not b ≡ false → b ≡ true
not_false true e = refl
not_false false e = cc

-- a function changed at one number
abbrev pub at : {X : Type 0} → ℕ → X → (ℕ → X) → ℕ → X
at k x f j = cond (eqb j k) x (f j)

module _ {X : Type 0} (k : ℕ) (x : X) (f : ℕ → X) where
  pub at_same : at k x f k ≡ x
  at_same = ap (λ b. cond b x (f k)) (eq-eqb k k refl)

  pub at_other : (j : ℕ) → (j ≡ k → ⊥) → at k x f j ≡ f j
  at_other j apart = ap (λ b. cond b x (f j)) (ne_eqb j k apart)

  -- what holds there of the new value, and elsewhere of the old ones, holds everywhere
  pub each : (P : ℕ → X → Type 0) → P k x → ((j : ℕ) → (j ≡ k → ⊥) → P j (f j)) → (j : ℕ) → P j (at k x f j)
  each P here others j =
      ⊎_elim
      (λ e. subst (λ i. P i (at k x f i)) (sym e) (subst (P k) (sym at_same) here))
      (λ apart. subst (P j) (sym (at_other j apart)) (others j apart))
      (cases_eq j k)
