-- Places in a list that grows at its end.
use Rattle.std.proofs.Common.{◌≡◌, ℕ, zero, suc, ◌<◌, ◌⊎◌, List, [], ◌∷◌, ◌++◌, length, Some, sym, refl, ap, ◌∙◌, inl, inr, suc-le-suc, zero-le}
use Rattle.std.specs.List.{slice_get}
use Rattle.turn.proofs.Tests.{none_some, some_same}

module _ {X : Type 0} where
  pub below : (xs : List X) (i : ℕ) (x : X) → slice_get xs i ≡ Some x → i < length xs
  below [] i x e = absurd (none_some e)
  below (y ∷ xs) zero x e = suc-le-suc zero-le
  below (y ∷ xs) (suc i) x e = suc-le-suc (below xs i x e)

  pub newest : (xs : List X) (y : X) → slice_get (xs ++ y ∷ []) (length xs) ≡ Some y
  newest [] y = refl
  newest (x ∷ xs) y = newest xs y

  pub older : (xs : List X) (y : X) (i : ℕ) (x : X) → slice_get xs i ≡ Some x → slice_get (xs ++ y ∷ []) i ≡ Some x
  older [] y i x e = absurd (none_some e)
  older (z ∷ xs) y zero x e = e
  older (z ∷ xs) y (suc i) x e = older xs y i x e

  -- what stands in the longer list stood in the shorter one, or is the new element
  pub either : (xs : List X) (y : X) (i : ℕ) (x : X) → slice_get (xs ++ y ∷ []) i ≡ Some x → (slice_get xs i ≡ Some x) ⊎ ((i ≡ length xs) × (y ≡ x))
  either [] y zero x e = inr (refl, some_same e)
  either [] y (suc i) x e = absurd (none_some e)
  either (z ∷ xs) y zero x e = inl e
  either (z ∷ xs) y (suc i) x e = elim (either xs y i x e) [ inl h ↦ inl h | inr p ↦ inr (ap suc p.0, p.1) ]

  pub same : (xs : List X) (i : ℕ) (x y : X) → slice_get xs i ≡ Some x → slice_get xs i ≡ Some y → x ≡ y
  same xs i x y p q = some_same (sym p ∙ q)
