-- The trail of a section: the rows that bear on its release, from the newest giving on, the newest first, each with its place.
use Rattle.std.proofs.Common.{◌≡◌, ℕ, suc, ◌<◌, ◌≤◌, Bool, true, false, not, ◌&&◌, eqb, ◌⊎◌, List, [], ◌∷◌, ◌++◌, length, Some, sym, refl, ap, ◌∙◌, subst, inl, inr, ⊎_elim, arith, eq-eqb}
use Rattle.std.proofs.lemmas.Bool.{and_parts}
use Rattle.std.specs.List.{slice_get}
use Rattle.turn.specs.declared.rows.Kind.{Kind}
use Rattle.turn.specs.declared.rows.Kind.TheVariants.{Placing, Withdrawal, Giving, Opening, Closing, Entry, Returning, HomeOpening, HomeShutting, PedalReached, Leaving, Clearing, Unsealing, Restoring}
use Rattle.turn.specs.declared.rows.RegisterRow.{RegisterRow}
use Rattle.turn.specs.Rows.{kind_code}
use Rattle.turn.specs.Telling.{Told}
use Rattle.turn.proofs.Tests.{true_false}
use Rattle.turn.proofs.Places.{below, newest, older, either}

-- the kinds that bear on a release
abbrev pub bearing : Kind → Bool
bearing Placing = false
bearing Withdrawal = false
bearing Giving = true
bearing Opening = true
bearing Closing = false
bearing Entry = true
bearing Returning = false
bearing HomeOpening = false
bearing HomeShutting = false
bearing PedalReached = false
bearing Leaving = true
bearing Clearing = true
bearing Unsealing = true
bearing Restoring = false

abbrev pub Mark : Type 0
Mark = ℕ × RegisterRow

abbrev pub Among : Mark → List Mark → Type 0
Among m [] = ⊥
Among m (x ∷ xs) = (m ≡ x) ⊎ Among m xs

-- the place of the oldest mark
abbrev pub oldest : List Mark → ℕ
oldest [] = 0
oldest (m ∷ []) = m.0
oldest (m ∷ n ∷ ms) = oldest (n ∷ ms)

-- each place is below the one before it, and the first below n
abbrev pub Falling : ℕ → List Mark → Type 0
Falling n [] = Unit {0}
Falling n (m ∷ ms) = (m.0 < n) × Falling m.0 ms

pub record Trail (rows : List RegisterRow) (k : ℕ) (ms : List Mark) : Type 0 where
  pub stands : (i : ℕ) (r : RegisterRow) → Among (i, r) ms → slice_get rows i ≡ Some r
  -- every bearing row of the section from the oldest mark on
  pub all : (i : ℕ) (r : RegisterRow) → slice_get rows i ≡ Some r → bearing r.kind ≡ true → r.section ≡ Some k → oldest ms ≤ i → Among (i, r) ms

pub falling_more : (n : ℕ) (ms : List Mark) → Falling n ms → Falling (suc n) ms
falling_more n [] f = tt
falling_more n (m ∷ ms) f = (omega (arith, f.0), f.1)

first_below : (n : ℕ) (ms : List Mark) → Falling n ms → (m : Mark) → Among m ms → m.0 < n
first_below n [] f m a = absurd a
first_below n (x ∷ xs) f m (inl e) = subst (λ y. y.0 < n) (sym e) f.0
first_below n (x ∷ xs) f m (inr a) = let h = first_below x.0 xs f.1 m a in omega (arith, h, f.0)

module _ (rows : List RegisterRow) (k : ℕ) (x : RegisterRow) where
  -- a row that does not bear on the section's release
  pub trail_past : (ms : List Mark) → Trail rows k ms → (bearing x.kind ≡ true → x.section ≡ Some k → ⊥) → Trail (rows ++ x ∷ []) k ms
  trail_past ms t apart = record {
    stands = λ i r a. older rows x i r (t.stands i r a);
    all = λ i r e b s o.
        ⊎_elim
        (λ h. t.all i r h b s o)
        (λ p. absurd (apart (ap (λ y. bearing y.kind) p.1 ∙ b) (ap (λ y. y.section) p.1 ∙ s)))
        (either rows x i r e);
  }

  -- a row that does, after the newest giving
  pub trail_more : (m : Mark) (ms : List Mark) → Trail rows k (m ∷ ms) → Trail (rows ++ x ∷ []) k ((length rows, x) ∷ m ∷ ms)
  trail_more m ms t = record {
    stands = λ i r a.
        ⊎_elim
        (λ e. subst (λ y. slice_get (rows ++ x ∷ []) y.0 ≡ Some y.1) (sym e) (newest rows x))
        (λ b. older rows x i r (t.stands i r b))
        a;
    all = λ i r e b s o.
        ⊎_elim
        (λ h. inr (t.all i r h b s o))
        (λ p. inl (λ j. (p.0 j, sym p.1 j)))
        (either rows x i r e);
  }

  -- a giving begins anew
  pub trail_new : Trail (rows ++ x ∷ []) k ((length rows, x) ∷ [])
  trail_new = record {
    stands = λ i r a.
        ⊎_elim
        (λ e. subst (λ y. slice_get (rows ++ x ∷ []) y.0 ≡ Some y.1) (sym e) (newest rows x))
        (λ n. absurd n)
        a;
    all = λ i r e b s o.
        ⊎_elim
        (λ h. let lt = below rows i r h in absurd (omega (arith, lt, o)))
        (λ p. inl (λ j. (p.0 j, sym p.1 j)))
        (either rows x i r e);
  }

-- no row of the trail is of this kind: a test that computes where the kinds are known
abbrev pub lacks : Kind → List Mark → Bool
lacks kind [] = true
lacks kind (m ∷ ms) = not (eqb (kind_code m.1.kind) (kind_code kind)) && lacks kind ms

pub lacking : (kind : Kind) (ms : List Mark) → lacks kind ms ≡ true → (m : Mark) → Among m ms → m.1.kind ≡ kind → ⊥
lacking kind [] l m a is = a
lacking kind (x ∷ xs) l m (inl e) is =
    true_false (sym (and_parts _ _ l).0 ∙ ap not (ap (λ y. eqb (kind_code y.1.kind) (kind_code kind)) (sym e) ∙ eq-eqb _ _ (ap kind_code is)))
lacking kind (x ∷ xs) l m (inr a) is = lacking kind xs (and_parts _ _ l).1 m a is

-- among the rows of a trail, one of this kind is not the first, or is the first
module _ (kind : Kind) (x : Mark) (xs : List Mark) (m : Mark) (is : m.1.kind ≡ kind) where
  pub not_first : eqb (kind_code x.1.kind) (kind_code kind) ≡ false → Among m (x ∷ xs) → Among m xs
  not_first other (inl e) = absurd (true_false (sym (ap (λ y. eqb (kind_code y.1.kind) (kind_code kind)) (sym e) ∙ eq-eqb _ _ (ap kind_code is)) ∙ other))
  not_first other (inr a) = a

  pub the_first : lacks kind xs ≡ true → Among m (x ∷ xs) → m.0 ≡ x.0
  the_first l (inl e) = ap (λ y. y.0) e
  the_first l (inr a) = absurd (lacking kind xs l m a is)

module _ {rows : List RegisterRow} {k : ℕ} {ms : List Mark} (t : Trail rows k ms) where
  -- a row of the section after the oldest mark is one of the trail
  pub later : (kind : Kind) (i : ℕ) → bearing kind ≡ true → Told rows i kind k → oldest ms ≤ i → (m : Mark) × (Among m ms × ((m.0 ≡ i) × (m.1.kind ≡ kind)))
  later kind i b told o =
      ((i, told.row), (t.all i told.row told.stands (ap bearing told.kind_is ∙ b) told.section_is o, (refl, told.kind_is)))

  pub none_later : (kind : Kind) → bearing kind ≡ true → lacks kind ms ≡ true → (i : ℕ) → oldest ms ≤ i → Told rows i kind k → ⊥
  none_later kind b l i o told = let m = later kind i b told o in lacking kind ms l m.0 m.1.0 m.1.1.1
