-- The trips of a train: every entry of its is followed by a leaving, but for one while it is inside a section.
use Rattle.std.proofs.Common.{◌≡◌, ℕ, ◌<◌, ◌⊎◌, List, [], ◌∷◌, ◌++◌, length, Some, None, Option, sym, ap, ◌∙◌, subst, inl, inr, ⊎_elim, arith}
use Rattle.block.specs.declared.order.Direction.{Direction}
use Rattle.std.specs.List.{slice_get}
use Rattle.trains.specs.declared.places.Place.{Place}
use Rattle.trains.specs.declared.places.Place.TheVariants.{AtPost, Running, OnPedal}
use Rattle.turn.specs.declared.rows.Kind.TheVariants.{Entry, Leaving}
use Rattle.turn.specs.declared.rows.RegisterRow.{RegisterRow}
use Rattle.turn.proofs.Places.{below, newest, older, either}

-- the row of an entry
abbrev pub entry_row : ℕ → ℕ → Direction → RegisterRow
entry_row n k d = record { kind = Entry; train = Some n; section = Some k; direction = Some d; post = None }

-- a leaving of the train after place i
pub record Left (rows : List RegisterRow) (n i : ℕ) : Type 0 where
  pub place : ℕ
  pub later : i < place
  pub row : RegisterRow
  pub stands : slice_get rows place ≡ Some row
  pub kind_is : row.kind ≡ Leaving
  pub train_is : row.train ≡ Some n

-- an entry of the train at place i
pub record Came (rows : List RegisterRow) (n i : ℕ) : Type 0 where
  pub row : RegisterRow
  pub stands : slice_get rows i ≡ Some row
  pub kind_is : row.kind ≡ Entry
  pub train_is : row.train ≡ Some n

pub record Within (rows : List RegisterRow) (n k : ℕ) (d : Direction) : Type 0 where
  pub entry : ℕ
  pub entered : slice_get rows entry ≡ Some (entry_row n k d)
  pub not_left : Left rows n entry → ⊥
  pub sole : (i : ℕ) → Came rows n i → (i ≡ entry) ⊎ Left rows n i

abbrev pub Outside : List RegisterRow → ℕ → Type 0
Outside rows n = (i : ℕ) → Came rows n i → Left rows n i

-- what the register tells of a train, by where it is
abbrev pub Trip : List RegisterRow → ℕ → Option Place → Type 0
Trip rows n None = Outside rows n
Trip rows n (Some (AtPost p)) = Outside rows n
Trip rows n (Some (Running k d)) = Within rows n k d
Trip rows n (Some (OnPedal k d)) = Within rows n k d

module _ (rows : List RegisterRow) (n : ℕ) (x : RegisterRow) where
  left_older : (i : ℕ) → Left rows n i → Left (rows ++ x ∷ []) n i
  left_older i l = record {
    place = l.place;
    later = l.later;
    row = l.row;
    stands = older rows x l.place l.row l.stands;
    kind_is = l.kind_is;
    train_is = l.train_is;
  }

  came_either : (i : ℕ) → Came (rows ++ x ∷ []) n i → Came rows n i ⊎ ((i ≡ length rows) × ((x.kind ≡ Entry) × (x.train ≡ Some n)))
  came_either i c =
      ⊎_elim
      (λ h. inl (record { row = c.row; stands = h; kind_is = c.kind_is; train_is = c.train_is }))
      (λ p. inr (p.0, (ap (λ y. y.kind) p.1 ∙ c.kind_is, ap (λ y. y.train) p.1 ∙ c.train_is)))
      (either rows x i c.row c.stands)

  left_either : (i : ℕ) → Left (rows ++ x ∷ []) n i → Left rows n i ⊎ ((x.kind ≡ Leaving) × (x.train ≡ Some n))
  left_either i l =
      ⊎_elim
      (λ h. inl (record { place = l.place; later = l.later; row = l.row; stands = h; kind_is = l.kind_is; train_is = l.train_is }))
      (λ p. inr (ap (λ y. y.kind) p.1 ∙ l.kind_is, ap (λ y. y.train) p.1 ∙ l.train_is))
      (either rows x l.place l.row l.stands)

  module _ (no-entry : x.kind ≡ Entry → x.train ≡ Some n → ⊥) where
    outside_past : Outside rows n → Outside (rows ++ x ∷ []) n
    outside_past o i c = ⊎_elim (λ h. left_older i (o i h)) (λ p. absurd (no-entry p.1.0 p.1.1)) (came_either i c)

    within_past : (k : ℕ) (d : Direction) → (x.kind ≡ Leaving → x.train ≡ Some n → ⊥) → Within rows n k d → Within (rows ++ x ∷ []) n k d
    within_past k d no-leaving w = record {
      entry = w.entry;
      entered = older rows x w.entry _ w.entered;
      not_left = λ l. ⊎_elim w.not_left (λ p. no-leaving p.0 p.1) (left_either w.entry l);
      sole = λ i c.
          ⊎_elim
          (λ h. ⊎_elim inl (λ l. inr (left_older i l)) (w.sole i h))
          (λ p. absurd (no-entry p.1.0 p.1.1))
          (came_either i c);
    }

    -- a row that is neither an entry nor a leaving of the train
    pub trip_past : (x.kind ≡ Leaving → x.train ≡ Some n → ⊥) → (p : Option Place) → Trip rows n p → Trip (rows ++ x ∷ []) n p
    trip_past no-leaving None t = outside_past t
    trip_past no-leaving (Some (AtPost p)) t = outside_past t
    trip_past no-leaving (Some (Running k d)) t = within_past k d no-leaving t
    trip_past no-leaving (Some (OnPedal k d)) t = within_past k d no-leaving t

  -- a leaving of the train
  pub trip_left : x.kind ≡ Leaving → x.train ≡ Some n → (k : ℕ) (d : Direction) → Within rows n k d → Outside (rows ++ x ∷ []) n
  trip_left is whose k d w i c =
      let gone : Left (rows ++ x ∷ []) n w.entry = record {
        place = length rows;
        later = below rows w.entry _ w.entered;
        row = x;
        stands = newest rows x;
        kind_is = is;
        train_is = whose;
      } in
      ⊎_elim
      (λ h. ⊎_elim (λ e. subst (Left (rows ++ x ∷ []) n) (sym e) gone) (left_older i) (w.sole i h))
      (λ p. absurd (let z : ◌≡◌ {A = ℕ} 0 1 = cc (sym p.1.0 ∙ is) in omega arith))
      (came_either i c)

-- an entry of the train
pub trip_entered : (rows : List RegisterRow) (n k : ℕ) (d : Direction) → Outside rows n → Within (rows ++ entry_row n k d ∷ []) n k d
trip_entered rows n k d o =
    let x = entry_row n k d in
    record {
      entry = length rows;
      entered = newest rows x;
      not_left = λ l. let lt = below (rows ++ x ∷ []) l.place l.row l.stands in
          ⊎_elim
          (λ h. let b = below rows h.place h.row h.stands in omega (arith, b, h.later))
          (λ p. let z : ◌≡◌ {A = ℕ} 0 1 = cc p.0 in omega arith)
          (left_either rows n x (length rows) l);
      sole = λ i c. ⊎_elim (λ h. inr (left_older rows n x i (o i h))) (λ p. inl p.0) (came_either rows n x i c);
    }
