-- From a turn in good order: the two books.
use Rattle.std.proofs.Common.{◌≡◌, ℕ, ◌<◌, true, false, eqb, ◌⊎◌, List, [], ◌∷◌, ◌++◌, length, Some, None, Option, sym, refl, ap, ◌∙◌, inl, inr, ⊎_elim, append_assoc, append-nil, arith}
use Rattle.std.proofs.lemmas.Bool.{cases_lt}
use Rattle.block.specs.declared.order.Direction.{Direction}
use Rattle.rules.specs.declared.calls.Call.{Call}
use Rattle.turn.specs.Law.{Awaits, row_where, rows_of, Books}
use Rattle.turn.specs.Rows.{kind_code, row_of}
use Rattle.turn.specs.Telling.{Told}
use Rattle.turn.specs.Turn.{TurnState, turn_refusal, step, run}
use Rattle.turn.specs.declared.refusals.TurnRefusal.{TurnRefusal}
use Rattle.turn.specs.declared.rows.Kind.TheVariants.{Giving, Leaving, Unsealing}
use Rattle.turn.specs.declared.rows.RegisterRow.{RegisterRow}
use Rattle.turn.proofs.Good.{Good}
use Rattle.turn.proofs.Runs.{stepped, stayed, good_run}
use Rattle.turn.proofs.Trails.{Mark, Among, oldest, Falling, Trail, lacks, not_first, the_first, later, none_later}
use Rattle.turn.proofs.Trips.{entry_row}
use Rattle.turn.proofs.Ways.{Past, never, by_train, by_seal, unused, running, pressing, gone, Way, rest, given, held, cleared, owed, giving_row, opening_row, leaving_row, clearing_row, unsealing_row, opened_marks, left_marks, past_marks, marks_of}

-- a trail whose oldest row is a giving, and its only one
pub record Begun (k : ℕ) (ms : List Mark) : Type 0 where
  pub row : RegisterRow
  pub gives : row.kind ≡ Giving
  pub here : row.section ≡ Some k
  pub begins : Among (oldest ms, row) ms
  pub only : (m : Mark) → Among m ms → m.1.kind ≡ Giving → m.0 ≡ oldest ms

begun_more : (k : ℕ) (x y : Mark) (ms : List Mark) → Begun k (y ∷ ms) → eqb (kind_code x.1.kind) (kind_code Giving) ≡ false → Begun k (x ∷ y ∷ ms)
begun_more k x y ms b other = record {
  row = b.row;
  gives = b.gives;
  here = b.here;
  begins = inr b.begins;
  only = λ m a is. b.only m (not_first Giving x (y ∷ ms) m is other a) is;
}

module _ (k : ℕ) (d : Direction) where
  begun_given : (g : ℕ) → Begun k ((g, giving_row k d) ∷ [])
  begun_given g = record {
    row = giving_row k d;
    gives = refl;
    here = refl;
    begins = inl refl;
    only = λ m a is. the_first Giving (g, giving_row k d) [] m is refl a;
  }

  begun_opened : (g o : ℕ) → Begun k (opened_marks k d g o)
  begun_opened g o = begun_more k (o, opening_row k d) (g, giving_row k d) [] (begun_given g) refl

  begun_entered : (g o n e : ℕ) → Begun k ((e, entry_row n k d) ∷ opened_marks k d g o)
  begun_entered g o n e = begun_more k (e, entry_row n k d) _ _ (begun_opened g o) refl

  begun_left : (g o n e l : ℕ) → Begun k (left_marks k d g o n e l)
  begun_left g o n e l = begun_more k (l, leaving_row k d n) _ _ (begun_entered g o n e) refl

module _ (rows : List RegisterRow) (k : ℕ) (ms : List Mark) (t : Trail rows k ms) (b : Begun k ms) where
  given_there : Told rows (oldest ms) Giving k
  given_there = record { row = b.row; stands = t.stands (oldest ms) b.row b.begins; kind_is = b.gives; section_is = b.here }

  -- neither a leaving nor an unsealing in the trail: the release awaits one
  awaits : lacks Leaving ms ≡ true → lacks Unsealing ms ≡ true → Awaits rows k
  awaits unleft unsealed = record {
    giving = oldest ms;
    given = given_there;
    newest_giving = λ i after told.
        let m = later t Giving i refl told (omega (arith, after)) in
        omega (arith, after, m.1.1.0, b.only m.0 m.1.0 m.1.1.1);
    not_left = λ i after. none_later t Leaving refl unleft i (omega (arith, after));
    not_unsealed = λ i after. none_later t Unsealing refl unsealed i (omega (arith, after));
  }

  -- the newest giving that a release awaits on is the trail's
  newest_is : (w : Awaits rows k) → w.giving ≡ oldest ms
  newest_is w =
      ⊎_elim
      (λ before. absurd (w.newest_giving (oldest ms) before given_there))
      (λ since. let m = later t Giving w.giving refl w.given since in sym m.1.1.0 ∙ b.only m.0 m.1.0 m.1.1.1)
      (cases_lt w.giving (oldest ms))

  left_not : (i : ℕ) → oldest ms < i → Told rows i Leaving k → Awaits rows k → ⊥
  left_not i after told w = w.not_left i (omega (arith, after, newest_is w)) told

  unsealed_not : (i : ℕ) → oldest ms < i → Told rows i Unsealing k → Awaits rows k → ⊥
  unsealed_not i after told w = w.not_unsealed i (omega (arith, after, newest_is w)) told

-- whether a release awaits, by the way in which the section stands
abbrev Settled : List RegisterRow → ℕ → ℕ → Type 0
Settled rows k owes = (Awaits rows k × (owes ≡ 1)) ⊎ ((Awaits rows k → ⊥) × (owes ≡ 0))

module _ (rows : List RegisterRow) (k : ℕ) where
  by_past : (p : Past) → Trail rows k (past_marks k p) → Falling (length rows) (past_marks k p) → Awaits rows k → ⊥
  by_past never t f = λ w. (later t Giving w.giving refl w.given (omega arith)).1.0
  by_past (by_train d g o n e l c) t f =
      left_not rows k _ t (begun_more k (c, clearing_row k d) _ _ (begun_left k d g o n e l) refl) l
      (omega (arith, f.1.1.0, f.1.1.1.0, f.1.1.1.1.0))
      (record { row = leaving_row k d n; stands = t.stands l (leaving_row k d n) (inr (inl refl)); kind_is = refl; section_is = refl })
  by_past (by_seal d g o u) t f =
      unsealed_not rows k _ t (begun_more k (u, unsealing_row k d) _ _ (begun_opened k d g o) refl) u
      (omega (arith, f.1.0, f.1.1.0))
      (record { row = unsealing_row k d; stands = t.stands u (unsealing_row k d) (inl refl); kind_is = refl; section_is = refl })

  settled : (w : Way) → Trail rows k (marks_of k w) → Falling (length rows) (marks_of k w) → Settled rows k (owed w)
  settled (rest p) t f = inr (by_past p t f, refl)
  settled (given d g) t f = inl (awaits rows k _ t (begun_given k d g) refl refl, refl)
  settled (held d l unused g o) t f = inl (awaits rows k _ t (begun_opened k d g o) refl refl, refl)
  settled (held d l (running n e) g o) t f = inl (awaits rows k _ t (begun_entered k d g o n e) refl refl, refl)
  settled (held d l (pressing n e) g o) t f = inl (awaits rows k _ t (begun_entered k d g o n e) refl refl, refl)
  settled (held d l (gone n e b) g o) t f = inr (
    left_not rows k _ t (begun_left k d g o n e b) b (omega (arith, f.1.0, f.1.1.0, f.1.1.1.0))
        (record { row = leaving_row k d n; stands = t.stands b (leaving_row k d n) (inl refl); kind_is = refl; section_is = refl }),
    refl,
  )
  settled (cleared d p) t f = inr (by_past p t f, refl)

-- the register has the rows of the accepted calls
registered : (t : TurnState) (cs : List Call) → (run t cs).register.rows ≡ t.register.rows ++ rows_of t cs
registered t [] = sym (append-nil t.register.rows)
registered t (c ∷ cs) = by (turn_refusal t c) refl (registered (step t c) cs)
  where
    by : (o : Option TurnRefusal) → turn_refusal t c ≡ o → (run (step t c) cs).register.rows ≡ (step t c).register.rows ++ rows_of (step t c) cs
        → (run (step t c) cs).register.rows ≡ t.register.rows ++ (row_where o (row_of t.line c) ++ rows_of (step t c) cs)
    by None e ih = ih ∙ ap (λ u. u.register.rows ++ rows_of (step t c) cs) (stepped t c e) ∙ append_assoc t.register.rows (row_of t.line c ∷ []) (rows_of (step t c) cs)
    by (Some r) e ih = ih ∙ ap (λ u. u.register.rows ++ rows_of (step t c) cs) (stayed t c r e)

pub books : (t : TurnState) → Good t → (cs : List Call) → Books t cs
books t good cs =
    let g = good_run t good cs in
    let rows = (run t cs).register.rows in
    let way : (k : ℕ) → Settled rows k (owed (g.way k)) = λ k. settled rows k (g.way k) (g.stands k).trail_is (g.stands k).falls in
    record {
      register = registered t cs;
      account = λ k. record {
        awaiting = λ w. ⊎_elim (λ s. omega (arith, (g.stands k).account, s.1)) (λ s. absurd (s.0 w)) (way k);
        settled = λ none. ⊎_elim (λ s. absurd (none s.0)) (λ s. omega (arith, (g.stands k).account, s.1)) (way k);
      };
      seals = g.sealed;
    }
