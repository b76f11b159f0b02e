-- A section stands in a way: what that says of its phase, its signals, the trains, and the rows of the register.
use Rattle.std.proofs.Common.{◌≡◌, ℕ, suc, ◌+◌, Bool, true, false, cond, ◌&&◌, eqb, List, [], ◌∷◌, ◌++◌, length, Some, None, Option, sym, refl, ap, ◌∙◌, subst, arith, eq-eqb, ne_eqb}
use Rattle.std.proofs.lemmas.Bool.{and_right}
use Rattle.std.proofs.lemmas.List.{length_push}
use Rattle.block.specs.declared.order.Direction.{Direction}
use Rattle.block.specs.declared.order.Phase.{Phase}
use Rattle.rules.specs.State.{block_signal}
use Rattle.rules.specs.declared.signals.SectionState.{SectionState}
use Rattle.trains.specs.declared.places.Place.{Place}
use Rattle.turn.specs.Rows.{kind_code, names, tells, tally}
use Rattle.turn.specs.Telling.{inside_at}
use Rattle.turn.specs.declared.rows.Kind.{Kind}
use Rattle.turn.specs.declared.rows.Kind.TheVariants.{Giving, Leaving, Unsealing}
use Rattle.turn.specs.declared.rows.RegisterRow.{RegisterRow}
use Rattle.turn.proofs.Trails.{Falling, Trail, falling_more, trail_past}
use Rattle.turn.proofs.Ways.{Way, phase_of, block_of, pedal_of, inside_of, owed, marks_of}

pub record Standing (phase : Phase) (section : SectionState) (place : ℕ → Option Place) (rows : List RegisterRow) (k : ℕ) (w : Way) : Type 0 where
  pub phase_is : phase ≡ phase_of w
  pub block_is : (e : Direction) → block_signal e section ≡ block_of e w
  pub pedal_is : section.pedal ≡ pedal_of w
  pub inside_is : (n : ℕ) → inside_at k (place n) ≡ inside_of k w n
  pub trail_is : Trail rows k (marks_of k w)
  pub falls : Falling (length rows) (marks_of k w)
  pub account : tally Giving k rows ≡ tally Leaving k rows + tally Unsealing k rows + owed w

-- one row more in a tally
pub tally_push : (kind : Kind) (k : ℕ) (rows : List RegisterRow) (x : RegisterRow) → tally kind k (rows ++ x ∷ []) ≡ tally kind k rows + cond (tells kind k x) 1 0
tally_push kind k [] x = omega arith
tally_push kind k (r ∷ rs) x = omega (arith, tally_push kind k rs x)

pub length_more : (rows : List RegisterRow) (x : RegisterRow) → length (rows ++ x ∷ []) ≡ suc (length rows)
length_more rows x = length_push rows x ∙ omega arith

falls_push : (rows : List RegisterRow) (x : RegisterRow) (w : Way) (k : ℕ) → Falling (length rows) (marks_of k w) → Falling (length (rows ++ x ∷ [])) (marks_of k w)
falls_push rows x w k f = subst (λ n. Falling n (marks_of k w)) (sym (length_more rows x)) (falling_more (length rows) (marks_of k w) f)

names_other : (k : ℕ) (o : Option ℕ) → (o ≡ Some k → ⊥) → names k o ≡ false
names_other k None apart = refl
names_other k (Some j) apart = ne_eqb j k (λ e. apart (ap Some e))

names_own : (k : ℕ) (o : Option ℕ) → o ≡ Some k → names k o ≡ true
names_own k o e = ap (names k) e ∙ eq-eqb k k refl

tally_other : (kind : Kind) (k : ℕ) (rows : List RegisterRow) (x : RegisterRow) → (x.section ≡ Some k → ⊥) → tally kind k (rows ++ x ∷ []) ≡ tally kind k rows
tally_other kind k rows x apart =
    let none : tells kind k x ≡ false = and_right _ _ (names_other k x.section apart) in
    omega (arith, tally_push kind k rows x, ap {B = ℕ} (λ b. cond b 1 0) none)

tally_own : (kind : Kind) (k : ℕ) (rows : List RegisterRow) (x : RegisterRow) → x.section ≡ Some k → tally kind k (rows ++ x ∷ []) ≡ tally kind k rows + cond (eqb (kind_code x.kind) (kind_code kind)) 1 0
tally_own kind k rows x here = tally_push kind k rows x ∙ ap (λ b. tally kind k rows + cond b 1 0) (and_true _ _ (names_own k x.section here))
  where
    and_true : (a b : Bool) → b ≡ true → (a && b) ≡ a
    and_true true b e = e
    and_true false b e = refl

-- a row of another section leaves the section as it stands, where the trains inside it stay
pub stand_past : {p : Phase} {s : SectionState} {place : ℕ → Option Place} {rows : List RegisterRow} {k : ℕ} {w : Way} → Standing p s place rows k w
    → (x : RegisterRow) → (x.section ≡ Some k → ⊥) → (place' : ℕ → Option Place) → ((n : ℕ) → inside_at k (place' n) ≡ inside_at k (place n))
    → Standing p s place' (rows ++ x ∷ []) k w
stand_past {p} {s} {place} {rows} {k} {w} h x apart place' stay = record {
  phase_is = h.phase_is;
  block_is = h.block_is;
  pedal_is = h.pedal_is;
  inside_is = λ n. stay n ∙ h.inside_is n;
  trail_is = trail_past rows k x (marks_of k w) h.trail_is (λ b here. apart here);
  falls = falls_push rows x w k h.falls;
  account = omega (arith, h.account, tally_other Giving k rows x apart, tally_other Leaving k rows x apart, tally_other Unsealing k rows x apart);
}

-- a row of the section itself
pub stand_own : {p : Phase} {s : SectionState} {place : ℕ → Option Place} {rows : List RegisterRow} {k : ℕ} {w : Way} → Standing p s place rows k w
    → (x : RegisterRow) → x.section ≡ Some k → (w' : Way) (p' : Phase) (s' : SectionState) (place' : ℕ → Option Place)
    → p' ≡ phase_of w' → ((e : Direction) → block_signal e s' ≡ block_of e w') → s'.pedal ≡ pedal_of w'
    → ((n : ℕ) → inside_at k (place' n) ≡ inside_of k w' n)
    → Trail (rows ++ x ∷ []) k (marks_of k w') → Falling (suc (length rows)) (marks_of k w')
    → owed w + cond (eqb (kind_code x.kind) (kind_code Giving)) 1 0 ≡ cond (eqb (kind_code x.kind) (kind_code Leaving)) 1 0 + cond (eqb (kind_code x.kind) (kind_code Unsealing)) 1 0 + owed w'
    → Standing p' s' place' (rows ++ x ∷ []) k w'
stand_own {p} {s} {place} {rows} {k} {w} h x here w' p' s' place' phase blocks pedal inside trail falls weighed = record {
  phase_is = phase;
  block_is = blocks;
  pedal_is = pedal;
  inside_is = inside;
  trail_is = trail;
  falls = subst (λ n. Falling n (marks_of k w')) (sym (length_more rows x)) falls;
  account = omega (arith, h.account, weighed, tally_own Giving k rows x here, tally_own Leaving k rows x here, tally_own Unsealing k rows x here);
}
