-- What a fact about a section says of the way in which it stands.
use Rattle.std.proofs.Common.{◌≡◌, ℕ, Bool, true, false, cond, eqb, Some, None, Option, sym, refl, ap, ◌∙◌, arith, eq-eqb, eqb-true}
use Rattle.block.specs.Order.{same_direction}
use Rattle.block.specs.declared.order.Direction.{Direction}
use Rattle.block.specs.declared.order.Direction.TheVariants.{Up, Down}
use Rattle.block.specs.declared.order.Phase.TheVariants.{Rest, Given, Opened, Returned, Cleared}
use Rattle.rules.specs.State.{is_closed, is_open}
use Rattle.trains.specs.Trains.{departs, runs, presses}
use Rattle.rules.specs.declared.signals.BlockSignal.{BlockSignal}
use Rattle.rules.specs.declared.signals.BlockSignal.TheVariants.{Closed, Open, Fallen}
use Rattle.trains.specs.declared.places.Place.{Place}
use Rattle.trains.specs.declared.places.Place.TheVariants.{AtPost, Running, OnPedal}
use Rattle.turn.proofs.Tests.{none_some, some_same, true_false}
use Rattle.turn.proofs.Ways.{Past, Use, unused, running, pressing, gone, Lever, pulled, put_back, returned, Way, rest, given, held, cleared, phase_of, signal_of, block_of, use_pedal, inside_of, use_inside}

-- two different constructors are never equal
clash : {X : Type 0} → ◌≡◌ {A = ℕ} 0 1 → X
clash e = absurd (omega arith)

pub is_rest : (w : Way) → phase_of w ≡ Rest → (p : Past) × (w ≡ rest p)
is_rest (rest p) e = (p, refl)
is_rest (given d g) e = clash (cc)
is_rest (held d pulled u g o) e = clash (cc)
is_rest (held d put_back u g o) e = clash (cc)
is_rest (held d returned u g o) e = clash (cc)
is_rest (cleared d p) e = clash (cc)

pub is_given : (w : Way) (d : Direction) → phase_of w ≡ Given d → (g : ℕ) × (w ≡ given d g)
is_given (rest p) d e = clash (cc)
is_given (given c g) d e = let same : c ≡ d = cc in (g, ap (λ x. given x g) same)
is_given (held c pulled u g o) d e = clash (cc)
is_given (held c put_back u g o) d e = clash (cc)
is_given (held c returned u g o) d e = clash (cc)
is_given (cleared c p) d e = clash (cc)

pub is_cleared : (w : Way) (d : Direction) → phase_of w ≡ Cleared d → (p : Past) × (w ≡ cleared d p)
is_cleared (rest p) d e = clash (cc)
is_cleared (given c g) d e = clash (cc)
is_cleared (held c pulled u g o) d e = clash (cc)
is_cleared (held c put_back u g o) d e = clash (cc)
is_cleared (held c returned u g o) d e = clash (cc)
is_cleared (cleared c p) d e = let same : c ≡ d = cc in (p, ap (λ x. cleared x p) same)

-- an opened or returned release, with its use and the places of its giving and opening
pub record Holding (w : Way) (d : Direction) (l : Lever) : Type 0 where
  pub use_of : Use
  pub giving : ℕ
  pub opening : ℕ
  pub is : w ≡ held d l use_of giving opening

pub is_returned : (w : Way) (d : Direction) → phase_of w ≡ Returned d → Holding w d returned
is_returned (rest p) d e = clash (cc)
is_returned (given c g) d e = clash (cc)
is_returned (held c pulled u g o) d e = clash (cc)
is_returned (held c put_back u g o) d e = clash (cc)
is_returned (held c returned u g o) d e = let same : c ≡ d = cc in record { use_of = u; giving = g; opening = o; is = ap (λ x. held x returned u g o) same }
is_returned (cleared c p) d e = clash (cc)

pub own_way : (d : Direction) → same_direction d d ≡ true
own_way Up = refl
own_way Down = refl

pulled_not_closed : (u : Use) → is_closed (signal_of pulled u) ≡ true → ⊥
pulled_not_closed unused e = true_false (sym e)
pulled_not_closed (running n a) e = true_false (sym e)
pulled_not_closed (pressing n a) e = true_false (sym e)
pulled_not_closed (gone n a b) e = true_false (sym e)

pub is_put_back : (w : Way) (d : Direction) → phase_of w ≡ Opened d → is_closed (block_of d w) ≡ true → Holding w d put_back
is_put_back (rest p) d e b = clash (cc)
is_put_back (given c g) d e b = clash (cc)
is_put_back (held c pulled u g o) d e b =
    let same : c ≡ d = cc in
    let own : same_direction c d ≡ true = ap (λ x. same_direction x d) same ∙ own_way d in
    absurd (pulled_not_closed u (sym (ap (λ t. is_closed (cond t (signal_of pulled u) Closed)) own) ∙ b))
is_put_back (held c put_back u g o) d e b = let same : c ≡ d = cc in record { use_of = u; giving = g; opening = o; is = ap (λ x. held x put_back u g o) same }
is_put_back (held c returned u g o) d e b = clash (cc)
is_put_back (cleared c p) d e b = clash (cc)

same_way : (c d : Direction) → same_direction c d ≡ true → c ≡ d
same_way Up Up e = refl
same_way Up Down e = absurd (true_false (sym e))
same_way Down Up e = absurd (true_false (sym e))
same_way Down Down e = refl

-- a lever that is pulled
pub is_pulled : (w : Way) (d : Direction) → is_closed (block_of d w) ≡ false → Holding w d pulled
is_pulled (rest p) d e = absurd (true_false e)
is_pulled (given c g) d e = absurd (true_false e)
is_pulled (held c pulled u g o) d e = by (same_direction c d) refl e
  where
    by : (t : Bool) → same_direction c d ≡ t → is_closed (cond t (signal_of pulled u) Closed) ≡ false → Holding (held c pulled u g o) d pulled
    by true own e = record { use_of = u; giving = g; opening = o; is = ap (λ x. held x pulled u g o) (same_way c d own) }
    by false own e = absurd (true_false e)
is_pulled (held c put_back u g o) d e = by (same_direction c d) e
  where
    by : (t : Bool) → is_closed (cond t Closed Closed) ≡ false → Holding (held c put_back u g o) d pulled
    by true e = absurd (true_false e)
    by false e = absurd (true_false e)
is_pulled (held c returned u g o) d e = by (same_direction c d) e
  where
    by : (t : Bool) → is_closed (cond t Closed Closed) ≡ false → Holding (held c returned u g o) d pulled
    by true e = absurd (true_false e)
    by false e = absurd (true_false e)
is_pulled (cleared c p) d e = absurd (true_false e)

open_not_closed : (b : BlockSignal) → is_open b ≡ true → is_closed b ≡ false
open_not_closed Closed e = absurd (true_false (sym e))
open_not_closed Open e = refl
open_not_closed Fallen e = refl

-- a signal that is open
pub is_ready : (w : Way) (d : Direction) → is_open (block_of d w) ≡ true → (g : ℕ) × (o : ℕ) × (w ≡ held d pulled unused g o)
is_ready w d e =
    let h = is_pulled w d (open_not_closed (block_of d w) e) in
    by h.use_of h.is (sym (ap (λ v. is_open (block_of d v)) h.is) ∙ e)
  where
    by : {g o : ℕ} (u : Use) → w ≡ held d pulled u g o → is_open (cond (same_direction d d) (signal_of pulled u) Closed) ≡ true → (g : ℕ) × (o : ℕ) × (w ≡ held d pulled unused g o)
    by {g} {o} unused is e = (g, o, is)
    by {g} {o} (running n a) is e = absurd (true_false (sym (sym (ap (λ t. is_open (cond t Fallen Closed)) (own_way d)) ∙ e)))
    by {g} {o} (pressing n a) is e = absurd (true_false (sym (sym (ap (λ t. is_open (cond t Fallen Closed)) (own_way d)) ∙ e)))
    by {g} {o} (gone n a b) is e = absurd (true_false (sym (sym (ap (λ t. is_open (cond t Fallen Closed)) (own_way d)) ∙ e)))

-- a train that runs in the section, or is on its pedal
pub record Using (w : Way) (d : Direction) (u : ℕ → Use) : Type 0 where
  pub lever : Lever
  pub entry : ℕ
  pub giving : ℕ
  pub opening : ℕ
  pub is : w ≡ held d lever (u entry) giving opening

inside_number : (m n : ℕ) (p q : Place) → cond (eqb m n) (Some p) None ≡ Some q → (m ≡ n) × (p ≡ q)
inside_number m n p q = by (eqb m n) refl
  where
    by : (b : Bool) → eqb m n ≡ b → cond b (Some p) None ≡ Some q → (m ≡ n) × (p ≡ q)
    by true e h = (eqb-true m n e, some_same h)
    by false e h = absurd (none_some h)

pub is_running : (k n : ℕ) (w : Way) (d : Direction) → inside_of k w n ≡ Some (Running k d) → Using w d (running n)
is_running k n (rest p) d e = absurd (none_some e)
is_running k n (given c g) d e = absurd (none_some e)
is_running k n (held c l unused g o) d e = absurd (none_some e)
is_running k n (held c l (running m a) g o) d e =
    let found = inside_number m n (Running k c) (Running k d) e in
    let same : c ≡ d = cc found.1 in
    record { lever = l; entry = a; giving = g; opening = o; is = ap (λ x. held c l (running x a) g o) found.0 ∙ ap (λ x. held x l (running n a) g o) same }
is_running k n (held c l (pressing m a) g o) d e = clash (cc (inside_number m n (OnPedal k c) (Running k d) e).1)
is_running k n (held c l (gone m a b) g o) d e = absurd (none_some e)
is_running k n (cleared c p) d e = absurd (none_some e)

pub is_pressing_there : (k n : ℕ) (w : Way) (d : Direction) → inside_of k w n ≡ Some (OnPedal k d) → Using w d (pressing n)
is_pressing_there k n (rest p) d e = absurd (none_some e)
is_pressing_there k n (given c g) d e = absurd (none_some e)
is_pressing_there k n (held c l unused g o) d e = absurd (none_some e)
is_pressing_there k n (held c l (running m a) g o) d e = clash (cc (inside_number m n (Running k c) (OnPedal k d) e).1)
is_pressing_there k n (held c l (pressing m a) g o) d e =
    let found = inside_number m n (OnPedal k c) (OnPedal k d) e in
    let same : c ≡ d = cc found.1 in
    record { lever = l; entry = a; giving = g; opening = o; is = ap (λ x. held c l (pressing x a) g o) found.0 ∙ ap (λ x. held x l (pressing n a) g o) same }
is_pressing_there k n (held c l (gone m a b) g o) d e = absurd (none_some e)
is_pressing_there k n (cleared c p) d e = absurd (none_some e)

-- a returned release whose train has left, and one that no train has used
pub is_gone : (u : Use) → use_pedal u ≡ true → (n : ℕ) × (e : ℕ) × (l : ℕ) × (u ≡ gone n e l)
is_gone unused h = absurd (true_false (sym h))
is_gone (running n e) h = absurd (true_false (sym h))
is_gone (pressing n e) h = absurd (true_false (sym h))
is_gone (gone n e l) h = (n, e, l, refl)

pub is_unused : (k : ℕ) (d : Direction) (u : Use) → use_pedal u ≡ false → ((n : ℕ) → use_inside k d u n ≡ None) → u ≡ unused
is_unused k d unused h none = refl
is_unused k d (running n e) h none = absurd (none_some (sym (sym (ap (λ b. cond b (Some (Running k d)) None) (eq-eqb n n refl)) ∙ none n)))
is_unused k d (pressing n e) h none = absurd (none_some (sym (sym (ap (λ b. cond b (Some (OnPedal k d)) None) (eq-eqb n n refl)) ∙ none n)))
is_unused k d (gone n e l) h none = absurd (true_false h)

-- from a train's place
pub runs_there : (k : ℕ) (p : Option Place) (d : Direction) → runs k p ≡ Some d → p ≡ Some (Running k d)
runs_there k None d e = absurd (none_some e)
runs_there k (Some (AtPost q)) d e = absurd (none_some e)
runs_there k (Some (Running j c)) d e = by (eqb j k) refl e
  where
    by : (b : Bool) → eqb j k ≡ b → cond b (Some c) None ≡ Some d → Some (Running j c) ≡ Some (Running k d)
    by true is e = let same : c ≡ d = some_same e in let here = eqb-true j k is in λ i. Some (Running (here i) (same i))
    by false is e = absurd (none_some e)
runs_there k (Some (OnPedal j c)) d e = absurd (none_some e)

pub presses_there : (k : ℕ) (p : Option Place) (d : Direction) → presses k p ≡ Some d → p ≡ Some (OnPedal k d)
presses_there k None d e = absurd (none_some e)
presses_there k (Some (AtPost q)) d e = absurd (none_some e)
presses_there k (Some (Running j c)) d e = absurd (none_some e)
presses_there k (Some (OnPedal j c)) d e = by (eqb j k) refl e
  where
    by : (b : Bool) → eqb j k ≡ b → cond b (Some c) None ≡ Some d → Some (OnPedal j c) ≡ Some (OnPedal k d)
    by true is e = let same : c ≡ d = some_same e in let here = eqb-true j k is in λ i. Some (OnPedal (here i) (same i))
    by false is e = absurd (none_some e)

pub departs_there : (k : ℕ) (p : Option Place) (d : Direction) → departs k p ≡ Some d → (q : ℕ) × (p ≡ Some (AtPost q))
departs_there k None d e = absurd (none_some e)
departs_there k (Some (AtPost q)) d e = (q, refl)
departs_there k (Some (Running j c)) d e = absurd (none_some e)
departs_there k (Some (OnPedal j c)) d e = absurd (none_some e)
