-- Where a reader stands after what it read.
use Rattle.std.proofs.Common.{◌≡◌, ℕ, ◌+◌, List, drop, sym, refl, add_assoc, drop-drop}
use Rattle.std.specs.Option.{option_map}
use Rattle.reading.specs.Outcomes.{Outcome, Got, Stuck, past, mapped, value_got, moved}
use Rattle.reading.specs.Places.{Place, onward}

-- a byte further on
pub one_on : (at : ℕ) (bytes : List ℕ) → ◌≡◌ {A = Place} (record { at = at + 1; ahead = drop (at + 1) bytes }) (onward 1 (record { at = at; ahead = drop at bytes }))
one_on at bytes = λ i. record { at = at + 1; ahead = sym (drop-drop 1 at bytes) i }

pub onward_twice : (m n : ℕ) (p : Place) → onward n (onward m p) ≡ onward (m + n) p
onward_twice m n p = λ i. record { at = add_assoc p.at m n i; ahead = drop-drop n m p.ahead i }

pub moved_past : {A : Type 0} (n : ℕ) (o : Outcome A) → moved (past n o) ≡ n + moved o
moved_past n (Got a m) = refl
moved_past n (Stuck p) = refl

pub value_mapped : {A B : Type 0} (g : A → B) (o : Outcome A) → value_got (mapped g o) ≡ option_map g (value_got o)
value_mapped g (Got a m) = refl
value_mapped g (Stuck p) = refl

pub moved_mapped : {A B : Type 0} (g : A → B) (o : Outcome A) → moved (mapped g o) ≡ moved o
moved_mapped g (Got a m) = refl
moved_mapped g (Stuck p) = refl
