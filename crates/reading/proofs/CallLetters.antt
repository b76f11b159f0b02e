-- A call is read by its letter: what stands after the letter is read as its form asks.
use Rattle.std.proofs.Common.{◌≡◌, ℕ, List, [], ◌∷◌, Some, None, Option, MatchOption, IsSomeAnd, refl, ap, ◌∙◌, arith}
use Rattle.std.proofs.lemmas.Grind.{common_steps}
use Rattle.std.specs.Option.{option_map}
use Rattle.block.specs.declared.order.Direction.{Direction}
use Rattle.rules.specs.declared.calls.Call.{Call}
use Rattle.reading.specs.Grammar.{exactly, number, direction, Form, OfOne, OfTwo, OfSided, forms, form_in, form_fields, form_line, call_line}
use Rattle.reading.specs.Outcomes.{Outcome, Got, Stuck, mapped, both}
use Rattle.reading.specs.Places.{Place, Reads}
use Rattle.reading.specs.Readers.{front, lettered, one_number, two_numbers, number_and_direction}
use Rattle.reading.specs.Written.{space, line_feed}
use Rattle.reading.proofs.Strides.{value_mapped, moved_mapped}

-- the fields that a form asks for, and the call that it makes of them
abbrev pub Asked : Form → Type 0
Asked (OfOne make) = ℕ
Asked (OfTwo make) = ℕ × ℕ
Asked (OfSided make) = ℕ × Direction

abbrev pub asked : (f : Form) → List ℕ → Outcome (Asked f)
asked (OfOne make) = one_number
asked (OfTwo make) = two_numbers
asked (OfSided make) = number_and_direction

abbrev pub made : (f : Form) → Asked f → Call
made (OfOne make) v = make v
made (OfTwo make) v = make v.0 v.1
made (OfSided make) v = make v.0 v.1

whole_sided : (make : ℕ → Direction → Call) (o : Outcome (ℕ × (Direction × Unit {0})))
    → mapped (λ v. make v.0 v.1.0) o ≡ mapped (λ v. make v.0 v.1) (mapped {A = ℕ × (Direction × Unit {0})} {B = ℕ × Direction} (λ v. (v.0, v.1.0)) o)
whole_sided make (Got v n) = refl
whole_sided make (Stuck p) = refl

fields_are : (f : Form) (bytes : List ℕ) → form_fields f bytes ≡ mapped (made f) (asked f bytes)
fields_are (OfOne make) bytes = refl
fields_are (OfTwo make) bytes = refl
fields_are (OfSided make) bytes = whole_sided make (both (number space) (both direction (exactly line_feed)) bytes)

line_is : (x : ℕ) (f : Form) → form_in forms x ≡ Some f → (bytes : List ℕ) → Some x ≡ front bytes → call_line bytes ≡ mapped (made f) (lettered (asked f) bytes)
line_is x f known [] here = cc
line_is x f known (y ∷ []) here = let e : y ≡ x = cc in ap (λ v. form_line (form_in forms v) []) e ∙ ap (λ o. form_line o []) known
line_is x f known (y ∷ z ∷ zs) here =
    let e : y ≡ x = cc in
    ap (λ v. form_line (form_in forms v) (z ∷ zs)) e ∙ ap (λ o. form_line o (z ∷ zs)) known ∙ grind (arith, common_steps, fields_are f zs)

result_is : {A : Type 0} (make : A → Call) (s : Option A) (r : Option Call) → MatchOption s (r ≡ None) (λ v. IsSomeAnd r (λ c. c ≡ make v)) → r ≡ option_map make s
result_is make None r e = e
result_is make (Some v) None e = absurd e
result_is make (Some v) (Some c) e = cc

-- the call by its letter x
pub by_letter : (x : ℕ) {f : Form} → form_in forms x ≡ Some f → (bytes : List ℕ) {at : ℕ} {new : Place} {r : Option Call} {s : Option (Asked f)} → Some x ≡ front bytes
    → Reads (lettered (asked f)) (record { at = at; ahead = bytes }) s new → MatchOption s (r ≡ None) (λ v. IsSomeAnd r (λ c. c ≡ made f v)) → Reads call_line (record { at = at; ahead = bytes }) r new
by_letter x {f = f} known bytes {s = s} here h e =
    let line = line_is x f known bytes here in
    record { value = result_is (made f) s _ e ∙ cc (value_mapped (made f) (lettered (asked f) bytes)); place = cc (moved_mapped (made f) (lettered (asked f) bytes)) }
