-- How a number goes on after its first digit.
use Rattle.std.proofs.Common.{◌≡◌, ℕ, ◌+◌, ◌*◌, true, false, List, [], ◌∷◌, is_some, Some, None, Option, arith}
use Rattle.std.proofs.lemmas.Bool.Decides.{nat_tests}
use Rattle.reading.specs.Grammar.{exactly, digit, may_grow, more_digits}
use Rattle.reading.specs.Places.{Place, Reads}
use Rattle.reading.proofs.Strides.{onward_twice, moved_past}

module _ (end n : ℕ) where
  -- no end here, and no digit may follow
  pub bars : (at : ℕ) (bytes : List ℕ) {q : Place} {u : Option (Unit {0})} → Reads (exactly end) (record { at = at; ahead = bytes }) u q → is_some u ≡ false → may_grow n ≡ false
      → Reads (more_digits end n) (record { at = at; ahead = bytes }) None q
  bars at [] h i g = record { value = grind (arith, nat_tests); place = grind (arith, nat_tests) }
  bars at (x ∷ xs) h i g = record { value = grind (arith, nat_tests); place = grind (arith, nat_tests) }

  -- no end here, and no digit
  pub lacks : (at : ℕ) (bytes : List ℕ) {q s : Place} {u : Option (Unit {0})} {r : Option ℕ} → Reads (exactly end) (record { at = at; ahead = bytes }) u q → is_some u ≡ false → Reads digit q None s → r ≡ None
      → Reads (more_digits end n) (record { at = at; ahead = bytes }) r s
  lacks at [] h i g e = record { value = grind (arith, nat_tests); place = grind (arith, nat_tests) }
  lacks at (x ∷ xs) h i g e = record { value = grind (arith, nat_tests); place = grind (arith, nat_tests) }

  -- one digit more
  pub grows : (at : ℕ) (bytes : List ℕ) {q s t : Place} {u : Option (Unit {0})} {d : ℕ} {r : Option ℕ}
      → Reads (exactly end) (record { at = at; ahead = bytes }) u q → is_some u ≡ false → may_grow n ≡ true → Reads digit q (Some d) s → Reads (more_digits end (n * 10 + d)) s r t
      → Reads (more_digits end n) (record { at = at; ahead = bytes }) r t
  grows at [] h i g k m = record { value = grind (arith, nat_tests); place = grind (arith, nat_tests) }
  grows at (x ∷ xs) h i g k m = record { value = grind (arith, nat_tests); place = grind (arith, nat_tests, moved_past, onward_twice) }
