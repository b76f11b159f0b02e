-- What a book holds, from its slice and how many rows of it are entered.
use Rattle.std.specs.Prelude.{ℕ, Bool, cond, List, [], ◌∷◌, ◌++◌, length, take, drop, Ok, Err, Result, nat_le}

-- the rows entered, in order
abbrev pub entered : {R : Type 0} → ℕ → List R → List R
entered n rows = take n rows

-- the free places of the slice, after the rows entered
abbrev pub unused : {R : Type 0} → ℕ → List R → List R
unused n rows = drop n rows

-- whether there is no free row
abbrev pub full : {R : Type 0} → ℕ → List R → Bool
full n rows = nat_le (length rows) (length (entered n rows))

-- the answer to a row that is to be entered: a full book gives it back
abbrev pub add_answer : {R : Type 0} → ℕ → List R → R → Result (Unit {0}) R
add_answer n rows row = cond (full n rows) (Err row) (Ok tt)

-- the rows entered after it
abbrev pub add_rows : {R : Type 0} → ℕ → List R → R → List R
add_rows n rows row = cond (full n rows) (entered n rows) (entered n rows ++ row ∷ [])
