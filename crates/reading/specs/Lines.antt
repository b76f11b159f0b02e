-- The lines of a sheet: a line feed ends a line, and belongs to it; an unfinished last line is a line too.
use Rattle.std.specs.Prelude.{◌≡◌, ℕ, suc, ◌<◌, cond, ◌⊎◌, List, [], ◌∷◌, ◌++◌, length, Some, None, Option, ◌==◌, ◌≢◌}
use Rattle.reading.specs.Written.{line_feed}

-- one byte more at the front of the first line
abbrev pub onto : ℕ → List (List ℕ) → List (List ℕ)
onto x [] = (x ∷ []) ∷ []
onto x (l ∷ ls) = (x ∷ l) ∷ ls

abbrev pub lines : List ℕ → List (List ℕ)
lines [] = []
lines (x ∷ xs) = cond (x == line_feed) ((x ∷ []) ∷ lines xs) (onto x (lines xs))

-- how many bytes the first line has
abbrev pub line_length : List ℕ → ℕ
line_length [] = 0
line_length (x ∷ xs) = cond (x == line_feed) 1 (suc (line_length xs))

-- the first line, and the others
abbrev pub first_line : List (List ℕ) → Option (List ℕ)
first_line [] = None
first_line (l ∷ ls) = Some l

abbrev pub other_lines : List (List ℕ) → List (List ℕ)
other_lines [] = []
other_lines (l ∷ ls) = ls

-- THE LAW

abbrev pub joined : List (List ℕ) → List ℕ
joined [] = []
joined (l ∷ ls) = l ++ joined ls

abbrev pub Feedless : List ℕ → Type 0
Feedless [] = Unit {0}
Feedless (x ∷ xs) = (x ≢ line_feed) × Feedless xs

-- a line feed stands at its end, and nowhere else
pub record Ended (line : List ℕ) : Type 0 where
  pub front : List ℕ
  pub feedless : Feedless front
  pub whole : line ≡ front ++ line_feed ∷ []

-- some bytes, and no line feed
pub record Unfinished (line : List ℕ) : Type 0 where
  pub some : 0 < length line
  pub feedless : Feedless line

-- all lines are ended, but perhaps the last
abbrev pub Cut : List (List ℕ) → Type 0
Cut [] = Unit {0}
Cut (l ∷ []) = Ended l ⊎ Unfinished l
Cut (l ∷ m ∷ ls) = Ended l × Cut (m ∷ ls)

-- the lines make up the bytes; each is a line; and there is no other way to cut the bytes so
pub record LinesLaw : Type 0 where
  pub whole : (bytes : List ℕ) → joined (lines bytes) ≡ bytes
  pub cut : (bytes : List ℕ) → Cut (lines bytes)
  pub one_way : (bytes : List ℕ) (ls : List (List ℕ)) → joined ls ≡ bytes → Cut ls → ls ≡ lines bytes
