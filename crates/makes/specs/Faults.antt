-- The fault reader: which picture a pane byte is nearest to.
use Rattle.std.specs.Prelude.{ℕ, Bool, true, cond, ◌&&◌, ◌||◌, List, [], ◌∷◌, map, ◌==◌, bit_xor, count_ones, nat_lt, slice_index}
use Rattle.std.specs.List.{range_with_len}
use Rattle.makes.specs.Panes.{panes}
use Rattle.block.specs.declared.order.Direction.TheVariants.{Up, Down}
use Rattle.block.specs.declared.order.Phase.TheVariants.{Rest, Given, Returned, Cleared}

-- the seven pictures, each at the place of its number
abbrev pub pictures : List ℕ
pictures = map panes (Rest ∷ Given Up ∷ Returned Up ∷ Cleared Up ∷ Given Down ∷ Returned Down ∷ Cleared Down ∷ [])

abbrev pub picture_numbers : List ℕ
picture_numbers = 0 ∷ 1 ∷ 2 ∷ 3 ∷ 4 ∷ 5 ∷ 6 ∷ []

-- in how many panes a byte differs from picture i
abbrev pub apart : ℕ → ℕ → ℕ
apart b i = count_ones (bit_xor b (slice_index pictures i))

abbrev pub all : (ℕ → Bool) → List ℕ → Bool
all test [] = true
all test (i ∷ is) = test i && all test is

-- whether the byte differs from picture i in fewer panes than from each other picture
abbrev pub nearer : ℕ → ℕ → Bool
nearer b i = all (λ j. (i == j) || nat_lt (apart b i) (apart b j)) picture_numbers

-- the first that passes, 7 where none does
abbrev pub first_of : (ℕ → Bool) → List ℕ → ℕ
first_of test [] = 7
first_of test (i ∷ is) = cond (test i) i (first_of test is)

-- the number of the picture that differs from the byte in fewer panes than each other one, 7 where none does
unfoldable pub nearest : ℕ → ℕ
nearest b = first_of (nearer b) picture_numbers

-- the answers for all pane bytes, each at the place of its byte
unfoldable pub nearest_table : List ℕ
nearest_table = map nearest (range_with_len 0 256)
