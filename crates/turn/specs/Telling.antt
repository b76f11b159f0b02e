-- Words of the law: what a row of the register tells, by its place.
use Rattle.std.specs.Prelude.{◌≡◌, ℕ, suc, cond, List, [], ◌∷◌, ◌++◌, Some, None, Option}
use Rattle.block.specs.declared.order.Direction.{Direction}
use Rattle.std.specs.List.{slice_get}
use Rattle.trains.specs.Trains.{is_inside}
use Rattle.trains.specs.declared.places.Place.{Place}
use Rattle.turn.specs.declared.rows.Kind.{Kind}
use Rattle.turn.specs.declared.rows.Kind.TheVariants.{Placing, Withdrawal, Giving, Opening, Closing, Entry, Returning, HomeOpening, HomeShutting, PedalReached, Leaving, Clearing, Unsealing, Restoring}
use Rattle.turn.specs.declared.rows.RegisterRow.{RegisterRow}
use Rattle.rules.specs.declared.slips.SealRow.{SealRow}

-- at this place stands a row of this kind and section
pub record Told (rows : List RegisterRow) (place : ℕ) (kind : Kind) (section : ℕ) : Type 0 where
  pub row : RegisterRow
  pub stands : slice_get rows place ≡ Some row
  pub kind_is : row.kind ≡ kind
  pub section_is : row.section ≡ Some section

-- and of this direction
pub record ToldFor (rows : List RegisterRow) (place : ℕ) (kind : Kind) (section : ℕ) (direction : Direction) : Type 0 where
  pub row : RegisterRow
  pub stands : slice_get rows place ≡ Some row
  pub kind_is : row.kind ≡ kind
  pub section_is : row.section ≡ Some section
  pub direction_is : row.direction ≡ Some direction

-- at this place stands a row of this kind and train, and of this section
pub record ToldOf (rows : List RegisterRow) (place : ℕ) (kind : Kind) (train : ℕ) (section : Option ℕ) : Type 0 where
  pub row : RegisterRow
  pub stands : slice_get rows place ≡ Some row
  pub kind_is : row.kind ≡ kind
  pub train_is : row.train ≡ Some train
  pub section_is : row.section ≡ section

-- the seal row of an unsealing that stands at this place of the register
abbrev pub seal_row : ℕ → Option ℕ → Option Direction → List SealRow
seal_row place None o = []
seal_row place (Some k) None = []
seal_row place (Some k) (Some d) = record { section = k; direction = d; row = place } ∷ []

abbrev pub seal_where : Kind → ℕ → Option ℕ → Option Direction → List SealRow
seal_where Placing place k d = []
seal_where Withdrawal place k d = []
seal_where Giving place k d = []
seal_where Opening place k d = []
seal_where Closing place k d = []
seal_where Entry place k d = []
seal_where Returning place k d = []
seal_where HomeOpening place k d = []
seal_where HomeShutting place k d = []
seal_where PedalReached place k d = []
seal_where Leaving place k d = []
seal_where Clearing place k d = []
seal_where Unsealing place k d = seal_row place k d
seal_where Restoring place k d = []

-- one seal row for each unsealing, in order, with its section, direction and place; the first row stands at the place given
abbrev pub seal_rows : ℕ → List RegisterRow → List SealRow
seal_rows place [] = []
seal_rows place (r ∷ rs) = seal_where r.kind place r.section r.direction ++ seal_rows (suc place) rs

-- a train's place, if it is inside section k
abbrev pub inside_at : ℕ → Option Place → Option Place
inside_at k p = cond (is_inside k p) p None
