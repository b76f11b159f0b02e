-- A buffer that is being written, and what writing makes of it.
use Rattle.std.specs.Prelude.{◌≡◌, ℕ, List, ◌++◌, length, take, drop}
use Rattle.book.specs.Entered.{entered, unused}
use Rattle.book.specs.declared.Book as lent

-- a buffer that is being written: the bytes so far, and those that are still untouched
pub record Pen : Type 0 where
  pub done : List ℕ
  pub untouched : List ℕ

-- a book of bytes, as such a buffer
abbrev pub pen_of : lent.Book ℕ → Pen
pen_of b = record { done = entered b.len b.rows.now; untouched = unused b.len b.rows.now }

-- the buffer after some bytes more; what it has no room for is lost
unfoldable pub wrote : List ℕ → Pen → Pen
wrote text p = record { done = p.done ++ take (length p.untouched) text; untouched = drop (length text) p.untouched }

-- some bytes more are written to a book: its slice keeps its length, and is the one that was lent
pub record Writes (text : List ℕ) (old new : lent.Book ℕ) : Type 0 where
  pub wrote : pen_of new ≡ wrote text (pen_of old)
  pub room : length new.rows.now ≡ length old.rows.now
  pub lender : new.rows.ghost_name ≡ old.rows.ghost_name
