-- The law of reading: what a line is read as, told by what can be written and not by how it is read.
use Rattle.std.specs.Prelude.{◌≡◌, ℕ, ◌+◌, ◌<◌, ◌≤◌, List, ◌++◌, length, take, Ok, Err, Result, ◌≢◌}
use Rattle.rules.specs.declared.calls.Call.{Call}
use Rattle.reading.specs.Grammar.{reading}
use Rattle.reading.specs.Written.{written, Writable}

-- some good line begins with these bytes
pub record Begins (bytes : List ℕ) : Type 0 where
  pub call : Call
  pub writable : Writable call
  pub rest : List ℕ
  pub whole : bytes ++ rest ≡ written call

-- No good line, and the place of the first byte after which none can follow: some good line begins with the bytes before it,
-- and none with those and the byte itself. The end of the line counts as a byte.
pub record Unreadable (line : List ℕ) (place : ℕ) : Type 0 where
  pub within : place ≤ length line
  pub begins : Begins (take place line)
  pub stops : place < length line → Begins (take (place + 1) line) → ⊥
  pub not_good : (c : Call) → Writable c → line ≢ written c

-- a line is read as a call exactly where it is what is written of that call
abbrev pub ReadAs : List ℕ → Result Call ℕ → Type 0
ReadAs line (Ok c) = Writable c × (line ≡ written c)
ReadAs line (Err place) = Unreadable line place

-- a line is read as the law says; that leaves one reading of it; and what is written of a call is read as that call
pub record ReadingLaw : Type 0 where
  pub lawful : (line : List ℕ) → ReadAs line (reading line)
  pub one_reading : (line : List ℕ) (r : Result Call ℕ) → ReadAs line r → r ≡ reading line
  pub read_back : (c : Call) → Writable c → reading (written c) ≡ Ok c
