-- The law of writing.
use Rattle.std.specs.Prelude.{◌≡◌, ℕ, ◌≤◌, List, [], ◌++◌, length, drop}
use Rattle.writing.specs.Pens.{Pen, wrote}

-- two texts one after the other are written as one; a text for which there is room stands whole, after what was there; and no
-- bytes change nothing
pub record WritingLaw : Type 0 where
  pub twice : (a b : List ℕ) (p : Pen) → wrote b (wrote a p) ≡ wrote (a ++ b) p
  pub fits : (text : List ℕ) (p : Pen) → length text ≤ length p.untouched → wrote text p ≡ record { done = p.done ++ text; untouched = drop (length text) p.untouched }
  pub nothing : (p : Pen) → wrote [] p ≡ p
