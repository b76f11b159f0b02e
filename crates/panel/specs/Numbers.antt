-- What the panel gets back: the number of bytes written, or minus the number of the refusal.
use Rattle.std.specs.Prelude.{ℕ, List, length, ℤ, pos, neg_ℤ, Ok, Err, Result}
use Rattle.answers.specs.Numbers.{sheet_number}
use Rattle.answers.specs.declared.refusals.SheetRefusal.{SheetRefusal}

abbrev pub panel_number : Result (List ℕ) SheetRefusal → ℤ
panel_number (Ok text) = pos (length text)
panel_number (Err e) = neg_ℤ (pos (sheet_number e))
