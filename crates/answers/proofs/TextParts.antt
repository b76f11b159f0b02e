-- The texts, opened.
use Rattle.std.proofs.Common.{◌≡◌, ℕ, suc, ◌+◌, List, [], ◌∷◌, ◌++◌, Ok, Err, decimal, unwrap_or, refl, ap, arith}
use Rattle.block.specs.Meaning.{phase_at}
use Rattle.block.specs.Order.{phase_code}
use Rattle.reading.specs.Written.{space, line_feed}
use Rattle.rules.specs.State.{LineState}
use Rattle.trains.specs.Trains.{number_inside}
use Rattle.turn.specs.Rows.{tally}
use Rattle.turn.specs.declared.rows.Kind.TheVariants.{Giving, Leaving, Unsealing}
use Rattle.turn.specs.declared.rows.RegisterRow.{RegisterRow}
use Rattle.answers.specs.Numbers.{line_refusal_number, refusal_values}
use Rattle.answers.specs.Texts.{fields_of, refused, refusal_text, told_text, section_text, section_texts}
use Rattle.answers.specs.declared.refusals.RefusedLine.{RefusedLine}
use Rattle.answers.specs.declared.refusals.SheetRefusal.{SheetRefusal}
use Rattle.answers.specs.declared.refusals.SheetRefusal.TheVariants.{Line}

pub ok_text : (n : ℕ) → told_text n (Ok tt) ≡ decimal n ++ (space ∷ 111 ∷ 107 ∷ line_feed ∷ [])
unfolding told_text
ok_text n = refl

pub err_text : (n : ℕ) (e : SheetRefusal) → told_text n (Err e) ≡ refusal_text e
unfolding told_text
err_text n e = refl

pub line_text : (r : RefusedLine) → refusal_text (Line r) ≡ decimal r.line ++ (space ∷ []) ++ refused (line_refusal_number r.refusal ∷ refusal_values r.refusal)
unfolding refusal_text
line_text r = refl

-- the numbers of a section's line
abbrev pub section_values : LineState → List RegisterRow → ℕ → List ℕ
section_values s rows k =
    k ∷ phase_code (phase_at s.phases k) ∷ unwrap_or (number_inside k s.trains) 0
    ∷ tally Giving k rows ∷ tally Leaving k rows ∷ tally Unsealing k rows ∷ []

pub one_section : (s : LineState) (rows : List RegisterRow) (k : ℕ) → section_text s rows k ≡ ((115 ∷ []) ++ fields_of (section_values s rows k)) ++ (line_feed ∷ [])
unfolding section_text
one_section s rows k = refl

-- one section more
pub next_section : (s : LineState) (rows : List RegisterRow) (k : ℕ) → section_texts s rows k ++ section_text s rows k ≡ section_texts s rows (k + 1)
next_section s rows k = let e : suc k ≡ k + 1 = omega arith in ap (section_texts s rows) e
