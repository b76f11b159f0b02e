-- How long the lines of an answer can be.
use Rattle.std.proofs.Common.{ℕ, ◌+◌, ◌^◌, ◌<◌, ◌≤◌, Bool, true, false, cond, List, [], ◌∷◌, ◌++◌, length, unwrap_or, ap, ◌∙◌, arith, length-append}
use Rattle.std.proofs.lemmas.Fmt.{length-decimal-le}
use Rattle.block.specs.Meaning.{phase_at}
use Rattle.block.specs.Order.{phase_code}
use Rattle.block.specs.declared.order.Direction.TheVariants.{Up, Down}
use Rattle.block.specs.declared.order.Phase.{Phase}
use Rattle.block.specs.declared.order.Phase.TheVariants.{Rest, Given, Opened, Returned, Cleared}
use Rattle.reading.specs.Written.{line_feed}
use Rattle.reading.specs.declared.headings.Heading.{Heading}
use Rattle.rules.specs.State.{LineState}
use Rattle.trains.specs.Trains.{number_inside}
use Rattle.turn.specs.Rows.{tally, tells}
use Rattle.turn.specs.declared.rows.Kind.{Kind}
use Rattle.turn.specs.declared.rows.Kind.TheVariants.{Giving, Leaving, Unsealing}
use Rattle.turn.specs.declared.rows.RegisterRow.{RegisterRow}
use Rattle.answers.specs.Texts.{fields_of, heading_text, section_text}
use Rattle.answers.proofs.Chains.{field}
use Rattle.answers.proofs.TextParts.{section_values, one_section}

-- A FIELD

pub field_length : (k n : ℕ) → 0 < k → n < 10 ^ k → n < 2 ^ 64 → length (field n) ≤ k + 1
field_length k n some fits small = omega (arith, length-decimal-le k n some fits small)

pub phase_small : (p : Phase) → phase_code p < 10
phase_small Rest = omega arith
phase_small (Given Up) = omega arith
phase_small (Opened Up) = omega arith
phase_small (Returned Up) = omega arith
phase_small (Cleared Up) = omega arith
phase_small (Given Down) = omega arith
phase_small (Opened Down) = omega arith
phase_small (Returned Down) = omega arith
phase_small (Cleared Down) = omega arith

-- A SECTION

pub tally_few : (kind : Kind) (k : ℕ) (rows : List RegisterRow) → tally kind k rows ≤ length rows
tally_few kind k [] = omega arith
tally_few kind k (r ∷ rows) = by (tells kind k r) (tally_few kind k rows)
  where
    by : (b : Bool) → tally kind k rows ≤ length rows → cond b 1 0 + tally kind k rows ≤ length (r ∷ rows)
    by true h = omega arith
    by false h = omega arith

pub section_short : (s : LineState) (rows : List RegisterRow) (k : ℕ) → k < 100 → length rows < 10000 → unwrap_or (number_inside k s.trains) 0 < 4294967296
    → length (section_text s rows k) ≤ 33
section_short s rows k few some fits =
    let train = unwrap_or (number_inside k s.trains) 0 in
    let phase = phase_code (phase_at s.phases k) in
    let a = field_length 2 k (omega arith) (omega arith) (omega arith) in
    let b = field_length 1 phase (omega arith) (omega (arith, phase_small (phase_at s.phases k))) (omega (arith, phase_small (phase_at s.phases k))) in
    let d = field_length 10 train (omega arith) (omega arith) (omega arith) in
    let count : (kind : Kind) → length (field (tally kind k rows)) ≤ 5 = λ kind. field_length 4 (tally kind k rows) (omega arith) (omega (arith, tally_few kind k rows)) (omega (arith, tally_few kind k rows)) in
    let tail3 = length-append (field (tally Unsealing k rows)) [] in
    let tail2 = length-append (field (tally Leaving k rows)) (fields_of (tally Unsealing k rows ∷ [])) in
    let tail1 = length-append (field (tally Giving k rows)) (fields_of (tally Leaving k rows ∷ tally Unsealing k rows ∷ [])) in
    let tails = fields_of (tally Giving k rows ∷ tally Leaving k rows ∷ tally Unsealing k rows ∷ []) in
    let three : length tails ≤ 15 = omega (arith, count Giving, count Leaving, count Unsealing, tail1, tail2, tail3) in
    let more3 = length-append (field train) tails in
    let more2 = length-append (field phase) (fields_of (train ∷ tally Giving k rows ∷ tally Leaving k rows ∷ tally Unsealing k rows ∷ [])) in
    let more1 = length-append (field k) (fields_of (phase ∷ train ∷ tally Giving k rows ∷ tally Leaving k rows ∷ tally Unsealing k rows ∷ [])) in
    let six : length (fields_of (section_values s rows k)) ≤ 31 = omega (arith, a, b, d, three, more1, more2, more3) in
    let whole = ap length (one_section s rows k) ∙ length-append ((115 ∷ []) ++ fields_of (section_values s rows k)) (line_feed ∷ []) in
    omega (arith, whole, six)

-- THE HEADING

pub heading_short : (h : Heading) → h.sections ≤ 16 → h.interlocked ≤ h.sections → length (heading_text h) ≤ 11
heading_short h few within =
    let word : List ℕ = 116 ∷ 117 ∷ 114 ∷ 110 ∷ [] in
    let a = field_length 2 h.sections (omega arith) (omega arith) (omega arith) in
    let b = field_length 2 h.interlocked (omega arith) (omega arith) (omega arith) in
    let last = length-append (field h.interlocked) [] in
    let both = length-append (field h.sections) (fields_of (h.interlocked ∷ [])) in
    let whole = length-append (word ++ fields_of (h.sections ∷ h.interlocked ∷ [])) (line_feed ∷ []) in
    omega (arith, a, b, last, both, whole)
