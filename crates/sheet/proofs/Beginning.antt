-- How the turn of a sheet begins.
use Rattle.std.proofs.Common.{◌≡◌, ℕ, zero, suc, ◌+◌, ◌-◌, ◌≤◌, min, true, cond, List, [], ◌++◌, length, take, replicate, refl, ap, ◌∙◌, arith, length-take, take_all, ne_eqb}
use lib.ListN.{length-replicate, replicate-append-replicate}
use Rattle.block.specs.declared.order.Phase.{Phase}
use Rattle.block.specs.declared.order.Phase.TheVariants.{Rest}
use Rattle.book.specs.declared.Book as lent
use Rattle.line.specs.Lines.{at_rest, condition_of, made}
use Rattle.reading.specs.Headings.{GoodHeading}
use Rattle.reading.specs.declared.headings.Heading.{Heading}
use Rattle.rules.specs.State.{LineState, new_line}
use Rattle.rules.specs.declared.signals.Condition.{Condition}
use Rattle.rules.specs.declared.signals.Condition.TheVariants.{Sound, Sectionless, Unsettled}
use Rattle.turn.specs.Turns.{New, book_of}
use Rattle.sheet.specs.Sheets.{first_turn}

all_at_rest : (n : ℕ) → at_rest (replicate n Rest) ≡ true
all_at_rest zero = refl
all_at_rest (suc n) = all_at_rest n

sound : (n : ℕ) → 1 ≤ n → condition_of (replicate n Rest) ≡ Sound
sound n some =
    ap (λ b. cond b Sectionless (cond (at_rest (replicate n Rest)) Sound Unsettled)) (ne_eqb (length (replicate n Rest)) 0 (λ e. omega (arith, e, length-replicate n Rest)))
    ∙ ap (λ b. cond b Sound Unsettled) (all_at_rest n)

-- a line over an instrument at rest is a new line
pub made_new : (ps : List Phase) (n : ℕ) → ps ≡ replicate n Rest → 1 ≤ n → made ps ≡ new_line n
made_new ps n e some = ap made e ∙ (λ i. with_condition (sound n some i))
  where
    with_condition : Condition → LineState
    with_condition k = record { condition = k; phases = replicate n Rest; sections = (new_line n).sections; trains = (new_line n).trains }

-- two instruments at rest make a pile at rest
pub pile_rest : (ps qs : List Phase) (m n : ℕ) → ps ≡ replicate (min m 16) Rest → qs ≡ replicate (min (n - m) 16) Rest → m ≤ n → n ≤ 16 → take 16 (ps ++ qs) ≡ replicate n Rest
pile_rest ps qs m n p q within few =
    let sum : min m 16 + min (n - m) 16 ≡ n = omega arith in
    (λ i. take 16 (p i ++ q i)) ∙ ap (take 16) (replicate-append-replicate (min m 16) (min (n - m) 16) Rest) ∙ ap (λ k. take 16 (replicate k Rest)) sum
    ∙ take_all 16 (replicate n Rest) (omega (arith, length-replicate n Rest))

pub begins_new : (h : Heading) → GoodHeading h → New (first_turn h)
begins_new h g = record { sections = h.sections; some = g.some; few = g.few; is = refl }

pub empty_book : {Row : Type 0} (b : lent.Book Row) (rows : List Row) (n : ℕ) → b.len ≡ 0 → b.rows.now ≡ rows → length rows ≡ n → book_of b ≡ record { rows = []; room = n }
empty_book b rows n none is long = λ i. record { rows = (ap (λ k. take k b.rows.now) none) i; room = (ap length is ∙ long) i }

pub few_rows : {Row : Type 0} (b : lent.Book Row) (n : ℕ) → (book_of b).room ≡ n → length (book_of b).rows ≤ n
few_rows b n e = omega (arith, length-take b.len b.rows.now, e)
