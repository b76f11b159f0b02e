use Rattle.std.proofs.Common.{◌≡◌, ℕ, ◌<◌, List, length, pos, Ok, Err, Result, ap, ◌∙◌, arith, rules}
use Rattle.answers.specs.declared.refusals.SheetRefusal.{SheetRefusal}
use Rattle.panel.specs.Numbers.{panel_number}
use Rattle.sheet.specs.Sheets.{sheet_answer, answer_length}
use Rattle.panel.proofs.gomtaiwu_play_sheet.Goals as goal

-- an answer of 1,500 lines has far fewer bytes than a signed word can count
few_bytes : (c : goal.In-Ok) → c.in-Ok.written < 2147483648
few_bytes c = let fits = c.in-Ok.ensures.short in omega (arith, fits.0, fits.1)

counted : (a : Result (List ℕ) SheetRefusal) (n : ℕ) → Ok n ≡ answer_length a → pos n ≡ panel_number a
counted (Ok text) n e = let same : n ≡ length text = cc in ap pos same
counted (Err r) n e = absurd (let z : ◌≡◌ {A = ℕ} 0 1 = cc in omega arith)

pub overflow_cast-result : goal.overflow_cast-result
overflow_cast-result c = let few = few_bytes c in search rules

pub returns-in-Ok : goal.returns-in-Ok
returns-in-Ok c =
    let told = c.in-Ok.ensures in
    record {
      answered = ◌∙◌ {b = pos c.in-Ok.written} (let few = few_bytes c in search rules) (counted (sheet_answer (length c.args.answer.now) c.args.sheet.now) c.in-Ok.written told.answered);
      written = told.written;
      lawful = told.lawful;
    }
