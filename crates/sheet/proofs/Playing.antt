-- One line more of a sheet that is played.
use Rattle.std.proofs.Common.{◌≡◌, ℕ, suc, ◌+◌, List, [], ◌∷◌, Ok, Err, Result, sym, refl, ap, ◌∙◌, arith}
use Rattle.answers.specs.Texts.{told_text}
use Rattle.answers.specs.declared.refusals.SheetRefusal.{SheetRefusal}
use Rattle.reading.specs.Grammar.{reading}
use Rattle.rules.specs.declared.calls.Call.{Call}
use Rattle.turn.specs.Turn.{TurnState, run}
use Rattle.writing.specs.Facts.{wrote_twice, wrote_nothing}
use Rattle.writing.specs.Pens.{Pen, wrote}
use Rattle.sheet.specs.Played.{before, readable, told, after, numbered, line_answers}

run_read : (t : TurnState) (r : Result Call ℕ) (cs : List Call) → run t (before r cs) ≡ run (after t r) cs
run_read t (Ok c) cs = refl
run_read t (Err place) cs = refl

-- the lines here are l and then ms; t is the turn before l, and u the one after it
module _ (ls ms : List (List ℕ)) (l : List ℕ) (cut : ls ≡ l ∷ ms) (t u : TurnState) (next : u ≡ after t (reading l)) where
  pub run_on : run u (readable ms) ≡ run t (readable ls)
  run_on = ap (λ v. run v (readable ms)) next ∙ sym (run_read t (reading l) (readable ms)) ∙ sym (ap (λ k. run t (readable k)) cut)

  pub answers_on : (n m : ℕ) (p q : Pen) (r : Result (Unit {0}) SheetRefusal) → m ≡ n + 1 → r ≡ numbered n (told t (reading l)) → q ≡ wrote (told_text n r) p
      → wrote (line_answers m u ms) q ≡ wrote (line_answers n t ls) p
  answers_on n m p q r more is wrote_it =
      let up : m ≡ suc n = omega (arith, more) in
      let text = told_text n (numbered n (told t (reading l))) in
      (λ i. wrote (line_answers (up i) (next i) ms) (wrote_it i))
      ∙ ap (λ s. wrote (line_answers (suc n) (after t (reading l)) ms) (wrote (told_text n s) p)) is
      ∙ wrote_twice text (line_answers (suc n) (after t (reading l)) ms) p
      ∙ ap (λ k. wrote (line_answers n t k) p) (sym cut)

pub wrote_all : (n : ℕ) (t : TurnState) (ls : List (List ℕ)) (p : Pen) → ls ≡ [] → wrote (line_answers n t ls) p ≡ p
wrote_all n t ls p e = ap (λ k. wrote (line_answers n t k) p) e ∙ wrote_nothing p
